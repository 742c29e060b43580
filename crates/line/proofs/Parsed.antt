-- What a line is read as, by what is left of its parts: `numbers_on` goes on from the numbers so
-- far. How it goes at a part and at the end, and where the numbers stand at the front of an array,
-- zeros behind them; and that the first 256 bytes of a line are enough. Assumes nothing.
use Rattle.std.proofs.Common.{◌≡◌, ℕ, ◌+◌, ◌-◌, ◌<◌, ◌≤◌, List, [], ◌∷◌, ◌++◌, map, Bool, true, false, cond, ◌&&◌, leb, length, get_or, set, drop, take, replicate, Option, Some, None, option_map, refl, ap, sym, ◌∙◌, arith, le-leb, length-append, length-take, take_all, append-nil, add-zero, zero-add}
use Rattle.std.proofs.lemmas.Bool.{lt-leb}
use Rattle.std.proofs.lemmas.List.{drop_more, at_drop_all, length-set, length-take-le, take_more_set, take-append-drop, drop-set-lt, drop-drop, drop-replicate}
use Rattle.std.proofs.Math.Bool.{and-false}
use Rattle.std.proofs.Math.Decide.{dec_lt}
use lib.Seq.{append_snoc, take-append_seam}
use Rattle.line.specs.declared.parsing.Numbers.{Numbers}
use Rattle.line.specs.Parsing.{parts, number_of, is_number, all_numbers, is_line, numbers_of, parse}
use Rattle.line.proofs.Digits.{read}

abbrev pub count_rule : ℕ → Bool
count_rule n = leb 3 n && leb n 19

abbrev pub numbers_on : List ℕ → List (List ℕ) → Option (List ℕ)
numbers_on ns ps = cond (count_rule (length ns + length ps) && all_numbers ps) (Some (ns ++ map number_of ps)) None

-- A line of at most 255 bytes, and a longer one.
pub begins : (line : List ℕ) → length line ≤ 255 → numbers_on [] (parts line) ≡ parse line
unfolding parse is_line
begins line l = rw (le-leb (length line) 255 l, zero-add) refl

pub too_long : (line : List ℕ) → 255 < length line → None ≡ parse line
unfolding parse is_line
too_long line l = rw (lt-leb (length line) 255 l) refl

pub ruleset at_first = (begins, too_long)

-- At the part p at i, where what is left of the line's parts is read as the whole line is.
module _ (line p ns : List ℕ) (i : ℕ) (t : (i < length (parts line)) × (p ≡ get_or (parts line) i p)) (e : numbers_on ns (drop i (parts line)) ≡ parse line) where
  abbrev left : List (List ℕ)
  left = drop (i + 1) (parts line)

  on : numbers_on ns (p ∷ left) ≡ parse line
  on =
      ap (λ (q : List ℕ). numbers_on ns (q ∷ left)) t.1 ∙ ap (numbers_on ns) (sym (drop_more (parts line) i p t.0)) ∙ e

  pub no_number : None ≡ read p → None ≡ parse line
  unfolding all_numbers
  no_number r = by (is_number p) refl r ∙ on
    where
      by : (b : Bool) → is_number p ≡ b → None ≡ cond b (Some (number_of p)) None → None ≡ numbers_on ns (p ∷ left)
      by true q r = cc
      by false q r = rw (q, and-false) refl

  pub no_room : length ns ≡ 19 → None ≡ parse line
  no_room n =
      let many : 19 < length ns + length (p ∷ left) = omega arith in
      rw (lt-leb (length ns + length (p ∷ left)) 19 many, and-false) refl ∙ on

  pub at_number : (n : ℕ) (next : List ℕ) → Some n ≡ read p → next ≡ ns ++ n ∷ [] → numbers_on next left ≡ parse line
  unfolding all_numbers
  at_number n next r m = by (is_number p) refl r ∙ on
    where
      by : (b : Bool) → is_number p ≡ b → Some n ≡ cond b (Some (number_of p)) None → numbers_on next left ≡ numbers_on ns (p ∷ left)
      by true q r =
          let same : n ≡ number_of p = cc in
          let longer : length ns + length (p ∷ left) ≡ length next + length left = omega (arith, ap length m, length-append ns (n ∷ [])) in
          rw (q, longer, m, same, append_snoc ns (number_of p) (map number_of left)) refl
      by false q r = cc

-- At the end of the line.
module _ (line ns : List ℕ) (i : ℕ) (n : i ≡ length (parts line)) (e : numbers_on ns (drop i (parts line)) ≡ parse line) where
  over : numbers_on ns [] ≡ parse line
  over = sym (at_drop_all (numbers_on ns) (parts line) i (omega arith)) ∙ e

  pub too_few : length ns < 3 → None ≡ parse line
  too_few f = rw (add-zero, lt-leb 3 (length ns) f) at over

  pub all_read : 3 ≤ length ns → length ns ≤ 19 → Some ns ≡ parse line
  unfolding all_numbers
  all_read f l = rw (add-zero, le-leb 3 (length ns) f, le-leb (length ns) 19 l, append-nil) at over

-- The numbers so far stand at the front of 19 places, zeros behind them, and what is left of the
-- line's parts, from the i-th, is read on to what the line is read as.
pub record Reads (line numbers : List ℕ) (count i : ℕ) : Type 0 where
  pub places : length numbers ≡ 19
  pub fits : count ≤ 19
  pub zeros : drop count numbers ≡ replicate (19 - count) 0
  pub reads : numbers_on (take count numbers) (drop i (parts line)) ≡ parse line

module _ {line numbers : List ℕ} {count i : ℕ} (h : Reads line numbers count i) where
  many : length (take count numbers) ≡ count
  many = length-take-le count numbers (omega (arith, h.fits, h.places))

  -- At the part p at i: it is no number, there is no place for it, or it is stored.
  module _ (p : List ℕ) (t : (i < length (parts line)) × (p ≡ get_or (parts line) i p)) where
    pub no_part : None ≡ read p → None ≡ option_map numbers_of (parse line)
    no_part r = ap (option_map numbers_of) (no_number line p (take count numbers) i t h.reads r)

    pub no_place : 19 ≤ count → None ≡ option_map numbers_of (parse line)
    no_place l =
        ap (option_map numbers_of) (no_room line p (take count numbers) i t h.reads (omega (arith, many, h.fits)))

    pub reads_next : (n : ℕ) → Some n ≡ read p → count < 19 → Reads line (set numbers count n) (count + 1) (i + 1)
    reads_next n r l =
        let within : count < length numbers = omega (arith, h.places) in
        record {
          places = length-set numbers count n ∙ h.places;
          fits = omega arith;
          zeros =
              drop-set-lt (count + 1) numbers count n (omega arith)
              ∙ sym (drop-drop 1 count numbers)
              ∙ ap (drop 1) h.zeros
              ∙ drop-replicate 1 (19 - count) 0
              ∙ ap (λ (k : ℕ). replicate k 0) (omega arith);
          reads = at_number line p (take count numbers) i t h.reads n (take (count + 1) (set numbers count n)) r (take_more_set numbers count n within);
        }

  -- At the end of the line.
  module _ (n : i ≡ length (parts line)) where
    pub no_three : count < 3 → None ≡ option_map numbers_of (parse line)
    no_three f = ap (option_map numbers_of) (too_few line (take count numbers) i n h.reads (omega (arith, many)))

    whole : numbers_of (take count numbers) ≡ record { numbers = numbers; count = count }
    unfolding numbers_of
    whole = rw (many, ← h.zeros, take-append-drop) refl

    pub reads_all : 3 ≤ count → Some record { numbers = numbers; count = count } ≡ option_map numbers_of (parse line)
    reads_all f =
        let all = all_read line (take count numbers) i n h.reads (omega (arith, many)) (omega (arith, many, h.fits)) in
        sym (ap Some whole) ∙ ap (option_map numbers_of) all

-- The numbers of a line are those at the front.
pub numbers_at_front : (line : List ℕ) (r : Numbers) → Some r ≡ option_map numbers_of (parse line) → parse line ≡ Some (take r.count r.numbers)
unfolding numbers_of
numbers_at_front line r e = by (parse line) e
  where
    by : (o : Option (List ℕ)) → Some r ≡ option_map numbers_of o → o ≡ Some (take r.count r.numbers)
    by (Some ns) q =
        let same : r ≡ record { numbers = ns ++ replicate (19 - length ns) 0; count = length ns } = cc in
        rw same (ap Some (sym (take-append_seam ns (replicate (19 - length ns) 0))))
    by None q = cc

-- A line is read by its first 256 bytes.
pub parse_first : (line : List ℕ) → parse (take 256 line) ≡ parse line
parse_first line = by (dec_lt 255 (length line))
  where
    by : Dec (255 < length line) → parse (take 256 line) ≡ parse line
    by (yes l) = sym (too_long (take 256 line) (omega (arith, length-take 256 line))) ∙ too_long line l
    by (no l) = ap parse (take_all 256 line (omega arith))
