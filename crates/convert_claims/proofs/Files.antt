-- The converted file. A file converts where load accepts it and the other edition takes all its
-- boxes, and then to the file of its chart in the other edition; that chart obeys the rules, so
-- load accepts its file, and the edition that it came from takes its boxes. Assumes nothing.
use Rattle.std.specs.Prelude.{Ok, Err, Result}
use Prim.Native.Nat.{ℕ, ◌≤◌, ◌<◌}
use mathlib.Core.Path.{◌≡◌, refl, ap, sym, ◌∙◌}
use mathlib.Core.List.{List, ◌++◌}
use mathlib.Core.Bool.{Bool, true, false, false≢true}
use native.Mathlib.Decide.{dec_lt}
use native.Mathlib.Omega.{arith}
use lib.ListN.{length, take, drop}
use lib.Seq.{take_at}
use Rattle.boxes.specs.Bytes.{box_of}
use Rattle.boxes.proofs.Bools.{never_false}
use Rattle.block.specs.Refusing.{refusal}
use Rattle.format.specs.File.{header_of, is_edition, check_file}
use Rattle.format.specs.declared.Header.{Header}
use Rattle.block.specs.declared.Refusal.{Refusal}
use Rattle.format.proofs.Passes.{passes, refused_at_most_six}
use Rattle.format.proofs.Search.{all_hold, none_fails, first_is, first_says}
use Rattle.chart.specs.Chart.{table_of, file_of}
use Rattle.chart.specs.WriteBack.{file_length, with_file}
use Rattle.chart_claims.specs.Claims.{Ruled}
use Rattle.chart_claims.proofs.RoundTrip.{file_again, file_has_length}
use Rattle.chart_claims.proofs.Rules.{obeys_rules}
use Rattle.chart_claims.proofs.Ruled.{ruled_is_loaded}
use Rattle.convert.specs.Convert.{other_than, in_other, takes_box, check_chart, check_after, Conversion, conversion, conversion_by, convert}
use Rattle.convert.proofs.Answers.{untaken, tells_untaken, tells_room, tells_header, chart_accepted, after_chart, after_refused, after_accepted}
use Rattle.convert_claims.specs.Conversions.{ConvertsTo, ConvertsToOther, ConvertsIntoAny, ConvertsBack, Untaken, FirstUntaken, RefusesFirstUntaken, RefusedAsLoaded, RefusalLeavesBuffer}
use Rattle.run_claims.proofs.Branches.{clash}
use Rattle.convert_claims.proofs.Boxes.{other_is, other_again, formed_alike, taken_back, untaken_fails, fails_untaken}

-- The other edition takes all boxes of a chart.
abbrev pub AllTaken : Header → List ℕ → Type 0
AllTaken h table = (p : ℕ) → p < h.boxes → takes_box (other_than h.edition) table p ≡ true

-- The file of a file's chart in the other edition.
abbrev other_file : List ℕ → Header → List ℕ
other_file f h = file_of (in_other h) (table_of f)

by_answer : (f buffer : List ℕ) {c : Result Header Refusal} → check_after (check_file f) (table_of f) (length buffer) ≡ c → convert f buffer ≡ conversion_by c (table_of f) buffer
unfolding convert
by_answer f buffer e = ap (λ (c : Result Header Refusal). conversion_by c (table_of f) buffer) e

-- A file whose boxes are all taken.
module _ (f : List ℕ) (h : Header) (e : check_file f ≡ Ok h) (all : AllTaken h (table_of f)) where
  none : h.boxes ≤ untaken h (table_of f)
  none = omega (arith, none_fails (takes_box (other_than h.edition) (table_of f)) h.boxes all)

  rules : Ruled (in_other h) (table_of f)
  rules =
      let o = obeys_rules f h e in
      record {
        edition = (other_again h.edition o.edition).1;
        ranged = o.ranged;
        long = o.long;
        formed = λ p l. formed_alike _ (box_of (table_of f) p) (all p l) h.inputs h.boxes (other_is h.edition o.edition) (o.formed p l);
        zero = o.zero;
      }

  other_long : length (other_file f h) ≡ file_length h
  other_long = file_has_length (in_other h) (table_of f) rules.ranged rules.long

  other_accepted : check_file (other_file f h) ≡ Ok (in_other h)
  other_accepted = (ruled_is_loaded (in_other h) (table_of f) rules).0

  other_table : table_of (other_file f h) ≡ table_of f
  other_table = (ruled_is_loaded (in_other h) (table_of f) rules).1

  -- What the converter does: into a buffer with room, and into a shorter one.
  written_into : (buffer : List ℕ) → length (other_file f h) ≤ length buffer
      → convert f buffer ≡ conversion (Ok (length (other_file f h))) (other_file f h ++ drop (length (other_file f h)) buffer)
  unfolding conversion_by with_file
  written_into buffer room =
      by_answer f buffer (sym (tells_header h (table_of f) (length buffer) none (omega (arith, other_long)) ∙ after_chart f (table_of f) (length buffer) e))
      ∙ ap (λ (n : ℕ). conversion (Ok n) (other_file f h ++ drop n buffer)) (sym other_long)

  short_of : (buffer : List ℕ) → length buffer < length (other_file f h) → convert f buffer ≡ conversion (Err (refusal 12 0)) buffer
  unfolding conversion_by
  short_of buffer short =
      by_answer f buffer (sym (tells_room h (table_of f) (length buffer) none (omega (arith, other_long)) ∙ after_chart f (table_of f) (length buffer) e))

  makes : ConvertsTo f (other_file f h)
  makes =
      let g = other_file f h in
      let does = written_into g (omega arith) in
      record {
        buffer = g;
        told = ap (λ (c : Conversion). c.told) does;
        front = ap (λ (c : Conversion). take (length g) c.buffer) does ∙ take_at g (drop (length g) g) (length g) refl;
      }

  -- The edition that it came from takes the boxes of the other file.
  back : AllTaken (in_other h) (table_of (other_file f h))
  back p l =
      let o = obeys_rules f h e in
      rw (other_table, (other_again h.edition o.edition).0)
      (taken_back h.edition _ h.inputs h.boxes (box_of (table_of f) p) (o.formed p l) (all p l))

  -- And the file of that is the first one.
  again : other_file (other_file f h) (in_other h) ≡ f
  again =
      let o = obeys_rules f h e in
      ap (λ (n : ℕ). file_of (record { edition = n; inputs = h.inputs; boxes = h.boxes; first = h.first }) (table_of (other_file f h)))
      (other_again h.edition o.edition).0
      ∙ ap (file_of h) other_table
      ∙ file_again f h e

-- What a file is that converts, and to what.
pub record Made (f g : List ℕ) : Type 0 where
  pub checks : check_file f ≡ Ok (header_of f)
  pub all : AllTaken (header_of f) (table_of f)
  pub file : g ≡ other_file f (header_of f)

pub made : (f g : List ℕ) → ConvertsTo f g → Made f g
unfolding conversion_by with_file
made f g c = on (check_after (check_file f) (table_of f) (length c.buffer)) refl
  where
    on : (x : Result Header Refusal) → check_after (check_file f) (table_of f) (length c.buffer) ≡ x → Made f g
    on (Ok h') e =
        let a = after_accepted f (table_of f) (length c.buffer) e in
        let h = a.0 in
        let facts = chart_accepted h (table_of f) (length c.buffer) a.2 in
        let all : AllTaken h (table_of f) = all_hold (takes_box (other_than h.edition) (table_of f)) h.boxes facts.0 in
        let long = other_long f h a.1 all in
        let does = by_answer f c.buffer (e ∙ ap Ok facts.2) in
        let size : Ok (file_length h) ≡ Ok (length g) = sym (ap (λ (z : Conversion). z.told) does) ∙ c.told in
        let same : length (other_file f h) ≡ length g = cc (long, size) in
        let front = sym c.front ∙ ap (λ (z : Conversion). take (length g) z.buffer) does ∙ take_at (other_file f h) (drop (file_length h) c.buffer) (length g) same in
        let is = (passes f h a.1).header in
        record { checks = rw is at a.1; all = rw is at all; file = rw is at front }
    on (Err x) e =
        let does = by_answer f c.buffer e in
        let two : Err x ≡ Ok (length g) = sym (ap (λ (z : Conversion). z.told) does) ∙ c.told in
        clash cc

-- The header and the table of the file that it converts to.
module _ (f g : List ℕ) (m : Made f g) where
  accepts : check_file g ≡ Ok (in_other (header_of f))
  accepts = ap check_file m.file ∙ other_accepted f (header_of f) m.checks m.all

  pub made_header : header_of g ≡ in_other (header_of f)
  made_header = sym (passes g (in_other (header_of f)) accepts).header

  pub made_table : table_of g ≡ table_of f
  made_table = ap table_of m.file ∙ other_table f (header_of f) m.checks m.all

  pub made_accepted : check_file g ≡ Ok (header_of g)
  made_accepted = accepts ∙ ap Ok (sym made_header)

pub converts_to_other : ConvertsToOther
converts_to_other f g c =
    let m = made f g c in
    let header = made_header f g m in
    let edition : (header_of g).edition ≡ other_than (header_of f).edition = ap (λ (h : Header). h.edition) header in
    record {
      accepted = m.checks;
      accepted' = made_accepted f g m;
      editions = rw edition (other_is (header_of f).edition (passes f (header_of f) m.checks).edition);
      inputs = ap (λ (h : Header). h.inputs) header;
      boxes = ap (λ (h : Header). h.boxes) header;
      first = ap (λ (h : Header). h.first) header;
      table = made_table f g m;
    }

pub converts_into_any : ConvertsIntoAny
converts_into_any f g buffer c =
    let m = made f g c in
    rw m.file (written_into f (header_of f) m.checks m.all buffer, short_of f (header_of f) m.checks m.all buffer)

pub converts_back : ConvertsBack
converts_back f g c =
    let m = made f g c in
    let h = header_of f in
    let there = makes (other_file f h) (in_other h) (other_accepted f h m.checks m.all) (back f h m.checks m.all) in
    rw m.file (rw (again f h m.checks m.all) at there)

refused_once : {A : Type 0} {x y : Refusal} → ◌≡◌ {A = Result A Refusal} (Err x) (Err y) → x ≡ y
refused_once e = cc

-- What is answered of a file that load accepts.
module _ (f : List ℕ) (e : check_file f ≡ Ok (header_of f)) where
  abbrev h : Header
  h = header_of f

  edition : is_edition h.edition ≡ true
  edition = (passes f h e).edition

  abbrev test : ℕ → Bool
  test = takes_box (other_than h.edition) (table_of f)

  -- A box that is not taken is one that 14 speaks of, and no other is.
  speaks : (p : ℕ) → test p ≡ false → Untaken h (box_of (table_of f) p)
  speaks p = fails_untaken h (box_of (table_of f) p) edition

  holds : (p : ℕ) → (Untaken h (box_of (table_of f) p) → ⊥) → test p ≡ true
  holds p never = never_false (test p) (λ q. never (speaks p q))

  fails : (p : ℕ) → Untaken h (box_of (table_of f) p) → test p ≡ false
  fails p = untaken_fails h (box_of (table_of f) p) edition

  first : (p : ℕ) → untaken h (table_of f) ≡ p → p < h.boxes → FirstUntaken f p
  first p is l =
      let s = rw is at (first_says test h.boxes (omega arith)) in
      record { below = l; here = speaks p s.1; none = λ q m u. false≢true (sym (fails q u) ∙ s.0 q m) }

  module _ (buffer : List ℕ) where
    answered : {c : Result Header Refusal} → c ≡ check_chart h (table_of f) (length buffer) → (convert f buffer).told ≡ (conversion_by c (table_of f) buffer).told
    answered q = ap (λ (z : Conversion). z.told) (by_answer f buffer (sym (q ∙ after_chart f (table_of f) (length buffer) e)))

    told_untaken : untaken h (table_of f) < h.boxes → (convert f buffer).told ≡ Err (refusal 14 (untaken h (table_of f)))
    unfolding conversion_by
    told_untaken l = answered (tells_untaken h (table_of f) (length buffer) l)

    told_other : h.boxes ≤ untaken h (table_of f) → (p : ℕ) → (convert f buffer).told ≡ Err (refusal 14 p) → ⊥
    unfolding conversion_by
    told_other l p told = on (dec_lt (length buffer) (file_length h))
      where
        on : Dec (length buffer < file_length h) → ⊥
        on (yes short) =
            let twelve : ◌≡◌ {A = Result ℕ Refusal} (Err (refusal 12 0)) (Err (refusal 14 p)) = sym (answered (tells_room h (table_of f) (length buffer) l short)) ∙ told in
            let number = ap (λ (x : Refusal). x.number) (refused_once twelve) in
            omega arith
        on (no room) =
            let length : ◌≡◌ {A = Result ℕ Refusal} (Ok (file_length h)) (Err (refusal 14 p)) =
            sym (answered (tells_header h (table_of f) (length buffer) l (omega arith))) ∙ told in
            clash cc

    first_found : (p : ℕ) → (convert f buffer).told ≡ Err (refusal 14 p) → FirstUntaken f p
    first_found p told = on (dec_lt (untaken h (table_of f)) h.boxes)
      where
        on : Dec (untaken h (table_of f) < h.boxes) → FirstUntaken f p
        on (yes l) =
            let both = sym (told_untaken l) ∙ told in
            let is : untaken h (table_of f) ≡ p = ap (λ (x : Refusal). x.detail) (refused_once both) in
            first p is (omega arith)
        on (no l) = absurd (told_other (omega arith) p told)

    found_first : (p : ℕ) → FirstUntaken f p → (convert f buffer).told ≡ Err (refusal 14 p)
    found_first p u =
        let is : untaken h (table_of f) ≡ p = first_is test h.boxes p u.below (λ q l. holds q (u.none q l)) (fails p u.here) in
        let l : untaken h (table_of f) < h.boxes = (let below = u.below in omega arith) in
        told_untaken l ∙ ap (λ (q : ℕ). Err (refusal 14 q)) is

pub refused_as_loaded : RefusedAsLoaded
unfolding conversion_by
refused_as_loaded f buffer x e = ap (λ (z : Conversion). z.told) (by_answer f buffer (sym (after_refused f (table_of f) (length buffer) e)))

-- Load's checks refuse by 1 to 6, so 14 is told of a file that they accept.
accepts_where : (f buffer : List ℕ) (p : ℕ) → (convert f buffer).told ≡ Err (refusal 14 p) → check_file f ≡ Ok (header_of f)
accepts_where f buffer p told = on (check_file f) refl
  where
    on : (c : Result Header Refusal) → check_file f ≡ c → check_file f ≡ Ok (header_of f)
    on (Ok h) e = e ∙ ap Ok (passes f h e).header
    on (Err x) e =
        let number = ap (λ (y : Refusal). y.number) (refused_once (sym (refused_as_loaded f buffer x e) ∙ told)) in
        absurd (let few = refused_at_most_six f x e in omega arith)

pub refuses_first_untaken : RefusesFirstUntaken
refuses_first_untaken f =
    record {
      only = λ buffer p told. let e = accepts_where f buffer p told in (e, first_found f e buffer p told);
      where_first = found_first f;
      else = λ e none. (other_file f (header_of f), makes f (header_of f) e (λ p l. holds f e p (none p l)));
    }

pub refusal_leaves_buffer : RefusalLeavesBuffer
unfolding convert conversion_by
refusal_leaves_buffer f buffer x e = on (check_after (check_file f) (table_of f) (length buffer)) e
  where
    on : (c : Result Header Refusal) → (conversion_by c (table_of f) buffer).told ≡ Err x → (conversion_by c (table_of f) buffer).buffer ≡ buffer
    on (Ok h) q = clash cc
    on (Err y) q = refl
