-- The loop of `feed`, on lists: the texts so far stand at the front of the buffer, and the lines of
-- what is left make the rest of the portion (Feeds). Assumes nothing.
use Rattle.std.proofs.Common.{◌≡◌, ℕ, suc, ◌+◌, ◌-◌, ◌<◌, ◌≤◌, min, Bool, List, [], ◌∷◌, ◌++◌, length, take, drop, sym, refl, ap, ◌∙◌, append_assoc, append-nil, arith, length-append, length-drop, length-take, length-take-le, take_at, le-ltb, lt-ltb}
use borrow.Rule.Slice.PartMut.{put_mid}
use Rattle.lists.proofs.Fronts.{front, then_front}
use Rattle.texts.specs.Printing.{printed, printed_length}
use Rattle.runner.specs.declared.Runner.{Runner}
use Rattle.reply.specs.Reply.{respond}
use Rattle.transcript.specs.Lines.{lines_in}
use Rattle.transcript.specs.Session.{following, Portion, none, onto, portion, feed, fed_of}

module _ (r : Runner) (lines : ℕ) (over : Bool) (input out₀ : List ℕ) where
  unfoldable pub all : Portion
  all = feed r (length out₀) lines over input

  -- The portion of what is left.
  unfoldable pub rest : (left : List ℕ) (count size : ℕ) → Portion
  rest left count size = portion r (length out₀ - size) count (lines_in over left)

  pub record Feeds (left out : List ℕ) (count size : ℕ) : Type 0 where
    pub within : length left ≤ length input
    pub fits : size ≤ length out₀
    pub same : length out ≡ length out₀
    pub texts : out ≡ take size out ++ drop size out₀
    pub number : all.count ≡ (rest left count size).count
    pub takes : min all.taken (length input) ≡ min (length input - length left + (rest left count size).taken) (length input)
    pub text : all.text ≡ take size out ++ (rest left count size).text

  pub starts : Feeds input out₀ lines 0
  unfolding all rest
  starts =
      let room : length out₀ - 0 ≡ length out₀ = omega arith in
      let whole : rest input lines 0 ≡ all = ap (λ (n : ℕ). portion r n lines (lines_in over input)) room in
      record {
        within = omega arith;
        fits = omega arith;
        same = refl;
        texts = refl;
        number = ap (λ (p : Portion). p.count) (sym whole);
        takes = let none_first : length input - length input + (rest input lines 0).taken ≡ all.taken = omega (arith, ap (λ (p : Portion). p.taken) whole) in ap (λ (n : ℕ). min n (length input)) (sym none_first);
        text = ap (λ (p : Portion). p.text) (sym whole);
      }

  module _ {left out : List ℕ} {count size : ℕ} (h : Feeds left out count size) where
    many : length (take size out) ≡ size
    many = length-take-le size out (omega (arith, h.fits, h.same))

    -- What the end of the loop tells.
    abbrev pub Ends : Type 0
    Ends = (record { count = count; taken = length input - length left; length = size } ≡ fed_of all (length input)) × (out ≡ all.text ++ drop size out₀)

    ends : rest left count size ≡ none count → Ends
    ends e =
        let number : all.count ≡ count = h.number ∙ ap (λ (p : Portion). p.count) e in
        let takes : min all.taken (length input) ≡ length input - length left = omega (arith, h.takes, ap (λ (p : Portion). p.taken) e, h.within) in
        let text : all.text ≡ take size out = h.text ∙ ap (λ (p : Portion). take size out ++ p.text) e ∙ append-nil (take size out) in
        let long : length all.text ≡ size = ap length text ∙ many in
        (rw (number, takes, long) refl, h.texts ∙ ap (λ (x : List ℕ). x ++ drop size out₀) (sym text))

    -- No line is left that can be answered, or no room.
    pub ends_lines : lines_in over left ≡ [] → Ends
    unfolding rest portion
    ends_lines e = ends (rw e refl)

    pub ends_room : length out - size < 64 → Ends
    unfolding rest portion
    ends_room l = ends (by (lines_in over left) (omega (arith, h.same)))
      where
        by : (ls : List (List ℕ)) → length out₀ - size < 64 → portion r (length out₀ - size) count ls ≡ none count
        by [] q = refl
        by (line ∷ ls) q = rw (lt-ltb (length out₀ - size) 64 q) refl

    -- A line is answered, and its text put behind the others.
    module _ {line next : List ℕ} (first : lines_in over left ≡ line ∷ lines_in over next) (cut : next ≡ drop (length line + 1) left) where
      unfoldable pub text : List ℕ
      text = respond r (following count) line

      pub shorter : length next < length left
      unfolding lines_in
      shorter = by left first cut
        where
          by : (l : List ℕ) → lines_in over l ≡ line ∷ lines_in over next → next ≡ drop (length line + 1) l → length next < length l
          by [] f e = cc
          by (b ∷ l) f e = omega (arith, ap length e, length-drop (length line + 1) (b ∷ l))

      -- The text has room, and so has what is left after it.
      module _ (k s : ℕ) (part : List ℕ) (e : k ≡ length out - size) (l : 64 ≤ k) (es : s ≡ printed_length text (length (take k (drop size out))))
          (ep : part ≡ printed text (take k (drop size out))) (el : length part ≡ k) where
        room_is : length (take k (drop size out)) ≡ k
        room_is = omega (arith, length-take k (drop size out), length-drop size out)

        size_is : s ≡ length text
        unfolding printed_length
        size_is = es ∙ rw (room_is, le-ltb k 64 l) refl

        part_is : part ≡ front text (take k (drop size out))
        unfolding printed
        part_is = ep ∙ rw (room_is, le-ltb k 64 l) refl

        short : s ≤ k
        short = omega (arith, el, ap length part_is, length-append text (drop (length text) (take k (drop size out))), length-drop (length text) (take k (drop size out)), room_is, size_is)

        abbrev texts_now : List ℕ
        texts_now = take size out ++ text

        abbrev out_now : List ℕ
        out_now = put_mid size k out part

        out_is : out_now ≡ front texts_now out₀
        out_is =
            then_front (take size out) text out₀ out part size k (h.texts ∙ ap (λ (n : ℕ). take size out ++ drop n out₀) (sym many)) (sym many) e part_is

        long : length texts_now ≡ size + s
        long = length-append (take size out) text ∙ omega (arith, many, size_is)

        abbrev later : Portion
        later = rest next (following count) (size + s)

        rest_is : rest left count size ≡ onto line text later
        unfolding rest portion text
        rest_is =
            let room : length out₀ - size - length text ≡ length out₀ - (size + s) = omega (arith, size_is) in
            let wide : 64 ≤ length out₀ - size = omega (arith, h.same) in
            ap (portion r (length out₀ - size) count) first
            ∙ rw (le-ltb (length out₀ - size) 64 wide) refl
            ∙ ap (λ (n : ℕ). onto line text (portion r n (following count) (lines_in over next))) room

        -- The last line may lack its newline, which is counted.
        takes_is : (t : ℕ) → min (length input - length left + (suc (length line) + t)) (length input) ≡ min (length input - length next + t) (length input)
        takes_is t = let short = ap length cut ∙ length-drop (length line + 1) left in omega (arith, h.within)

        pub answered : Feeds next out_now (following count) (size + s)
        answered =
            let front_now : take (size + s) out_now ≡ texts_now = ap (take (size + s)) out_is ∙ take_at texts_now (drop (length texts_now) out₀) (size + s) long in
            record {
              within = omega (arith, h.within, ap length cut, length-drop (length line + 1) left);
              fits = omega (arith, short, h.fits, h.same);
              same = ap length out_is ∙ length-append texts_now (drop (length texts_now) out₀) ∙ omega (arith, length-drop (length texts_now) out₀, long, short, h.fits, h.same);
              texts = out_is ∙ ap (λ (n : ℕ). texts_now ++ drop n out₀) long ∙ ap (λ (x : List ℕ). x ++ drop (size + s) out₀) (sym front_now);
              number = h.number ∙ ap (λ (p : Portion). p.count) rest_is;
              takes = h.takes ∙ ap (λ (p : Portion). min (length input - length left + p.taken) (length input)) rest_is ∙ takes_is later.taken;
              text =
                  h.text
                  ∙ ap (λ (p : Portion). take size out ++ p.text) rest_is
                  ∙ sym (append_assoc (take size out) text later.text)
                  ∙ ap (λ (x : List ℕ). x ++ later.text) (sym front_now);
            }
