-- The state that a session stands for: what is kept of its bytes, after a read, and after a turn.
-- Assumes nothing.
use Rattle.std.proofs.Common.{◌≡◌, ℕ, ◌+◌, ◌-◌, ◌<◌, min, ◌||◌, true, false, eqb, Option, Some, None, List, [], ◌∷◌, ◌++◌, length, take, drop, sym, refl, ap, ◌∙◌, arith, length-drop, length-take, length-take-le, drop-drop, take_at, take-add, take-take, le-ltb, lt-ltb, append-nil, zero-add}
use Rattle.std.proofs.lemmas.List.{drop_min, take_min}
use Rattle.std.proofs.Math.Bool.{or-true, or-false}
use borrow.Author.Tests.{ne_eqb}
use native.Mathlib.Decide.{dec_lt}
use lib.Seq.{drop-append-le}
use Rattle.std.specs.List.{copy_within}
use Rattle.lists.proofs.Parts.{drop_take}
use Rattle.transcript.specs.Session.{Portion, feed, fed_of, clipped, turn, wanted_of, session_state, IsWithin, received, failed, after_read}
use Rattle.runner.specs.declared.Runner.{Runner}
use Rattle.transcript.specs.declared.Session.{Session}
use Rattle.transcript.specs.declared.Fed.{Fed}
use Rattle.transcript.specs.declared.Wanted.TheVariants as wanted
use Rattle.transcript.proofs.Portions.{some_taken}

-- What is kept of a part of a buffer, and how it is moved.
module _ (b : List ℕ) (at end e a n : ℕ) (he : e ≡ min end (length b)) (ha : a ≡ min at e) (hn : n ≡ min (e - a) 256) where
  kept : clipped (drop at (take end b)) ≡ take n (drop a b)
  kept =
      let inside : take e b ≡ take end b = ap (λ (k : ℕ). take k b) he ∙ take_min end b in
      let long : length (take e b) ≡ e = length-take-le e b (omega arith) in
      let part : drop at (take end b) ≡ take (e - a) (drop a b)
      = ap (drop at) (sym inside)
      ∙ sym (drop_min at (take e b))
      ∙ ap (λ (k : ℕ). drop k (take e b)) (ap (min at) long ∙ sym ha)
      ∙ drop_take a e b in
      let many : length (take (e - a) (drop a b)) ≡ e - a = length-take-le (e - a) (drop a b) (omega (arith, length-drop a b)) in
      let few : min 256 (length (take (e - a) (drop a b))) ≡ n = omega arith in
      ap clipped part
      ∙ sym (take_min 256 (take (e - a) (drop a b)))
      ∙ ap (λ (k : ℕ). take k (take (e - a) (drop a b))) few
      ∙ take-take n (e - a) (drop a b) (omega arith)

  pub kept_length : n ≡ length (clipped (drop at (take end b)))
  kept_length = sym (ap length kept ∙ length-take-le n (drop a b) (omega (arith, length-drop a b)))

  pub kept_moved : copy_within b a (a + n) 0 ≡ clipped (drop at (take end b)) ++ drop n b
  kept_moved =
      let many : a + n - a ≡ n = omega arith in
      rw (many, kept, zero-add n) refl

-- A session whose part lies within the buffer, which stands for the same state as another.
module _ {b : List ℕ} {s₀ s : Session} (h : IsWithin s₀ s b) where
  -- After a read.
  pub read_failed : {got : Option ℕ} → got ≡ None
      → session_state (record { count = s.count; at = s.at; end = s.at; over = true }) b ≡ after_read got (drop s₀.end b) (session_state s₀ b)
  unfolding after_read
  read_failed e =
      let none : s.at - s.at ≡ 0 = omega arith in
      rw e
      (ap (λ (x : List ℕ). record { count = s.count; bytes = x; over = true }) (drop_take s.at s.at b ∙ ap (λ (n : ℕ). take n (drop s.at b)) none)
      ∙ ap failed h.same)

  -- It brought so many bytes behind those at hand.
  module _ {got : Option ℕ} {k n : ℕ} (e : got ≡ Some k) (c : n ≡ min k (length b - s.end)) where
    piece : take k (drop s₀.end b) ≡ take n (drop s.end b)
    piece =
        ap (take k) (sym h.behind)
        ∙ sym (take_min k (drop s.end b))
        ∙ ap (λ (m : ℕ). take m (drop s.end b)) (omega (arith, length-drop s.end b, h.in_bounds))

    longer : drop s.at (take (s.end + n) b) ≡ drop s.at (take s.end b) ++ take n (drop s.end b)
    longer = ap (drop s.at) (take-add s.end n b) ∙ drop-append-le s.at (take s.end b) (take n (drop s.end b)) (omega (arith, length-take s.end b, h.ordered, h.in_bounds))

    pub read_some : session_state (record { count = s.count; at = s.at; end = s.end + n; over = s.over || eqb n 0 }) b ≡ after_read got (drop s₀.end b) (session_state s₀ b)
    unfolding after_read received
    read_some = rw (e, piece, longer, ← h.same) (by (take n (drop s.end b)) (length-take-le n (drop s.end b) (omega (arith, length-drop s.end b, h.in_bounds))))
      where
        by : (x : List ℕ) → length x ≡ n → record { count = s.count; bytes = drop s.at (take s.end b) ++ x; over = s.over || eqb n 0 } ≡ received x (session_state s b)
        by [] l = rw (← l, or-true s.over) (simp append-nil)
        by (y ∷ x) l = rw (ne_eqb n 0 (λ q. absurd (omega arith)), or-false s.over) refl

  -- The turn that it takes, by what was fed of the bytes at hand.
  module _ (r : Runner) (out₀ out : List ℕ) (f : Fed) where
    abbrev hand : List ℕ
    hand = drop s.at (take s.end b)

    abbrev lent : List ℕ
    lent = take (s.end - s.at) (drop s.at b)

    p : Portion
    p = feed r (length out₀) s.count s.over hand

    module _ (hf : f ≡ fed_of (feed r (length out₀) s.count s.over lent) (length lent)) (ho : out ≡ (feed r (length out₀) s.count s.over lent).text ++ drop f.length out₀) where
      told : f ≡ fed_of p (length hand)
      unfolding p
      told = hf ∙ ap (λ (x : List ℕ). fed_of (feed r (length out₀) s.count s.over x) (length x)) (sym (drop_take s.at s.end b))

      taken_is : f.taken ≡ min p.taken (length hand)
      taken_is = ap (λ (x : Fed). x.taken) told

      front_is : take f.length out ≡ p.text
      unfolding p
      front_is =
          ap (take f.length) (ho ∙ ap (λ (x : List ℕ). (feed r (length out₀) s.count s.over x).text ++ drop f.length out₀) (sym (drop_take s.at s.end b)))
          ∙ take_at p.text (drop f.length out₀) f.length (sym (ap (λ (x : Fed). x.length) told))

      pub turn_writes : 0 < f.taken
          → wanted_of (wanted.Write f.length) out (session_state (record { count = f.count; at = s.at + f.taken; end = s.end; over = s.over }) b) ≡ turn r (length out₀) (session_state s₀ b)
      unfolding turn wanted_of p
      turn_writes l =
          let some : 0 < p.taken = omega (arith, taken_is) in
          let rest : drop (s.at + f.taken) (take s.end b) ≡ drop p.taken hand
          = sym (drop-drop f.taken s.at (take s.end b))
          ∙ ap (λ (n : ℕ). drop n hand) taken_is
          ∙ drop_min p.taken hand in
          rw (lt-ltb 0 p.taken some, front_is, rest, ap (λ (x : Fed). x.count) told) refl ∙ ap (turn r (length out₀)) h.same

      nothing : f.taken ≡ 0 → p.taken ≡ 0
      unfolding p
      nothing z = by (dec_lt 0 p.taken)
        where
          by : Dec (0 < p.taken) → p.taken ≡ 0
          by (yes l) = absurd (omega (arith, taken_is, some_taken r (length out₀) s.count s.over hand l))
          by (no l) = omega arith

      pub turn_stops : f.taken ≡ 0 → s.over ≡ true → wanted_of wanted.Stop out (session_state s b) ≡ turn r (length out₀) (session_state s₀ b)
      unfolding turn wanted_of p
      turn_stops z w =
          let none : p.taken ≡ 0 = nothing z in
          rw (le-ltb 0 p.taken (omega arith), w) refl ∙ ap (turn r (length out₀)) h.same

      pub turn_reads : f.taken ≡ 0 → s.over ≡ false → {b' : List ℕ} {n : ℕ} → n ≡ length (clipped hand) → b' ≡ clipped hand ++ drop n b
          → wanted_of wanted.Read out (session_state (record { count = s.count; at = 0; end = n; over = s.over }) b') ≡ turn r (length out₀) (session_state s₀ b)
      unfolding turn wanted_of p
      turn_reads z w {b'} {n} l k =
          let none : p.taken ≡ 0 = nothing z in
          let moved : take n b' ≡ clipped hand = ap (take n) k ∙ take_at (clipped hand) (drop n b) n (sym l) in
          rw (le-ltb 0 p.taken (omega arith), w, moved) refl ∙ ap (turn r (length out₀)) h.same
