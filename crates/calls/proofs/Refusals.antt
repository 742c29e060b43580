-- What begin, advance, write back and the rewriter are told at each of their rules, from the facts
-- that lead there; what begin and the rewriter ask first is said once. Assumes nothing.
use Prim.Native.Nat.{ℕ, ◌/◌, ◌^◌, ◌≤◌, ◌<◌}
use mathlib.Core.Path.{◌≡◌, refl, sym, ◌∙◌}
use mathlib.Core.List.{List}
use mathlib.Core.Bool.{Bool, true, false, not}
use lib.ListN.{length}
use borrow.Author.Tests.{lt-ltb, le-ltb, lt-leb, le-leb, eq-eqb, ne_eqb, not-false}
use Rattle.block.specs.declared.Refusal.{Refusal}
use Rattle.format.specs.File.{in_range}
use Rattle.chart.specs.WriteBack.{file_length}
use Rattle.calls.specs.Calls.{begin, advance, write_back, rewrite, refuse, at_rest, check}
use Rattle.calls.specs.declared.Standing.{Standing}
use Rattle.std.specs.Prelude.{Ok, Err, Result, ⊤}
use Rattle.calls.proofs.Permits.{not_done, passed}

-- What a begin and a rewriting ask first.
module _ (s : Standing) where
  pub tells_no_chart : in_range s.header ≡ false → refuse 21 ≡ at_rest s (Ok tt)
  tells_no_chart e = rw e

  pub tells_busy : in_range s.header ≡ true → s.running ≡ true → refuse 22 ≡ at_rest s (Ok tt)
  tells_busy held e = rw (held, e)

  pub tells_rest : in_range s.header ≡ true → s.running ≡ false → Ok tt ≡ at_rest s (Ok tt)
  tells_rest held e = rw (held, e)

  -- What it refuses it refuses whatever else is asked, and where it lets pass a chart is held, and
  -- the rest decides.
  pub not_at_rest : (x : Refusal) (otherwise : Result ⊤ Refusal) → at_rest s (Ok tt) ≡ Err x → at_rest s (Ok tt) ≡ at_rest s otherwise
  not_at_rest x otherwise e = on (in_range s.header) refl s.running refl
    where
      on : (held : Bool) → in_range s.header ≡ held → (busy : Bool) → s.running ≡ busy → at_rest s (Ok tt) ≡ at_rest s otherwise
      on false h busy b = rw h
      on true h true b = rw (h, b)
      on true h false b = not_done (sym e ∙ rw (h, b))

  pub rests : at_rest s (Ok tt) ≡ Ok tt → (in_range s.header ≡ true) × ((otherwise : Result ⊤ Refusal) → at_rest s otherwise ≡ otherwise)
  rests e =
      let one = passed (not (in_range s.header)) 21 e in
      let two = passed s.running 22 one.1 in
      let held = not-false _ one.0 in
      (held, λ otherwise. rw (held, two.0))

-- A begin of a runner that rests on a chart.
module _ (s : Standing) (mode : ℕ) (inputs : List ℕ) (allowed limit : ℕ) (resting : at_rest s (Ok tt) ≡ Ok tt) where
  pub tells_mode : 2 < mode → refuse 7 ≡ check (begin mode inputs allowed limit) s
  unfolding check
  tells_mode l = sym ((rests s resting).1 _ ∙ rw (lt-ltb 2 mode l))

  module _ (known : mode ≤ 2) where
    pub tells_count : (length inputs ≡ s.header.inputs → ⊥) → refuse 9 ≡ check (begin mode inputs allowed limit) s
    unfolding check
    tells_count d = sym ((rests s resting).1 _ ∙ rw (le-ltb 2 mode known, ne_eqb (length inputs) s.header.inputs d))

    module _ (lent : length inputs ≡ s.header.inputs) where
      pub tells_allowed : (allowed / 2 ^ s.header.inputs ≡ 0 → ⊥) → refuse 8 ≡ check (begin mode inputs allowed limit) s
      unfolding check
      tells_allowed d =
          sym ((rests s resting).1 _ ∙ rw (le-ltb 2 mode known, eq-eqb (length inputs) s.header.inputs lent, ne_eqb (allowed / 2 ^ s.header.inputs) 0 d))

      module _ (below : allowed / 2 ^ s.header.inputs ≡ 0) where
        pub tells_limit : 65535 < limit → refuse 10 ≡ check (begin mode inputs allowed limit) s
        unfolding check
        tells_limit l =
            sym ((rests s resting).1 _ ∙ rw (le-ltb 2 mode known, eq-eqb (length inputs) s.header.inputs lent, eq-eqb (allowed / 2 ^ s.header.inputs) 0 below, lt-ltb 65535 limit l))

        pub tells_done : limit ≤ 65535 → Ok tt ≡ check (begin mode inputs allowed limit) s
        unfolding check
        tells_done l =
            sym ((rests s resting).1 _ ∙ rw (le-ltb 2 mode known, eq-eqb (length inputs) s.header.inputs lent, eq-eqb (allowed / 2 ^ s.header.inputs) 0 below, le-ltb 65535 limit l))

module _ (s : Standing) (m : ℕ) where
  pub tells_no_run : s.running ≡ false → refuse 23 ≡ check (advance m) s
  unfolding check
  tells_no_run e = rw e

  pub tells_less : s.running ≡ true → m < s.least → refuse 13 ≡ check (advance m) s
  unfolding check
  tells_less e l = rw (e, lt-ltb m s.least l)

  pub tells_enough : s.running ≡ true → s.least ≤ m → Ok tt ≡ check (advance m) s
  unfolding check
  tells_enough e l = rw (e, le-ltb m s.least l)

module _ (s : Standing) (buffer : List ℕ) where
  pub tells_none : in_range s.header ≡ false → refuse 21 ≡ check (write_back buffer) s
  unfolding check
  tells_none e = rw e

  module _ (held : in_range s.header ≡ true) where
    pub tells_short : length buffer < file_length s.header → refuse 12 ≡ check (write_back buffer) s
    unfolding check
    tells_short less = rw (held, lt-leb (file_length s.header) (length buffer) less)

    pub tells_room : file_length s.header ≤ length buffer → Ok tt ≡ check (write_back buffer) s
    unfolding check
    tells_room fits = rw (held, le-leb (file_length s.header) (length buffer) fits)

-- A rewriting of a runner that rests on a chart.
module _ (s : Standing) (resting : at_rest s (Ok tt) ≡ Ok tt) where
  pub tells_first : (s.header.edition ≡ 2 → ⊥) → refuse 15 ≡ check rewrite s
  unfolding check
  tells_first n = sym ((rests s resting).1 _ ∙ rw (ne_eqb s.header.edition 2 n))

  pub tells_second : s.header.edition ≡ 2 → Ok tt ≡ check rewrite s
  unfolding check
  tells_second e = sym ((rests s resting).1 _ ∙ rw (eq-eqb s.header.edition 2 e))
