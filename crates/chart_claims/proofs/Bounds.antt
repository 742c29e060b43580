-- The claims at their exact bounds, each from the theorems of its claims: ranges say that a number
-- is not the next one, kind by kind of box. That the last box block comes after the first, where it
-- is another, is by the length of an accepted file and its one box or more. Assumes nothing.
use Prim.Native.Nat.{ℕ}
use mathlib.Core.Path.{◌≡◌}
use mathlib.Core.List.{List}
use mathlib.Core.Logic.{◌≢◌, ⊎_elim}
use native.Mathlib.Omega.{arith}
use Rattle.boxes.specs.Bytes.{at}
use Rattle.format.specs.declared.Header.{Header}
use Rattle.format.proofs.Passes.{passes}
use Rattle.chart_claims.specs.Claims.{HeaderInRange, BoxInRange, assignment, decision, halt, choice}
use Rattle.chart_claims.specs.Bounds.{ExactRoom, LastBoxShown, EndsExchanged, HeaderBounds, BoxBounds, LoadsWithinBounds}
use Rattle.chart_claims.proofs.RoundTrip.{reproduces_file}
use Rattle.chart_claims.proofs.Exchanged.{exchange_refused}
use Rattle.chart_claims.proofs.Rules.{obeys_rules, shows_the_box, stays_in_range}

pub header_bounds : {h : Header} → HeaderInRange h → HeaderBounds h
header_bounds r = omega arith

-- The bounds of a box kind by kind: omega reads no ⊎.
record KindBounds (edition n : ℕ) (b : List ℕ) : Type 0 where
  kind : (at b 0 ≢ 0) × (at b 0 ≢ 5)
  lacks : edition ≡ 1 → at b 0 ≢ 4
  assigns : at b 0 ≡ 1 → (at b 1 ≢ 15) × (at b 1 ≢ 32) × (at b 2 ≢ 12)
  decides : at b 0 ≡ 2 → (at b 2 ≢ 3) × (at b 6 ≢ n)
  chooses : at b 0 ≡ 4 → (at b 1 ≢ 15) × (at b 1 ≢ 32) × (at b 2 ≢ 3) × (at b 6 ≢ 32) × (at b 7 ≢ 32)
  goes : at b 0 ≢ 3 → (at b 3 ≢ 32) × (at b 4 ≢ 32) × (at b 5 ≢ n)

kind_bounds : {edition n : ℕ} {b : List ℕ} → BoxInRange edition n b → KindBounds edition n b
kind_bounds (assignment kind low high op left right next) = omega arith
kind_bounds (decision kind comparison left right next other) = omega arith
kind_bounds (halt kind) = omega arith
kind_bounds (choice edition kind low high comparison left right next one other) = omega arith

pub box_bounds : {edition n : ℕ} {b : List ℕ} → BoxInRange edition n b → BoxBounds edition n b
box_bounds r =
    let k = kind_bounds r in
    record {
      kind = k.kind;
      lacks = k.lacks;
      target = ⊎_elim (λ e. omega (arith, k.assigns e)) (λ e. omega (arith, k.chooses e));
      operation = λ e. (k.assigns e).2;
      comparison = ⊎_elim (λ e. (k.decides e).0) (λ e. (k.chooses e).2);
      operands = λ e. omega (arith, k.goes e);
      next = λ e. (k.goes e).2;
      other = λ e. (k.decides e).1;
      copied = λ e. omega (arith, k.chooses e);
    }

pub exact_room : ExactRoom
exact_room f h e = ((reproduces_file f h e).1, ((reproduces_file f h e).2 f (omega arith)).0)

pub last_box_shown : LastBoxShown
last_box_shown f h p e l = (shows_the_box f h p e (omega arith)).1

pub ends_exchanged : EndsExchanged
ends_exchanged f h j e two last other =
    let a = passes f h e in
    exchange_refused f h 1 j e two (omega arith) (omega (arith, a.long, a.some)) (omega arith)

pub loads_within_bounds : LoadsWithinBounds
loads_within_bounds f h e =
    let o = obeys_rules f h e in
    let s = stays_in_range f h e in
    record {
      header = header_bounds s.0;
      formed = λ p l. o.formed p (omega arith);
      ranged = λ p l. box_bounds (s.1 p (omega arith));
      zero = o.zero h.boxes (omega arith);
    }
