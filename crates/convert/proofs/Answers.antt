-- What the converter answers at each of its checks, from the facts that lead there, and what an
-- accepting answer says. untaken; tells_untaken, tells_room, tells_header, chart_accepted;
-- after_chart, after_refused, after_accepted. Assumes nothing.
use Rattle.std.specs.Prelude.{Ok, Err, Result}
use Prim.Native.Nat.{ℕ, ◌≤◌, ◌<◌}
use mathlib.Core.Path.{◌≡◌, refl}
use mathlib.Core.List.{List}
use mathlib.Core.Bool.{false, not}
use native.Mathlib.Omega.{arith}
use lib.Dec.{ltb}
use borrow.Author.Tests.{lt-ltb, le-ltb, lt-leb, le-leb, leb-true, not-false}
use Rattle.block.specs.Refusing.{refusal}
use Rattle.block.specs.declared.Refusal.{Refusal}
use Rattle.format.specs.Search.{first_failing}
use Rattle.format.specs.File.{check_file}
use Rattle.format.specs.declared.Header.{Header}
use Rattle.format.proofs.Passes.{passed}
use Rattle.chart.specs.WriteBack.{file_length, has_room}
use Rattle.convert.specs.Convert.{other_than, in_other, takes_box, check_chart, check_after}

module _ (h : Header) (table : List ℕ) where
  -- The first box that the other edition does not take, or n.
  abbrev pub untaken : ℕ
  untaken = first_failing (takes_box (other_than h.edition) table) h.boxes

module _ (h : Header) (table : List ℕ) (room : ℕ) where
  pub tells_untaken : untaken h table < h.boxes → Err (refusal 14 (untaken h table)) ≡ check_chart h table room
  unfolding check_chart
  tells_untaken l = rw (lt-ltb (untaken h table) h.boxes l)

  pub tells_room : h.boxes ≤ untaken h table → room < file_length h → Err (refusal 12 0) ≡ check_chart h table room
  unfolding check_chart
  tells_room l short = rw (le-ltb (untaken h table) h.boxes l, lt-leb (file_length h) room short)

  pub tells_header : h.boxes ≤ untaken h table → file_length h ≤ room → Ok (in_other h) ≡ check_chart h table room
  unfolding check_chart
  tells_header l fits = rw (le-ltb (untaken h table) h.boxes l, le-leb (file_length h) room fits)

  pub chart_accepted : {h' : Header} → check_chart h table room ≡ Ok h' → (ltb (untaken h table) h.boxes ≡ false) × (file_length h ≤ room) × (h' ≡ in_other h)
  unfolding check_chart
  chart_accepted e =
      let one = passed (ltb (untaken h table) h.boxes) 14 (untaken h table) e in
      let two = passed (not (has_room (in_other h) room)) 12 0 one.1 in
      (one.0, leb-true (file_length h) room (not-false _ two.0), cc two.1)

module _ (f table : List ℕ) (room : ℕ) where
  pub after_chart : {h : Header} → check_file f ≡ Ok h → check_chart h table room ≡ check_after (check_file f) table room
  unfolding check_after
  after_chart e = rw e

  pub after_refused : {x : Refusal} → check_file f ≡ Err x → Err x ≡ check_after (check_file f) table room
  unfolding check_after
  after_refused e = rw e

  pub after_accepted : {h' : Header} → check_after (check_file f) table room ≡ Ok h'
      → (h : Header) × (check_file f ≡ Ok h) × (check_chart h table room ≡ Ok h')
  unfolding check_after
  after_accepted {h'} e = on (check_file f) refl e
    where
      on : (c : Result Header Refusal) → check_file f ≡ c → check_after c table room ≡ Ok h'
          → (h : Header) × (check_file f ≡ Ok h) × (check_chart h table room ≡ Ok h')
      on (Ok h) q g = (h, q, g)
      on (Err x) q g = let z : ◌≡◌ {A = ℕ} 0 1 = cc in absurd (omega arith)
