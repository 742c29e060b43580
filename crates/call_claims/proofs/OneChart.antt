-- Runners that hold one chart have the same header and table: write back gives one file of both,
-- and what each holds is what that file loads. Assumes nothing.
use Rattle.std.specs.Prelude.{Result, Ok}
use Rattle.block.specs.declared.Refusal.{Refusal}
use Prim.Native.Nat.{ℕ, ◌≤◌}
use mathlib.Core.Path.{◌≡◌, ap, sym, ◌∙◌}
use mathlib.Core.List.{List, ◌++◌}
use mathlib.Core.Bool.{true}
use native.Mathlib.Omega.{arith}
use lib.ListN.{length, replicate, drop, length-replicate}
use lib.Seq.{take-append_seam}
use borrow.Author.Tests.{le-leb}
use Rattle.format.specs.File.{check_file}
use Rattle.format.specs.declared.Header.{Header}
use Rattle.format.proofs.Passes.{passes}
use Rattle.format.proofs.Ranges.{in_range_lem}
use Rattle.chart.specs.Chart.{table_of, file_of}
use Rattle.chart.specs.WriteBack.{file_length, with_file}
use Rattle.chart_claims.proofs.RoundTrip.{file_again}
use Rattle.calls.specs.Calls.{write_back, check}
use Rattle.runner.specs.declared.Runner.{Runner}
use Rattle.runner.specs.State.{chart_in, is_held}
use Rattle.runner.specs.Outcomes.{wrote, Told, Outcome, says, after, outcome_by, call}
use Rattle.call_claims.specs.Lists.{Reached, Accepted}
use Rattle.call_claims.specs.Demand3.{HoldOneChart}
use Rattle.call_claims.proofs.Accepting.{call_done}
use Rattle.call_claims.proofs.Reachable.{From, sound}

-- What write back does where there is room.
pub room_accepts : (r : Runner) (buffer : List ℕ) → is_held r ≡ true → file_length r.header ≤ length buffer → Accepted (write_back buffer) r
unfolding check
room_accepts r buffer h l = rw (h, le-leb _ _ l)

pub write_does : (r : Runner) (buffer : List ℕ) → Accepted (write_back buffer) r
    → call (write_back buffer) r
    ≡ record { told = record { reply = wrote (file_length r.header); buffer = file_of r.header r.table ++ drop (file_length r.header) buffer }; next = r }
unfolding outcome_by says after with_file
write_does r buffer e = call_done (write_back buffer) r e

-- A chart out of a file: its file, and the length.
module _ {h : Header} {table : List ℕ} (f : From h table) where
  pub own_file : file_of h table ≡ f.file
  own_file = ap (file_of h) f.loads ∙ file_again f.file h f.checks

  pub own_length : length (file_of h table) ≡ file_length h
  own_length = ap length own_file ∙ (passes f.file h f.checks).long

front_same : (f f' x x' : List ℕ) → length f ≡ length f' → f ++ x ≡ f' ++ x' → f ≡ f'
front_same f f' x x' l e = sym (take-append_seam f x) ∙ rw (l, e) (take-append_seam f' x')

accepted_once : {h h' : Header} → ◌≡◌ {A = Result Header Refusal} (Ok h) (Ok h') → h ≡ h'
accepted_once e = cc

from_one : {h h' : Header} {table table' : List ℕ} (f : From h table) (f' : From h' table') → f.file ≡ f'.file → (h ≡ h') × (table ≡ table')
from_one f f' e = (accepted_once (sym f.checks ∙ ap check_file e ∙ f'.checks), f.loads ∙ ap table_of e ∙ sym f'.loads)

pub one_chart : (r r' : Runner) → Reached r → Reached r' → is_held r ≡ true → is_held r' ≡ true → HoldOneChart r r' → chart_in r ≡ chart_in r'
one_chart r r' g g' h h' s =
    let n = file_length r.header in
    let n' = file_length r'.header in
    let buffer : List ℕ = replicate 2560 0 in
    let long : length buffer ≡ 2560 = length-replicate {A = ℕ} 2560 0 in
    let room : 2560 ≤ length buffer = omega arith in
    let a : Accepted (write_back buffer) r = room_accepts r buffer h (omega (arith, (in_range_lem r.header h).fits)) in
    let a' : Accepted (write_back buffer) r' = room_accepts r' buffer h' (omega (arith, (in_range_lem r'.header h').fits)) in
    let told = sym (ap (λ (o : Outcome). o.told) (write_does r buffer a)) ∙ s buffer room ∙ ap (λ (o : Outcome). o.told) (write_does r' buffer a') in
    let size : wrote n ≡ wrote n' = ap (λ (t : Told). t.reply) told in
    let bytes = ap (λ (t : Told). t.buffer) told in
    let f = (sound g).held h in
    let f' = (sound g').held h' in
    let same : n ≡ n' = cc in
    let lengths = own_length f ∙ same ∙ sym (own_length f') in
    let files = front_same (file_of r.header r.table) (file_of r'.header r'.table) _ _ lengths bytes in
    let parts = from_one f f' (sym (own_file f) ∙ files ∙ own_file f') in
    let header = parts.0 in
    let table = parts.1 in
    cc
