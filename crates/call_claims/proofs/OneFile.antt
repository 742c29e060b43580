-- The callers of one file: what each writes back is that file, so they hold one chart, and demand 3
-- says the rest. Assumes nothing.
use Prim.Native.Nat.{ℕ, ◌≤◌}
use mathlib.Core.Path.{refl, sym, ◌∙◌}
use mathlib.Core.List.{List, [], ◌∷◌}
use native.Mathlib.Omega.{arith}
use lib.ListN.{length}
use Rattle.format.specs.File.{header_of}
use Rattle.format.proofs.Passes.{passes}
use Rattle.begin.specs.Begin.{limit_for_none, effective}
use Rattle.calls.specs.Calls.{Call, load}
use Rattle.runner.specs.declared.Runner.{Runner}
use Rattle.call_claims.specs.Lists.{Reached, then, Accepted, final}
use Rattle.call_claims.specs.Demand3.{HoldOneChart}
use Rattle.call_claims.specs.OneFile.{after_load, NoOtherChart, OneFile}
use Rattle.call_claims.proofs.Reachable.{accepted_file}
use Rattle.call_claims.proofs.Secrecy.{noninterference}
use Rattle.call_claims.proofs.ChartLaws.{loaded_is_written}

pub reached_final : (cs : List Call) {r : Runner} → Reached r → Reached (final cs r)
unfolding final
reached_final [] h = h
reached_final (c ∷ cs) h = reached_final cs (then h c)

file_fits : (file : List ℕ) (r : Runner) → Accepted (load file) r → length file ≤ 2560
file_fits file r a = let f = passes file (header_of file) (accepted_file file r a) in omega (arith, f.long, f.fits)

-- Whatever calls came since that put no other chart in its place.
pub one_file_held : (r r' : Runner) (file : List ℕ) (past past' : List Call)
    → Accepted (load file) r
    → Accepted (load file) r'
    → NoOtherChart file past r
    → NoOtherChart file past' r'
    → HoldOneChart (after_load file past r) (after_load file past' r')
one_file_held r r' file past past' a a' n n' buffer room =
    let long : length file ≤ length buffer = omega (arith, file_fits file r a) in
    loaded_is_written r file buffer past a n long ∙ sym (loaded_is_written r' file buffer past' a' n' long)

pub one_file : OneFile
unfolding effective
one_file r r' file past past' g g' a a' n n' mode guards inputs inputs' allowed alike b b' cs =
    noninterference _ _ (reached_final past (then g (load file))) (reached_final past' (then g' (load file))) (one_file_held r r' file past past' a a' n n')
    mode guards inputs inputs' allowed 0 limit_for_none b b' refl alike cs
