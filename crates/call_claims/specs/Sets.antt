-- Claims about the marks of runs that calls continue, as sets of withheld inputs, and about the
-- sets that notices name (02, a).
use Rattle.std.specs.Prelude.{ℕ, ◌≡◌, true}
use Rattle.marks.specs.Marks.{marked}
use Rattle.machine.specs.Run.{notice, named_in}
use Rattle.run_claims.specs.Sets.{AllSets, WithheldOnly}
use Rattle.runner.specs.State.{run_in}
use Rattle.runner.specs.Outcomes.{Reply, done, chart, running, ended, ending, wrote, refused}
use Rattle.call_claims.specs.Lists.{begun, final, Continued, AllTold}

-- "Each mark becomes a set of withheld inputs": from an accepted begin on, while calls only
-- continue its run.
abbrev pub MarksWithheld : Type 0
MarksWithheld =
    Continued
    (λ r mode inputs allowed limit cs. AllSets (WithheldOnly allowed r.header.inputs) (run_in (final cs (begun mode inputs allowed limit r))))

-- The set that a reply names, which is told with an ending alone.
abbrev pub named_told : Reply → ℕ
named_told done = 0
named_told (chart inputs boxes) = 0
named_told (running steps) = 0
named_told (ended steps) = 0
named_told (ending e steps) = named_in e
named_told (wrote bytes) = 0
named_told (refused number detail) = 0

-- Every set told is of inputs that the begin withheld.
abbrev pub NamesWithheld : Type 0
NamesWithheld = AllTold (λ r mode allowed limit reply. WithheldOnly allowed r.header.inputs (named_told reply))

-- A notice in a mode names an input; so it is under surveillance.
abbrev pub NoticesName : (guarded : ℕ) → Type 0
NoticesName guarded =
    AllTold (λ r mode allowed limit reply. mode ≡ guarded → (named steps : ℕ) → reply ≡ ending (notice named) steps → marked named ≡ true)

abbrev pub SurveillanceNames : Type 0
SurveillanceNames = NoticesName 1

-- Nothing is named in modes that meet a condition. "All other endings, and high-water notices,
-- carry 0": no mode but surveillance names an input.
abbrev pub NamesNoneWhere : (ℕ → Type 0) → Type 0
NamesNoneWhere Holds = AllTold (λ r mode allowed limit reply. Holds mode → named_told reply ≡ 0)

abbrev pub OthersNameNone : Type 0
OthersNameNone = NamesNoneWhere (λ mode. mode ≡ 1 → ⊥)
