-- Claims about the rewriter through the calls (02, g): the chart that is then held, and what its
-- runs come to.
use Rattle.std.specs.Prelude.{ℕ, zero, suc, ◌+◌, ◌-◌, ◌≤◌, ◌<◌, ◌≡◌, List, [], Bool, true, false, cond, length, take, replicate}
use Rattle.boxes.specs.Bytes.{box_of}
use Rattle.rewrite.specs.Rewrite.{replaced_at, rewritten_box}
use Rattle.decode.specs.Decode.{Box}
use Rattle.marks.specs.Marks.{Mode, bare}
use Rattle.machine.specs.Run.{valued, Progress, going, over, step}
use Rattle.calls.specs.Calls.{load, write_back, rewrite}
use Rattle.runner.specs.declared.Runner.{Runner}
use Rattle.runner.specs.State.{is_held, is_running, is_ended, flowchart_in, flow_in}
use Rattle.runs.specs.Whole.{start_of, whole}
use Rattle.runner.specs.Outcomes.{done, chart, wrote, call}
use Rattle.call_claims.specs.Lists.{Reached, Accepted}
use Rattle.call_claims.specs.Charts.{Obeys}

-- Written back, the chart of a runner is a file that loads to it.
abbrev pub WritesItself : Runner → Type 0
WritesItself x =
    (buffer : List ℕ) (r' : Runner)
    → 2560 ≤ length buffer
    → is_running r' ≡ false
    → (bytes : ℕ)
    × ((call (write_back buffer) x).told.reply ≡ wrote bytes)
    × (call (load (take bytes (call (write_back buffer) x).told.buffer)) r'
    ≡ record { told = record { reply = chart x.header.inputs x.header.boxes; buffer = [] }; next = x })

-- What an accepted rewriting leaves: "It tells only that it was done"; "The new chart is then held,
-- and an ended run is forgotten". Its header is the old one's, each place has the box that it gets,
-- judged on the old chart, and the boxes obey the rules.
pub record Rewrites (r : Runner) : Type 0 where
  pub told : (call rewrite r).told ≡ record { reply = done; buffer = [] }
  pub held : is_held (call rewrite r).next ≡ true
  pub rests : (is_running (call rewrite r).next ≡ false) × (is_ended (call rewrite r).next ≡ false)
  pub header : (call rewrite r).next.header ≡ r.header
  pub places : (p : ℕ) → p < 204 → box_of (call rewrite r).next.table p ≡ rewritten_box r.table p
  pub obeys : Obeys r.header (call rewrite r).next.table
  pub loads : WritesItself (call rewrite r).next

abbrev pub RewritesHeld : Type 0
RewritesHeld = (r : Runner) → Reached r → Accepted rewrite r → Rewrites r

-- Of the first m boxes that a run comes to, how many have numbers that are counted.
unfoldable pub boxes_run : (flow : ℕ → Box) (counted : ℕ → Bool) → ℕ → Progress → ℕ
boxes_run flow counted zero p = 0
boxes_run flow counted (suc m) (going q) = cond (counted q.at) 1 0 + boxes_run flow counted m (step flow q)
boxes_run flow counted (suc m) (over e steps) = 0

-- A whole run of a runner's chart in a mode ends with a value, in as many fewer steps than given as
-- boxes that count were run.
abbrev pub EndsInFewer : (mode : Mode) (counted : ℕ → Bool) (inputs : List ℕ) (allowed limit v steps : ℕ) → Runner → Type 0
EndsInFewer mode counted inputs allowed limit v steps x =
    let fewer = boxes_run (flow_in x) counted limit (going (start_of (flowchart_in x) mode inputs allowed limit)) in
    (fewer ≤ steps) × (whole (flowchart_in x) mode inputs allowed limit ≡ record { ending = valued v; steps = steps - fewer })

-- In a mode, and with some boxes counted, by the old table and the new one: where a whole run of
-- the old chart ends with a value, that of the new one, "from the same inputs and limit, ends with
-- that value, in as many fewer steps as" boxes that count "were run".
abbrev pub FewerStepsBy : (mode : Mode) (counts : (old new : List ℕ) → ℕ → Bool) → Type 0
FewerStepsBy mode counts =
    (r : Runner)
    → Reached r
    → Accepted rewrite r
    → (inputs : List ℕ) (allowed limit v steps : ℕ)
    → whole (flowchart_in r) mode inputs allowed limit ≡ record { ending = valued v; steps = steps }
    → let new = (call rewrite r).next in EndsInFewer mode (counts r.table new.table) inputs allowed limit v steps new

-- "If the bare old chart ends with a value, the bare new one, from the same inputs and limit, ends
-- with that value, in as many fewer steps as kind 4 boxes put in by the rewriter were run." It puts
-- one into each place that it replaces; a kind 4 box that was drawn does not count.
abbrev pub FewerSteps : Type 0
FewerSteps = FewerStepsBy bare (λ old new. replaced_at old)

-- `Rewrites` at its exact bounds: the last place, and a buffer of exactly 2,560 bytes. It follows
-- from `RewritesHeld` alone.
abbrev pub RewritesWithinBounds : Type 0
RewritesWithinBounds =
    (r r' : Runner)
    → Reached r
    → Accepted rewrite r
    → is_running r' ≡ false
    → let new = (call rewrite r).next in
    let written = (call (write_back (replicate 2560 0)) new).told in
    (box_of new.table 203 ≡ rewritten_box r.table 203)
    × ((bytes : ℕ) × (written.reply ≡ wrote bytes) × ((call (load (take bytes written.buffer)) r').next ≡ new))
