use Rattle.std.proofs.Common.{◌∙◌}
use Rattle.transcript.proofs.States.{kept_length, kept_moved}
use Rattle.transcript.proofs.keep.Goals as goal

pub returns : goal.returns
returns c = record {
  value = kept_length _ _ _ _ _ _ c.min-end.ensures c.min-at.ensures c.min-count.ensures;
  buffer_after = c.copy_within.ensures.after ∙ kept_moved _ _ _ _ _ _ c.min-end.ensures c.min-at.ensures c.min-count.ensures;
}
