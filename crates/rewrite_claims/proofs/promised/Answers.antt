-- `promised` holds the claims of this crate: each by its theorem.
use Rattle.rewrite_claims.proofs.Rewrites.{rewrites_held, fewer_steps, rewrites_within_bounds}
use Rattle.rewrite_claims.proofs.promised.Goals as goal

pub returns : goal.returns
returns c = (rewrites_held, fewer_steps, rewrites_within_bounds)
