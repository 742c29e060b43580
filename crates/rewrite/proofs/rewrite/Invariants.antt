-- `rewrite` goes from the front: the new boxes before p stand there, and the rest of the table is
-- the old one.
use Rattle.std.proofs.Common.{◌≡◌}
use Rattle.rewrite.proofs.Halfway.{halfway}
use Rattle.rewrite.proofs.rewrite.Given as goal

abbrev pub invariant-loop-p : goal.invariant-loop-p
invariant-loop-p l = l.table ≡ halfway l.initial.table l.p
