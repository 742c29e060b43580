-- Tables of runs: of the cases with (P) in 01, of the inputs that notices name and of what
-- high-water runs tell, of the two editions, of rewritings, and of how a mark is set.
pub mod Runs
pub mod Editions
pub mod Rewriting
pub mod Keeping
