-- Two flows of which the one is shorter, the flow of a rewritten table, and what a rewriting
-- leaves.
pub mod Shorter
pub mod Flows
pub mod Rewrites
