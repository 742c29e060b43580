-- The runner, from the bottom up: what it holds, the outcomes of the seven calls, and how the
-- code's answers are told.
pub mod State
pub mod Outcomes
pub mod Replies
