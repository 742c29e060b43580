-- The theorems: laws that several share, lists of calls, what holds of every reachable runner,
-- demand 3, high-water runs, the sets that are told, and the other claims. What holds of runs is
-- cited from `run_claims`.
pub mod Accepting
pub mod Decoded
pub mod Continuing
pub mod Answering
pub mod Unwinding
pub mod Reachable
pub mod OneChart
pub mod Secrecy
pub mod Demand3
pub mod RunLaws
pub mod HighWater
pub mod ChartLaws
pub mod Naming
pub mod Replies
pub mod OneFile
pub mod Bounds
