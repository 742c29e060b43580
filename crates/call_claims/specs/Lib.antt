-- What is claimed of the seven calls: lists of calls, demand 3, also by its parameters, the laws of
-- a run, of refusals and of held charts, of the marks as sets, of high-water runs, that the replies
-- are distinct, demand 3 of one file, and the claims at their exact bounds.
pub mod Lists
pub mod Demand3
pub mod Parameters
pub mod Runs
pub mod Charts
pub mod Sets
pub mod HighWater
pub mod Distinct
pub mod OneFile
pub mod Bounds
