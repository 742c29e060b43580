-- Laws that several proofs share, and of runs on any flow a relation of two, a proof of one box,
-- and a citation of `lift` each: how they count, low-equality, the pace of high-water and
-- surveillance, sets seen as marks, and what all their sets have. Then the claims.
pub mod Branches
pub mod Counting
pub mod Lost
pub mod Low
pub mod Pace
pub mod Inputs
pub mod Carried
pub mod Withheld
pub mod Marking
pub mod Names
pub mod Editions
pub mod Stops
