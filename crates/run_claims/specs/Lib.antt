-- What is claimed of runs on any flowchart and of what they are made of: the heart of demand 3, the
-- marks as sets, that no operation stops a run, and the operations and boxes of the two editions.
pub mod Secrecy
pub mod Sets
pub mod Boxes
pub mod Editions
