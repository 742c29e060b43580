-- What is claimed of a chart and its file, of a file whose blocks are out of order, of a rewritten
-- table, and at exact bounds.
pub mod Claims
pub mod Exchanged
pub mod Rewritten
pub mod Bounds
