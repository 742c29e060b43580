-- Whole runs, of any flowchart.
pub mod Whole
