-- The theorems: which boxes an edition takes, the converted file, and what is told of its chart.
pub mod Boxes
pub mod Files
pub mod Charts
