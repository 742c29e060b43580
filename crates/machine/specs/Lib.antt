-- What one box does, and a run of boxes.
pub mod Act
pub mod Run
