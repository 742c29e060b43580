-- The act of a box by the masks of a mode, and laws of a run.
pub mod Acts
pub mod Runs
