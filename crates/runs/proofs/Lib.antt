-- Laws of what is disclosed of a run.
pub mod Disclosed
