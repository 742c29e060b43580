-- The run program: the lines of an input, the transcript of a chart file and an input, and a
-- session that goes through an input as reads bring it.
pub mod Lines
pub mod Transcript
pub mod Session
