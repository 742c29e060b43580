-- What a run begins with, in document 01's words.
pub mod Begin
