-- The modes and the rules of the marks.
pub mod Marks
