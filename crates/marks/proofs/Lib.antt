-- Laws of the marks.
pub mod MarkLaws
