-- The rewriter.
pub mod Rewrite
pub mod Reading
