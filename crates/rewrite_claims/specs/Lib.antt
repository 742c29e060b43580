-- What is claimed of the rewriter.
pub mod Rewriting
