-- The rules of a box: words for bytes, and the box.
pub mod Bytes
pub mod Box
