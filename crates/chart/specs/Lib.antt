-- A chart out of its file and back, in document 01's words: the box table and the file, write back,
-- show a box.
pub mod Chart
pub mod WriteBack
pub mod ShowBox
