-- The theorems: about lines, sessions, and the first bytes of a file.
pub mod LineLaws
pub mod Sessions
pub mod Files
