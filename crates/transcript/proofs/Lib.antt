-- Laws of lines and their first 256 bytes, of portions, of what a session has done, and of the
-- loops and buffers of the code.
pub mod Lines
pub mod Alike
pub mod Portions
pub mod Feeds
pub mod States
