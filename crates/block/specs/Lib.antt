-- A block of 512 bytes with its check, and a refusal.
pub mod Block
pub mod Refusing
