-- What is left of a part after some of its digits, and of a line after some of its parts.
pub mod Digits
pub mod Parsed
