-- What a call tells as numbers.
pub mod Encoding
