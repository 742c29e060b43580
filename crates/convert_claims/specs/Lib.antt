-- What is claimed of the converter.
pub mod Conversions
