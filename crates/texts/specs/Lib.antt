-- The texts that the run program prints.
pub mod Printing
pub mod Texts
