-- Laws of lists that several crates cite: of parts, of stores, and of fronts.
pub mod Parts
pub mod Stores
pub mod Fronts
