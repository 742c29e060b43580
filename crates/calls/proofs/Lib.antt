-- Laws of the refusals.
pub mod Permits
pub mod Refusals
