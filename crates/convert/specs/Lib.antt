-- The converter between the editions.
pub mod Convert
