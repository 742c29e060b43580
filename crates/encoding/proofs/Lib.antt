-- The theorem of the claim in specs/.
pub mod Numbers
