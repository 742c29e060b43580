-- The theorems: the round trip, exchanged blocks, the rules and ranges of a loaded chart, the file
-- of a chart that obeys them, a rewritten table, and the claims at their exact bounds.
pub mod RoundTrip
pub mod Exchanged
pub mod Rules
pub mod Ruled
pub mod Rewritten
pub mod Bounds
