-- Charts as files, and a case of a table: what the definitions give for it, and what they are to
-- give.
pub mod Charts
pub mod Cases
