-- Tables of files: of load's checks, of the checks of both editions, and of conversions.
pub mod Files
pub mod Checks
pub mod Conversions
