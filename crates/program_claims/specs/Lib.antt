-- What is claimed of the run program: of its lines, and of a session however reads cut its input.
pub mod LineClaims
pub mod SessionClaims
