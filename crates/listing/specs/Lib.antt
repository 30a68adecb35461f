-- The listing line.
pub mod Line
pub mod Lines
