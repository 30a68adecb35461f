-- The frames: rows of Table 4.1, A and B. And what private steps make of a line.
pub mod Frame
pub mod Lines
pub mod Known
