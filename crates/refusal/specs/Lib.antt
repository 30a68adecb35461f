-- Refusal numbers, and outputs under them.
pub mod Answered
pub mod Refusal
pub mod Outputs
pub mod FirstBad
