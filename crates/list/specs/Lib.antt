-- What the listing program takes in a turn.
pub mod Batch
