-- The card's bytes: reading and writing, and what a call on bytes starts from and ends with.
pub mod Codec
pub mod Parts
pub mod Opened
