-- A call from a card's bytes to a lent buffer.
pub mod Bytes
