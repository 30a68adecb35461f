-- The catalogue: lookup, the reader's step, and a whole catalogue's check.
pub mod Lookup
pub mod Reader
pub mod Whole
