-- The laws of the catalogue.
pub mod LookupLaws
pub mod ReaderLaws
