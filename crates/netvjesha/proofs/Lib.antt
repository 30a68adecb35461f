-- The laws of the C face.
pub mod FaceLaws
pub mod TripleLaws
