-- The field edition and metres out.
pub mod Field
pub mod MetresOut
