-- What the listing's loop keeps.
pub mod FillLaws
