-- The layout that the card's record and the field record share.
pub mod Layout
