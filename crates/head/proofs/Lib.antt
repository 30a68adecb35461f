-- The laws of what card and field record begin with.
pub mod HeadLaws
pub mod StateLaws
