-- What card and field record begin with: the checks 2 to 6, and byte 10.
pub mod Head
pub mod State
