-- The kinds of vectors, the parts of a vector's payload and of an answering line.
pub mod Kinds
pub mod Payload
pub mod Line
