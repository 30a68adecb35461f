-- What a read that failed has left.
pub mod Left
