-- Numbers in byte slices.
pub mod Octets
