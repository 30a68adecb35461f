-- The laws that every later proof leans on.
pub mod ChunkLaws
pub mod BoolLaws
pub mod Difference
pub mod IntLaws
pub mod Polynomial
pub mod Ring
pub mod Certificate
pub mod Machine
pub mod ErrorNeeds
pub mod Error
pub mod SameValue
pub mod Rearranged
