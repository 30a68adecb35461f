-- The paper's sections on the permanent shift, the bodies and the solid tide, and what a series of it asks for.
pub mod Direction
pub mod Permanent
pub mod Bodies
pub mod Tide
pub mod Aim
pub mod Steps
