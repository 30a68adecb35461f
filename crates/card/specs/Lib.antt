-- The card: its checks, the card of all zeros, the calls.
pub mod Checks
pub mod Zero
pub mod Calls
pub mod Steps
pub mod Sample
