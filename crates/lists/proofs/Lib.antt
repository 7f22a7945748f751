-- The laws of lists that the crates above cite.
pub mod Tests
pub mod Search
pub mod Distinct
pub mod Order
pub mod Each
pub mod Finds
