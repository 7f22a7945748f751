-- The definitions on lists that the crates above cite.
pub mod Search
pub mod Distinct
pub mod Order
pub mod Each
