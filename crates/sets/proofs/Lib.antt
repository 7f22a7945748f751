-- The laws of sets that the crates above cite.
pub mod Bits
pub mod Laws
pub mod Ends
pub mod Entries
pub mod SetExamples
