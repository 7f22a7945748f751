-- The definition that the contract of the test of an authority cites, beside those of rules.
pub mod Agreement
pub mod Held
