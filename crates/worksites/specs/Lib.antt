-- The definitions that the contracts of this crate cite beside those of rules.
pub mod ListText
