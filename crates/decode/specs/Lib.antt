-- What the contracts of this crate cite beside the rules.
pub mod Entries
