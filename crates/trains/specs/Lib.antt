-- The definition that the contract of the search over the ends cites, beside those of rules.
pub mod Trains
