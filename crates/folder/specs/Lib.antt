-- What the contracts of this crate say.
pub mod Behind
pub mod Outcomes
