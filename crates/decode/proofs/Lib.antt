-- The laws of this crate.
pub mod KindLaws
