-- The definitions that the contracts of this crate cite, in reading order.
pub mod CallLine
pub mod CallsIn
pub mod Run
