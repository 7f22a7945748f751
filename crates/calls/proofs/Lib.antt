-- The laws of a text of calls, what one use of `run` is, and, not public, the laws that only the proofs of this crate's
-- functions cite.
pub mod CallLines
pub mod Parts
pub mod Lengths
pub mod Counting
pub mod RunUses
mod Journals
mod Running
