-- The laws of an agreement's answer, and of the authority that a call names, that the proofs of this crate cite.
pub mod Agreeing
mod Waiting
