-- The laws that the functions' proofs cite, and what one use of `open` or `call` is.
pub mod Deciding
pub mod Calling
pub mod OpeningBoard
pub mod JournalWritten
pub mod BoardUses
