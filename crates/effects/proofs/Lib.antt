-- The laws that the proofs of the functions of this crate cite, and the room that an accepted call has.
pub mod Changing
pub mod Inserting
pub mod Rooms
