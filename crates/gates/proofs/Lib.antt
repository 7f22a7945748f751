-- The laws of the gates that limits need, which the crates above cite.
pub mod Needs
