-- The laws of the searches that the crates above cite, and those of the sets that are gathered.
pub mod AuthorityLaws
pub mod Finding
mod Excepted
pub mod Gathered
