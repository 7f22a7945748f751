-- What is spoken of (Ran), what is claimed of it (Claims), and the laws between the two.
pub mod Ran
pub mod Telling
pub mod Counted
pub mod Possible
pub mod Claims
