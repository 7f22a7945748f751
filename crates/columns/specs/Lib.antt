-- The definitions that the contracts of this crate cite, in reading order.
pub mod Column
pub mod Line
pub mod Steps
pub mod Text
pub mod Reading
pub mod Cells
pub mod LinesIn
