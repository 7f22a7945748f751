-- The laws of columns that the crates above cite, and, not public, the steps of the code that writes.
pub mod Digits
pub mod Writing
mod Filling
pub mod ColumnExamples
pub mod Scan
pub mod SameText
pub mod ReadingLaws
pub mod Rows
pub mod Chunks
pub mod LinesRead
pub mod CellsLaws
