-- The laws that this crate stands on: the steps of its loops, and its answers; and what one use of `write_gaps` is.
mod SiteSteps
mod GapSteps
mod GapAnswers
mod PairLines
mod ListTexts
pub mod GapUses
