-- Document 01, with 02's orders 1 to 9, as definitions, in reading order. What a reader of the contracts must believe
-- stands here.
pub mod Board
pub mod Call
pub mod Refusals
pub mod Effects
pub mod Plan
pub mod Journal
pub mod Sheet
pub mod Worksites
pub mod Answer
pub mod Stored
pub mod Step
pub mod Reckoning
pub mod Claim
