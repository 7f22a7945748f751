-- The laws of the sheet that its proofs stand on, and what one use of `write_sheet` is.
pub mod Fitting
pub mod LineCells
pub mod Pages
pub mod SheetUses
