mod PartRead
mod WholeRuns
mod FileRuns
mod NumberLines
mod Folders
mod GapTexts
