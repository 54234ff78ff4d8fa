-- The definitions of a board and its steps, in the order in which they build on each other.
pub mod Boards
pub mod WellFormed
pub mod Answers
pub mod Applied
pub mod Steps
pub mod Deliver
pub mod Preview
pub mod Runs
pub mod PRuns
pub mod UpRuns
pub mod CompareRuns
pub mod QuietRuns
pub mod DeadRuns
pub mod OrderRuns
pub mod RestartRuns
pub mod PreviewRuns
pub mod FormedBoards
