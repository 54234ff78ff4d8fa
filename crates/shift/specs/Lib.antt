-- A shift's record: when it is in order, which record is at fault, and what the check answers.
pub mod InOrder
pub mod Faults
pub mod Findings
pub mod Claims
pub mod CheckRuns
