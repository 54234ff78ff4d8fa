-- A shift's record as lines, and what the check of them comes to.
pub mod Rows
pub mod Audit
pub mod Words
