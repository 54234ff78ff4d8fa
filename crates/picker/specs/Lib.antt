-- The picker's turn, and what Paper 9 claims of turns in a row.
pub mod Picking
pub mod Claims
pub mod TurnRuns
