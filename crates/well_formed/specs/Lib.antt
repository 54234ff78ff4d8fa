-- What question 1 asks of each part of a board.
pub mod Clauses
