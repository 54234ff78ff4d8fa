-- A board in words of 32 bits: parts that stand in so many words each, where those of a board stand, which words stand
-- for a board, and what is claimed of both.
pub mod InWords
pub mod Layout
pub mod Wide
pub mod Standing
pub mod Claims
pub mod Header
