-- The definitions of a board's parts, in the order in which they build on each other.
pub mod Finite
pub mod Limits
pub mod Tags
pub mod AnsweredSet
pub mod Sizes
pub mod Parts
pub mod Outcomes
