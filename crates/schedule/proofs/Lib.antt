-- The theorem on whole inputs, laws of a run under way, a law of every line, and examples.
pub mod Whole
pub mod ChunksLaws
pub mod LinesLaws
pub mod Examples
