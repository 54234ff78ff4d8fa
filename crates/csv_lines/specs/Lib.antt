-- Comma-separated lines: how a line is read, the lines of an input, how a line is written, and the pen that writes it;
-- and a quoted text as bytes, for examples.
pub mod Reading
pub mod Splitting
pub mod Writing
pub mod Pens
pub mod Quoted
