-- Schedules: what a run over the lines of an input writes, and how it comes about chunk by chunk.
pub mod Schedule
pub mod Chunks
pub mod Running
