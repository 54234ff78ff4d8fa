-- A run: the other steps, what a step does to a logged operation, the invariant, and that each step keeps it.
pub mod Starts
pub mod Moves
pub mod Known
pub mod Invariant
pub mod StepsKeep
