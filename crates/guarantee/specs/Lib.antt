-- The log of a run, what demand 3 claims of it, and what is claimed of every step.
pub mod Log
pub mod Claim
pub mod Reached
pub mod EveryStep
