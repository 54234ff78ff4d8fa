-- The proofs of the two claims, in the order in which the files build on each other, and the runs.
pub mod PairsLaws
pub mod StatesLaws
pub mod Walks
pub mod Turns
pub mod Theorems
pub mod TurnRunsHold
