-- Laws of the calls and of lists of steps.
pub mod CallsLaws
pub mod ListsLaws
pub mod HeaderHolds
pub mod TurnsHold
