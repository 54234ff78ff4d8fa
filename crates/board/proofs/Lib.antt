-- Laws of the definitions, which the proofs of functions cite; a step with every definition opened, for runs; and P1 to
-- P10. The functions' own proofs stand in the folders beside.
pub mod WellFormedLaws
pub mod Opened
pub mod AcceptedLaws
pub mod FramesLaws
pub mod PRunsHold
