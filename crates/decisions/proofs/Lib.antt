-- Laws of the definitions, which the proofs of functions cite; those stand in the folders beside.
pub mod RefusalsLaws
