-- Laws of the definitions, which the proofs of functions cite; those stand in the folders beside.
pub mod FiniteLaws
pub mod AnsweredLaws
pub mod TagsLaws
pub mod ComparedLaws
pub mod PartsLaws
pub mod SizesLaws
