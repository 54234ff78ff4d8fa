-- Laws of the definitions, which the proofs of functions and of callers cite; that a field's bytes and its place agree;
-- that a written number is read back; and lines read, found in an input and written by way of example.
pub mod ReadingLaws
pub mod FieldsLaws
pub mod ReadingExamples
pub mod SplittingLaws
pub mod LinesLaws
pub mod SplittingExamples
pub mod SetsLaws
pub mod WritingLaws
pub mod ReadBack
pub mod WritingExamples
