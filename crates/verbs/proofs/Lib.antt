-- Laws of the verbs.
pub mod VerbsLaws
