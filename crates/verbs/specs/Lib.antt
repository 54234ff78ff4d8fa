-- The steps by their numbers, and what is claimed of their refusals.
pub mod Verbs
pub mod Named
