-- What the program holds of an input.
pub mod Held
