-- A board: what each step can answer, one console's row, well-formedness part by part, what holds of the whole.
pub mod Shapes
pub mod Views
pub mod Rows
pub mod Formed
pub mod Boards
pub mod Consoles
