-- The calls on a board in words of lent memory.
pub mod Calls
pub mod Previews
pub mod Shifts
pub mod Turns
pub mod Lists
pub mod Header
