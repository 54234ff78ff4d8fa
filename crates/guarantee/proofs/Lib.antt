-- The proof of demand 3, from laws that mention no board to the theorem; then what holds of every step on every board.
-- A file of a folder uses those before it, in the order of the folder's own file.
pub mod Laws
pub mod Board
pub mod Delivery
pub mod Run
pub mod Progress
pub mod Theorem
pub mod KeepsFormed
pub mod Refusals
pub mod ReachedHold
