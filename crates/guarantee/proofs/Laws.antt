-- Laws that mention no board.
pub mod Lists
pub mod Quorums
pub mod Sets
pub mod Tags
pub mod Sizes
pub mod States
