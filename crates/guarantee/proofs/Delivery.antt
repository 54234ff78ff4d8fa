-- What a delivery does to its console's operation, frame by frame.
pub mod Spent
pub mod Effects
pub mod Finishes
pub mod ToNode
pub mod Replies
pub mod Acks
pub mod Deliveries
