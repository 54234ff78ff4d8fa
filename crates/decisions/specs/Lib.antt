-- How the steps change a node and a console, the questions put before them, and what each step but fresh comes to.
pub mod Refusals
pub mod Changes
pub mod Questions
pub mod Steps
pub mod Deliver
pub mod Comparable
