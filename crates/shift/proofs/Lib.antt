-- The laws of the check, and what is shown of it.
pub mod SoundLaws
pub mod FaultsLaws
pub mod FindingsLaws
pub mod PositionLaws
pub mod RulesLaws
pub mod Theorems
pub mod InWords
pub mod CheckRunsHold
