-- Laws of parts one after the other (Rows), of each part (PartsBack), of words that stand for a board (StandingLaws);
-- and the claims.
pub mod Rows
pub mod PartsBack
pub mod StandingLaws
pub mod RoundTrip
pub mod WrittenBack
pub mod Damaged
pub mod HeaderHolds
