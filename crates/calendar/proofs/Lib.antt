-- The lemmas of the calendar.
pub mod Choosing
pub mod Counting
pub mod Dating
pub mod Following
pub mod Holding
pub mod Numbering
pub mod Standing
