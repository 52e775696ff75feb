-- The definitions that the contracts cite.
pub mod Counts
pub mod Entries
pub mod Progress
