-- The lemmas of the crate.
pub mod Closing
pub mod Opening
