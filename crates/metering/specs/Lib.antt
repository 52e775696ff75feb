pub mod Acceptance
pub mod Days
pub mod Notices
pub mod Periods
pub mod Sums
