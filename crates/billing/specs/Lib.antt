pub mod Amounts
pub mod Faults
pub mod Few
pub mod Highest
pub mod Limits
pub mod Months
pub mod Prices
pub mod Schedules
