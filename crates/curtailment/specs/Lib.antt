pub mod Asking
pub mod Metering
pub mod Pricing
pub mod Standing
pub mod Loads
pub mod Seasons
pub mod Plants
