pub mod Bills
pub mod Entering
pub mod Gs3ev
pub mod Kept
pub mod Riders
pub mod Bounds
pub mod KeptMonths
