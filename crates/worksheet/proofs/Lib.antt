pub mod Counting
pub mod Ending
pub mod Scanning
