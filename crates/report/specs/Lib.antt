pub mod Reports
pub mod Works
