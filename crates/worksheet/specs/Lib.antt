pub mod Headers
pub mod Sheets
pub mod Text
pub mod Wrongs
