pub mod Built
pub mod Dwords
pub mod Form
pub mod Racks
pub mod Reading
pub mod Text
pub mod Written
