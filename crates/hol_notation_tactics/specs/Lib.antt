pub mod Parts
pub mod Text
pub mod Code
pub mod ThmView
pub mod ArgumentView
pub mod TacView
pub mod Falls
pub mod Leading
