pub mod Text
pub mod Code
pub mod TypeView
pub mod TermView
pub mod Falls
