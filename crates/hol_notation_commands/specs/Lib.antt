pub mod Text
pub mod Code
pub mod TypeDefinitionView
pub mod CommandView
pub mod Equal
