pub mod ShowType
pub mod ShowTerm
pub mod BareView
pub mod ShapeView
pub mod ShowGoal
pub mod InOrder
pub mod Taken
