pub mod RuleTheorems
pub mod RuleSteps
pub mod Replays
pub mod NodeTheorems
pub mod Parts
pub mod Equations
