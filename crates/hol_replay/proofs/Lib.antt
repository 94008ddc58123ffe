pub mod RuleTheorems
pub mod Known
pub mod Instances
pub mod GivenHyps
pub mod Nodes
pub mod Reductions
