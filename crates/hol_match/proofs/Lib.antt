pub mod Lookups
pub mod Places
pub mod Lowering
pub mod TypeMatches
pub mod MatchLaws
pub mod Holding
pub mod Staying
pub mod Opened
pub mod FreshNames
pub mod RuleLists
pub mod OrderedHyps
pub mod Ways
pub mod Keeping
pub mod RuleSets
pub mod Outlines
pub mod Under
pub mod Contracta
pub mod FirstEntries
pub mod Repeated
pub mod Apartness
pub mod PassedOver
pub mod Held
pub mod Standing
mod Ground
pub mod Formulas
pub mod Buckets
pub mod HeadNames
mod Spared
mod RulesKept
