-- The types of events, replies and refusals are cited as `cs_policy.specs.declared`.
pub mod ProcFlags
pub mod Access
pub mod FlagLaws
pub mod Refusal
pub mod Denial
pub mod Data
pub mod Entry
