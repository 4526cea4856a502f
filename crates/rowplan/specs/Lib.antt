-- Outcomes and outputs of a row function, policies, plans, and what each visit asks.
pub mod Arguments
pub mod Constructors
pub mod Labels
pub mod Law
pub mod Outcomes
pub mod Outputs
pub mod Plans
pub mod Policies
pub mod Visits
