-- What the row functions for tests mean.
pub mod Cases
