pub mod Exact
pub mod FromInput
pub mod Pieces
pub mod Statuses
