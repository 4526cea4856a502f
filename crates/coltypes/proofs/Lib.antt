pub mod EqualCells
pub mod Masks
pub mod Picked
pub mod Scalars
