-- Which arrays JSON values state, and the text of a column.
pub mod Columns
pub mod DtypeOf
pub mod Objects
pub mod Reading
pub mod Scalars
pub mod Shows
pub mod Text
pub mod Types
