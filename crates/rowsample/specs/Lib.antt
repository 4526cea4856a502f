-- What the functions of the program mean, row by row.
pub mod Functions
pub mod Powers
