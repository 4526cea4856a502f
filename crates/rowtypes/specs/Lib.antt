-- What tuples of arguments accept, read and show, place by place.
pub mod Elements
pub mod Rows
pub mod Arguments
pub mod SideBySide
