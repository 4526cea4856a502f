pub mod Lowest
pub mod Results
pub mod Lengths
pub mod Sides
pub mod SidesFail
