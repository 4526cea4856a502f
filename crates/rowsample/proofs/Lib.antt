pub mod ExactNumbers
pub mod Powers
