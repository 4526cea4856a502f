mod Cut
pub mod Parts
mod Steps
