pub mod Labelled
pub mod Planning
pub mod Types
