-- What outputs, their buffers and views of rows hold.
pub mod Outputs
pub mod Places
pub mod Filled
