pub mod Causes
pub mod Payload
pub mod Types
pub mod Timestamps
pub mod Bits
pub mod Results
pub mod Numbers
pub mod ReadNumbers
