-- What a source and a sink did, and how a top call ends, by its causes.
pub mod Bytes
pub mod Causes
pub mod Changes
pub mod FaultCounts
pub mod Memory
pub mod Outcomes
pub mod Replies
pub mod Schedule
