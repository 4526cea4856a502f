-- What a call over whole columns means row by row, its causes and its counts.
pub mod Batch
pub mod Calls
pub mod Counts
pub mod Evidence
pub mod Masks
pub mod Reads
pub mod RowRuns
pub mod Rows
pub mod Selections
pub mod Visits
