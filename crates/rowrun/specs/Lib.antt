-- Batches, results and faults, generated rows, and the words of the command line.
pub mod Batch
pub mod BatchView
pub mod Faults
pub mod Generator
pub mod Results
pub mod Words
