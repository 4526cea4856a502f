pub mod Appended
pub mod CheckedRows
pub mod OverDomains
pub mod Results
pub mod SetPlaces
pub mod Total
pub mod Written
pub mod WrittenJoins
