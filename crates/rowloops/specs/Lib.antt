-- What the loops over decoded rows answer.
pub mod Answers
pub mod Domain
