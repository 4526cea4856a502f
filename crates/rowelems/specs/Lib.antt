-- What input elements and argument columns read and show.
pub mod Shown
pub mod Unmasked
pub mod Reading
pub mod Elements
pub mod Scales
pub mod Argument
