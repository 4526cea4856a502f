-- Arrays as plain data by layout, their parts, the checks of their constructors, and what each operation does to rows.
pub mod Column
pub mod Arrays
pub mod ArrayCode
pub mod ArrayOf
pub mod ArrayFalls
pub mod Parts
pub mod Faults
pub mod Natives
pub mod Layouts
pub mod Cut
pub mod Hides
pub mod Selects
pub mod Casts
