-- A part of a part of a list.
pub use Rattle.shared.proofs.Parts.{length-slice_range, slice_range-slice_range}
