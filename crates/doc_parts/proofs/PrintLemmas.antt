-- CP tables as they are printed, with their home in doc_bits.
pub use Rattle.doc_bits.specs.Number.{u32_list_bytes}
pub use Rattle.doc_bits.proofs.Public.{length-numbers, number_at-numbers, joined, length-joined, slice_get-joined}
pub use Rattle.doc_bits.proofs.Public.{printed-HasPlc}
