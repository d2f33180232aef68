pub mod SizedBytes
pub use Rattle.narc_bits.proofs.Numbers
pub use Rattle.narc_layout.proofs.BitLayouts
pub use Rattle.narc_layout.proofs.Sizes
pub use Rattle.narc_sum.proofs.SomeSums
