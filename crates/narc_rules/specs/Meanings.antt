-- The meanings of the rules, and the bits that they are of.
pub use Rattle.narc_bits.specs.Bits.{bits, bits_of_number, overlay}
pub use Rattle.narc_scalar.specs.Word.{word}
pub use Rattle.narc_scalar.specs.Constant.{constant}
pub use Rattle.narc_scalar.specs.Flag.{flag}
pub use Rattle.narc_scalar.specs.Octets.{fixed_octets}
pub use Rattle.narc_scalar.specs.Tested.{tested}
pub use Rattle.narc_scalar.specs.Names.{enumerated}
pub use Rattle.narc_list.specs.Bytes.{all_octets}
pub use Rattle.narc_list.specs.Pad.{padding}
pub use Rattle.narc_list.specs.Region.{region}
pub use Rattle.narc_list.specs.Until.{until}
pub use Rattle.narc_list.specs.Counted.{counted}
pub use Rattle.narc_list.specs.Items.{spellings}
pub use Rattle.narc_compose.specs.Seq.{seq, seq_tail}
pub use Rattle.narc_compose.specs.Named.{named}
pub use Rattle.narc_compose.specs.Strip.{stripped}
pub use Rattle.narc_compose.specs.Union.{united}
pub use Rattle.narc_compose.specs.Gap.{gapped}
pub use Rattle.narc_compose.specs.Measured.{measured}
pub use Rattle.narc_sum.specs.Checked.{checked, checked_or_none, checked_tail}
