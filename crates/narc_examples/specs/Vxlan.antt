-- The bits of a VXLAN header (RFC 7348, section 5), and the names of its fields.
use Rattle.std.specs.Prelude.{◌≡◌, ℕ, ◌<◌, ◌^◌, Bool, true, List, ◌∷◌, ◌++◌, nat_eq, codes, if◌then◌else◌}
use Rattle.narc_rules.specs.Bits.{bits_of_number}

-- four flags, the flag I, three flags and 24 bits that are reserved, the identifier, and 8 bits that are reserved
pub record IsVxlan (vni : ℕ) (b : List Bool) : Type 0 where
  pub front : ℕ
  pub flags : ℕ
  pub reserved : ℕ
  pub last : ℕ
  pub spelled : b ≡ bits_of_number 4 front ++ (true ∷ bits_of_number 3 flags ++ (bits_of_number 24 reserved ++ (bits_of_number 24 vni ++ bits_of_number 8 last)))
  pub front_range : front < 2 ^ 4
  pub flags_range : flags < 2 ^ 3
  pub reserved_range : reserved < 2 ^ 24
  pub last_range : last < 2 ^ 8
  pub vni_range : vni < 2 ^ 24

-- the name of the field with this number
abbrev pub name_of_field : ℕ → List ℕ
name_of_field n = if nat_eq n 1 then codes "vxlan.flag" else (if nat_eq n 2 then codes "vxlan.identifier" else codes "unnamed")
