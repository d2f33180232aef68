-- What a header promises, each a term made of the laws of its rules.
use Rattle.std.specs.Prelude.{◌<◌, ◌^◌, []}
use Rattle.narc_packet.specs.declared.field.TheConstants as field
use Rattle.narc_format.specs.Laws.{Laws}
use Rattle.narc_scalar.specs.Octets.{fixed_octets}
use Rattle.narc_scalar.specs.OctetsLaws.{fixed_octets_laws}
use Rattle.narc_scalar.specs.Tested.{tested}
use Rattle.narc_scalar.specs.TestedLaws.{tested_laws}
use Rattle.narc_scalar.specs.Word.{word}
use Rattle.narc_scalar.specs.WordLaws.{word_laws}
use Rattle.narc_compose.specs.Both.{both}
use Rattle.narc_compose.specs.BothLaws.{both_laws}
use Rattle.narc_compose.specs.Gap.{gapped}
use Rattle.narc_compose.specs.GapLaws.{gapped_laws}
use Rattle.narc_compose.specs.NamedLaws.{named_laws}
use Rattle.narc_compose.specs.SeqLaws.{seq_laws}
use Rattle.narc_compose.specs.StripLaws.{stripped_laws}
use Rattle.narc_sum.specs.Checked.{checked}
use Rattle.narc_sum.specs.CheckedLaws.{checked_laws}
use Rattle.narc_options.specs.Option.{option_region}
use Rattle.narc_options.specs.Laws.{option_region_laws}
use Rattle.narc_ipv4.specs.Header.{is_version, is_header_length, is_total_length, is_flags, header_length_of, area_length_of, header_of, raw_header, SameHeader, versioned, first_octet, ip_service, ip_total, ip_lengths, ip_fragment, ip_middle, ip_before, ip_area, ip_behind, ip_fields, ip_summed, ip_head}

versioned_laws : Laws versioned
versioned_laws = named_laws field.IPV4_VERSION (tested is_version (word 8)) (tested_laws is_version (word 8) (word_laws 8))

pub first_octet_laws : Laws first_octet
first_octet_laws = named_laws field.IPV4_HEADER_LENGTH (tested is_header_length versioned) (tested_laws is_header_length versioned versioned_laws)

pub service_laws : Laws ip_service
service_laws = named_laws field.IPV4_TOS (word 8) (word_laws 8)

pub total_laws : Laws ip_total
total_laws = named_laws field.IPV4_TOTAL_LENGTH (tested is_total_length (word 16)) (tested_laws is_total_length (word 16) (word_laws 16))

pub lengths_laws : Laws ip_lengths
lengths_laws =
    seq_laws (λ n. tt) (λ n v. (header_length_of v.0, n)) (λ n. n < 2 ^ 64) (both first_octet ip_service) ip_total
    (both_laws first_octet ip_service first_octet_laws service_laws) total_laws

pub fragment_laws : Laws ip_fragment
fragment_laws = named_laws field.IPV4_FLAGS (tested is_flags (word 16)) (tested_laws is_flags (word 16) (word_laws 16))

pub middle_laws : Laws ip_middle
middle_laws =
    both_laws (both (word 16) ip_fragment) (both (word 8) (word 8)) (both_laws (word 16) ip_fragment (word_laws 16) fragment_laws)
    (both_laws (word 8) (word 8) (word_laws 8) (word_laws 8))

pub ip_before_laws : Laws ip_before
ip_before_laws = seq_laws (λ n. n) (λ n v. tt) (λ n. n < 2 ^ 64) ip_lengths ip_middle lengths_laws middle_laws

pub ip_area_laws : Laws ip_area
ip_area_laws = named_laws field.IPV4_OPTIONS option_region option_region_laws

pub ip_behind_laws : Laws ip_behind
ip_behind_laws =
    seq_laws (λ n. tt) (λ n v. n) (λ n. n < 2 ^ 64) (both (fixed_octets 4) (fixed_octets 4)) ip_area
    (both_laws (fixed_octets 4) (fixed_octets 4) (fixed_octets_laws 4) (fixed_octets_laws 4)) ip_area_laws

pub ip_fields_laws : Laws ip_fields
ip_fields_laws =
    seq_laws (λ n. n) (λ n v. area_length_of v.0.0.0) (λ n. n < 2 ^ 64) (gapped 80 ip_before) ip_behind
    (gapped_laws 80 ip_before ip_before_laws) ip_behind_laws

pub ip_summed_laws : Laws ip_summed
ip_summed_laws = named_laws field.IPV4_CHECKSUM (checked (λ c n. []) 10 ip_fields) (checked_laws (λ c n. []) 10 ip_fields ip_fields_laws)

pub ip_head_laws : Laws ip_head
ip_head_laws = stripped_laws header_of (λ c h. raw_header h) SameHeader ip_summed ip_summed_laws
