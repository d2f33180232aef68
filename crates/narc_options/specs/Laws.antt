-- What an option and an options area promise, each a term made of the laws of its rules.
use Rattle.std.specs.Prelude.{◌-◌, ◌<◌, ◌^◌}
use Rattle.narc_format.specs.Laws.{Laws, TailLaws}
use Rattle.narc_scalar.specs.TestedLaws.{tested_laws}
use Rattle.narc_scalar.specs.Word.{word}
use Rattle.narc_scalar.specs.WordLaws.{word_laws}
use Rattle.narc_compose.specs.MeasuredLaws.{measured_laws}
use Rattle.narc_compose.specs.SeqLaws.{seq_laws}
use Rattle.narc_compose.specs.UnionLaws.{united_laws}
use Rattle.narc_list.specs.Bytes.{all_octets}
use Rattle.narc_list.specs.BytesLaws.{all_octets_laws}
use Rattle.narc_list.specs.Pad.{padding}
use Rattle.narc_list.specs.PadLaws.{padding_laws}
use Rattle.narc_list.specs.RegionLaws.{region_laws}
use Rattle.narc_list.specs.UntilLaws.{until_laws}
use Rattle.narc_options.specs.Option.{is_kind, is_option_length, by_kind, option_kind, option_length, any_octets, option_data, nothing, length_and_data, behind_kind, option_fields, option_area, option_region}

pub option_kind_laws : Laws option_kind
option_kind_laws = tested_laws is_kind (word 8) (word_laws 8)

pub option_length_laws : Laws option_length
option_length_laws = tested_laws is_option_length (word 8) (word_laws 8)

pub option_data_laws : Laws option_data
option_data_laws = region_laws (λ c. c) any_octets (measured_laws (λ c n. tt) (λ c. tt) (λ c. c < 2 ^ 64) all_octets all_octets_laws)

pub nothing_laws : Laws nothing
nothing_laws = region_laws (λ c. c) padding padding_laws

length_and_data_laws : Laws length_and_data
length_and_data_laws = seq_laws (λ c. c) (λ c n. n - 2) (λ c. Unit {0}) option_length option_data option_length_laws option_data_laws

behind_kind_laws : Laws behind_kind
behind_kind_laws = united_laws by_kind (λ kind. kind < 2 ^ 64) nothing length_and_data nothing_laws length_and_data_laws

pub option_fields_laws : Laws option_fields
option_fields_laws = seq_laws (λ c. c) (λ c kind. kind) (λ c. Unit {0}) option_kind behind_kind option_kind_laws behind_kind_laws

pub option_area_laws : TailLaws option_area
option_area_laws = until_laws 40 (λ c. c) (λ c. c < 2 ^ 64) option_fields option_fields_laws

pub option_region_laws : Laws option_region
option_region_laws = region_laws (λ c. c) option_area option_area_laws
