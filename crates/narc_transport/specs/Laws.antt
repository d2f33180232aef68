-- What datagrams and segments promise, each a term made of the laws of its rules.
use Rattle.std.specs.Prelude.{ℕ, ◌-◌, ◌<◌, ◌^◌, true}
use Rattle.narc_packet.specs.declared.field.TheConstants as field
use Rattle.narc_format.specs.Laws.{Laws, TailLaws}
use Rattle.narc_scalar.specs.Tested.{tested}
use Rattle.narc_scalar.specs.TestedLaws.{tested_laws}
use Rattle.narc_scalar.specs.Word.{word}
use Rattle.narc_scalar.specs.WordLaws.{word_laws}
use Rattle.narc_compose.specs.Gap.{gapped}
use Rattle.narc_compose.specs.GapLaws.{gapped_laws}
use Rattle.narc_compose.specs.Named.{named}
use Rattle.narc_compose.specs.NamedLaws.{named_laws, named_tail_laws}
use Rattle.narc_compose.specs.SeqLaws.{seq_laws}
use Rattle.narc_compose.specs.SeqTailLaws.{seq_tail_laws}
use Rattle.narc_compose.specs.StripLaws.{stripped_tail_laws}
use Rattle.narc_compose.specs.Both.{both}
use Rattle.narc_list.specs.Pad.{padding}
use Rattle.narc_list.specs.PadLaws.{padding_laws}
use Rattle.narc_list.specs.Bytes.{all_octets}
use Rattle.narc_list.specs.BytesLaws.{all_octets_laws}
use Rattle.narc_options.specs.Option.{option_region}
use Rattle.narc_options.specs.Laws.{option_data_laws, option_region_laws}
use Rattle.narc_sum.specs.Checked.{checked_or_none, checked_tail}
use Rattle.narc_sum.specs.CheckedLaws.{checked_or_none_laws}
use Rattle.narc_sum.specs.CheckedTailLaws.{checked_tail_laws}
use Rattle.narc_transport.specs.Context.{IsThere}
use Rattle.narc_transport.specs.Udp.{is_udp_length, udp_pseudo_of, udp_of, raw_udp, SameUdp, udp_ports, udp_length, udp_front, udp_payload, udp_datagram, udp_summed, udp_and_surplus, udp_format}
use Rattle.narc_transport.specs.Tcp.{is_offset, tcp_pseudo_of, tcp_area_length, tcp_of, raw_tcp, SameTcp, tcp_ports, tcp_places, tcp_offset, tcp_words, tcp_front, tcp_options, tcp_urgent, tcp_behind, tcp_segment, tcp_summed, tcp_format}

-- two numbers of n bits
both_words : (f g n : ℕ) → Laws (both (named f (word n)) (named g (word n)))
both_words f g n = seq_laws (λ c. c) (λ c v. c) (λ c. Unit {0}) (named f (word n)) (named g (word n)) (named_laws f (word n) (word_laws n)) (named_laws g (word n) (word_laws n))

pub udp_ports_laws : Laws udp_ports
udp_ports_laws = both_words field.UDP_SOURCE field.UDP_DESTINATION 16

pub udp_length_laws : Laws udp_length
udp_length_laws = named_laws field.UDP_LENGTH (tested is_udp_length (word 16)) (tested_laws is_udp_length (word 16) (word_laws 16))

pub udp_front_laws : Laws udp_front
udp_front_laws = seq_laws (λ n. tt) (λ n v. n) (λ n. n < 2 ^ 64) udp_ports udp_length udp_ports_laws udp_length_laws

pub udp_payload_laws : Laws udp_payload
udp_payload_laws = option_data_laws

pub udp_datagram_laws : Laws udp_datagram
udp_datagram_laws = seq_laws (λ c. c.1) (λ c v. v.1 - 8) IsThere (gapped 48 udp_front) udp_payload (gapped_laws 48 udp_front udp_front_laws) udp_payload_laws

pub udp_summed_laws : Laws udp_summed
udp_summed_laws = named_laws field.UDP_CHECKSUM (checked_or_none udp_pseudo_of 6 udp_datagram (λ c. true)) (checked_or_none_laws udp_pseudo_of 6 udp_datagram udp_datagram_laws (λ c. true))

pub udp_and_surplus_laws : TailLaws udp_and_surplus
udp_and_surplus_laws = seq_tail_laws (λ c. c) (λ c v. c.1 - v.0.1) IsThere udp_summed padding udp_summed_laws padding_laws

pub udp_laws : TailLaws udp_format
udp_laws = stripped_tail_laws udp_of (λ c u. raw_udp u) SameUdp udp_and_surplus udp_and_surplus_laws

ports_laws : Laws tcp_ports
ports_laws = both_words field.TCP_SOURCE field.TCP_DESTINATION 16

places_laws : Laws tcp_places
places_laws = both_words field.TCP_SEQUENCE field.TCP_ACKNOWLEDGMENT 32

pub tcp_offset_laws : Laws tcp_offset
tcp_offset_laws = named_laws field.TCP_OFFSET (tested is_offset (word 16)) (tested_laws is_offset (word 16) (word_laws 16))

pub tcp_words_laws : Laws tcp_words
tcp_words_laws = seq_laws (λ n. n) (λ n v. tt) (λ n. n < 2 ^ 64) tcp_offset (word 16) tcp_offset_laws (word_laws 16)

pub tcp_ends_laws : Laws (both tcp_ports tcp_places)
tcp_ends_laws = seq_laws (λ c. c) (λ c v. c) (λ c. Unit {0}) tcp_ports tcp_places ports_laws places_laws

pub tcp_front_laws : Laws tcp_front
tcp_front_laws = seq_laws (λ n. tt) (λ n v. n) (λ n. n < 2 ^ 64) (both tcp_ports tcp_places) tcp_words tcp_ends_laws tcp_words_laws

tcp_options_laws : Laws tcp_options
tcp_options_laws = named_laws field.TCP_OPTIONS option_region option_region_laws

pub tcp_urgent_laws : Laws tcp_urgent
tcp_urgent_laws = seq_laws (λ n. tt) (λ n v. n) (λ n. n < 2 ^ 64) (word 16) tcp_options (word_laws 16) tcp_options_laws

pub tcp_behind_laws : TailLaws tcp_behind
tcp_behind_laws = seq_tail_laws (λ n. n) (λ n v. tt) (λ n. n < 2 ^ 64) tcp_urgent all_octets tcp_urgent_laws all_octets_laws

pub tcp_segment_laws : TailLaws tcp_segment
tcp_segment_laws = seq_tail_laws (λ c. c.1) (λ c v. tcp_area_length v.1.0) IsThere (gapped 128 tcp_front) tcp_behind (gapped_laws 128 tcp_front tcp_front_laws) tcp_behind_laws

pub tcp_summed_laws : TailLaws tcp_summed
tcp_summed_laws = named_tail_laws field.TCP_CHECKSUM (checked_tail tcp_pseudo_of 16 tcp_segment (λ c. true)) (checked_tail_laws tcp_pseudo_of 16 tcp_segment tcp_segment_laws (λ c. true))

pub tcp_laws : TailLaws tcp_format
tcp_laws = stripped_tail_laws tcp_of (λ c t. raw_tcp t) SameTcp tcp_summed tcp_summed_laws
