-- An IPv4 packet as one name, and what it promises.
use Rattle.std.specs.Prelude.{◌<◌, ◌^◌}
use Rattle.narc_format.specs.Laws.{Laws, TailLaws}
use Rattle.narc_format.specs.Meaning.{Meaning}
use Rattle.narc_compose.specs.MeasuredLaws.{measured_laws}
use Rattle.narc_compose.specs.SeqTailLaws.{seq_tail_laws}
use Rattle.narc_compose.specs.StripLaws.{stripped_tail_laws}
use Rattle.narc_compose.specs.UnionTailLaws.{united_tail_laws}
use Rattle.narc_list.specs.Bytes.{all_octets}
use Rattle.narc_list.specs.BytesLaws.{all_octets_laws}
use Rattle.narc_list.specs.Pad.{padding}
use Rattle.narc_list.specs.PadLaws.{padding_laws}
use Rattle.narc_list.specs.Region.{region}
use Rattle.narc_list.specs.RegionLaws.{region_laws}
use Rattle.narc_packet.specs.declared.limits.TheConstants.{MAX_LENGTH}
use Rattle.narc_packet.specs.declared.packet.Ipv4.{Ipv4}
use Rattle.narc_ipv4.specs.Header.{ip_head}
use Rattle.narc_ipv4.specs.Laws.{ip_head_laws}
use Rattle.narc_transport.specs.Parts.{udp_part, udp_part_laws, tcp_part, tcp_part_laws}
use Rattle.narc_stack.specs.declared.content.ContentContext.{ContentContext}
use Rattle.narc_stack.specs.Content.{IsContentContext, by_udp, by_tcp, tcp_or_raw, ip_content}
use Rattle.narc_stack.specs.Ipv4.{context_of, zeros_of, IsPadded, ipv4_of, raw_ipv4, SameIpv4, padded_content, header_and_content, ipv4_measured, ipv4_format}

pub tcp_or_raw_laws : TailLaws tcp_or_raw
tcp_or_raw_laws = united_tail_laws by_tcp IsContentContext tcp_part all_octets tcp_part_laws all_octets_laws

pub ip_content_laws : TailLaws ip_content
ip_content_laws = united_tail_laws by_udp IsContentContext udp_part tcp_or_raw udp_part_laws tcp_or_raw_laws

pub content_region_laws : Laws (region (λ (c : ContentContext). c.octets) ip_content)
content_region_laws = region_laws (λ (c : ContentContext). c.octets) ip_content ip_content_laws

pub padded_content_laws : TailLaws padded_content
padded_content_laws = seq_tail_laws (λ c. c.0) (λ c v. c.1) IsPadded (region (λ (c : ContentContext). c.octets) ip_content) padding content_region_laws padding_laws

pub header_and_content_laws : TailLaws header_and_content
header_and_content_laws = seq_tail_laws (λ n. n) (λ n h. (context_of h, zeros_of h)) (λ n. n < 2 ^ 64) ip_head padded_content ip_head_laws padded_content_laws

pub ipv4_measured_laws : TailLaws ipv4_measured
ipv4_measured_laws = measured_laws (λ c n. n) (λ c. MAX_LENGTH) (λ c. Unit {0}) header_and_content header_and_content_laws

pub ipv4_laws : TailLaws ipv4_format
ipv4_laws = stripped_tail_laws ipv4_of (λ c p. raw_ipv4 p) SameIpv4 ipv4_measured ipv4_measured_laws

-- what `Ipv4Format` means
unfoldable pub ipv4_part : Meaning (Unit {0}) Ipv4
ipv4_part = ipv4_format

pub ipv4_part_laws : TailLaws ipv4_part
unfolding ipv4_part
ipv4_part_laws = ipv4_laws
