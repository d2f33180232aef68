-- Words that assign fields: a name, `=` and a value in its one spelling, each name at most once.
use Rattle.std.specs.Prelude.{ℕ, ◌^◌, Bool, List, [], ◌∷◌, length, codes, nat_eq, bytes_eq, ◌==◌, Option, Some, None, option_map, option_and_then, if◌then◌else◌}
use Rattle.std.specs.List.{position_or_len, before_first, after_first}
use Rattle.narc_edit.specs.declared.edits.Edits.{Edits}
use Rattle.narc_edit.specs.WordValues.{number_below, bit_value, mac_value, ip_value, flags_value}

abbrev pub no_edits : Edits
no_edits = record {
  eth_dst = None;
  eth_src = None;
  arp_op = None;
  arp_sha = None;
  arp_spa = None;
  arp_tha = None;
  arp_tpa = None;
  ip_tos = None;
  ip_id = None;
  ip_df = None;
  ip_ttl = None;
  ip_src = None;
  ip_dst = None;
  udp_sport = None;
  udp_dport = None;
  tcp_sport = None;
  tcp_dport = None;
  tcp_seq = None;
  tcp_ack = None;
  tcp_reserved = None;
  tcp_flags = None;
  tcp_window = None;
  tcp_urgent = None;
}

abbrev pub octet_value : List ℕ → Option ℕ
octet_value word = number_below (2 ^ 8) word

abbrev pub short_value : List ℕ → Option ℕ
short_value word = number_below (2 ^ 16) word

abbrev pub long_value : List ℕ → Option ℕ
long_value word = number_below (2 ^ 32) word

abbrev pub six_bits_value : List ℕ → Option ℕ
six_bits_value word = number_below 64 word

-- the value, for a field that was not assigned before
abbrev pub once : {V : Type 0} → (before value : Option V) → Option V
once None value = value
once (Some old) value = None

-- the edits with one field assigned
abbrev pub with_field : {V : Type 0} → (before value : Option V) → (V → Edits) → Option Edits
with_field before value set = option_map set (once before value)

-- The table: names, the fields that they assign, and how the value is spelled.
abbrev pub with_value : Edits → (name value : List ℕ) → Option Edits
with_value es name value =
    if bytes_eq name (codes "eth.dst") then with_field es.eth_dst (mac_value value) (λ v. record es { eth_dst = Some v })
    else if bytes_eq name (codes "eth.src") then with_field es.eth_src (mac_value value) (λ v. record es { eth_src = Some v })
    else if bytes_eq name (codes "arp.op") then with_field es.arp_op (short_value value) (λ v. record es { arp_op = Some v })
    else if bytes_eq name (codes "arp.sha") then with_field es.arp_sha (mac_value value) (λ v. record es { arp_sha = Some v })
    else if bytes_eq name (codes "arp.spa") then with_field es.arp_spa (ip_value value) (λ v. record es { arp_spa = Some v })
    else if bytes_eq name (codes "arp.tha") then with_field es.arp_tha (mac_value value) (λ v. record es { arp_tha = Some v })
    else if bytes_eq name (codes "arp.tpa") then with_field es.arp_tpa (ip_value value) (λ v. record es { arp_tpa = Some v })
    else if bytes_eq name (codes "ip.tos") then with_field es.ip_tos (octet_value value) (λ v. record es { ip_tos = Some v })
    else if bytes_eq name (codes "ip.id") then with_field es.ip_id (short_value value) (λ v. record es { ip_id = Some v })
    else if bytes_eq name (codes "ip.df") then with_field es.ip_df (bit_value value) (λ v. record es { ip_df = Some v })
    else if bytes_eq name (codes "ip.ttl") then with_field es.ip_ttl (octet_value value) (λ v. record es { ip_ttl = Some v })
    else if bytes_eq name (codes "ip.src") then with_field es.ip_src (ip_value value) (λ v. record es { ip_src = Some v })
    else if bytes_eq name (codes "ip.dst") then with_field es.ip_dst (ip_value value) (λ v. record es { ip_dst = Some v })
    else if bytes_eq name (codes "udp.sport") then with_field es.udp_sport (short_value value) (λ v. record es { udp_sport = Some v })
    else if bytes_eq name (codes "udp.dport") then with_field es.udp_dport (short_value value) (λ v. record es { udp_dport = Some v })
    else if bytes_eq name (codes "tcp.sport") then with_field es.tcp_sport (short_value value) (λ v. record es { tcp_sport = Some v })
    else if bytes_eq name (codes "tcp.dport") then with_field es.tcp_dport (short_value value) (λ v. record es { tcp_dport = Some v })
    else if bytes_eq name (codes "tcp.seq") then with_field es.tcp_seq (long_value value) (λ v. record es { tcp_seq = Some v })
    else if bytes_eq name (codes "tcp.ack") then with_field es.tcp_ack (long_value value) (λ v. record es { tcp_ack = Some v })
    else if bytes_eq name (codes "tcp.reserved") then with_field es.tcp_reserved (six_bits_value value) (λ v. record es { tcp_reserved = Some v })
    else if bytes_eq name (codes "tcp.flags") then with_field es.tcp_flags (flags_value value) (λ v. record es { tcp_flags = Some v })
    else if bytes_eq name (codes "tcp.window") then with_field es.tcp_window (short_value value) (λ v. record es { tcp_window = Some v })
    else if bytes_eq name (codes "tcp.urgent") then with_field es.tcp_urgent (short_value value) (λ v. record es { tcp_urgent = Some v })
    else None

abbrev pub is_equals_sign : ℕ → Bool
is_equals_sign c = c == 61

-- what a word assigns: the name stands before its first `=`, and the value behind it
abbrev pub with_word : Edits → (word : List ℕ) → Option Edits
with_word es word =
    if nat_eq (position_or_len is_equals_sign word) (length word) then None
    else with_value es (before_first is_equals_sign word) (after_first is_equals_sign word)

-- the assignments of the words after others; none where a word is no assignment, or names a field again
abbrev pub edits_after : Edits → (words : List (List ℕ)) → Option Edits
edits_after es [] = Some es
edits_after es (word ∷ words) = option_and_then (λ next. edits_after next words) (with_word es word)

abbrev pub edits_of : (words : List (List ℕ)) → Option Edits
edits_of words = edits_after no_edits words
