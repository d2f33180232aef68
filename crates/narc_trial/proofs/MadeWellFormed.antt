-- The packets of a trial are well formed.
use Rattle.std.proofs.Common.{ℕ, suc, ◌%◌, ◌^◌, ◌<◌, ◌≤◌, Bool, true, false, List, [], ◌∷◌, length, refl, ap, arith, lit<, lit≤}
use Rattle.std.specs.Prelude.{nat_eq, if◌then◌else◌}
use Rattle.narc_bits.specs.Octets.{big_endian}
use Rattle.narc_bits.proofs.Octets.{IsOctets-big_endian}
use Rattle.narc_bits.proofs.Spelled.{length-big_endian}
use Rattle.narc_packet.specs.Options.{ip_option, tcp_option, IsIpOption, IsTcpOption, IpNop, IpOther, TcpNop, TcpMss, ip_area, tcp_area}
use Rattle.narc_packet.specs.PacketView.{IpBodyView, UdpBody, TcpBody, RawBody}
use Rattle.narc_packet.specs.Ranges.{IsMac, IsIp, IsArpInRange, IsUdpInRange, IsTcpInRange}
use Rattle.narc_packet.specs.Ipv4.{MayHaveBody, is_fragment}
use Rattle.narc_packet.specs.WellFormed.{FitArea, IsWellFormedIpBody, smallest_length, IsWellFormedIpv4, IsWellFormedEthBody, IsWellFormed}
use Rattle.narc_trial.specs.Made.{payload_of, ip_options, tcp_options, arp, udp, tcp, ipv4, eth_body, made}
use Rattle.narc_trial.proofs.Payloads.{IsOctets-counting, length-counting}

IsMac-of : (kind k : ℕ) → kind < 256 → IsMac (2 ∷ kind ∷ big_endian 4 k)
IsMac-of kind k below = (ap (λ n. suc (suc n)) (length-big_endian 4 k), (lit< tt, (below, IsOctets-big_endian 4 k)))

IsIp-of : (n : ℕ) → IsIp (big_endian 4 n)
IsIp-of n = (length-big_endian 4 n, IsOctets-big_endian 4 n)

-- What holds of both choices holds of the one that is taken.
chosen : {X : Type 0} (P : X → Type 0) (b : Bool) (x y : X) → P x → P y → P (if b then x else y)
chosen P true x y p q = p
chosen P false x y p q = q

-- options that fit an area, whose shortest is of two words at most
record Few {O : Type 0} (spelling : O → List ℕ) (IsOption : O → Type 0) (area : List O → List ℕ) (options : List O) : Type 0 where
  fit : FitArea spelling IsOption options
  short : length (area options) ≤ 8

few_ip_options : (k : ℕ) → Few ip_option IsIpOption ip_area (ip_options k)
few_ip_options k =
    chosen (Few ip_option IsIpOption ip_area) (nat_eq (k % 3) 0) [] _
    (record { fit = record { each = tt; bound = lit≤ tt }; short = lit≤ tt })
    (chosen (Few ip_option IsIpOption ip_area) (nat_eq (k % 3) 1) (IpNop ∷ []) (IpOther 148 (0 ∷ 0 ∷ []) ∷ [])
    (record { fit = record { each = (tt, tt); bound = lit≤ tt }; short = lit≤ tt })
    (record {
      fit = record {
        each = (record { least = lit≤ tt; kind_range = lit< tt; bound = lit≤ tt; each = (lit< tt, (lit< tt, tt)) }, tt);
        bound = lit≤ tt;
      };
      short = lit≤ tt;
    }))

few_tcp_options : (k : ℕ) → Few tcp_option IsTcpOption tcp_area (tcp_options k)
few_tcp_options k =
    chosen (Few tcp_option IsTcpOption tcp_area) (nat_eq (k % 2) 0) (TcpMss (k % 65536) ∷ TcpNop ∷ []) []
    (record { fit = record { each = (omega arith, (tt, tt)); bound = lit≤ tt }; short = lit≤ tt })
    (record { fit = record { each = tt; bound = lit≤ tt }; short = lit≤ tt })

short_payload : (k : ℕ) → length (payload_of k) ≤ 1399
short_payload k = omega (arith, length-counting (k % 1400) k)

module _ (k : ℕ) (small : k < 2 ^ 32) where
  arp_in_range : IsArpInRange (arp k)
  arp_in_range = record {
    op = omega arith;
    sender_mac = IsMac-of 1 k (lit< tt);
    sender_ip = IsIp-of _;
    target_mac = IsMac-of 0 k (lit< tt);
    target_ip = IsIp-of _;
  }

  udp_in_range : IsUdpInRange (udp k)
  udp_in_range = record { sport = omega arith; dport = omega arith; payload = IsOctets-counting (k % 1400) k }

  tcp_in_range : IsTcpInRange (tcp k)
  tcp_in_range = record {
    sport = omega arith;
    dport = omega arith;
    seq = small;
    ack = omega arith;
    reserved = omega arith;
    flags = omega arith;
    window = omega arith;
    urgent = lit< tt;
    payload = IsOctets-counting (k % 1400) k;
  }

  ipv4-IsWellFormed : (mf : Bool) (offset : ℕ) (body : IpBodyView) → offset < 8192 → MayHaveBody (is_fragment mf offset) body
      → IsWellFormedIpBody body → smallest_length body ≤ 65507 → IsWellFormedIpv4 (ipv4 k mf offset body)
  ipv4-IsWellFormed mf offset body low may right short = record {
    in_range = record {
      tos = omega arith;
      id = omega arith;
      offset = low;
      ttl = omega arith;
      src = IsIp-of _;
      dst = IsIp-of _;
    };
    options = (few_ip_options k).fit;
    may_have_body = may;
    body = right;
    fits = omega (arith, short, (few_ip_options k).short);
  }

  eth_body-IsWellFormed : IsWellFormedEthBody (eth_body k)
  eth_body-IsWellFormed =
      chosen IsWellFormedEthBody (nat_eq (k % 5) 0) _ _ arp_in_range
      (chosen IsWellFormedEthBody (nat_eq (k % 5) 1) _ _
      (lit< tt, omega arith, omega arith, omega (arith, short_payload k), IsOctets-counting (k % 1400) k)
      (chosen IsWellFormedEthBody (nat_eq (k % 5) 2) _ _
      (ipv4-IsWellFormed false 0 (UdpBody (udp k)) (lit< tt) refl udp_in_range (omega (arith, short_payload k)))
      (chosen IsWellFormedEthBody (nat_eq (k % 5) 3) _ _
      (ipv4-IsWellFormed false 0 (TcpBody (tcp k)) (lit< tt) refl (tcp_in_range, (few_tcp_options k).fit) (omega (arith, short_payload k, (few_tcp_options k).short)))
      (ipv4-IsWellFormed true (k % 8192) (RawBody 17 (payload_of k)) (omega arith) refl (lit< tt, IsOctets-counting (k % 1400) k) (omega (arith, short_payload k))))))

  pub made-IsWellFormed : IsWellFormed (made k)
  unfolding made
  made-IsWellFormed = record {
    dst = IsMac-of 0 k (lit< tt);
    src = IsMac-of 1 k (lit< tt);
    body = eth_body-IsWellFormed;
  }
