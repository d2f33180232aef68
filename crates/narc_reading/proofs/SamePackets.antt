-- Packets with the same parts are the same.
use Rattle.std.proofs.Common.{◌≡◌, ap, ◌∙◌}
use Rattle.narc_packet.specs.declared.packet.Arp.{Arp}
use Rattle.narc_packet.specs.PacketView.{PacketView, Ipv4View, UdpView, TcpView}

pub same-arp : (a b : Arp) → a.op ≡ b.op → a.sender_mac ≡ b.sender_mac → a.sender_ip ≡ b.sender_ip → a.target_mac ≡ b.target_mac → a.target_ip ≡ b.target_ip → a ≡ b
same-arp a b e0 e1 e2 e3 e4 =
    ap {B = Arp} (λ x. record { op = x; sender_mac = a.sender_mac; sender_ip = a.sender_ip; target_mac = a.target_mac; target_ip = a.target_ip }) e0
    ∙ ap {B = Arp} (λ x. record { op = b.op; sender_mac = x; sender_ip = a.sender_ip; target_mac = a.target_mac; target_ip = a.target_ip }) e1
    ∙ ap {B = Arp} (λ x. record { op = b.op; sender_mac = b.sender_mac; sender_ip = x; target_mac = a.target_mac; target_ip = a.target_ip }) e2
    ∙ ap {B = Arp} (λ x. record { op = b.op; sender_mac = b.sender_mac; sender_ip = b.sender_ip; target_mac = x; target_ip = a.target_ip }) e3
    ∙ ap {B = Arp} (λ x. record { op = b.op; sender_mac = b.sender_mac; sender_ip = b.sender_ip; target_mac = b.target_mac; target_ip = x }) e4

pub same-udp : (a b : UdpView) → a.sport ≡ b.sport → a.dport ≡ b.dport → a.payload ≡ b.payload → a ≡ b
same-udp a b e0 e1 e2 =
    ap {B = UdpView} (λ x. record { sport = x; dport = a.dport; payload = a.payload }) e0
    ∙ ap {B = UdpView} (λ x. record { sport = b.sport; dport = x; payload = a.payload }) e1
    ∙ ap {B = UdpView} (λ x. record { sport = b.sport; dport = b.dport; payload = x }) e2

pub same-tcp : (a b : TcpView) → a.sport ≡ b.sport → a.dport ≡ b.dport → a.seq ≡ b.seq → a.ack ≡ b.ack → a.reserved ≡ b.reserved → a.flags ≡ b.flags → a.window ≡ b.window → a.urgent ≡ b.urgent → a.options ≡ b.options → a.payload ≡ b.payload → a ≡ b
same-tcp a b e0 e1 e2 e3 e4 e5 e6 e7 e8 e9 =
    ap {B = TcpView} (λ x. record { sport = x; dport = a.dport; seq = a.seq; ack = a.ack; reserved = a.reserved; flags = a.flags; window = a.window; urgent = a.urgent; options = a.options; payload = a.payload }) e0
    ∙ ap {B = TcpView} (λ x. record { sport = b.sport; dport = x; seq = a.seq; ack = a.ack; reserved = a.reserved; flags = a.flags; window = a.window; urgent = a.urgent; options = a.options; payload = a.payload }) e1
    ∙ ap {B = TcpView} (λ x. record { sport = b.sport; dport = b.dport; seq = x; ack = a.ack; reserved = a.reserved; flags = a.flags; window = a.window; urgent = a.urgent; options = a.options; payload = a.payload }) e2
    ∙ ap {B = TcpView} (λ x. record { sport = b.sport; dport = b.dport; seq = b.seq; ack = x; reserved = a.reserved; flags = a.flags; window = a.window; urgent = a.urgent; options = a.options; payload = a.payload }) e3
    ∙ ap {B = TcpView} (λ x. record { sport = b.sport; dport = b.dport; seq = b.seq; ack = b.ack; reserved = x; flags = a.flags; window = a.window; urgent = a.urgent; options = a.options; payload = a.payload }) e4
    ∙ ap {B = TcpView} (λ x. record { sport = b.sport; dport = b.dport; seq = b.seq; ack = b.ack; reserved = b.reserved; flags = x; window = a.window; urgent = a.urgent; options = a.options; payload = a.payload }) e5
    ∙ ap {B = TcpView} (λ x. record { sport = b.sport; dport = b.dport; seq = b.seq; ack = b.ack; reserved = b.reserved; flags = b.flags; window = x; urgent = a.urgent; options = a.options; payload = a.payload }) e6
    ∙ ap {B = TcpView} (λ x. record { sport = b.sport; dport = b.dport; seq = b.seq; ack = b.ack; reserved = b.reserved; flags = b.flags; window = b.window; urgent = x; options = a.options; payload = a.payload }) e7
    ∙ ap {B = TcpView} (λ x. record { sport = b.sport; dport = b.dport; seq = b.seq; ack = b.ack; reserved = b.reserved; flags = b.flags; window = b.window; urgent = b.urgent; options = x; payload = a.payload }) e8
    ∙ ap {B = TcpView} (λ x. record { sport = b.sport; dport = b.dport; seq = b.seq; ack = b.ack; reserved = b.reserved; flags = b.flags; window = b.window; urgent = b.urgent; options = b.options; payload = x }) e9

pub same-ipv4 : (a b : Ipv4View) → a.tos ≡ b.tos → a.id ≡ b.id → a.df ≡ b.df → a.mf ≡ b.mf → a.offset ≡ b.offset → a.ttl ≡ b.ttl → a.src ≡ b.src → a.dst ≡ b.dst → a.options ≡ b.options → a.body ≡ b.body → a ≡ b
same-ipv4 a b e0 e1 e2 e3 e4 e5 e6 e7 e8 e9 =
    ap {B = Ipv4View} (λ x. record { tos = x; id = a.id; df = a.df; mf = a.mf; offset = a.offset; ttl = a.ttl; src = a.src; dst = a.dst; options = a.options; body = a.body }) e0
    ∙ ap {B = Ipv4View} (λ x. record { tos = b.tos; id = x; df = a.df; mf = a.mf; offset = a.offset; ttl = a.ttl; src = a.src; dst = a.dst; options = a.options; body = a.body }) e1
    ∙ ap {B = Ipv4View} (λ x. record { tos = b.tos; id = b.id; df = x; mf = a.mf; offset = a.offset; ttl = a.ttl; src = a.src; dst = a.dst; options = a.options; body = a.body }) e2
    ∙ ap {B = Ipv4View} (λ x. record { tos = b.tos; id = b.id; df = b.df; mf = x; offset = a.offset; ttl = a.ttl; src = a.src; dst = a.dst; options = a.options; body = a.body }) e3
    ∙ ap {B = Ipv4View} (λ x. record { tos = b.tos; id = b.id; df = b.df; mf = b.mf; offset = x; ttl = a.ttl; src = a.src; dst = a.dst; options = a.options; body = a.body }) e4
    ∙ ap {B = Ipv4View} (λ x. record { tos = b.tos; id = b.id; df = b.df; mf = b.mf; offset = b.offset; ttl = x; src = a.src; dst = a.dst; options = a.options; body = a.body }) e5
    ∙ ap {B = Ipv4View} (λ x. record { tos = b.tos; id = b.id; df = b.df; mf = b.mf; offset = b.offset; ttl = b.ttl; src = x; dst = a.dst; options = a.options; body = a.body }) e6
    ∙ ap {B = Ipv4View} (λ x. record { tos = b.tos; id = b.id; df = b.df; mf = b.mf; offset = b.offset; ttl = b.ttl; src = b.src; dst = x; options = a.options; body = a.body }) e7
    ∙ ap {B = Ipv4View} (λ x. record { tos = b.tos; id = b.id; df = b.df; mf = b.mf; offset = b.offset; ttl = b.ttl; src = b.src; dst = b.dst; options = x; body = a.body }) e8
    ∙ ap {B = Ipv4View} (λ x. record { tos = b.tos; id = b.id; df = b.df; mf = b.mf; offset = b.offset; ttl = b.ttl; src = b.src; dst = b.dst; options = b.options; body = x }) e9

pub same-packet : (a b : PacketView) → a.dst ≡ b.dst → a.src ≡ b.src → a.body ≡ b.body → a ≡ b
same-packet a b e0 e1 e2 =
    ap {B = PacketView} (λ x. record { dst = x; src = a.src; body = a.body }) e0
    ∙ ap {B = PacketView} (λ x. record { dst = b.dst; src = x; body = a.body }) e1
    ∙ ap {B = PacketView} (λ x. record { dst = b.dst; src = b.src; body = x }) e2
