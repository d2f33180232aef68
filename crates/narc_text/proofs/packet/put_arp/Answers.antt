use Rattle.std.proofs.Common.{◌≡◌, ◌++◌, ◌∙◌, codes, decimal}
use Rattle.narc_packet.specs.TextWords.{mac_word, ip_word}
use Rattle.narc_text.proofs.PacketTexts.{arp-parts}
use Rattle.narc_text.proofs.packet.put_arp.Goals as goal

pub returns : goal.returns
returns c =
    let page = c.args.page.now in
    let a = c.args.arp.now in
    let parts : c.put_ip-2.new.page ≡ ((((((((page ++ codes " arp ") ++ decimal a.op) ++ codes " ") ++ mac_word a.sender_mac) ++ codes " ") ++ ip_word a.sender_ip) ++ codes " ") ++ mac_word a.target_mac) ++ codes " " ++ ip_word a.target_ip = cc in
    parts ∙ arp-parts page a
