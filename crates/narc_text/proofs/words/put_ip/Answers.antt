use Rattle.std.proofs.Common.{◌≡◌, ◌++◌, ◌∙◌, codes, decimal, get_or, length, arith}
use Rattle.narc_text.proofs.PacketTexts.{ip_word-parts}
use Rattle.narc_text.proofs.words.put_ip.Goals as goal

pub returns-clause-value : goal.returns-clause-value
returns-clause-value c =
    let page = c.args.page.now in
    let address = c.args.address.now in
    let size : length address ≡ 4 = omega arith in
    let parts : c.put_octet-4.new.self ≡ ((((((page ++ decimal (get_or address 0 0)) ++ codes ".") ++ decimal (get_or address 1 0)) ++ codes ".") ++ decimal (get_or address 2 0)) ++ codes ".") ++ decimal (get_or address 3 0) = cc in
    parts ∙ ip_word-parts page address size
