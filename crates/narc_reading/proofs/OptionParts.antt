-- The parts of an option's word, by which it is read.
use Rattle.std.proofs.Common.{rules, Result, Ok, Err, ◌≢◌, ◌≡◌, ◌==◌, ℕ, false, List, [], ◌∷◌, ◌++◌, codes, decimal, length, map, refl, sym, ap, ◌∙◌, subst, arith, append_assoc}
use Rattle.std.specs.List.{AllByRecursion, join_with_byte}
use Rattle.std.proofs.lemmas.Fmt.{decimal_injective}
use Rattle.hex.specs.Hex.{lower_digits}
use Rattle.hex.proofs.HexLemmas.{length-encode_with}
use Rattle.narc_bits.specs.Octets.{IsOctets}
use Rattle.narc_packet.specs.Options.{IpOptionView, IpNop, IpOther, TcpOptionView, TcpNop, TcpMss, TcpScale, TcpSackOk, TcpSack, TcpTimes, TcpOther, IsIpOption, IsTcpOption, IsSackBlock, AreSackBlocks}
use Rattle.narc_packet.specs.declared.blocks.SackBlock.{SackBlock}
use Rattle.narc_packet.specs.TextWords.{hex_word, block_word, blocks_word, tcp_option_word, ip_option_word}
use Rattle.narc_reading.specs.Digits.{digit_number, octets_of}
use Rattle.narc_reading.specs.Parts.{octet_of, parts_of}
use Rattle.narc_reading.specs.OptionParts.{option_name, option_rest, IsNamed}
use Rattle.narc_reading.specs.Reading.{IsReadBy, IsTextOption, as_tcp}
use Rattle.narc_packet.specs.PacketView.{tcp_option_view}
use Rattle.narc_packet.specs.declared.options.TcpOption.{TcpOption}
use Rattle.narc_reading.specs.declared.error.BadLine.{BadLine}
use Rattle.narc_reading.specs.declared.parts.Separator.{Separator}
use Rattle.narc_reading.specs.declared.parts.Separator.TheVariants.{Space, Comma, Slash, Colon}
use Rattle.narc_reading.proofs.DigitLanes.{octets_of-encode_lower}
use Rattle.narc_reading.proofs.Separated.{Lacks, Lacks-append, Lacks-each, Lacks-join, Lacks-hex_word, lacks-dash, parts_of-join, join-parts_of}
use Rattle.narc_reading.proofs.WordParts.{Lacks-decimal, lacks-dash-decimal}
use Rattle.narc_reading.proofs.OptionNames.{nop-only, mss-only, scale-only, permitted-only, sack-only, times-only, opt-only}
use Rattle.narc_reading.proofs.Refusals.{first, others}
use Rattle.narc_reading.proofs.OptionLoops.{HaveWords}

-- a separator that is in no name of an option, and stands between no blocks
pub record IsOutside (separator : Separator) : Type 0 where
  pub nop : Lacks (octet_of separator) (codes "nop")
  pub mss : Lacks (octet_of separator) (codes "mss:")
  pub scale : Lacks (octet_of separator) (codes "scale:")
  pub sackok : Lacks (octet_of separator) (codes "sackok")
  pub sack : Lacks (octet_of separator) (codes "sack:")
  pub times : Lacks (octet_of separator) (codes "ts:")
  pub opt : Lacks (octet_of separator) (codes "opt:")
  pub colon : Lacks (octet_of separator) (codes ":")
  pub slash : (47 == octet_of separator) ≡ false

pub IsOutside-comma : IsOutside Comma
IsOutside-comma = record {
  nop = search rules;
  mss = search rules;
  scale = search rules;
  sackok = search rules;
  sack = search rules;
  times = search rules;
  opt = search rules;
  colon = search rules;
  slash = refl;
}

pub IsOutside-space : IsOutside Space
IsOutside-space = record {
  nop = search rules;
  mss = search rules;
  scale = search rules;
  sackok = search rules;
  sack = search rules;
  times = search rules;
  opt = search rules;
  colon = search rules;
  slash = refl;
}

-- a block, and blocks
pub lacks-block : (separator : Separator) (block : SackBlock) → IsSackBlock block → Lacks (octet_of separator) (block_word block)
lacks-block separator block is =
    Lacks-append (octet_of separator) (decimal block.left ++ codes "-") (decimal block.right)
    (Lacks-append (octet_of separator) (decimal block.left) (codes "-") (Lacks-decimal separator block.left (omega (arith, is.0))) (lacks-dash separator)) (Lacks-decimal separator block.right (omega (arith, is.1)))

pub lacks-each-block : (separator : Separator) (blocks : List SackBlock) → AllByRecursion IsSackBlock blocks → AllByRecursion (Lacks (octet_of separator)) (map block_word blocks)
lacks-each-block separator blocks each = Lacks-each (octet_of separator) block_word IsSackBlock (lacks-block separator) blocks each

lacks-blocks : (separator : Separator) → (47 == octet_of separator) ≡ false → (blocks : List SackBlock) → AllByRecursion IsSackBlock blocks → Lacks (octet_of separator) (blocks_word blocks)
lacks-blocks separator other blocks each = Lacks-join (octet_of separator) 47 other (map block_word blocks) (lacks-each-block separator blocks each)

join-option : (o : TcpOptionView) → tcp_option_word o ≡ join_with_byte 58 (option_name o ∷ option_rest o)
join-option TcpNop = refl
join-option (TcpMss size) = refl
join-option (TcpScale shift) = refl
join-option TcpSackOk = refl
join-option (TcpSack blocks) = refl
join-option (TcpTimes value echo) = ap (λ l. codes "ts:" ++ l) (append_assoc (decimal value) (58 ∷ []) (decimal echo))
join-option (TcpOther kind octets) = ap (λ l. codes "opt:" ++ l) (append_assoc (decimal kind) (58 ∷ []) (hex_word octets))

lacks-parts : (o : TcpOptionView) → IsTextOption o → AllByRecursion (Lacks 58) (option_name o ∷ option_rest o)
lacks-parts TcpNop is = ((refl, (refl, (refl, tt))), tt)
lacks-parts (TcpMss size) is = ((refl, (refl, (refl, tt))), (Lacks-decimal Colon size (omega (arith, is)), tt))
lacks-parts (TcpScale shift) is = (search rules, (Lacks-decimal Colon shift (omega (arith, is)), tt))
lacks-parts TcpSackOk is = (search rules, tt)
lacks-parts (TcpSack blocks) is = (search rules, (lacks-blocks Colon refl blocks is.2, tt))
lacks-parts (TcpTimes value echo) is = (search rules, (Lacks-decimal Colon value (omega (arith, is.0)), (Lacks-decimal Colon echo (omega (arith, is.1)), tt)))
lacks-parts (TcpOther kind octets) is = ((refl, (refl, (refl, tt))), (Lacks-decimal Colon kind (omega (arith, is.0)), (Lacks-hex_word Colon octets is.1.0, tt)))

pub option-parts : (word : List ℕ) (o : TcpOptionView) → IsTextOption o → word ≡ tcp_option_word o → parts_of 58 word ≡ option_name o ∷ option_rest o
option-parts word o is e = ap (parts_of 58) (e ∙ join-option o) ∙ parts_of-join 58 (option_name o) (option_rest o) (lacks-parts o is)

pub option-found : (word : List ℕ) (o : TcpOptionView) → parts_of 58 word ≡ option_name o ∷ option_rest o → word ≡ tcp_option_word o
option-found word o e = join-parts_of 58 word (option_name o ∷ option_rest o) e ∙ sym (join-option o)

-- octets have one word
pub hex_word-injective : (a b : List ℕ) → IsOctets a → IsOctets b → hex_word a ≡ hex_word b → a ≡ b
hex_word-injective [] [] m n e = refl
hex_word-injective [] (o ∷ b) m n e = absurd (omega (arith, ap length e, length-encode_with lower_digits (o ∷ b)))
hex_word-injective (o ∷ a) [] m n e = absurd (omega (arith, ap length e, length-encode_with lower_digits (o ∷ a)))
hex_word-injective (o ∷ a) (p ∷ b) m n e =
    sym (octets_of-encode_lower (o ∷ a) m) ∙ ap (λ w. octets_of (map digit_number w)) e ∙ octets_of-encode_lower (p ∷ b) n

-- a block has one word
pub block-parts : (block : SackBlock) → IsSackBlock block → parts_of 45 (block_word block) ≡ decimal block.left ∷ decimal block.right ∷ []
block-parts block is =
    ap (parts_of 45) (append_assoc (decimal block.left) (45 ∷ []) (decimal block.right))
    ∙ parts_of-join 45 (decimal block.left) (decimal block.right ∷ []) (lacks-dash-decimal block.left (omega (arith, is.0)), (lacks-dash-decimal block.right (omega (arith, is.1)), tt))

pub block-found : (word : List ℕ) (block : SackBlock) → parts_of 45 word ≡ decimal block.left ∷ decimal block.right ∷ [] → word ≡ block_word block
block-found word block e =
    join-parts_of 45 word (decimal block.left ∷ decimal block.right ∷ []) e ∙ sym (append_assoc (decimal block.left) (45 ∷ []) (decimal block.right))

pub block_word-injective : (a b : SackBlock) → IsSackBlock a → IsSackBlock b → block_word a ≡ block_word b → a ≡ b
block_word-injective a b m n e =
    let parts = sym (block-parts a m) ∙ ap (parts_of 45) e ∙ block-parts b n in
    let lefts : decimal a.left ≡ decimal b.left = cc parts in
    let rights : decimal a.right ≡ decimal b.right = cc parts in
    let left = decimal_injective a.left b.left (omega (arith, m.0)) (omega (arith, n.0)) lefts in
    let right = decimal_injective a.right b.right (omega (arith, m.1)) (omega (arith, n.1)) rights in
    ap (λ x. record { left = x; right = a.right }) left ∙ ap (λ x. record { left = b.left; right = x }) right

each-block-same : (a b : List SackBlock) → AllByRecursion IsSackBlock a → AllByRecursion IsSackBlock b → map block_word a ≡ map block_word b → a ≡ b
each-block-same [] [] m n e = refl
each-block-same [] (q ∷ b) m n e = absurd (omega (arith, ap length e))
each-block-same (p ∷ a) [] m n e = absurd (omega (arith, ap length e))
each-block-same (p ∷ a) (q ∷ b) m n e =
    let word : block_word p ≡ block_word q = cc e in
    let words : map block_word a ≡ map block_word b = cc e in
    ap (λ x. x ∷ a) (block_word-injective p q m.0 n.0 word) ∙ ap (λ l. q ∷ l) (each-block-same a b m.1 n.1 words)

-- blocks are the parts of their word
pub blocks-parts : (blocks : List SackBlock) → AreSackBlocks blocks → parts_of 47 (blocks_word blocks) ≡ map block_word blocks
blocks-parts [] is = absurd (omega (arith, is.0))
blocks-parts (block ∷ blocks) is = parts_of-join 47 (block_word block) (map block_word blocks) (lacks-each-block Slash (block ∷ blocks) is.2)

blocks_word-injective : (a b : List SackBlock) → AreSackBlocks a → AreSackBlocks b → blocks_word a ≡ blocks_word b → a ≡ b
blocks_word-injective a b m n e = each-block-same a b m.2 n.2 (sym (blocks-parts a m) ∙ ap (parts_of 47) e ∙ blocks-parts b n)

-- The options whose parts are those of a are a.
abbrev Same : TcpOptionView → TcpOptionView → Type 0
Same a b = IsTextOption b → option_rest a ≡ option_rest b → a ≡ b

same-parts : (a b : TcpOptionView) → IsTextOption a → IsTextOption b → option_name a ∷ option_rest a ≡ option_name b ∷ option_rest b → a ≡ b
same-parts TcpNop b m n e = nop-only (Same TcpNop) b (sym (first e)) (λ n f. refl) n (others e)
same-parts (TcpMss size) b m n e =
    mss-only (Same (TcpMss size)) b (sym (first e)) (λ other n f. ap TcpMss (decimal_injective size other (omega (arith, m)) (omega (arith, n)) (first f))) n (others e)
same-parts (TcpScale shift) b m n e =
    scale-only (Same (TcpScale shift)) b (sym (first e)) (λ other n f. ap TcpScale (decimal_injective shift other (omega (arith, m)) (omega (arith, n)) (first f))) n (others e)
same-parts TcpSackOk b m n e = permitted-only (Same TcpSackOk) b (sym (first e)) (λ n f. refl) n (others e)
same-parts (TcpSack blocks) b m n e =
    sack-only (Same (TcpSack blocks)) b (sym (first e)) (λ more n f. ap TcpSack (blocks_word-injective blocks more m n (first f))) n (others e)
same-parts (TcpTimes value echo) b m n e =
    times-only (Same (TcpTimes value echo)) b (sym (first e)) (λ v w n f.
    ap (λ x. TcpTimes x echo) (decimal_injective value v (omega (arith, m.0)) (omega (arith, n.0)) (first f))
    ∙ ap (λ x. TcpTimes v x) (decimal_injective echo w (omega (arith, m.1)) (omega (arith, n.1)) (first (others f)))) n (others e)
same-parts (TcpOther kind octets) b m n e =
    opt-only (Same (TcpOther kind octets)) b (sym (first e)) (λ other more n f.
    ap (λ x. TcpOther x octets) (decimal_injective kind other (omega (arith, m.0)) (omega (arith, n.0)) (first f))
    ∙ ap (λ x. TcpOther other x) (hex_word-injective octets more m.1.0 n.1.0 (first (others f)))) n (others e)

-- an option has one word, and a word is one option's
pub tcp_option_word-injective : (a b : TcpOptionView) → IsTextOption a → IsTextOption b → tcp_option_word a ≡ tcp_option_word b → a ≡ b
tcp_option_word-injective a b m n e =
    same-parts a b m n (sym (option-parts (tcp_option_word b) a m (sym e)) ∙ option-parts (tcp_option_word b) b n refl)

pub IsTextOption-tcp : (o : TcpOptionView) → IsTcpOption o → IsTextOption o
IsTextOption-tcp TcpNop is = tt
IsTextOption-tcp (TcpMss size) is = is
IsTextOption-tcp (TcpScale shift) is = is
IsTextOption-tcp TcpSackOk is = tt
IsTextOption-tcp (TcpSack blocks) is = is
IsTextOption-tcp (TcpTimes value echo) is = is
IsTextOption-tcp (TcpOther kind octets) is = (is.0.kind_range, (is.0.each, omega (arith, is.0.bound)))

pub as_tcp-word : (o : IpOptionView) → ip_option_word o ≡ tcp_option_word (as_tcp o)
as_tcp-word IpNop = refl
as_tcp-word (IpOther kind octets) = refl

pub IsTextOption-ip : (o : IpOptionView) → IsIpOption o → IsTextOption (as_tcp o)
IsTextOption-ip IpNop is = tt
IsTextOption-ip (IpOther kind octets) is = (is.kind_range, (is.each, omega (arith, is.bound)))

as_tcp-injective : (a b : IpOptionView) → as_tcp a ≡ as_tcp b → a ≡ b
as_tcp-injective IpNop IpNop e = refl
as_tcp-injective IpNop (IpOther kind octets) e = cc e
as_tcp-injective (IpOther kind octets) IpNop e = cc e
as_tcp-injective (IpOther kind octets) (IpOther other more) e = cc e

pub ip_option_word-injective : (a b : IpOptionView) → IsTextOption (as_tcp a) → IsTextOption (as_tcp b) → ip_option_word a ≡ ip_option_word b → a ≡ b
ip_option_word-injective a b m n e =
    as_tcp-injective a b (tcp_option_word-injective (as_tcp a) (as_tcp b) m n (sym (as_tcp-word a) ∙ e ∙ as_tcp-word b))

-- it is in no word of an option
pub lacks-word : (separator : Separator) → IsOutside separator → (o : TcpOptionView) → IsTextOption o → Lacks (octet_of separator) (tcp_option_word o)
lacks-word separator out TcpNop is = out.nop
lacks-word separator out (TcpMss size) is = Lacks-append (octet_of separator) (codes "mss:") (decimal size) out.mss (Lacks-decimal separator size (omega (arith, is)))
lacks-word separator out (TcpScale shift) is = Lacks-append (octet_of separator) (codes "scale:") (decimal shift) out.scale (Lacks-decimal separator shift (omega (arith, is)))
lacks-word separator out TcpSackOk is = out.sackok
lacks-word separator out (TcpSack blocks) is = Lacks-append (octet_of separator) (codes "sack:") (blocks_word blocks) out.sack (lacks-blocks separator out.slash blocks is.2)
lacks-word separator out (TcpTimes value echo) is =
    Lacks-append (octet_of separator) ((codes "ts:" ++ decimal value) ++ codes ":") (decimal echo)
    (Lacks-append (octet_of separator) (codes "ts:" ++ decimal value) (codes ":") (Lacks-append (octet_of separator) (codes "ts:") (decimal value) out.times (Lacks-decimal separator value (omega (arith, is.0)))) out.colon)
    (Lacks-decimal separator echo (omega (arith, is.1)))
lacks-word separator out (TcpOther kind octets) is =
    Lacks-append (octet_of separator) ((codes "opt:" ++ decimal kind) ++ codes ":") (hex_word octets)
    (Lacks-append (octet_of separator) (codes "opt:" ++ decimal kind) (codes ":") (Lacks-append (octet_of separator) (codes "opt:") (decimal kind) out.opt (Lacks-decimal separator kind (omega (arith, is.0)))) out.colon)
    (Lacks-hex_word separator octets is.1.0)

pub tcp-readable : HaveWords tcp_option_word IsTcpOption
tcp-readable = record {
  one = λ a b m n e. tcp_option_word-injective a b (IsTextOption-tcp a m) (IsTextOption-tcp b n) e;
  lacks = λ o is. lacks-word Comma IsOutside-comma o (IsTextOption-tcp o is);
}

pub ip-readable : HaveWords ip_option_word IsIpOption
ip-readable = record {
  one = λ a b m n e. ip_option_word-injective a b (IsTextOption-ip a m) (IsTextOption-ip b n) e;
  lacks = λ o is. subst (Lacks 44) (sym (as_tcp-word o)) (lacks-word Comma IsOutside-comma (as_tcp o) (IsTextOption-ip o is));
}

-- What was read behind the name tells of the whole word.
pub option-named : (word name : List ℕ) (rest : List (List ℕ)) (r : Result TcpOption BadLine) → parts_of 58 word ≡ name ∷ rest → IsReadBy tcp_option_view option_rest (IsNamed name) rest r
    → IsReadBy tcp_option_view tcp_option_word IsTextOption word r
option-named word name rest (Ok t) found read =
    let o = tcp_option_view t in
    (read.0.0, option-found word o (found ∙ ap (λ n. n ∷ rest) (sym read.0.1) ∙ ap (λ l. option_name o ∷ l) read.1))
option-named word name rest (Err b) found read = λ o is same.
    let all : name ∷ rest ≡ option_name o ∷ option_rest o = sym found ∙ option-parts word o is same in
    read o (is, sym (first all)) (others all)

-- the parts are none that stand behind the name of this option
abbrev pub Differs : (rest : List (List ℕ)) → TcpOptionView → Type 0
Differs rest o = IsTextOption o → rest ≢ option_rest o

-- a name that no option has
pub no-name : (name : List ℕ) → name ≢ codes "nop" → name ≢ codes "ts" → name ≢ codes "sack" → name ≢ codes "mss" → name ≢ codes "sackok" → name ≢ codes "scale" → name ≢ codes "opt"
    → (o : TcpOptionView) → name ≢ option_name o
no-name name nop times sack mss permitted scale opt TcpNop = nop
no-name name nop times sack mss permitted scale opt (TcpMss size) = mss
no-name name nop times sack mss permitted scale opt (TcpScale shift) = scale
no-name name nop times sack mss permitted scale opt TcpSackOk = permitted
no-name name nop times sack mss permitted scale opt (TcpSack blocks) = sack
no-name name nop times sack mss permitted scale opt (TcpTimes value echo) = times
no-name name nop times sack mss permitted scale opt (TcpOther kind octets) = opt

pub block-readable : HaveWords block_word IsSackBlock
block-readable = record {
  one = block_word-injective;
  lacks = λ block is. lacks-block Comma block is;
}
