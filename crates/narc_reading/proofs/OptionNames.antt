-- What the name of an option tells.
use Rattle.std.proofs.Common.{◌≡◌, ℕ, ◌+◌, ◌*◌, List, [], ◌∷◌, codes, length, ap, arith}
use Rattle.narc_packet.specs.Options.{TcpOptionView, TcpNop, TcpMss, TcpScale, TcpSackOk, TcpSack, TcpTimes, TcpOther}
use Rattle.narc_packet.specs.declared.blocks.SackBlock.{SackBlock}
use Rattle.narc_reading.specs.OptionParts.{option_name}

-- a number that is another for each name
abbrev mark : List ℕ → ℕ
mark [] = 0
mark (o ∷ l) = o + 3 * length (o ∷ l)

pub nop-only : (P : TcpOptionView → Type 0) (o : TcpOptionView) → option_name o ≡ codes "nop" → P TcpNop → P o
nop-only P TcpNop e here = here
nop-only P (TcpMss size) e here = absurd (omega (arith, ap mark e))
nop-only P (TcpScale shift) e here = absurd (omega (arith, ap mark e))
nop-only P TcpSackOk e here = absurd (omega (arith, ap mark e))
nop-only P (TcpSack blocks) e here = absurd (omega (arith, ap mark e))
nop-only P (TcpTimes value echo) e here = absurd (omega (arith, ap mark e))
nop-only P (TcpOther kind octets) e here = absurd (omega (arith, ap mark e))

pub mss-only : (P : TcpOptionView → Type 0) (o : TcpOptionView) → option_name o ≡ codes "mss" → ((size : ℕ) → P (TcpMss size)) → P o
mss-only P TcpNop e here = absurd (omega (arith, ap mark e))
mss-only P (TcpMss size) e here = here size
mss-only P (TcpScale shift) e here = absurd (omega (arith, ap mark e))
mss-only P TcpSackOk e here = absurd (omega (arith, ap mark e))
mss-only P (TcpSack blocks) e here = absurd (omega (arith, ap mark e))
mss-only P (TcpTimes value echo) e here = absurd (omega (arith, ap mark e))
mss-only P (TcpOther kind octets) e here = absurd (omega (arith, ap mark e))

pub scale-only : (P : TcpOptionView → Type 0) (o : TcpOptionView) → option_name o ≡ codes "scale" → ((shift : ℕ) → P (TcpScale shift)) → P o
scale-only P TcpNop e here = absurd (omega (arith, ap mark e))
scale-only P (TcpMss size) e here = absurd (omega (arith, ap mark e))
scale-only P (TcpScale shift) e here = here shift
scale-only P TcpSackOk e here = absurd (omega (arith, ap mark e))
scale-only P (TcpSack blocks) e here = absurd (omega (arith, ap mark e))
scale-only P (TcpTimes value echo) e here = absurd (omega (arith, ap mark e))
scale-only P (TcpOther kind octets) e here = absurd (omega (arith, ap mark e))

pub permitted-only : (P : TcpOptionView → Type 0) (o : TcpOptionView) → option_name o ≡ codes "sackok" → P TcpSackOk → P o
permitted-only P TcpNop e here = absurd (omega (arith, ap mark e))
permitted-only P (TcpMss size) e here = absurd (omega (arith, ap mark e))
permitted-only P (TcpScale shift) e here = absurd (omega (arith, ap mark e))
permitted-only P TcpSackOk e here = here
permitted-only P (TcpSack blocks) e here = absurd (omega (arith, ap mark e))
permitted-only P (TcpTimes value echo) e here = absurd (omega (arith, ap mark e))
permitted-only P (TcpOther kind octets) e here = absurd (omega (arith, ap mark e))

pub sack-only : (P : TcpOptionView → Type 0) (o : TcpOptionView) → option_name o ≡ codes "sack" → ((blocks : List SackBlock) → P (TcpSack blocks)) → P o
sack-only P TcpNop e here = absurd (omega (arith, ap mark e))
sack-only P (TcpMss size) e here = absurd (omega (arith, ap mark e))
sack-only P (TcpScale shift) e here = absurd (omega (arith, ap mark e))
sack-only P TcpSackOk e here = absurd (omega (arith, ap mark e))
sack-only P (TcpSack blocks) e here = here blocks
sack-only P (TcpTimes value echo) e here = absurd (omega (arith, ap mark e))
sack-only P (TcpOther kind octets) e here = absurd (omega (arith, ap mark e))

pub times-only : (P : TcpOptionView → Type 0) (o : TcpOptionView) → option_name o ≡ codes "ts" → ((value echo : ℕ) → P (TcpTimes value echo)) → P o
times-only P TcpNop e here = absurd (omega (arith, ap mark e))
times-only P (TcpMss size) e here = absurd (omega (arith, ap mark e))
times-only P (TcpScale shift) e here = absurd (omega (arith, ap mark e))
times-only P TcpSackOk e here = absurd (omega (arith, ap mark e))
times-only P (TcpSack blocks) e here = absurd (omega (arith, ap mark e))
times-only P (TcpTimes value echo) e here = here value echo
times-only P (TcpOther kind octets) e here = absurd (omega (arith, ap mark e))

pub opt-only : (P : TcpOptionView → Type 0) (o : TcpOptionView) → option_name o ≡ codes "opt" → ((kind : ℕ) (octets : List ℕ) → P (TcpOther kind octets)) → P o
opt-only P TcpNop e here = absurd (omega (arith, ap mark e))
opt-only P (TcpMss size) e here = absurd (omega (arith, ap mark e))
opt-only P (TcpScale shift) e here = absurd (omega (arith, ap mark e))
opt-only P TcpSackOk e here = absurd (omega (arith, ap mark e))
opt-only P (TcpSack blocks) e here = absurd (omega (arith, ap mark e))
opt-only P (TcpTimes value echo) e here = absurd (omega (arith, ap mark e))
opt-only P (TcpOther kind octets) e here = here kind octets
