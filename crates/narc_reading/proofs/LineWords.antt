-- The words of a capture's lines, by which they are read.
use Rattle.std.proofs.Common.{◌≡◌, ℕ, ◌<◌, ◌^◌, List, [], ◌∷◌, ◌++◌, codes, decimal, Result, Ok, Err, refl, sym, ap, ◌∙◌, arith, append_assoc}
use Rattle.std.proofs.lemmas.Fmt.{decimal_digit, decimal_injective}
use Rattle.std.proofs.lemmas.List.{append_cancel_right}
use Rattle.narc_bits.specs.declared.limits.TheConstants.{MAX_FRAME}
use Rattle.narc_pcap.specs.declared.header.Unit.{Unit as TimeUnit}
use Rattle.narc_pcap.specs.declared.header.Unit.TheVariants.{Micro, Nano}
use Rattle.narc_text.specs.CaptureText.{TextEntry, IsTextEntry, unit_word, capture_words, entry_words, entry_line, end_words, end_line}
use Rattle.narc_text.specs.PacketText.{packet_words, spaced, text}
use Rattle.narc_reading.specs.Parts.{parts_of}
use Rattle.narc_reading.specs.Reading.{IsReadBy}
use Rattle.narc_reading.specs.declared.error.BadLine.{BadLine}
use Rattle.narc_reading.specs.declared.parts.Separator.TheVariants.{Space}
use Rattle.narc_reading.proofs.PacketWords.{lacks-packet, readable-packet}
use Rattle.narc_reading.proofs.Separated.{Lacks, parts_of-join, join-parts_of}
use Rattle.narc_reading.proofs.WordParts.{Lacks-decimal}

-- from the words of a line to the line with its line feed
pub line-of : {T V : Type 0} (view : T → V) (words_of : V → List (List ℕ)) (line_of : V → List ℕ) (IsValue : V → Type 0) (line : List ℕ) (words : List (List ℕ)) (r : Result T BadLine)
    → ((v : V) → line_of v ≡ spaced (words_of v) ++ 10 ∷ []) → ((v : V) → IsValue v → parts_of 32 (spaced (words_of v)) ≡ words_of v)
    → words ≡ parts_of 32 line → IsReadBy view words_of IsValue words r → IsReadBy view line_of IsValue (line ++ 10 ∷ []) r
line-of view words_of line_of IsValue line words (Ok t) lines parts e read =
    (read.0, ap (λ l. l ++ 10 ∷ []) (join-parts_of 32 line (words_of (view t)) (sym e ∙ read.1)) ∙ sym (lines (view t)))
line-of view words_of line_of IsValue line words (Err b) lines parts e read =
    λ v is found. read v is (e ∙ ap (parts_of 32) (append_cancel_right line (spaced (words_of v)) (10 ∷ []) (found ∙ lines v)) ∙ parts v is)

lacks-unit : (unit : TimeUnit) → Lacks 32 (unit_word unit)
lacks-unit Micro = (refl, (refl, tt))
lacks-unit Nano = (refl, (refl, tt))

number : (n : ℕ) → n < 10 ^ 19 → Lacks 32 (decimal n)
number n h = Lacks-decimal Space n h

pub capture-parts : (unit : TimeUnit) (snap : ℕ) → snap < 2 ^ 32 → parts_of 32 (spaced (capture_words (unit_word unit) snap)) ≡ capture_words (unit_word unit) snap
capture-parts unit snap small =
    parts_of-join 32 (codes "capture") (unit_word unit ∷ decimal snap ∷ []) ((refl, (refl, (refl, (refl, (refl, (refl, (refl, tt))))))), (lacks-unit unit, (number snap (omega (arith, small)), tt)))

pub end-parts : (n : ℕ) → n < 10 ^ 19 → parts_of 32 (spaced (end_words n n 0 0)) ≡ end_words n n 0 0
end-parts n small =
    parts_of-join 32 (codes "end") (decimal n ∷ decimal n ∷ decimal 0 ∷ decimal 0 ∷ [])
    ((refl, (refl, (refl, tt))), (number n small, (number n small, (number 0 (omega arith), (number 0 (omega arith), tt)))))

-- a last line tells one count
pub end_line-injective : (m n : ℕ) → m < 10 ^ 19 → n < 10 ^ 19 → end_line m m 0 0 ≡ end_line n n 0 0 → m ≡ n
end_line-injective m n few fewer e =
    let words = append_cancel_right (spaced (end_words m m 0 0)) (spaced (end_words n n 0 0)) (10 ∷ []) e in
    let parts = sym (end-parts m few) ∙ ap (parts_of 32) words ∙ end-parts n fewer in
    let counts : decimal m ≡ decimal n = cc parts in
    decimal_injective m n (omega (arith, few)) (omega (arith, fewer)) counts

pub entry-parts : (e : TextEntry) → IsTextEntry e → parts_of 32 (spaced (entry_words e)) ≡ entry_words e
entry-parts e is =
    parts_of-join 32 (codes "rec") (decimal e.sec ∷ decimal e.sub ∷ codes "ok" ∷ packet_words e.packet) (
      (refl, (refl, (refl, tt))),
      (
        number e.sec (omega (arith, is.sec)),
        (
          number e.sub (omega (arith, is.sub)),
          (
            (refl, (refl, tt)),
            lacks-packet MAX_FRAME e.packet (readable-packet MAX_FRAME e.packet (omega arith) is.packet),
          ),
        ),
      ),
    )

-- what stands behind the numbers
abbrev rest-of : List ℕ → List ℕ
rest-of t = (codes "ok " ++ t) ++ 10 ∷ []

regrouped : (a b c d e : List ℕ) → (((a ++ b) ++ c) ++ d) ++ e ≡ a ++ (b ++ (c ++ (d ++ e)))
regrouped a b c d e = simp append_assoc

joined : (sec sub t : List ℕ)
    → ((((codes "rec " ++ sec) ++ codes " ") ++ sub) ++ codes " ") ++ ((codes "ok " ++ t) ++ 10 ∷ []) ≡ (codes "rec" ++ 32 ∷ (sec ++ 32 ∷ (sub ++ 32 ∷ (codes "ok" ++ 32 ∷ t)))) ++ 10 ∷ []
joined sec sub t =
    let rest : List ℕ = 32 ∷ (codes "ok" ++ 32 ∷ t) in
    ap (λ l. codes "rec " ++ l) (regrouped sec (codes " ") sub (codes " ") (rest-of t))
    ∙ ap (λ l. codes "rec " ++ l) (sym (append_assoc sec (32 ∷ (sub ++ rest)) (10 ∷ []) ∙ ap (λ l. sec ++ 32 ∷ l) (append_assoc sub rest (10 ∷ []))))

pub entry_line-words : (e : TextEntry) → entry_line e ≡ spaced (entry_words e) ++ 10 ∷ []
entry_line-words e = joined (decimal e.sec) (decimal e.sub) (text e.packet)

pub zero-word : decimal 0 ≡ codes "0"
zero-word = decimal_digit 0 (omega arith)
