-- The first line of a text, and one line more.
use Rattle.std.proofs.Common.{◌≡◌, ℕ, ◌+◌, ◌-◌, ◌<◌, ◌≤◌, ◌⊎◌, inl, inr, true, false, List, [], ◌∷◌, ◌++◌, length, take, Option, Result, Ok, Err, refl, sym, ap, ◌∙◌, subst, arith, append_assoc, append-nil, length-append}
use Rattle.std.specs.Prelude.{is_err}
use Rattle.std.proofs.lemmas.List.{take_at, flat_map_more}
use Rattle.narc_build.specs.declared.limits.TheConstants.{LINE_BUFFER, OUTPUT_BUFFER}
use Rattle.narc_world.specs.Outside.{TakesFront}
use Rattle.narc_world.specs.Intake.{IsFresh, taken}
use Rattle.narc_text.specs.Printing.{Passes}
use Rattle.narc_world.proofs.Fronts.{TakesFront-append}
use Rattle.narc_text.proofs.Printings.{Appends-nil, Passes-then}
use Rattle.narc_world.specs.declared.input_buffer.TheConstants.{INPUT_LIMIT}
use Rattle.narc_pcap.specs.declared.header.Unit.{Unit as TimeUnit}
use Rattle.narc_pcap.specs.Written.{Gathered, header_octets}
use Rattle.narc_pcap.proofs.WrittenSizes.{header-size, whole_record-size}
use Rattle.narc_lines.specs.Lines.{IsLine}
use Rattle.narc_lines.specs.Reading.{Reading}
use Rattle.narc_lines.specs.Reading as reading
use Rattle.narc_packet.specs.Canonical.{canonical_frame}
use Rattle.narc_reading.specs.declared.error.BadLine.{BadLine}
use Rattle.narc_build.specs.declared.limits.TheConstants.{LONGEST_LINE}
use Rattle.narc_text.specs.CaptureText.{TextEntry, IsTextEntry, unit_word, capture_line, entry_line}
use Rattle.narc_build.specs.CaptureFront.{TextCapture, begun_text}
use Rattle.narc_build.specs.BuiltLine.{IsHeaderBuilt, empty_text}
use Rattle.narc_build.specs.BuiltCapture.{built_capture, built_header, built_record}
use Rattle.narc_build.proofs.TextSoFar.{BuildsSoFar}
use Rattle.narc_build.proofs.CaptureFronts.{All-push}

-- a line with its line feed is what was passed
pub line_back : (passed line : List ℕ) → IsLine passed → line ≡ take (length passed - 1) passed → line ++ 10 ∷ [] ≡ passed
line_back passed line p e =
    let few : length p.line ≡ length passed - 1 = omega (arith, ap length p.is, length-append p.line (10 ∷ [])) in
    let same : line ≡ p.line = e ∙ ap (take (length passed - 1)) p.is ∙ take_at p.line (10 ∷ []) (length passed - 1) few in
    ap (λ l. l ++ 10 ∷ []) same ∙ sym p.is

built_size : (unit : TimeUnit) (snap : ℕ) → length (built_capture (empty_text unit snap)) ≡ 24
built_size unit snap = ap length (append-nil (header_octets (built_header (empty_text unit snap)))) ∙ header-size (built_header (empty_text unit snap))

module _ (fresh now : Reading) (w after : Gathered) (line : List ℕ) (x y a : Option (List ℕ)) (is_fresh : IsFresh fresh.input) (passes : reading.Passes fresh now x y)
    (lent : line ≡ take (length now.input.passed - 1) now.input.passed) (none : w.octets ≡ []) (size : after.size ≡ OUTPUT_BUFFER)
    (longest : now.longest ≡ LONGEST_LINE) (lines_size : now.input.size ≡ LINE_BUFFER) (reach : taken now.input ≤ INPUT_LIMIT)
    (within : length now.input.passed + length now.input.hand ≤ now.input.size) where
  -- the header was built of the first line
  pub starts : (r : Result Unit BadLine) → is_err r ≡ false → IsHeaderBuilt (line ++ 10 ∷ []) w after r → BuildsSoFar now after 0 x y a a
  starts (Err f) e b = cc
  starts (Ok done) e b =
      let unit = b.0 in
      let snap = b.1 in
      let text = empty_text unit snap in
      let first : now.input.passed ≡ begun_text text = sym (line_back now.input.passed line passes.line lent) ∙ b.3 ∙ sym (append-nil (capture_line (unit_word unit) snap)) in
      let pulled : passes.pulled ≡ now.input.passed ++ now.input.hand = sym (ap (λ l. l ++ passes.pulled) is_fresh.hand) ∙ passes.hand in
      let gathered : after.octets ≡ built_capture text = b.4 ∙ ap (λ l. l ++ built_capture text) none in
      record {
        text = text;
        valid = record { snap = b.2; entries = tt };
        records_ = refl;
        few = omega arith;
        took = subst (λ l. TakesFront l x y) (pulled ∙ ap (λ l. l ++ now.input.hand) first) passes.took;
        place = omega (arith, passes.place, is_fresh.place, ap length first);
        reach = reach;
        built = record { pushed = []; appended = Appends-nil a; split = sym gathered };
        room = omega (arith, ap length gathered, built_size unit snap, within, lines_size);
        longest = longest;
        lines_size = lines_size;
        writer_size = size;
      }

-- one record more
module _ (reader now : Reading) (w after : Gathered) (records : ℕ) (x y z a b d : Option (List ℕ)) (so_far : BuildsSoFar reader w records x y a b) where
  pub goes_on : (told : Gathered) → Passes (built_capture so_far.text) told.octets a d → told.size ≡ OUTPUT_BUFFER → (e : TextEntry) → IsTextEntry e
      → (passes : reading.Passes reader now y z) → now.input.passed ≡ entry_line e → after.octets ≡ told.octets ++ built_record e → after.size ≡ told.size
      → length told.octets + (length now.input.passed + length now.input.hand) ≤ OUTPUT_BUFFER → taken now.input ≤ INPUT_LIMIT → now.longest ≡ reader.longest
      → 16 + length (canonical_frame e.packet) ≤ length (entry_line e) → BuildsSoFar now after (records + 1) x z a d
  goes_on told printed told_size e valid passes is built_ size room reach longest fits =
      let text = so_far.text in
      let more : TextCapture = record { unit = text.unit; snap = text.snap; entries = text.entries ++ e ∷ [] } in
      let lines : begun_text text ++ entry_line e ≡ begun_text more = flat_map_more entry_line (capture_line (unit_word text.unit) text.snap) text.entries e in
      let gathered : built_capture text ++ built_record e ≡ built_capture more = flat_map_more built_record (header_octets (built_header text)) text.entries e in
      let some_ : 0 < length now.input.passed = omega (arith, ap length passes.line.is, length-append passes.line.line (10 ∷ [])) in
      let behind : (begun_text text ++ reader.input.hand) ++ passes.pulled ≡ begun_text more ++ now.input.hand =
      append_assoc (begun_text text) reader.input.hand passes.pulled ∙ ap (λ l. begun_text text ++ l) passes.hand
      ∙ sym (append_assoc (begun_text text) now.input.passed now.input.hand) ∙ ap (λ l. (begun_text text ++ l) ++ now.input.hand) is ∙ ap (λ l. l ++ now.input.hand) lines in
      record {
        text = more;
        valid = record { snap = so_far.valid.snap; entries = All-push IsTextEntry text.entries e so_far.valid.entries valid };
        records_ = omega (arith, so_far.records_, length-append text.entries (e ∷ []));
        few = omega (arith, so_far.few, some_, ap length lines, ap length is, length-append (begun_text text) (entry_line e), length-append text.entries (e ∷ []));
        took = subst (λ l. TakesFront l x z) behind (TakesFront-append (begun_text text ++ reader.input.hand) passes.pulled x y z so_far.took passes.took);
        place = omega (arith, passes.place, so_far.place, ap length lines, ap length is, length-append (begun_text text) (entry_line e));
        reach = reach;
        built = subst (λ l. Passes l after.octets a d) gathered
            (Passes-then (built_capture text) (built_record e) [] told.octets after.octets a d d printed (record { pushed = []; appended = Appends-nil d; split = sym built_ }));
        room = omega (arith, room, fits, ap length built_, length-append told.octets (built_record e), whole_record-size true e.sec e.sub (canonical_frame e.packet), ap length is);
        longest = longest ∙ so_far.longest;
        lines_size = passes.size ∙ so_far.lines_size;
        writer_size = size ∙ told_size;
      }

-- what was gathered went to the sink, or stays
pub told : (lines lines_now : Reading) (w now : Gathered) (records : ℕ) (x y a b d : Option (List ℕ)) → BuildsSoFar lines w records x y a b → lines_now ≡ lines
    → Passes (w.octets ++ []) now.octets b d → now.size ≡ w.size → BuildsSoFar lines_now now records x y a d
told lines lines_now w now records x y a b d so_far same p size =
    subst (λ (r : Reading). BuildsSoFar r now records x y a d) (sym same) (record {
      text = so_far.text;
      valid = so_far.valid;
      records_ = so_far.records_;
      few = so_far.few;
      took = so_far.took;
      place = so_far.place;
      reach = so_far.reach;
      built = subst (λ l. Passes l now.octets a d) (append-nil (built_capture so_far.text)) (Passes-then (built_capture so_far.text) [] [] w.octets now.octets a b d so_far.built p);
      room = omega (arith, so_far.room, ap length (sym (append-nil w.octets) ∙ p.split), length-append p.pushed now.octets);
      longest = so_far.longest;
      lines_size = so_far.lines_size;
      writer_size = size ∙ so_far.writer_size;
    })

-- there is room for what is built of the next line and of those in hand behind it
pub room_left : (lines now : Reading) (w : Gathered) (records : ℕ) (x y a b : Option (List ℕ)) → BuildsSoFar lines w records x y a b
    → reading.IsReady lines ⊎ (w.octets ≡ []) → (reading.IsReady lines → lines.input.hand ≡ now.input.passed ++ now.input.hand)
    → length now.input.passed + length now.input.hand ≤ now.input.size → now.input.size ≡ lines.input.size
    → length w.octets + (length now.input.passed + length now.input.hand) ≤ OUTPUT_BUFFER
room_left lines now w records x y a b so_far (inl ready) in_hand within size =
    omega (arith, so_far.room, ap length (in_hand ready), length-append now.input.passed now.input.hand)
room_left lines now w records x y a b so_far (inr none) in_hand within size =
    omega (arith, ap length none, within, size, so_far.lines_size)
