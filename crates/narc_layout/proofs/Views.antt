-- A layout whose values are seen as others.
use Rattle.std.proofs.Common.{◌≡◌, ℕ, ◌↔◌, List, ◌++◌, length, Bool, drop, sym, ap, ◌∙◌, subst}
use Rattle.narc_bits.specs.Octets.{IsOctets}
use Rattle.narc_bits.specs.Bits.{bits}
use Rattle.narc_format.specs.Meaning.{Meaning}
use Rattle.narc_compose.specs.Strip.{stripped}
use Rattle.narc_compose.specs.StripLaws.{stripped_laws}
use Rattle.narc_format.specs.Rows.{Row}
use Rattle.narc_layout.proofs.Layouts.{IsShaped, IsJudged, IsLayout, Begins}

module _ {V W : Type 0} {F : Meaning (Unit {0}) W} {InRaw : W → Type 0} {raw_octets : W → List ℕ} {size : ℕ} {rows : (start skip : ℕ) → List ℕ → List Row} (L : IsLayout F InRaw raw_octets size rows)
    (see : W → V) (choose : V → W) (InRange : V → Type 0) (octets_of : V → List ℕ)
    (seen : (w : W) → InRaw w → InRange (see w)) (chosen : (v : V) → InRange v → InRaw (choose v))
    (back : (v : V) → InRange v → see (choose v) ≡ v) (same : (w : W) → InRaw w → raw_octets w ≡ octets_of (see w)) where
  abbrev view : Meaning (Unit {0}) V
  view = stripped see (λ c v. choose v) (λ v w. v ≡ w) F

  octets_chosen : (v : V) → InRange v → raw_octets (choose v) ≡ octets_of v
  octets_chosen v h = same (choose v) (chosen v h) ∙ ap octets_of (back v h)

  admits_seen : (v : V) → view.admits tt v ↔ InRange v
  unfolding stripped
  admits_seen v = (
    λ a. subst InRange a.back (seen (choose v) ((L.shape.admits (choose v)).0 a.admitted)),
    λ h. record { admitted = (L.shape.admits (choose v)).1 (chosen v h); back = back v h },
  )

  stands_seen : (v : V) (b : List Bool) → view.stands tt v b ↔ (InRange v × (b ≡ bits (octets_of v)))
  unfolding stripped
  stands_seen v b = (
    λ p. let h = (L.shape.stands p.raw b).0 p.holds in (subst InRange p.is (seen p.raw h.0), h.1 ∙ ap bits (same p.raw h.0 ∙ ap octets_of p.is)),
    λ h. record { raw = choose v; holds = (L.shape.stands (choose v) b).1 (chosen v h.0, h.1 ∙ ap bits (sym (octets_chosen v h.0))); is = back v h.0 },
  )

  shape_seen : IsShaped view InRange octets_of size
  unfolding stripped
  shape_seen = record {
    laws = stripped_laws see (λ c v. choose v) (λ v w. v ≡ w) F L.shape.laws;
    sound = record {
      part_sound = L.shape.sound;
      same = λ w x a. ap see (L.shape.alike w x a);
      chosen = λ c ok w a.
          let h = seen w ((L.shape.admits w).0 a) in
          record { admitted = (L.shape.admits (choose (see w))).1 (chosen (see w) h); back = back (see w) h };
    };
    valid = L.shape.valid;
    whole = L.shape.whole;
    depth = L.shape.depth;
    alike = λ v w e. e;
    admits = admits_seen;
    stands = stands_seen;
    sized = λ v h. ap length (sym (octets_chosen v h)) ∙ L.shape.sized (choose v) (chosen v h);
    each = λ v h. subst IsOctets (octets_chosen v h) (L.shape.each (choose v) (chosen v h));
  }

  begins_seen : (x : List ℕ) → Begins InRaw raw_octets x ↔ Begins InRange octets_of x
  begins_seen x = (
    λ p. record { found = see p.found; in_range = seen p.found p.in_range; later = p.later; joined = p.joined ∙ ap (λ l. l ++ p.later) (same p.found p.in_range) },
    λ p. record { found = choose p.found; in_range = chosen p.found p.in_range; later = p.later; joined = p.joined ∙ ap (λ l. l ++ p.later) (sym (octets_chosen p.found p.in_range)) },
  )

  refusals_seen : IsJudged view InRange octets_of rows
  unfolding stripped
  refusals_seen = record {
    refuses = L.refusals.refuses;
    passes = λ start skip x each. (
      λ h. (begins_seen (drop skip x)).0 ((L.refusals.passes start skip x each).0 h),
      λ p. (L.refusals.passes start skip x each).1 ((begins_seen (drop skip x)).1 p),
    );
    places = L.refusals.places;
  }

  pub seen_layout : IsLayout view InRange octets_of size rows
  seen_layout = record { shape = shape_seen; refusals = refusals_seen }
