-- What follows from the laws of a format.
use Rattle.std.proofs.Common.{◌≡◌, Bool, List, [], ◌++◌, sym, ◌∙◌, subst, refl, inl, inr, append-nil}
use Rattle.std.proofs.lemmas.List.{append_cancel_left}
use Rattle.narc_bits.specs.Scan.{bits_left}
use Rattle.narc_format.specs.declared.fault.Fault.{Fault}
use Rattle.narc_format.specs.Meaning.{Meaning}
use Rattle.narc_format.specs.Laws.{Laws}
use Rattle.narc_format.specs.Exactness.{AdmitsExactly, IsFrontFree, IsReadAs, IsRefusedAs, IsDecided, ReadsExactly, IsReadBack}

module _ {C V : Type 0} (m : Meaning C V) (laws : Laws m) (sound : m.sound) where
  pub admits_exactly : AdmitsExactly m
  admits_exactly = record {
    exact = λ c valid v. (λ a. (m.spelling c v, laws.spelling_stands sound c valid v a), λ p. laws.admitted sound c valid v p.0 p.1);
  }

  nothing_more : (b e : List Bool) → b ≡ b ++ e → e ≡ []
  nothing_more b e h = append_cancel_left b e [] (sym h ∙ sym (append-nil b))

  pub front_free : IsFrontFree m
  front_free = record {
    ends = λ c v w b e p q. let r = laws.one_reading sound c v w b (b ++ e) e [] p q (sym (append-nil (b ++ e))) in (nothing_more b e r.0, r.1);
  }

  pub read_as : (c : C) (b used later : List Bool) (v : V) → b ≡ used ++ later → m.stands c v used → IsReadAs m c b used v
  read_as c b used later v joined stood = record {
    stood = stood;
    others = λ w x e p h. laws.one_reading sound c v w used x later e stood p (sym joined ∙ h);
    unrefused = λ f q. laws.never_both sound c v used later f stood (subst (λ l. m.refuses c l f) joined q);
  }

  pub refused_as : (c : C) (b : List Bool) (f : Fault) → m.refuses c b f → IsRefusedAs m c b f
  refused_as c b f q = record {
    only = record { refused = q; others = λ g r. laws.one_fault sound c b f g q r; within = laws.within sound c b f q };
    unread = λ v x e p h. laws.never_both sound c v x e f p (subst (λ l. m.refuses c l f) h q);
  }

  pub decided : IsDecided m
  decided = record {
    decided = λ c valid b fits. elim (laws.read_or_refused sound c valid b fits) [
      | inl r ↦ inl (r.used, r.found, read_as c b r.used r.later r.found r.joined r.stood)
      | inr r ↦ inr (r.fault, refused_as c b r.fault r.refused)
    ];
  }

  pub reads_exactly : ReadsExactly m
  reads_exactly = record {
    took = λ c old new before after v t. read_as c (bits_left old) t.used t.later v t.joined t.stood;
    refused = λ c old new before after f r. refused_as c (bits_left old) f r.fault;
  }

  pub read_back : IsReadBack m
  read_back = record {
    back = λ c valid v a later. read_as c (m.spelling c v ++ later) (m.spelling c v) later v refl (laws.spelling_stands sound c valid v a);
  }
