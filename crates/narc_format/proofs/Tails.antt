-- What follows from the laws of a tail.
use Rattle.std.proofs.Common.{Bool, List, inl, inr}
use Rattle.narc_bits.specs.Scan.{bits_left}
use Rattle.narc_format.specs.declared.fault.Fault.{Fault}
use Rattle.narc_format.specs.Meaning.{Meaning}
use Rattle.narc_format.specs.Laws.{TailLaws}
use Rattle.narc_format.specs.Exactness.{AdmitsExactly, IsAllReadAs, IsAllRefusedAs, IsAllDecided, ReadsAllExactly, IsAllReadBack}

module _ {C V : Type 0} (m : Meaning C V) (laws : TailLaws m) (sound : m.sound) where
  pub admits_exactly : AdmitsExactly m
  admits_exactly = record {
    exact = λ c valid v. (λ a. (m.spelling c v, laws.spelling_stands sound c valid v a), λ p. laws.admitted sound c valid v p.0 p.1);
  }

  pub read_as : (c : C) (b : List Bool) (v : V) → m.stands c v b → IsAllReadAs m c b v
  read_as c b v stood = record {
    stood = stood;
    others = λ w p. laws.one_reading sound c v w b stood p;
    unrefused = λ f q. laws.never_both sound c v b f stood q;
  }

  pub refused_as : (c : C) (b : List Bool) (f : Fault) → m.refuses c b f → IsAllRefusedAs m c b f
  refused_as c b f q = record {
    only = record { refused = q; others = λ g r. laws.one_fault sound c b f g q r; within = laws.within sound c b f q };
    unread = λ v p. laws.never_both sound c v b f p q;
  }

  pub decided : IsAllDecided m
  decided = record {
    decided = λ c valid b fits. elim (laws.read_or_refused sound c valid b fits) [
      | inl r ↦ inl (r.found, read_as c b r.found r.stood)
      | inr r ↦ inr (r.fault, refused_as c b r.fault r.refused)
    ];
  }

  pub reads_exactly : ReadsAllExactly m
  reads_exactly = record {
    took = λ c old new before after v t. read_as c (bits_left old) v t.stood;
    refused = λ c old new before after f r. refused_as c (bits_left old) f r.fault;
  }

  pub read_back : IsAllReadBack m
  read_back = record {
    back = λ c valid v a. read_as c (m.spelling c v) v (laws.spelling_stands sound c valid v a);
  }
