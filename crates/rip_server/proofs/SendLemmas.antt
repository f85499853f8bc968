-- What one call of a door does, as acts.
use Rattle.std.proofs.Common.{◌≡◌, ◌≢◌, ℕ, Bool, true, false, cond, eqb, List, [], ◌∷◌, ◌++◌, Option, Some, None, refl, sym, ap, subst, ◌∙◌, append-nil}
use Rattle.std.specs.Prelude.{option_map}
use Rattle.std.proofs.lemmas.Bool.{eqb-true, eqb-false}
use Rattle.rip_outer.specs.Connections.{Told, lost, hushed, also_shut}
use Rattle.rip_outer.specs.Outside.{also, Front}
use Rattle.rip_outer.proofs.Composing.{also-nil}
use Rattle.rip_history.specs.Connections.{Act, puts, sends, loses, shuts, answer_acts}
use Rattle.rip_server.specs.Acts.{Seen, Did, Stopped}
use Rattle.rip_server.proofs.ActLemmas.{did_none, stopped_same}

-- of a door of which nothing but the bytes sent on one connection has changed
pub record SameBut (c : ℕ) (a b : Seen) : Type 0 where
  pub others : (d : ℕ) → d ≢ c → b.sent d ≡ a.sent d
  pub shut : b.shut ≡ a.shut
  pub asked : b.asked ≡ a.asked
  pub held : b.held ≡ a.held

pub sent_done : (a b : Seen) (c : ℕ) (bytes : List ℕ) → SameBut c a b → b.sent c ≡ also bytes (a.sent c)
    → b.telling.told ≡ also [] a.telling.told → b.telling.left ≡ a.telling.left → Did (sends c bytes ∷ []) a b
sent_done a b c bytes same more told left = record {
  sent = λ d. by_number d (eqb c d) refl;
  told = told;
  left = left;
  shut = same.shut;
  asked = same.asked;
  held = same.held ∙ also-nil a.held;
}
  where
    by_number : (d : ℕ) (t : Bool) → eqb c d ≡ t → b.sent d ≡ also (cond t (bytes ++ []) []) (a.sent d)
    by_number d true is =
        subst (λ (x : ℕ). b.sent x ≡ also (bytes ++ []) (a.sent x)) (eqb-true c d is)
        (more ∙ ap (λ (t : List ℕ). also t (a.sent c)) (sym (append-nil bytes)))
    by_number d false is = same.others d (λ e. eqb-false c d is (sym e)) ∙ also-nil (a.sent d)

pub sent_lost : (a b : Seen) (c : ℕ) → SameBut c a b → b.sent c ≡ a.sent c
    → b.telling.told ≡ also (lost c ∷ []) a.telling.told → b.telling.left ≡ option_map (hushed c) a.telling.left → Did (loses c ∷ []) a b
sent_lost a b c same none told left = record {
  sent = λ d. by_number d (eqb c d) refl ∙ also-nil (a.sent d);
  told = told;
  left = left;
  shut = same.shut;
  asked = same.asked;
  held = same.held ∙ also-nil a.held;
}
  where
    by_number : (d : ℕ) (t : Bool) → eqb c d ≡ t → b.sent d ≡ a.sent d
    by_number d true is = subst (λ (x : ℕ). b.sent x ≡ a.sent x) (eqb-true c d is) none
    by_number d false is = same.others d (λ e. eqb-false c d is (sym e))

pub shut_done : (a b : Seen) (c : ℕ) → ((d : ℕ) → b.sent d ≡ a.sent d) → b.telling.told ≡ a.telling.told
    → b.telling.left ≡ option_map (hushed c) a.telling.left → b.shut ≡ also_shut c a.telling.told a.shut → b.asked ≡ a.asked → b.held ≡ a.held
    → Did (shuts c ∷ []) a b
shut_done a b c sent told left shut asked held = record {
  sent = λ d. sent d ∙ also-nil (a.sent d);
  told = told ∙ also-nil a.telling.told;
  left = left;
  shut = shut;
  asked = asked;
  held = held ∙ also-nil a.held;
}

-- a front of the bytes of an answer was sent
pub sent_in_part : (a b : Seen) (c : ℕ) (close : Bool) (bytes : List ℕ) → SameBut c a b → Front bytes (a.sent c) (b.sent c)
    → b.telling.told ≡ also [] a.telling.told → b.telling.left ≡ a.telling.left → Stopped (answer_acts false close c bytes) a b
sent_in_part a b c true bytes same f told left = record {
  done = [];
  others = sends c bytes ∷ shuts c ∷ [];
  parts = refl;
  mid = a;
  did = did_none a;
  in_part = (f.front, f.rest, f.parts, sent_done a b c f.front same f.added told left);
}
sent_in_part a b c false bytes same f told left = record {
  done = [];
  others = sends c bytes ∷ [];
  parts = refl;
  mid = a;
  did = did_none a;
  in_part = (f.front, f.rest, f.parts, sent_done a b c f.front same f.added told left);
}

-- nothing was sent
pub unsent : (a b : Seen) (c : ℕ) (acts : List Act) → SameBut c a b → b.sent c ≡ a.sent c → b.telling.told ≡ also [] a.telling.told
    → b.telling.left ≡ a.telling.left → Stopped acts a b
unsent a b c acts same none told left = stopped_same acts a b (record {
  sent = λ d. by_number d (eqb c d) refl ∙ also-nil (a.sent d);
  told = told;
  left = left;
  shut = same.shut;
  asked = same.asked;
  held = same.held ∙ also-nil a.held;
})
  where
    by_number : (d : ℕ) (t : Bool) → eqb c d ≡ t → b.sent d ≡ a.sent d
    by_number d true is = subst (λ (x : ℕ). b.sent x ≡ a.sent x) (eqb-true c d is) none
    by_number d false is = same.others d (λ e. eqb-false c d is (sym e))
