-- The marks that a list of knocks keeps say which knocks may follow.
use Rattle.std.proofs.Common.{◌≡◌, ◌≢◌, ◌+◌, ◌<◌, ◌≤◌, ◌==◌, ◌⊎◌, ◌&&◌, ◌↔◌, ℕ, zero, suc, Bool, true, false, cond, not, nat_lt, nat_le, List, [], ◌∷◌, ◌++◌, map, length, get_or, set, count_by, Contains, inl, inr, refl, sym, subst, ap, ◌∙◌, eq-eqb, arith, length-append}
use Rattle.std.proofs.lemmas.Bool.{eqb-true, ltb-true, leb-true, lt-ltb, le-leb, and_parts, and_from, not-true, not_from_false, cases_lt, false_from_ne_true}
use Rattle.std.proofs.lemmas.List.{map-append, length-set}
use Rattle.std.proofs.lemmas.List.Elements.{Contains-push_cases, Contains-append_left, Contains-push}
use Rattle.rip_outer.specs.Connections.{Told, knocked, lost, is_opening, IsLive}
use Rattle.rip_outer.specs.KnockLists.{MayFollow, AreKnocks, IsKnockList, is_here, allows, marked, HasMark}
use Rattle.rip_outer.specs.declared.connections.TraceKnock.{TraceKnock}
use Rattle.rip_outer.specs.declared.connections.TraceKnock.TheVariants.{Opened, Bytes, Gone, Quiet}
use Rattle.rip_outer.proofs.Telling.{openings_push, each_push, get_more, set_mark}

-- knocks tell of no lost connection
never_lost : (ks : List TraceKnock) (c k : ℕ) → k < length (map knocked ks) → get_or (map knocked ks) k (lost c) ≡ lost c → ⊥
never_lost [] c k within e = absurd (omega arith)
never_lost (j ∷ ks) c zero within e = cc
never_lost (j ∷ ks) c (suc k) within e = never_lost ks c k (omega arith) e

live : (ks : List TraceKnock) (gone : List Bool) (c : ℕ) → IsKnockList ks gone → is_here gone c ≡ true → IsLive (map knocked ks) [] c
live ks gone c h e =
    let parts = and_parts (nat_lt c (length gone)) (not (get_or gone c false)) e in
    record {
      opened = (h.opened c).1 (ltb-true c (length gone) parts.0);
      not_gone = λ g. let marked_gone = (h.gone_ones c).0 g in let here = not-true (get_or gone c false) parts.1 in cc;
      not_lost = λ l. never_lost ks c l.0 l.1 l.2;
      not_shut = λ s. absurd (omega (arith, s.1));
    }

here : (ks : List TraceKnock) (gone : List Bool) (c : ℕ) → IsKnockList ks gone → IsLive (map knocked ks) [] c → is_here gone c ≡ true
here ks gone c h l =
    and_from (nat_lt c (length gone)) (not (get_or gone c false)) (lt-ltb c (length gone) ((h.opened c).0 l.opened))
    (not_from_false (get_or gone c false) (false_from_ne_true (get_or gone c false) (λ e. l.not_gone ((h.gone_ones c).1 e))))

-- what the marks allow may follow
pub follows_allowed : (ks : List TraceKnock) (gone : List Bool) (k : TraceKnock) → IsKnockList ks gone → allows gone k ≡ true → MayFollow (map knocked ks) k
follows_allowed ks gone (Opened c) h e = record { fits = tt; allowed = eqb-true c (length gone) e ∙ h.numbered }
follows_allowed ks gone (Bytes c bytes) h e =
    let parts = and_parts (is_here gone c && nat_le 1 (length bytes)) (nat_le (length bytes) 4096) e in
    let first = and_parts (is_here gone c) (nat_le 1 (length bytes)) parts.0 in
    record {
      fits = (leb-true 1 (length bytes) first.1, leb-true (length bytes) 4096 parts.1);
      allowed = live ks gone c h first.0;
    }
follows_allowed ks gone (Gone c) h e = record { fits = tt; allowed = live ks gone c h e }
follows_allowed ks gone Quiet h e = record { fits = tt; allowed = tt }

-- a going that they allow is of a connection that has a mark
pub reaches : (gone : List Bool) (k : TraceKnock) → allows gone k ≡ true → HasMark gone k
reaches gone (Opened c) e = tt
reaches gone (Bytes c bytes) e = tt
reaches gone (Gone c) e = ltb-true c (length gone) (and_parts (nat_lt c (length gone)) (not (get_or gone c false)) e).0
reaches gone Quiet e = tt

-- and nothing else
pub allowed_follows : (ks : List TraceKnock) (gone : List Bool) (k : TraceKnock) → IsKnockList ks gone → MayFollow (map knocked ks) k → allows gone k ≡ true
allowed_follows ks gone (Opened c) h m = eq-eqb c (length gone) (m.allowed ∙ sym h.numbered)
allowed_follows ks gone (Bytes c bytes) h m =
    and_from (is_here gone c && nat_le 1 (length bytes)) (nat_le (length bytes) 4096)
    (and_from (is_here gone c) (nat_le 1 (length bytes)) (here ks gone c h m.allowed) (le-leb 1 (length bytes) m.fits.0))
    (le-leb (length bytes) 4096 m.fits.1)
allowed_follows ks gone (Gone c) h m = here ks gone c h m.allowed
allowed_follows ks gone Quiet h m = refl

-- what is among the knocks and one more
in_more : (ks : List TraceKnock) (k : TraceKnock) (x : Told) → Contains (map knocked (ks ++ k ∷ [])) x → Contains (map knocked ks) x ⊎ (knocked k ≡ x)
in_more ks k x h = Contains-push_cases (map knocked ks) (knocked k) x (subst (λ ts. Contains ts x) (map-append knocked ks (k ∷ [])) h)

more_old : (ks : List TraceKnock) (k : TraceKnock) (x : Told) → Contains (map knocked ks) x → Contains (map knocked (ks ++ k ∷ [])) x
more_old ks k x h = subst (λ ts. Contains ts x) (sym (map-append knocked ks (k ∷ []))) (Contains-append_left (map knocked ks) (knocked k ∷ []) x h)

more_new : (ks : List TraceKnock) (k : TraceKnock) → Contains (map knocked (ks ++ k ∷ [])) (knocked k)
more_new ks k = subst (λ ts. Contains ts (knocked k)) (sym (map-append knocked ks (k ∷ []))) (Contains-push (map knocked ks) (knocked k))

-- another knock changes nothing of what is among them
same_more : (ks : List TraceKnock) (k : TraceKnock) (x : Told) (P : Type 0) → knocked k ≢ x → Contains (map knocked ks) x ↔ P → Contains (map knocked (ks ++ k ∷ [])) x ↔ P
same_more ks k x P other same =
    (λ h. elim (in_more ks k x h) [ inl before ↦ same.0 before | inr e ↦ absurd (other e) ], λ p. more_old ks k x (same.1 p))

count_more : (ks : List TraceKnock) (k : TraceKnock) → count_by is_opening (map knocked (ks ++ k ∷ [])) ≡ count_by is_opening (map knocked ks) + cond (is_opening (knocked k)) 1 0
count_more ks k = ap (λ ts. count_by is_opening ts) (map-append knocked ks (k ∷ [])) ∙ openings_push (map knocked ks) (knocked k)

knocks_more : (ks : List TraceKnock) (gone : List Bool) (k : TraceKnock) → IsKnockList ks gone → MayFollow (map knocked ks) k → AreKnocks (ks ++ k ∷ [])
knocks_more ks gone k h m = record { each = each_push [] ks k h.knocks.each m }

opened_more : (ks : List TraceKnock) (gone : List Bool) (d c : ℕ) → IsKnockList ks gone → MayFollow (map knocked ks) (Opened d)
    → Contains (map knocked (ks ++ Opened d ∷ [])) (knocked (Opened c)) ↔ (c < length (gone ++ false ∷ []))
opened_more ks gone d c h m =
    let next : d ≡ length gone = m.allowed ∙ sym h.numbered in
    let grown : length (gone ++ false ∷ []) ≡ length gone + 1 = length-append gone (false ∷ []) in (
      λ i. elim (in_more ks (Opened d) (knocked (Opened c)) i) [
        | inl before ↦ (let lt : c < length gone = (h.opened c).0 before in omega arith)
        | inr e ↦ (let same : d ≡ c = cc in omega arith)
      ],
      λ lt. elim (cases_lt c (length gone)) [
        | inl below ↦ more_old ks (Opened d) (knocked (Opened c)) ((h.opened c).1 below)
        | inr above ↦ (let same : d ≡ c = omega arith in subst (λ n. Contains (map knocked (ks ++ Opened d ∷ [])) (knocked (Opened n))) same (more_new ks (Opened d)))
      ],
    )

gone_more : (ks : List TraceKnock) (gone : List Bool) (d c : ℕ) → IsKnockList ks gone → MayFollow (map knocked ks) (Gone d)
    → Contains (map knocked (ks ++ Gone d ∷ [])) (knocked (Gone c)) ↔ (get_or (set gone d true) c false ≡ true)
gone_more ks gone d c h m =
    let within : d < length gone = (h.opened d).0 m.allowed.opened in (
      λ i. set_mark gone d c within ∙ to (in_more ks (Gone d) (knocked (Gone c)) i),
      λ e. from (c == d) refl (sym (set_mark gone d c within) ∙ e),
    )
  where
    all_true : (b : Bool) → cond b true true ≡ true
    all_true true = refl
    all_true false = refl

    to : Contains (map knocked ks) (knocked (Gone c)) ⊎ (knocked (Gone d) ≡ knocked (Gone c)) → cond (c == d) true (get_or gone c false) ≡ true
    to (inl before) = ap (λ b. cond (c == d) true b) ((h.gone_ones c).0 before) ∙ all_true (c == d)
    to (inr e) = ap (λ b. cond b true (get_or gone c false)) (eq-eqb c d (let same : c ≡ d = cc in same))

    from : (b : Bool) → (c == d) ≡ b → cond b true (get_or gone c false) ≡ true → Contains (map knocked (ks ++ Gone d ∷ [])) (knocked (Gone c))
    from true e i = subst (λ n. Contains (map knocked (ks ++ Gone d ∷ [])) (knocked (Gone n))) (sym (eqb-true c d e)) (more_new ks (Gone d))
    from false e i = more_old ks (Gone d) (knocked (Gone c)) ((h.gone_ones c).1 i)

-- the marks after a knock that may follow
pub marks_more : (ks : List TraceKnock) (gone : List Bool) (k : TraceKnock) → IsKnockList ks gone → MayFollow (map knocked ks) k → IsKnockList (ks ++ k ∷ []) (marked gone k)
marks_more ks gone (Opened d) h m = record {
  knocks = knocks_more ks gone (Opened d) h m;
  numbered = length-append gone (false ∷ []) ∙ ap (λ n. n + 1) h.numbered ∙ sym (count_more ks (Opened d));
  opened = λ c. opened_more ks gone d c h m;
  gone_ones = λ c. same_more ks (Opened d) (knocked (Gone c)) (get_or (gone ++ false ∷ []) c false ≡ true) (λ e. cc)
      (λ i. get_more gone c ∙ (h.gone_ones c).0 i, λ e. (h.gone_ones c).1 (sym (get_more gone c) ∙ e));
}
marks_more ks gone (Bytes d bytes) h m = record {
  knocks = knocks_more ks gone (Bytes d bytes) h m;
  numbered = omega (arith, h.numbered, count_more ks (Bytes d bytes));
  opened = λ c. same_more ks (Bytes d bytes) (knocked (Opened c)) (c < length gone) (λ e. cc) (h.opened c);
  gone_ones = λ c. same_more ks (Bytes d bytes) (knocked (Gone c)) (get_or gone c false ≡ true) (λ e. cc) (h.gone_ones c);
}
marks_more ks gone (Gone d) h m = record {
  knocks = knocks_more ks gone (Gone d) h m;
  numbered = omega (arith, h.numbered, count_more ks (Gone d), length-set gone d true);
  opened = λ c. same_more ks (Gone d) (knocked (Opened c)) (c < length (set gone d true)) (λ e. cc)
      (λ i. rw length-set ((h.opened c).0 i), λ lt. (h.opened c).1 (rw length-set at lt));
  gone_ones = λ c. gone_more ks gone d c h m;
}
marks_more ks gone Quiet h m = record {
  knocks = knocks_more ks gone Quiet h m;
  numbered = omega (arith, h.numbered, count_more ks Quiet);
  opened = λ c. same_more ks Quiet (knocked (Opened c)) (c < length gone) (λ e. cc) (h.opened c);
  gone_ones = λ c. same_more ks Quiet (knocked (Gone c)) (get_or gone c false ≡ true) (λ e. cc) (h.gone_ones c);
}

-- no knocks, and no marks
pub marks_of_none : IsKnockList [] []
marks_of_none = record {
  knocks = record { each = tt };
  numbered = refl;
  opened = λ c. (λ i. absurd (omega (arith, i.1)), λ lt. absurd (omega arith));
  gone_ones = λ c. (λ i. absurd (omega (arith, i.1)), λ e. absurd (cc));
}
