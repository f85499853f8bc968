-- What a journal keeps, call by call.
use Rattle.std.proofs.Common.{eq-eqb, not, ◌==◌, ◌≡◌, ◌≢◌, ◌+◌, ◌<◌, ◌≤◌, ℕ, Bool, true, false, cond, List, [], ◌∷◌, ◌++◌, map, take, count_by, Contains, All, ◌⊎◌, inl, inr, refl, sym, ap, ◌∙◌, subst, arith, append-nil, filter}
use Rattle.std.proofs.lemmas.List.{map-append}
use Rattle.std.proofs.lemmas.List.Elements.{All-cons, All-nil, All-contains, All-filter, All-contains_itself, filter_passes, Contains-append_left, Contains-push, Contains-push_cases}
use Rattle.rip_outer.specs.declared.connections.TraceKnock.{TraceKnock}
use Rattle.rip_outer.specs.declared.connections.TraceKnock.TheVariants.{Opened, Bytes, Gone, Quiet}
use Rattle.rip_outer.specs.declared.connections.Knock.TheVariants as knock
use Rattle.rip_outer.specs.declared.connections.Sent.TheVariants as answer
use Rattle.rip_outer.specs.Connections.{Told, knocked, lost, is_opening, is_knock, IsShut, IsLive, IsAllowedAfter, FitsRoom}
use Rattle.rip_outer.proofs.Telling.{openings_push}
use Rattle.rip_real.specs.History.{Deed, next, send, shut, told_in, shuts_in}
use Rattle.rip_real.specs.Journal.{Tells, IsJournal, AreOthers}
use Rattle.rip_real.proofs.Deeds.{told_next, shuts_next, told_send, shuts_send, told_shut, shuts_shut}

-- no connection yet
pub journal_none : IsJournal [] [] 0 []
journal_none = record {
  numbered = refl;
  opened_below = λ c h. absurd (omega (arith, h.1));
  gone_below = λ c h. absurd (omega (arith, h.1));
  lost_below = λ c h. absurd (omega (arith, h.1));
  shut_below = λ c h. absurd (omega (arith, h.1));
  each = λ c h. absurd (omega (arith, h.1));
}

-- a connection stays live where something else is told
stays_live : (told : List Told) (shuts : List (ℕ × ℕ)) (x : Told) (c : ℕ) → x ≢ knocked (Gone c) → x ≢ lost c → IsLive told shuts c → IsLive (told ++ x ∷ []) shuts c
stays_live told shuts x c not_gone not_lost l = record {
  opened = Contains-append_left told (x ∷ []) (knocked (Opened c)) l.opened;
  not_gone = λ h. elim (Contains-push_cases told x (knocked (Gone c)) h) [
    | inl before ↦ l.not_gone before
    | inr e ↦ not_gone e
  ];
  not_lost = λ h. elim (Contains-push_cases told x (lost c) h) [
    | inl before ↦ l.not_lost before
    | inr e ↦ not_lost e
  ];
  not_shut = l.not_shut;
}

-- something is told
journal_tells : (told : List Told) (shuts : List (ℕ × ℕ)) (n m : ℕ) (live after : List ℕ) (x : Told) → IsJournal told shuts n live
    → m ≡ n + cond (is_opening x) 1 0
    → ((c : ℕ) → x ≡ knocked (Opened c) → c < m) → ((c : ℕ) → x ≡ knocked (Gone c) → c < m) → ((c : ℕ) → x ≡ lost c → c < m)
    → ((c : ℕ) → Contains after c → IsLive (told ++ x ∷ []) shuts c)
    → IsJournal (told ++ x ∷ []) shuts m after
journal_tells told shuts n m live after x j e opens goes loses each =
    let more : n ≤ m = omega (arith, e) in record {
      numbered = e ∙ ap (λ k. k + cond (is_opening x) 1 0) j.numbered ∙ sym (openings_push told x);
      opened_below = λ c h. elim (Contains-push_cases told x (knocked (Opened c)) h) [
        | inl before ↦ let b = j.opened_below c before in omega (arith, b, more)
        | inr same ↦ opens c same
      ];
      gone_below = λ c h. elim (Contains-push_cases told x (knocked (Gone c)) h) [
        | inl before ↦ let b = j.gone_below c before in omega (arith, b, more)
        | inr same ↦ goes c same
      ];
      lost_below = λ c h. elim (Contains-push_cases told x (lost c) h) [
        | inl before ↦ let b = j.lost_below c before in omega (arith, b, more)
        | inr same ↦ loses c same
      ];
      shut_below = λ c h. let b = j.shut_below c h in omega (arith, b, more);
      each = each;
    }

-- a knock that tells nothing of a going or an opening
journal_calm : (told : List Told) (shuts : List (ℕ × ℕ)) (n : ℕ) (live : List ℕ) (x : Told) → is_opening x ≡ false
    → ((c : ℕ) → x ≢ knocked (Opened c)) → ((c : ℕ) → x ≢ knocked (Gone c)) → ((c : ℕ) → x ≢ lost c)
    → IsJournal told shuts n live → IsJournal (told ++ x ∷ []) shuts n live
journal_calm told shuts n live x closed not_opened not_gone not_lost j =
    journal_tells told shuts n n live live x j (subst (λ b. n ≡ n + cond b 1 0) (sym closed) (omega arith))
    (λ c e. absurd (not_opened c e)) (λ c e. absurd (not_gone c e)) (λ c e. absurd (not_lost c e))
    (λ c h. stays_live told shuts x c (not_gone c) (not_lost c) (j.each c h))

-- a deed that tells and shuts so
journal_of : (deeds more : List Deed) (d : Deed) (told : List Told) (shuts : List (ℕ × ℕ)) (n : ℕ) (live : List ℕ) → more ≡ deeds ++ d ∷ [] → told_in (deeds ++ d ∷ []) ≡ told → shuts_in (deeds ++ d ∷ []) ≡ shuts → IsJournal told shuts n live → IsJournal (told_in more) (shuts_in more) n live
journal_of deeds more d told shuts n live e t s j =
    let all = subst (λ x. IsJournal x (shuts_in (deeds ++ d ∷ [])) n live) (sym t) (subst (λ y. IsJournal told y n live) (sym s) j) in
    subst (λ (ds : List Deed). IsJournal (told_in ds) (shuts_in ds) n live) (sym e) all

-- nothing came
pub journal_quiet : (deeds more : List Deed) (n : ℕ) (live room : List ℕ) (busy : Bool) → IsJournal (told_in deeds) (shuts_in deeds) n live
    → more ≡ deeds ++ next knock.Quiet room busy ∷ [] → IsJournal (told_in more) (shuts_in more) n live
journal_quiet deeds more n live room busy j is =
    journal_of deeds more (next knock.Quiet room busy) _ _ n live is (told_next deeds knock.Quiet room busy) (shuts_next deeds knock.Quiet room busy)
    (journal_calm (told_in deeds) (shuts_in deeds) n live (knocked Quiet) refl (λ c e. cc) (λ c e. cc) (λ c e. cc) j)

-- the outside failed
pub journal_failed : (deeds more : List Deed) (n : ℕ) (live room : List ℕ) (busy : Bool) → IsJournal (told_in deeds) (shuts_in deeds) n live
    → more ≡ deeds ++ next knock.Failed room busy ∷ [] → IsJournal (told_in more) (shuts_in more) n live
journal_failed deeds more n live room busy j is =
    journal_of deeds more (next knock.Failed room busy) _ _ n live is (told_next deeds knock.Failed room busy ∙ append-nil (told_in deeds)) (shuts_next deeds knock.Failed room busy) j

-- a piece came
pub journal_heard : (deeds more : List Deed) (n c count : ℕ) (live room : List ℕ) (busy : Bool) → IsJournal (told_in deeds) (shuts_in deeds) n live
    → more ≡ deeds ++ next (knock.Bytes c count) room busy ∷ [] → IsJournal (told_in more) (shuts_in more) n live
journal_heard deeds more n c count live room busy j is =
    journal_of deeds more (next (knock.Bytes c count) room busy) _ _ n live is (told_next deeds (knock.Bytes c count) room busy) (shuts_next deeds (knock.Bytes c count) room busy)
    (journal_calm (told_in deeds) (shuts_in deeds) n live (knocked (Bytes c (take count room))) refl (λ d e. cc) (λ d e. cc) (λ d e. cc) j)

-- what a connection that is opened is told by
opened_number : (c d : ℕ) → knocked (Opened c) ≡ knocked (Opened d) → c ≡ d
opened_number c d e = cc

gone_number : (c d : ℕ) → knocked (Gone c) ≡ knocked (Gone d) → c ≡ d
gone_number c d e = cc

lost_number : (c d : ℕ) → lost c ≡ lost d → c ≡ d
lost_number c d e = cc

-- one more connection
pub journal_opened : (deeds more : List Deed) (n : ℕ) (live after room : List ℕ) (busy : Bool) → IsJournal (told_in deeds) (shuts_in deeds) n live → after ≡ live ++ n ∷ []
    → more ≡ deeds ++ next (knock.Opened n) room busy ∷ [] → IsJournal (told_in more) (shuts_in more) (n + 1) after
journal_opened deeds more n live after room busy j grown is =
    journal_of deeds more (next (knock.Opened n) room busy) _ _ (n + 1) after is (told_next deeds (knock.Opened n) room busy) (shuts_next deeds (knock.Opened n) room busy)
    (journal_tells told shuts n (n + 1) live after x j refl
    (λ c e. let same = opened_number n c e in omega (arith, same)) (λ c e. absurd (cc)) (λ c e. absurd (cc))
    (λ c h. elim (Contains-push_cases live n c (subst (λ xs. Contains xs c) grown h)) [
      | inl before ↦ stays_live told shuts x c (λ e. cc) (λ e. cc) (j.each c before)
      | inr e ↦ subst (λ d. IsLive (told ++ x ∷ []) shuts d) e new
    ]))
  where
    told : List Told
    told = told_in deeds

    shuts : List (ℕ × ℕ)
    shuts = shuts_in deeds

    x : Told
    x = knocked (Opened n)

    new : IsLive (told ++ x ∷ []) shuts n
    new = record {
      opened = Contains-push told x;
      not_gone = λ h. elim (Contains-push_cases told x (knocked (Gone n)) h) [
        | inl before ↦ let b = j.gone_below n before in omega (arith, b)
        | inr e ↦ cc
      ];
      not_lost = λ h. elim (Contains-push_cases told x (lost n) h) [
        | inl before ↦ let b = j.lost_below n before in omega (arith, b)
        | inr e ↦ cc
      ];
      not_shut = λ h. let b = j.shut_below n h in omega (arith, b);
    }

-- a live connection is gone
pub journal_gone : (deeds more : List Deed) (n c : ℕ) (live after room : List ℕ) (busy : Bool) → IsJournal (told_in deeds) (shuts_in deeds) n live → Contains live c → AreOthers live c after
    → more ≡ deeds ++ next (knock.Gone c) room busy ∷ [] → IsJournal (told_in more) (shuts_in more) n after
journal_gone deeds more n c live after room busy j listed others is =
    let told = told_in deeds in let shuts = shuts_in deeds in let x = knocked (Gone c) in
    let below = j.opened_below c ((j.each c listed).opened) in
    journal_of deeds more (next (knock.Gone c) room busy) _ _ n after is (told_next deeds (knock.Gone c) room busy) (shuts_next deeds (knock.Gone c) room busy)
    (journal_tells told shuts n n live after x j (omega arith)
    (λ d e. absurd (cc)) (λ d e. let same = gone_number c d e in omega (arith, same, below)) (λ d e. absurd (cc))
    (λ d h. let o = others d h in stays_live told shuts x d (λ e. o.1 (sym (gone_number c d e))) (λ e. cc) (j.each d o.0)))

-- bytes were taken for a connection
pub journal_sent : (deeds more : List Deed) (n c : ℕ) (live bytes : List ℕ) → IsJournal (told_in deeds) (shuts_in deeds) n live
    → more ≡ deeds ++ send answer.Done c bytes ∷ [] → IsJournal (told_in more) (shuts_in more) n live
journal_sent deeds more n c live bytes j is =
    journal_of deeds more (send answer.Done c bytes) _ _ n live is (told_send deeds answer.Done c bytes ∙ append-nil (told_in deeds)) (shuts_send deeds answer.Done c bytes) j

-- a send failed
pub journal_not_sent : (deeds more : List Deed) (n c : ℕ) (live bytes : List ℕ) → IsJournal (told_in deeds) (shuts_in deeds) n live
    → more ≡ deeds ++ send answer.Failed c bytes ∷ [] → IsJournal (told_in more) (shuts_in more) n live
journal_not_sent deeds more n c live bytes j is =
    journal_of deeds more (send answer.Failed c bytes) _ _ n live is (told_send deeds answer.Failed c bytes ∙ append-nil (told_in deeds)) (shuts_send deeds answer.Failed c bytes) j

-- a send found its connection gone
pub journal_lost : (deeds more : List Deed) (n c : ℕ) (live after bytes : List ℕ) → IsJournal (told_in deeds) (shuts_in deeds) n live → c < n → AreOthers live c after
    → more ≡ deeds ++ send answer.Gone c bytes ∷ [] → IsJournal (told_in more) (shuts_in more) n after
journal_lost deeds more n c live after bytes j below others is =
    let told = told_in deeds in let shuts = shuts_in deeds in let x = lost c in
    journal_of deeds more (send answer.Gone c bytes) _ _ n after is (told_send deeds answer.Gone c bytes) (shuts_send deeds answer.Gone c bytes)
    (journal_tells told shuts n n live after x j (omega arith)
    (λ d e. absurd (cc)) (λ d e. absurd (cc)) (λ d e. let same = lost_number c d e in omega (arith, same, below))
    (λ d h. let o = others d h in stays_live told shuts x d (λ e. cc) (λ e. o.1 (sym (lost_number c d e))) (j.each d o.0)))

-- a connection is shut where it was, or is the one that was shut last
shut_cases : (shuts : List (ℕ × ℕ)) (c m d : ℕ) → IsShut (shuts ++ (c, m) ∷ []) d → IsShut shuts d ⊎ (c ≡ d)
shut_cases shuts c m d h =
    let names : List ℕ = map (λ (s : ℕ × ℕ). s.0) shuts in
    Contains-push_cases names c d (subst (λ xs. Contains xs d) (map-append (λ (s : ℕ × ℕ). s.0) shuts ((c, m) ∷ [])) h)

-- a connection was shut
pub journal_shut : (deeds more : List Deed) (n c : ℕ) (live after : List ℕ) → IsJournal (told_in deeds) (shuts_in deeds) n live → c < n → AreOthers live c after
    → more ≡ deeds ++ shut c ∷ [] → IsJournal (told_in more) (shuts_in more) n after
journal_shut deeds more n c live after j below others is =
    let told = told_in deeds in let shuts = shuts_in deeds in let m = count_by is_knock told in
    journal_of deeds more (shut c) _ _ n after is (told_shut deeds c) (shuts_shut deeds c) (record {
      numbered = j.numbered;
      opened_below = j.opened_below;
      gone_below = j.gone_below;
      lost_below = j.lost_below;
      shut_below = λ d h. elim (shut_cases shuts c m d h) [
        | inl before ↦ j.shut_below d before
        | inr e ↦ omega (arith, e, below)
      ];
      each = λ d h. let o = others d h in let l = j.each d o.0 in record {
        opened = l.opened;
        not_gone = l.not_gone;
        not_lost = l.not_lost;
        not_shut = λ s. elim (shut_cases shuts c m d s) [
          | inl before ↦ l.not_shut before
          | inr e ↦ o.1 (sym e)
        ];
      };
    })

-- one knock that is allowed
pub allowed_one : (told : List Told) (shuts : List (ℕ × ℕ)) (k : TraceKnock) → IsAllowedAfter told shuts k → All (IsAllowedAfter told shuts) (k ∷ [])
allowed_one told shuts k h = All-cons (IsAllowedAfter told shuts) k [] h (All-nil (IsAllowedAfter told shuts))

-- what passes a test that c fails are others than c
pub others_kept : (all rest : List ℕ) (c : ℕ) (test : ℕ → Bool) → rest ≡ filter test all → ((d : ℕ) → test d ≡ true → d ≢ c) → AreOthers all c rest
others_kept all rest c test kept passes d h =
    let here : Contains (filter test all) d = subst (λ xs. Contains xs d) kept h in (
      All-contains (Contains all) (filter test all) d (All-filter test (Contains all) all (All-contains_itself all)) here,
      passes d (All-contains (λ x. test x ≡ true) (filter test all) d (filter_passes test all) here),
    )

pub other_number : (c d : ℕ) → not (d == c) ≡ true → d ≢ c
other_number c d h e = let same = eq-eqb d c e in cc

-- a piece is told
pub tells_heard : (deeds more : List Deed) (opened faults c count : ℕ) (live room : List ℕ) (busy : Bool) → IsJournal (told_in deeds) (shuts_in deeds) opened live
    → Contains live c → FitsRoom (knock.Bytes c count) → more ≡ deeds ++ next (knock.Bytes c count) room busy ∷ []
    → Tells (record { deeds = deeds; opened = opened; live = live; faults = faults }) (record { deeds = more; opened = opened; live = live; faults = faults }) (knock.Bytes c count) room busy
tells_heard deeds more opened faults c count live room busy j listed fits is = record {
  deeds = is;
  fits = fits;
  allowed = allowed_one (told_in deeds) (shuts_in deeds) (Bytes c (take count room)) (j.each c listed);
  opens = λ d e. cc;
  stays = omega arith;
  counted = refl;
  later = omega arith;
}

-- a going is told
pub tells_gone : (deeds more : List Deed) (opened faults c : ℕ) (live after room : List ℕ) (busy : Bool) → IsJournal (told_in deeds) (shuts_in deeds) opened live
    → Contains live c → more ≡ deeds ++ next (knock.Gone c) room busy ∷ []
    → Tells (record { deeds = deeds; opened = opened; live = live; faults = faults }) (record { deeds = more; opened = opened; live = after; faults = faults }) (knock.Gone c) room busy
tells_gone deeds more opened faults c live after room busy j listed is = record {
  deeds = is;
  fits = tt;
  allowed = allowed_one (told_in deeds) (shuts_in deeds) (Gone c) (j.each c listed);
  opens = λ d e. cc;
  stays = omega arith;
  counted = refl;
  later = omega arith;
}
