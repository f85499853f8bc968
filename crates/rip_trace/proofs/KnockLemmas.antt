-- Lines beside the knocks that they stand for.
use Rattle.std.proofs.Common.{◌≡◌, ℕ, ◌+◌, ◌⊎◌, inl, inr, List, [], ◌∷◌, ◌++◌, Bool, cond, map, count_by, Contains, refl, sym, ap, subst, ◌∙◌, arith}
use Rattle.std.proofs.lemmas.List.{map-append}
use Rattle.std.proofs.lemmas.List.Sums.{sum_by-append}
use Rattle.std.proofs.lemmas.List.Elements.{Contains-append_left, Contains-append_right, Contains-append_cases, Contains-push, Contains-push_cases}
use Rattle.rip_outer.specs.Connections.{Told, knocked, lost, IsLive}
use Rattle.rip_outer.specs.Connections as outer
use Rattle.rip_outer.specs.declared.connections.TraceKnock.TheVariants.{Opened, Bytes, Gone, Quiet}
use Rattle.rip_trace.specs.Lines.{Line, comment, moment, word, opens, sends, goes, quiet, says}
use Rattle.rip_trace.specs.Requests.{request, in_pieces}
use Rattle.rip_trace.specs.Spelling.{IsSpelled}
use Rattle.rip_trace.specs.Steps.{MayFollowKnocks}
use Rattle.rip_trace.specs.Traces.{is_opening, IsHere, MayCome, knocks_of, knocks_in}
use Rattle.rip_trace.proofs.RequestLemmas.{no_loss, no_opening, no_going}

none_within : {X : Type 0} (x : X) → Contains [] x → ⊥
none_within x h = omega (arith, h.1)

alone : {X : Type 0} (y x : X) → Contains (y ∷ []) x → y ≡ x
alone y x h = elim (Contains-push_cases [] y x h) [ inl none ↦ absurd (none_within x none) | inr same ↦ same ]

told : List ℕ → Line → List Told
told words l = map knocked (knocks_of words l)

told_in : List ℕ → List Line → List Told
told_in words lines = map knocked (knocks_in words lines)

told_more : (words : List ℕ) (l : Line) (lines : List Line) → told_in words (l ∷ lines) ≡ told words l ++ told_in words lines
unfolding told told_in
told_more words l lines = map-append knocked (knocks_of words l) (knocks_in words lines)

-- ---- openings

opening_told : (words : List ℕ) (l : Line) (c : ℕ) → l ≡ opens c → Contains (told words l) (knocked (Opened c))
unfolding told
opening_told words l c e = subst (λ x. Contains (map knocked (knocks_of words x)) (knocked (Opened c))) (sym e) (Contains-push [] (knocked (Opened c)))

opened_same : (d c : ℕ) → knocked (Opened d) ≡ knocked (Opened c) → opens d ≡ opens c
opened_same d c e = cc

piece_no_opening : (d c : ℕ) (p : List ℕ) → knocked (Bytes d p) ≡ knocked (Opened c) → ⊥
piece_no_opening d c p e = cc

gone_no_opening : (d c : ℕ) → knocked (Gone d) ≡ knocked (Opened c) → ⊥
gone_no_opening d c e = cc

quiet_no_opening : (c : ℕ) → knocked Quiet ≡ knocked (Opened c) → ⊥
quiet_no_opening c e = cc

told_opening : (words : List ℕ) (l : Line) (c : ℕ) → Contains (told words l) (knocked (Opened c)) → l ≡ opens c
unfolding told
told_opening words (comment text) c h = absurd (none_within _ h)
told_opening words (moment m) c h = absurd (none_within _ h)
told_opening words (word w) c h = absurd (none_within _ h)
told_opening words (opens d) c h = opened_same d c (alone (knocked (Opened d)) (knocked (Opened c)) h)
told_opening words (sends d piece) c h = absurd (piece_no_opening d c piece (alone (knocked (Bytes d piece)) (knocked (Opened c)) h))
told_opening words (goes d) c h = absurd (gone_no_opening d c (alone (knocked (Gone d)) (knocked (Opened c)) h))
told_opening words quiet c h = absurd (quiet_no_opening c (alone (knocked Quiet) (knocked (Opened c)) h))
told_opening words (says d asked) c h = absurd (no_opening c d (in_pieces (request words asked)) h)

opened_to : (words : List ℕ) (lines : List Line) (c : ℕ) → Contains lines (opens c) → Contains (told_in words lines) (knocked (Opened c))
opened_to words [] c h = absurd (none_within (opens c) h)
opened_to words (l ∷ lines) c h = subst (λ ts. Contains ts (knocked (Opened c))) (sym (told_more words l lines)) (by (Contains-append_cases (l ∷ []) lines (opens c) h) (opened_to words lines c))
  where
    by : Contains (l ∷ []) (opens c) ⊎ Contains lines (opens c) → (Contains lines (opens c) → Contains (told_in words lines) (knocked (Opened c))) → Contains (told words l ++ told_in words lines) (knocked (Opened c))
    by (inl here) again = Contains-append_left (told words l) (told_in words lines) (knocked (Opened c)) (opening_told words l c (alone l (opens c) here))
    by (inr there) again = Contains-append_right (told words l) (told_in words lines) (knocked (Opened c)) (again there)

opened_from : (words : List ℕ) (lines : List Line) (c : ℕ) → Contains (told_in words lines) (knocked (Opened c)) → Contains lines (opens c)
unfolding told_in
opened_from words [] c h = absurd (none_within (knocked (Opened c)) h)
opened_from words (l ∷ lines) c h = by (Contains-append_cases (told words l) (told_in words lines) (knocked (Opened c)) (subst (λ ts. Contains ts (knocked (Opened c))) (told_more words l lines) h)) (opened_from words lines c)
  where
    by : Contains (told words l) (knocked (Opened c)) ⊎ Contains (told_in words lines) (knocked (Opened c)) → (Contains (told_in words lines) (knocked (Opened c)) → Contains lines (opens c)) → Contains (l ∷ lines) (opens c)
    by (inl here) again = Contains-append_left (l ∷ []) lines (opens c) (subst (Contains (l ∷ [])) (told_opening words l c here) (Contains-push [] l))
    by (inr there) again = Contains-append_right (l ∷ []) lines (opens c) (again there)

-- ---- goings

going_told : (words : List ℕ) (l : Line) (c : ℕ) → l ≡ goes c → Contains (told words l) (knocked (Gone c))
unfolding told
going_told words l c e = subst (λ x. Contains (map knocked (knocks_of words x)) (knocked (Gone c))) (sym e) (Contains-push [] (knocked (Gone c)))

gone_same : (d c : ℕ) → knocked (Gone d) ≡ knocked (Gone c) → goes d ≡ goes c
gone_same d c e = cc

piece_no_going : (d c : ℕ) (p : List ℕ) → knocked (Bytes d p) ≡ knocked (Gone c) → ⊥
piece_no_going d c p e = cc

opening_no_going : (d c : ℕ) → knocked (Opened d) ≡ knocked (Gone c) → ⊥
opening_no_going d c e = cc

quiet_no_going : (c : ℕ) → knocked Quiet ≡ knocked (Gone c) → ⊥
quiet_no_going c e = cc

told_going : (words : List ℕ) (l : Line) (c : ℕ) → Contains (told words l) (knocked (Gone c)) → l ≡ goes c
unfolding told
told_going words (comment text) c h = absurd (none_within _ h)
told_going words (moment m) c h = absurd (none_within _ h)
told_going words (word w) c h = absurd (none_within _ h)
told_going words (opens d) c h = absurd (opening_no_going d c (alone (knocked (Opened d)) (knocked (Gone c)) h))
told_going words (sends d piece) c h = absurd (piece_no_going d c piece (alone (knocked (Bytes d piece)) (knocked (Gone c)) h))
told_going words (goes d) c h = gone_same d c (alone (knocked (Gone d)) (knocked (Gone c)) h)
told_going words quiet c h = absurd (quiet_no_going c (alone (knocked Quiet) (knocked (Gone c)) h))
told_going words (says d asked) c h = absurd (no_going c d (in_pieces (request words asked)) h)

gone_to : (words : List ℕ) (lines : List Line) (c : ℕ) → Contains lines (goes c) → Contains (told_in words lines) (knocked (Gone c))
gone_to words [] c h = absurd (none_within (goes c) h)
gone_to words (l ∷ lines) c h = subst (λ ts. Contains ts (knocked (Gone c))) (sym (told_more words l lines)) (by (Contains-append_cases (l ∷ []) lines (goes c) h) (gone_to words lines c))
  where
    by : Contains (l ∷ []) (goes c) ⊎ Contains lines (goes c) → (Contains lines (goes c) → Contains (told_in words lines) (knocked (Gone c))) → Contains (told words l ++ told_in words lines) (knocked (Gone c))
    by (inl here) again = Contains-append_left (told words l) (told_in words lines) (knocked (Gone c)) (going_told words l c (alone l (goes c) here))
    by (inr there) again = Contains-append_right (told words l) (told_in words lines) (knocked (Gone c)) (again there)

gone_from : (words : List ℕ) (lines : List Line) (c : ℕ) → Contains (told_in words lines) (knocked (Gone c)) → Contains lines (goes c)
unfolding told_in
gone_from words [] c h = absurd (none_within (knocked (Gone c)) h)
gone_from words (l ∷ lines) c h = by (Contains-append_cases (told words l) (told_in words lines) (knocked (Gone c)) (subst (λ ts. Contains ts (knocked (Gone c))) (told_more words l lines) h)) (gone_from words lines c)
  where
    by : Contains (told words l) (knocked (Gone c)) ⊎ Contains (told_in words lines) (knocked (Gone c)) → (Contains (told_in words lines) (knocked (Gone c)) → Contains lines (goes c)) → Contains (l ∷ lines) (goes c)
    by (inl here) again = Contains-append_left (l ∷ []) lines (goes c) (subst (Contains (l ∷ [])) (told_going words l c here) (Contains-push [] l))
    by (inr there) again = Contains-append_right (l ∷ []) lines (goes c) (again there)

-- ---- how many were opened

count_append : {X : Type 0} (p : X → Bool) (xs ys : List X) → count_by p (xs ++ ys) ≡ count_by p xs + count_by p ys
count_append p xs ys = sum_by-append (λ x. cond (p x) 1 0) xs ys

no_openings : (c : ℕ) (ps : List (List ℕ)) → count_by outer.is_opening (map knocked (map (Bytes c) ps)) ≡ 0
no_openings c [] = refl
no_openings c (p ∷ ps) = omega (arith, no_openings c ps)

count_told : (words : List ℕ) (l : Line) → count_by outer.is_opening (told words l) ≡ count_by is_opening (l ∷ [])
unfolding told
count_told words (comment text) = refl
count_told words (moment m) = refl
count_told words (word w) = refl
count_told words (opens d) = refl
count_told words (sends d piece) = refl
count_told words (goes d) = refl
count_told words quiet = refl
count_told words (says d asked) = no_openings d (in_pieces (request words asked))

count_told_in : (words : List ℕ) (lines : List Line) → count_by outer.is_opening (told_in words lines) ≡ count_by is_opening lines
unfolding told_in
count_told_in words [] = refl
count_told_in words (l ∷ lines) =
    ap (λ ts. count_by outer.is_opening ts) (told_more words l lines)
    ∙ omega (arith, count_append outer.is_opening (told words l) (told_in words lines), count_told words l, count_told_in words lines, count_append is_opening (l ∷ []) lines)

-- ---- which lines may follow

live_here : (words : List ℕ) (lines : List Line) (c : ℕ) → IsLive (map knocked (knocks_in words lines)) [] c → IsHere lines c
unfolding told_in
live_here words lines c h = record { opened = opened_from words lines c h.opened; not_gone = λ g. h.not_gone (gone_to words lines c g) }

here_live : (words : List ℕ) (lines : List Line) (c : ℕ) → IsHere lines c → IsLive (map knocked (knocks_in words lines)) [] c
unfolding told_in
here_live words lines c h = record {
  opened = opened_to words lines c h.opened;
  not_gone = λ g. h.not_gone (gone_from words lines c g);
  not_lost = no_loss c (knocks_in words lines);
  not_shut = none_within c;
}

pub may_come : (words : List ℕ) (lines : List Line) (l : Line) → MayFollowKnocks (knocks_in words lines) l → MayCome lines l
unfolding told_in
may_come words lines (comment text) h = tt
may_come words lines (moment m) h = tt
may_come words lines (word w) h = tt
may_come words lines (opens c) h = h.allowed ∙ count_told_in words lines
may_come words lines (sends c piece) h = live_here words lines c h.allowed
may_come words lines (goes c) h = live_here words lines c h.allowed
may_come words lines quiet h = tt
may_come words lines (says c asked) h = live_here words lines c h

pub may_follow : (words : List ℕ) (lines : List Line) (bytes : List ℕ) (l : Line) → IsSpelled bytes l → MayCome lines l → MayFollowKnocks (knocks_in words lines) l
unfolding told_in
may_follow words lines bytes (comment text) s h = tt
may_follow words lines bytes (moment m) s h = tt
may_follow words lines bytes (word w) s h = tt
may_follow words lines bytes (opens c) s h = record { fits = tt; allowed = h ∙ sym (count_told_in words lines) }
may_follow words lines bytes (sends c piece) s h = record { fits = (s.3.some, s.3.few); allowed = here_live words lines c h }
may_follow words lines bytes (goes c) s h = record { fits = tt; allowed = here_live words lines c h }
may_follow words lines bytes quiet s h = tt
may_follow words lines bytes (says c asked) s h = here_live words lines c h
