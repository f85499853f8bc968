-- Requests, and how they come in pieces.
use Rattle.std.proofs.Common.{◌≡◌, ◌≢◌, ℕ, zero, suc, ◌<◌, ◌≤◌, ◌⊎◌, inl, inr, Bool, true, ◌==◌, List, [], ◌∷◌, ◌++◌, length, take, drop, min, map, Contains, codes, decimal, refl, sym, ap, ap₂, subst, ◌∙◌, arith, length-drop, append_assoc, append-nil}
use Rattle.std.proofs.lemmas.List.{map-append}
use Rattle.std.proofs.lemmas.List.Elements.{Contains-append_left, Contains-append_cases}
use Rattle.rip_outer.specs.Connections.{knocked, lost, IsLive}
use Rattle.rip_outer.specs.KnockLists.{MayFollow}
use Rattle.rip_outer.specs.declared.connections.TraceKnock.{TraceKnock}
use Rattle.rip_outer.specs.declared.connections.TraceKnock.TheVariants.{Opened, Bytes, Gone}
use Rattle.rip_trace.specs.Lines.{Asked, page, report, quit}
use Rattle.rip_trace.specs.Requests.{line, fields_of, request, pieces_up_to, in_pieces}
use Rattle.rip_trace.specs.Steps.{Sofar, also}

cons_some : (x : ℕ) (xs : List ℕ) → x ∷ xs ≢ []
cons_some x xs e = cc

-- no request is empty
pub request_some : (words : List ℕ) (a : Asked) → request words a ≢ []
unfolding request
request_some words page = cons_some _ _
request_some words (report s body) = cons_some _ _
request_some words (quit s) = cons_some _ _

-- ---- pieces

shorter : (b : ℕ) (bytes : List ℕ) (n : ℕ) → length (b ∷ bytes) ≤ suc n → length (drop 4096 (b ∷ bytes)) ≤ n
shorter b bytes n h = omega (arith, length-drop 4096 (b ∷ bytes))

enough : (n m : ℕ) (bytes : List ℕ) → length bytes ≤ n → length bytes ≤ m → pieces_up_to n bytes ≡ pieces_up_to m bytes
unfolding pieces_up_to
enough zero zero bytes h g = refl
enough zero (suc m) [] h g = refl
enough zero (suc m) (b ∷ bytes) h g = absurd (omega arith)
enough (suc n) zero [] h g = refl
enough (suc n) zero (b ∷ bytes) h g = absurd (omega arith)
enough (suc n) (suc m) [] h g = refl
enough (suc n) (suc m) (b ∷ bytes) h g =
    ap (λ ps. take 4096 (b ∷ bytes) ∷ ps) (enough n m (drop 4096 (b ∷ bytes)) (shorter b bytes n h) (shorter b bytes m g))

pub no_pieces : in_pieces [] ≡ []
unfolding pieces_up_to
no_pieces = refl

pub first_piece : (bytes : List ℕ) → bytes ≢ [] → in_pieces bytes ≡ take 4096 bytes ∷ in_pieces (drop 4096 bytes)
unfolding pieces_up_to
first_piece [] some = absurd (some refl)
first_piece (b ∷ bytes) some =
    ap (λ ps. take 4096 (b ∷ bytes) ∷ ps) (enough (length bytes) (length (drop 4096 (b ∷ bytes))) (drop 4096 (b ∷ bytes)) (shorter b bytes (length bytes) (omega arith)) (omega arith))

take_whole : (n : ℕ) (xs : List ℕ) → length xs ≤ n → take n xs ≡ xs
take_whole zero [] h = refl
take_whole zero (x ∷ xs) h = absurd (omega arith)
take_whole (suc n) [] h = refl
take_whole (suc n) (x ∷ xs) h = ap (λ ys. x ∷ ys) (take_whole n xs (omega arith))

drop_whole : (n : ℕ) (xs : List ℕ) → length xs ≤ n → drop n xs ≡ []
drop_whole zero [] h = refl
drop_whole zero (x ∷ xs) h = absurd (omega arith)
drop_whole (suc n) [] h = refl
drop_whole (suc n) (x ∷ xs) h = drop_whole n xs (omega arith)

within : (n : ℕ) (xs : List ℕ) → (length xs ≤ n) ⊎ (n < length xs)
within n xs = grind arith

-- a front of the length of the bytes or of n, whichever is less, is a front of n
pub take_least : (n k : ℕ) (xs : List ℕ) → k ≡ min (length xs) n → take k xs ≡ take n xs
take_least n k xs e = elim (within n xs) [
  | inl low ↦ (let same : k ≡ length xs = omega (arith, e) in ap (λ j. take j xs) same ∙ take_whole (length xs) xs (omega arith) ∙ sym (take_whole n xs low))
  | inr high ↦ (let same : k ≡ n = omega (arith, e) in ap (λ j. take j xs) same)
]

pub drop_least : (n k : ℕ) (xs : List ℕ) → k ≡ min (length xs) n → drop k xs ≡ drop n xs
drop_least n k xs e = elim (within n xs) [
  | inl low ↦ (let same : k ≡ length xs = omega (arith, e) in ap (λ j. drop j xs) same ∙ drop_whole (length xs) xs (omega arith) ∙ sym (drop_whole n xs low))
  | inr high ↦ (let same : k ≡ n = omega (arith, e) in ap (λ j. drop j xs) same)
]

-- ---- pieces of a live connection

pub no_opening : (c d : ℕ) (ps : List (List ℕ)) → Contains (map knocked (map (Bytes d) ps)) (knocked (Opened c)) → ⊥
no_opening c d [] h = omega (arith, h.1)
no_opening c d (p ∷ ps) h = elim (Contains-append_cases (knocked (Bytes d p) ∷ []) (map knocked (map (Bytes d) ps)) (knocked (Opened c)) h) [
  | inl here ↦ one here
  | inr there ↦ no_opening c d ps there
]
  where
    other : knocked (Bytes d p) ≡ knocked (Opened c) → ⊥
    other e = cc

    one : Contains (knocked (Bytes d p) ∷ []) (knocked (Opened c)) → ⊥
    one (zero, low, e) = other e
    one (suc k, low, e) = omega (arith, low)

pub no_going : (c d : ℕ) (ps : List (List ℕ)) → Contains (map knocked (map (Bytes d) ps)) (knocked (Gone c)) → ⊥
no_going c d [] h = omega (arith, h.1)
no_going c d (p ∷ ps) h = elim (Contains-append_cases (knocked (Bytes d p) ∷ []) (map knocked (map (Bytes d) ps)) (knocked (Gone c)) h) [
  | inl here ↦ one here
  | inr there ↦ no_going c d ps there
]
  where
    other : knocked (Bytes d p) ≡ knocked (Gone c) → ⊥
    other e = cc

    one : Contains (knocked (Bytes d p) ∷ []) (knocked (Gone c)) → ⊥
    one (zero, low, e) = other e
    one (suc k, low, e) = omega (arith, low)

pub no_loss : (c : ℕ) (ks : List TraceKnock) → Contains (map knocked ks) (lost c) → ⊥
no_loss c [] h = omega (arith, h.1)
no_loss c (k ∷ ks) h = elim (Contains-append_cases (knocked k ∷ []) (map knocked ks) (lost c) h) [
  | inl here ↦ one here
  | inr there ↦ no_loss c ks there
]
  where
    other : knocked k ≡ lost c → ⊥
    other e = cc

    one : Contains (knocked k ∷ []) (lost c) → ⊥
    one (zero, low, e) = other e
    one (suc k, low, e) = omega (arith, low)

parted : (ks : List TraceKnock) (c : ℕ) (ps : List (List ℕ)) → map knocked (ks ++ map (Bytes c) ps) ≡ map knocked ks ++ map knocked (map (Bytes c) ps)
parted ks c ps = map-append knocked ks (map (Bytes c) ps)

pub live_before : (ks : List TraceKnock) (c : ℕ) (ps : List (List ℕ)) → IsLive (map knocked (ks ++ map (Bytes c) ps)) [] c → IsLive (map knocked ks) [] c
live_before ks c ps h = record {
  opened = elim (Contains-append_cases (map knocked ks) (map knocked (map (Bytes c) ps)) (knocked (Opened c)) (subst (λ ts. Contains ts (knocked (Opened c))) (parted ks c ps) h.opened)) [
    | inl before ↦ before
    | inr pieces ↦ absurd (no_opening c c ps pieces)
  ];
  not_gone = λ g. h.not_gone (subst (λ ts. Contains ts (knocked (Gone c))) (sym (parted ks c ps)) (Contains-append_left (map knocked ks) (map knocked (map (Bytes c) ps)) (knocked (Gone c)) g));
  not_lost = no_loss c ks;
  not_shut = h.not_shut;
}

pub live_behind : (ks : List TraceKnock) (c : ℕ) (ps : List (List ℕ)) → IsLive (map knocked ks) [] c → IsLive (map knocked (ks ++ map (Bytes c) ps)) [] c
live_behind ks c ps h = record {
  opened = subst (λ ts. Contains ts (knocked (Opened c))) (sym (parted ks c ps)) (Contains-append_left (map knocked ks) (map knocked (map (Bytes c) ps)) (knocked (Opened c)) h.opened);
  not_gone = λ g. elim (Contains-append_cases (map knocked ks) (map knocked (map (Bytes c) ps)) (knocked (Gone c)) (subst (λ ts. Contains ts (knocked (Gone c))) (parted ks c ps) g)) [
    | inl before ↦ h.not_gone before
    | inr pieces ↦ no_going c c ps pieces
  ];
  not_lost = no_loss c (ks ++ map (Bytes c) ps);
  not_shut = h.not_shut;
}

-- ---- the pieces of a request, one after the other

-- these pieces came, and this is left
pub record Saying (old : Sofar) (c : ℕ) (bytes : List ℕ) (new : Sofar) (rest : List ℕ) : Type 0 where
  pub came : List (List ℕ)
  pub cut : in_pieces bytes ≡ came ++ in_pieces rest
  pub is : new ≡ also old (map (Bytes c) came)
  pub whole : came ≡ [] → rest ≡ bytes
  pub live : came ≢ [] → IsLive (map knocked old.knocks) [] c

abbrev made : List TraceKnock → List ℕ → ℕ → Sofar
made knocks moments now = record { knocks = knocks; moments = moments; now = now }

also_from : (k l : List TraceKnock) (m n : List ℕ) (now : ℕ) → k ≡ l → m ≡ n → made k m now ≡ made l n now
also_from k l m n now ek em = ap₂ (λ a b. made a b now) ek em

pub also_none : (s : Sofar) → s ≡ also s []
also_none s = also_from s.knocks (s.knocks ++ []) s.moments (s.moments ++ []) s.now (sym (append-nil s.knocks)) (sym (append-nil s.moments))

pub also_more : (s : Sofar) (a b : List TraceKnock) → also (also s a) b ≡ also s (a ++ b)
also_more s a b =
    also_from ((s.knocks ++ a) ++ b) (s.knocks ++ (a ++ b)) ((s.moments ++ map (λ k. s.now) a) ++ map (λ k. s.now) b) (s.moments ++ map (λ k. s.now) (a ++ b)) s.now
    (append_assoc s.knocks a b)
    (append_assoc s.moments (map (λ k. s.now) a) (map (λ k. s.now) b) ∙ ap (λ ms. s.moments ++ ms) (sym (map-append (λ k. s.now) a b)))

pub saying_none : (old : Sofar) (c : ℕ) (bytes : List ℕ) → Saying old c bytes old bytes
saying_none old c bytes = record { came = []; cut = refl; is = also_none old; whole = λ e. refl; live = λ some. absurd (some refl) }

push_some : (came : List (List ℕ)) (p : List ℕ) → came ++ p ∷ [] ≢ []
push_some [] p e = cc
push_some (q ∷ came) p e = cc

-- one piece more
pub saying_more : (old : Sofar) (c : ℕ) (bytes : List ℕ) (mid : Sofar) (rest piece behind : List ℕ) (new : Sofar) → Saying old c bytes mid rest → rest ≢ [] → piece ≡ take 4096 rest → behind ≡ drop 4096 rest → new ≡ also mid (Bytes c piece ∷ []) → MayFollow (map knocked mid.knocks) (Bytes c piece) → Saying old c bytes new behind
saying_more old c bytes mid rest piece behind new s some front back is may =
    let live = live_before old.knocks c s.came (subst (λ (x : Sofar). IsLive (map knocked x.knocks) [] c) s.is may.allowed) in
    let pieces = first_piece rest some ∙ ap₂ (λ p r. p ∷ in_pieces r) (sym front) (sym back) in
    record {
      came = s.came ++ piece ∷ [];
      cut = s.cut ∙ ap (λ ps. s.came ++ ps) pieces ∙ sym (append_assoc s.came (piece ∷ []) (in_pieces behind));
      is = is ∙ ap (λ x. also x (Bytes c piece ∷ [])) s.is ∙ also_more old (map (Bytes c) s.came) (Bytes c piece ∷ []) ∙ ap (also old) (sym (map-append (Bytes c) s.came (piece ∷ [])));
      whole = λ none. absurd (push_some s.came piece none);
      live = λ any. live;
    }

pub saying_whole : (old : Sofar) (c : ℕ) (bytes : List ℕ) (new : Sofar) (rest : List ℕ) → Saying old c bytes new rest → rest ≡ [] → new ≡ also old (map (Bytes c) (in_pieces bytes))
saying_whole old c bytes new rest s none =
    s.is ∙ ap (λ ps. also old (map (Bytes c) ps)) (sym (s.cut ∙ ap (λ r. s.came ++ in_pieces r) none ∙ ap (λ ps. s.came ++ ps) no_pieces ∙ append-nil s.came))

-- bytes whose test says that they are empty
pub none_left : (b : Bool) (xs : List ℕ) → b ≡ (length xs == 0) → b ≡ true → xs ≡ []
none_left b [] e t = refl
none_left b (x ∷ xs) e t = absurd (grind (arith, e, t))

pub saying_live : (old : Sofar) (c : ℕ) (bytes : List ℕ) (new : Sofar) (rest : List ℕ) → Saying old c bytes new rest → rest ≡ [] → bytes ≢ [] → IsLive (map knocked old.knocks) [] c
saying_live old c bytes new rest s none some = s.live (λ nothing. some (sym (s.whole nothing) ∙ none))

front_fits : (rest piece : List ℕ) → rest ≢ [] → piece ≡ take 4096 rest → (1 ≤ length piece) × (length piece ≤ 4096)
front_fits rest piece some front = (omega (arith, ap length front, sizes rest some), omega (arith, ap length front, length_take 4096 rest))
  where
    length_take : (n : ℕ) (xs : List ℕ) → length (take n xs) ≤ n
    length_take zero xs = omega arith
    length_take (suc n) [] = omega arith
    length_take (suc n) (x ∷ xs) = omega (arith, length_take n xs)

    sizes : (rest : List ℕ) → rest ≢ [] → 1 ≤ length (take 4096 rest)
    sizes [] some = absurd (some refl)
    sizes (r ∷ rest) some = omega arith

-- a piece that may not come, of a connection that is not live
pub saying_refused : (old : Sofar) (c : ℕ) (bytes : List ℕ) (mid : Sofar) (rest piece : List ℕ) → Saying old c bytes mid rest → rest ≢ [] → piece ≡ take 4096 rest → (MayFollow (map knocked mid.knocks) (Bytes c piece) → ⊥) → IsLive (map knocked old.knocks) [] c → ⊥
saying_refused old c bytes mid rest piece s some front none live =
    none (record {
      fits = front_fits rest piece some front;
      allowed = subst (λ (x : Sofar). IsLive (map knocked x.knocks) [] c) (sym s.is) (live_behind old.knocks c s.came live);
    })

-- ---- the head of a request with a body

pub headed : (o : List ℕ) (n : ℕ) → ((o ++ (line (codes " HTTP/1.1") ++ (line (codes "Host: a") ++ codes "Content-Length: "))) ++ decimal n) ++ 13 ∷ 10 ∷ 13 ∷ 10 ∷ [] ≡ o ++ fields_of n
headed o n = simp append_assoc
