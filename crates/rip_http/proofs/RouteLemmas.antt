-- What a router of the three routes answers.
use Rattle.std.proofs.Common.{◌≡◌, ◌∙◌, ℕ, zero, suc, ◌-◌, ◌<◌, ◌==◌, List, [], ◌∷◌, length, take, drop, Bool, true, false, cond, Option, Some, None, All, refl, sym, ap, arith, nat_lt, ◌&&◌, ◌||◌, not}
use Rattle.std.proofs.lemmas.Bool.{lt-ltb}
use Rattle.std.proofs.lemmas.Bool.Decides.{nat_tests}
use Rattle.std.specs.List.{list_any}
use Rattle.std.specs.Option.{option_map}
use Rattle.matchit.specs.Rows.{RowsOf}
use Rattle.matchit.specs.Seek.{own, step, or_else, seek, first, param_step, has_slash}
use Rattle.rip_http.specs.Routes.{route_of}
use Rattle.rip_http.specs.declared.request.Route.{Route}
use Rattle.rip_http.specs.declared.request.Route.TheVariants.{Page, Events, Quit}

module _ {K : Type 0} where
  first_of : (a : Option K) → or_else a None ≡ a
  first_of None = refl
  first_of (Some k) = refl

  no_param : (p : List ℕ) → (param_step {K = K} [] p).1 ≡ []
  unfolding param_step
  no_param p =
      elim (has_slash p) as (λ v. (cond {A = ℕ × RowsOf K} v (0, []) (length p, [])).1 ≡ []) [
        | true ↦ refl
        | false ↦ refl
      ]

  no_rows : (k : ℕ) (p : List ℕ) → seek {K = K} k [] p ≡ None
  unfolding seek
  no_rows k [] = refl
  no_rows (suc k) (b ∷ p) = no_rows k p
  no_rows zero (b ∷ p) =
      simp (no_rows 0 p, no_param (b ∷ p), no_rows ((param_step {K = K} [] (b ∷ p)).0 - 1) p)

  -- rows that go on with a byte alone
  by_byte : (rs : RowsOf K) (b : ℕ) (p : List ℕ) → step 256 rs ≡ [] → step 257 rs ≡ []
      → seek 0 rs (b ∷ p) ≡ seek 0 (step b rs) p
  unfolding seek
  by_byte rs b p e f =
      simp (e, f, no_param (b ∷ p), no_rows ((param_step {K = K} [] (b ∷ p)).0 - 1) p, first_of)

  -- all the rest is skipped
  skip_all : (rs : RowsOf K) (p : List ℕ) → seek (length p) rs p ≡ own rs
  unfolding seek
  skip_all rs [] = refl
  skip_all rs (b ∷ p) = skip_all rs p

  -- a parameter that is all of a row
  at_param : (k : K) (d : ℕ) (rest : List ℕ) → d < 256
      → seek 0 ((256 ∷ [], k) ∷ []) (d ∷ rest) ≡ cond (has_slash (d ∷ rest)) None (Some k)
  unfolding seek param_step
  at_param k d rest h =
      let no : (256 == d) ≡ false = grind (arith, nat_tests) in
      by (256 == d) (has_slash (d ∷ rest)) no
    where
      by : (v w : Bool) → v ≡ false
          → or_else (seek 0 (cond v (([], k) ∷ []) []) rest)
          (or_else
          (seek ((cond {A = ℕ × RowsOf K} w (0, []) (length (d ∷ rest), ([], k) ∷ [])).0 - 1) (cond {A = ℕ × RowsOf K} w (0, []) (length (d ∷ rest), ([], k) ∷ [])).1 rest)
          None)
          ≡ cond w None (Some k)
      by true w e = cc
      by false true e = simp (no_rows 0 rest)
      by false false e =
          let less : length (d ∷ rest) - 1 ≡ length rest = omega arith in
          simp (less, no_rows 0 rest, skip_all (([], k) ∷ []) rest)

  -- one segment, which is not empty
  abbrev in_segment : K → List ℕ → Option K
  in_segment k [] = None
  in_segment k (d ∷ rest) = cond (has_slash (d ∷ rest)) None (Some k)

  abbrev below : K → List ℕ → Option K
  below k [] = None
  below k (c ∷ rest) = cond (47 == c) (in_segment k rest) None

  abbrev after_slash : K → K → K → List ℕ → Option K
  after_slash page events quit [] = Some page
  after_slash page events quit (b ∷ rest) =
      cond (101 == b) (below events rest) (cond (113 == b) (below quit rest) None)

  -- what the rows of the three routes say, byte by byte
  abbrev chosen : K → K → K → List ℕ → Option K
  chosen page events quit [] = None
  chosen page events quit (a ∷ rest) = cond (47 == a) (after_slash page events quit rest) None

  in_segment_is : (k : K) (rest : List ℕ) → All (λ b. b < 256) rest
      → seek 0 ((256 ∷ [], k) ∷ []) rest ≡ in_segment k rest
  unfolding seek
  in_segment_is k [] h = refl
  in_segment_is k (d ∷ rest) h = at_param k d rest (h 0 0 (omega arith))

  below_is : (k : K) (rest : List ℕ) → All (λ b. b < 256) rest
      → seek 0 ((47 ∷ 256 ∷ [], k) ∷ []) rest ≡ below k rest
  unfolding seek
  below_is k [] h = refl
  below_is k (c ∷ rest) h = by_byte ((47 ∷ 256 ∷ [], k) ∷ []) c rest refl refl ∙ by (47 == c)
    where
      by : (v : Bool) → seek 0 (cond v ((256 ∷ [], k) ∷ []) []) rest ≡ cond v (in_segment k rest) None
      by true = in_segment_is k rest (λ i d l. h (suc i) d (omega arith))
      by false = no_rows 0 rest

  after_slash_is : (page events quit : K) (rest : List ℕ) → All (λ b. b < 256) rest
      → seek 0 ((101 ∷ 47 ∷ 256 ∷ [], events) ∷ (113 ∷ 47 ∷ 256 ∷ [], quit) ∷ ([], page) ∷ []) rest
      ≡ after_slash page events quit rest
  unfolding seek
  after_slash_is page events quit [] h = refl
  after_slash_is page events quit (b ∷ rest) h =
      by_byte ((101 ∷ 47 ∷ 256 ∷ [], events) ∷ (113 ∷ 47 ∷ 256 ∷ [], quit) ∷ ([], page) ∷ []) b rest refl refl
      ∙ by (101 == b) (113 == b) refl refl
    where
      tail : All (λ b. b < 256) rest
      tail i d l = h (suc i) d (omega arith)

      by : (v w : Bool) → (101 == b) ≡ v → (113 == b) ≡ w
          → seek 0 (cond v ((47 ∷ 256 ∷ [], events) ∷ cond w ((47 ∷ 256 ∷ [], quit) ∷ []) []) (cond w ((47 ∷ 256 ∷ [], quit) ∷ []) [])) rest
          ≡ cond v (below events rest) (cond w (below quit rest) None)
      by true true e f = grind (arith, nat_tests)
      by true false e f = below_is events rest tail
      by false true e f = below_is quit rest tail
      by false false e f = no_rows 0 rest

  chosen_is : (page events quit : K) (path : List ℕ) → All (λ b. b < 256) path
      → first ((47 ∷ 101 ∷ 47 ∷ 256 ∷ [], events) ∷ (47 ∷ 113 ∷ 47 ∷ 256 ∷ [], quit) ∷ (47 ∷ [], page) ∷ []) path
      ≡ chosen page events quit path
  unfolding seek
  chosen_is page events quit [] h = refl
  chosen_is page events quit (a ∷ rest) h =
      by_byte ((47 ∷ 101 ∷ 47 ∷ 256 ∷ [], events) ∷ (47 ∷ 113 ∷ 47 ∷ 256 ∷ [], quit) ∷ (47 ∷ [], page) ∷ []) a rest refl refl
      ∙ by (47 == a)
    where
      by : (v : Bool)
          → seek 0 (cond v ((101 ∷ 47 ∷ 256 ∷ [], events) ∷ cond v ((113 ∷ 47 ∷ 256 ∷ [], quit) ∷ cond v (([], page) ∷ []) []) (cond v (([], page) ∷ []) [])) (cond v ((113 ∷ 47 ∷ 256 ∷ [], quit) ∷ cond v (([], page) ∷ []) []) (cond v (([], page) ∷ []) []))) rest
          ≡ cond v (after_slash page events quit rest) None
      by true = after_slash_is page events quit rest (λ i d l. h (suc i) d (omega arith))
      by false = no_rows 0 rest

any_slash : (xs : List ℕ) → list_any (λ b. b == 47) xs ≡ has_slash xs
any_slash [] = refl
any_slash (b ∷ xs) = by (b == 47) (any_slash xs)
  where
    by : (v : Bool) → list_any (λ b. b == 47) xs ≡ has_slash xs → (v || list_any (λ b. b == 47) xs) ≡ cond v true (has_slash xs)
    by true e = refl
    by false e = e

dead : {A : Type 0} (b : Bool) (x y : Option A) → x ≡ None → y ≡ None → cond b x y ≡ None
dead true x y e f = e
dead false x y e f = f

no_page : (v : Bool) → cond (v && false) (Some Page) None ≡ None
no_page true = refl
no_page false = refl

module _ {K : Type 0} (f : K → Route) (page events quit : K) (is_page : f page ≡ Page) (is_events : f events ≡ Events) (is_quit : f quit ≡ Quit) where
  one_byte : (v w : Bool) → v ≡ w
      → option_map f (cond v (Some page) None) ≡ cond (w && true) (Some Page) None
  one_byte true true e = ap Some is_page
  one_byte true false e = cc
  one_byte false true e = cc
  one_byte false false e = refl

  -- any path of more than three bytes: those three, and whether a slash stands behind them
  more_bytes : (a e q c s : Bool)
      → option_map f (cond a (cond e (cond c (cond s None (Some events)) None) (cond q (cond c (cond s None (Some quit)) None) None)) None)
      ≡ cond ((a && (e && (c && true))) && not s) (Some Events) (cond ((a && (q && (c && true))) && not s) (Some Quit) None)
  more_bytes false e q c s = refl
  more_bytes true true true true true = refl
  more_bytes true true false true true = refl
  more_bytes true true q true false = ap Some is_events
  more_bytes true true true false s = refl
  more_bytes true true false false s = refl
  more_bytes true false true true true = refl
  more_bytes true false true true false = ap Some is_quit
  more_bytes true false true false s = refl
  more_bytes true false false c s = refl

  long_path : (v a e q c s l n : Bool) → n ≡ true → l ≡ s
      → option_map f (cond a (cond e (cond c (cond s None (Some events)) None) (cond q (cond c (cond s None (Some quit)) None) None)) None)
      ≡ cond (v && false) (Some Page)
      (cond (n && ((a && (e && (c && true))) && not l)) (Some Events)
      (cond (n && ((a && (q && (c && true))) && not l)) (Some Quit) None))
  long_path v a e q c s l false en el = cc
  long_path true a e q c s l true en el = rw el (more_bytes a e q c s)
  long_path false a e q c s l true en el = rw el (more_bytes a e q c s)

  turned : (a : ℕ) → (47 == a) ≡ (a == 47)
  turned a = grind (arith, nat_tests)

  chosen_route : (path : List ℕ) → option_map f (chosen page events quit path) ≡ route_of path
  chosen_route [] = refl
  chosen_route (a ∷ []) = one_byte (47 == a) (a == 47) (turned a)
  chosen_route (a ∷ b ∷ []) =
      let none : chosen page events quit (a ∷ b ∷ []) ≡ None = dead (47 == a) _ _ (dead (101 == b) _ _ refl (dead (113 == b) _ _ refl refl)) refl in
      ap (option_map f) none ∙ sym (no_page (a == 47))
  chosen_route (a ∷ b ∷ c ∷ []) =
      let none : chosen page events quit (a ∷ b ∷ c ∷ []) ≡ None =
      dead (47 == a) _ _ (dead (101 == b) _ _ (dead (47 == c) _ _ refl refl) (dead (113 == b) _ _ (dead (47 == c) _ _ refl refl) refl)) refl in
      ap (option_map f) none ∙ sym (no_page (a == 47))
  chosen_route (a ∷ b ∷ c ∷ d ∷ rest) =
      let more : nat_lt 3 (length (a ∷ b ∷ c ∷ d ∷ rest)) ≡ true = lt-ltb 3 (length (a ∷ b ∷ c ∷ d ∷ rest)) (omega arith) in
      long_path (a == 47) (47 == a) (101 == b) (113 == b) (47 == c) (has_slash (d ∷ rest)) (list_any (λ x. x == 47) (d ∷ rest)) (nat_lt 3 (length (a ∷ b ∷ c ∷ d ∷ rest))) more (any_slash (d ∷ rest))

  -- the rows of the three routes give each path its route
  pub rows_route : (path : List ℕ) → All (λ b. b < 256) path
      → option_map f (first ((47 ∷ 101 ∷ 47 ∷ 256 ∷ [], events) ∷ (47 ∷ 113 ∷ 47 ∷ 256 ∷ [], quit) ∷ (47 ∷ [], page) ∷ []) path)
      ≡ route_of path
  rows_route path h = ap (option_map f) (chosen_is page events quit path h) ∙ chosen_route path

first_fails : (p q : Bool) → (p || q) ≡ false → (p || false) ≡ false
first_fails true q e = e
first_fails false q e = refl

-- of a segment in which no slash stands, the first byte tells the route
pub front_route : (path : List ℕ) → 4 < length path → list_any (λ b. b == 47) (drop 3 path) ≡ false → route_of (take 4 path) ≡ route_of path
front_route (a ∷ b ∷ c ∷ d ∷ rest) within none =
    let more : nat_lt 3 (length (a ∷ b ∷ c ∷ d ∷ rest)) ≡ true = lt-ltb 3 (length (a ∷ b ∷ c ∷ d ∷ rest)) (omega arith) in
    let one : ((d == 47) || false) ≡ false = first_fails (d == 47) (list_any (λ x. x == 47) rest) none in
    simp (more, none, one)
front_route [] within none = absurd (omega (arith, within))
front_route (a ∷ []) within none = absurd (omega (arith, within))
front_route (a ∷ b ∷ []) within none = absurd (omega (arith, within))
front_route (a ∷ b ∷ c ∷ []) within none = absurd (omega (arith, within))
