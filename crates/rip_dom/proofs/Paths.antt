-- Ways along a list: what one item taken out or put in leaves of them.
use Rattle.std.proofs.Common.{◌≡◌, ◌≢◌, ℕ, zero, suc, ◌<◌, ◌≤◌, true, false, ◌==◌, ◌⊎◌, inl, inr, List, [], ◌∷◌, length, Option, None, Some, refl, sym, ap, ◌∙◌, subst, arith}
use Rattle.std.proofs.lemmas.Bool.{cases_eq, cond-true, cond-false, eq-eqb, ne_eqb}
use Rattle.std.proofs.lemmas.Option.{same_Some, none-some}
use Rattle.rip_dom.specs.Lists.{without, is_place, with_item, first_of, last_or, item_behind, item_in_front}
use Rattle.rip_dom.specs.Linked.{Has, Differ, Apart, Path}

pub without-same : (c n : ℕ) (ns : List ℕ) → n ≡ c → without c (n ∷ ns) ≡ without c ns
without-same c n ns e = cond-true (n == c) (without c ns) (n ∷ without c ns) (eq-eqb n c e)

pub without-other : (c n : ℕ) (ns : List ℕ) → (n ≡ c → ⊥) → without c (n ∷ ns) ≡ n ∷ without c ns
without-other c n ns e = cond-false (n == c) (without c ns) (n ∷ without c ns) (ne_eqb n c e)

-- what is in the list without an item is in the list, and is not that item
pub has-without : (m c : ℕ) (ns : List ℕ) → Has m (without c ns) → Has m ns × (m ≡ c → ⊥)
has-without m c [] h = absurd h
has-without m c (n ∷ ns) h =
    elim (cases_eq n c) [
      | inl e ↦ let r = has-without m c ns (subst (Has m) (without-same c n ns e) h) in (inr r.0, r.1)
      | inr e ↦ elim (subst (Has m) (without-other c n ns e) h) [
        | inl f ↦ (inl f, λ g. e (sym f ∙ g))
        | inr g ↦ let r = has-without m c ns g in (inr r.0, r.1)
      ]
    ]

pub has-without-from : (m c : ℕ) (ns : List ℕ) → Has m ns → (m ≡ c → ⊥) → Has m (without c ns)
has-without-from m c [] h d = h
has-without-from m c (n ∷ ns) h d =
    elim (cases_eq n c) [
      | inl e ↦ subst (Has m) (sym (without-same c n ns e)) (elim h [ inl f ↦ absurd (d (f ∙ e)) | inr g ↦ has-without-from m c ns g d ])
      | inr e ↦ subst (Has m) (sym (without-other c n ns e)) (elim h [ inl f ↦ inl f | inr g ↦ inr (has-without-from m c ns g d) ])
    ]

-- a list is the same without what is not in it
pub without-absent : (c : ℕ) (ns : List ℕ) → (Has c ns → ⊥) → without c ns ≡ ns
without-absent c [] h = refl
without-absent c (n ∷ ns) h = without-other c n ns (λ e. h (inl (sym e))) ∙ ap (λ ms. n ∷ ms) (without-absent c ns (λ g. h (inr g)))

pub with_item-here : (c : ℕ) (at : Option ℕ) (n : ℕ) (ns : List ℕ) → is_place at n ≡ true → with_item c at (n ∷ ns) ≡ c ∷ n ∷ ns
with_item-here c at n ns e = cond-true (is_place at n) (c ∷ n ∷ ns) (n ∷ with_item c at ns) e

pub with_item-on : (c : ℕ) (at : Option ℕ) (n : ℕ) (ns : List ℕ) → is_place at n ≡ false → with_item c at (n ∷ ns) ≡ n ∷ with_item c at ns
with_item-on c at n ns e = cond-false (is_place at n) (c ∷ n ∷ ns) (n ∷ with_item c at ns) e

-- a place is the item, or it is not
pub place_cases : (at : Option ℕ) (n : ℕ) → ((at ≡ Some n) × (is_place at n ≡ true)) ⊎ ((at ≡ Some n → ⊥) × (is_place at n ≡ false))
place_cases None n = inr (λ e. none-some n e, refl)
place_cases (Some r) n = elim (cases_eq n r) [ inl e ↦ inl (ap (λ k. Some k) (sym e), eq-eqb n r e) | inr e ↦ inr (λ f. e (sym (same_Some r n f)), ne_eqb n r e) ]

pub has-with_item : (m c : ℕ) (at : Option ℕ) (ns : List ℕ) → Has m (with_item c at ns) → (m ≡ c) ⊎ Has m ns
has-with_item m c at [] h = elim h [ inl e ↦ inl e | inr g ↦ absurd g ]
has-with_item m c at (n ∷ ns) h =
    elim (place_cases at n) [
      | inl p ↦ subst (Has m) (with_item-here c at n ns p.1) h
      | inr p ↦ elim (subst (Has m) (with_item-on c at n ns p.1) h) [
        | inl e ↦ inr (inl e)
        | inr g ↦ elim (has-with_item m c at ns g) [ inl e ↦ inl e | inr f ↦ inr (inr f) ]
      ]
    ]

pub has-with_item-from : (m c : ℕ) (at : Option ℕ) (ns : List ℕ) → (m ≡ c) ⊎ Has m ns → Has m (with_item c at ns)
has-with_item-from m c at [] h = elim h [ inl e ↦ inl e | inr g ↦ inr g ]
has-with_item-from m c at (n ∷ ns) h =
    elim (place_cases at n) [
      | inl p ↦ subst (Has m) (sym (with_item-here c at n ns p.1)) h
      | inr p ↦ subst (Has m) (sym (with_item-on c at n ns p.1)) (elim h [
        | inl e ↦ inr (has-with_item-from m c at ns (inl e))
        | inr g ↦ elim g [ inl e ↦ inl e | inr f ↦ inr (has-with_item-from m c at ns (inr f)) ]
      ])
    ]

-- WAYS

abbrev pub Links : Type 0
Links = Option ℕ → Option ℕ

pub path-apart : (F B : Links) (x : Option ℕ) (ns : List ℕ) → Path F B x ns → Apart x ns
path-apart F B x [] p = λ m h. absurd h
path-apart F B x (n ∷ ns) p = p.2

-- a way stays where its own links stay
pub path-same : (F B G C : Links) (x : Option ℕ) (ns : List ℕ) → G x ≡ F x → ((m : ℕ) → Has m ns → G (Some m) ≡ F (Some m))
    → C None ≡ B None → ((m : ℕ) → Has m ns → C (Some m) ≡ B (Some m)) → Path F B x ns → Path G C x ns
path-same F B G C x [] fx fs bn bs p = (fx ∙ p.0, bn ∙ p.1)
path-same F B G C x (n ∷ ns) fx fs bn bs p =
    (fx ∙ p.0, bs n (inl refl) ∙ p.1, p.2, path-same F B G C (Some n) ns (fs n (inl refl)) (λ m h. fs m (inr h)) bn (λ m h. bs m (inr h)) p.3)

-- the place is an item of the list, or no item
abbrev pub IsAt : Option ℕ → List ℕ → Type 0
IsAt None ns = Unit {0}
IsAt (Some r) ns = Has r ns

-- what is in front of a place is where the way begins, or an item
pub front-cases : (F B : Links) (x at : Option ℕ) (ns : List ℕ) → Path F B x ns → IsAt at ns → (B at ≡ x) ⊎ ((m : ℕ) × Has m ns × (B at ≡ Some m))
front-cases F B x None [] p i = inl p.1
front-cases F B x (Some r) [] p i = absurd i
front-cases F B x None (n ∷ ns) p i = elim (front-cases F B (Some n) None ns p.3 tt) [ inl e ↦ inr (n, inl refl, e) | inr r ↦ inr (r.0, inr r.1, r.2) ]
front-cases F B x (Some r) (n ∷ ns) p i =
    elim i [
      | inl e ↦ inl (ap (λ k. B (Some k)) e ∙ p.1)
      | inr h ↦ elim (front-cases F B (Some n) (Some r) ns p.3 h) [ inl e ↦ inr (n, inl refl, e) | inr s ↦ inr (s.0, inr s.1, s.2) ]
    ]

-- what is behind an item is nothing, or an item of the list
pub behind-cases : (F B : Links) (x : Option ℕ) (c : ℕ) (ns : List ℕ) → Path F B x ns → Has c ns → (F (Some c) ≡ None) ⊎ ((m : ℕ) × Has m ns × (F (Some c) ≡ Some m))
behind-cases F B x c [] p h = absurd h
behind-cases F B x c (n ∷ []) p h = elim h [ inl e ↦ inl (ap (λ k. F (Some k)) e ∙ p.3.0) | inr g ↦ absurd g ]
behind-cases F B x c (n ∷ d ∷ ns) p h =
    elim h [
      | inl e ↦ inr (d, inr (inl refl), ap (λ k. F (Some k)) e ∙ p.3.0)
      | inr g ↦ elim (behind-cases F B (Some n) c (d ∷ ns) p.3 g) [ inl e ↦ inl e | inr r ↦ inr (r.0, inr r.1, r.2) ]
    ]

-- the links are the old ones but at two places: what was in front of the item leads to what was behind it
pub record Skips (F B G C : Links) (c : ℕ) : Type 0 where
  pub ahead : G (B (Some c)) ≡ F (Some c)
  pub back : C (F (Some c)) ≡ B (Some c)
  pub others : (z : Option ℕ) → z ≢ B (Some c) → z ≢ Some c → G z ≡ F z
  pub others_back : (z : Option ℕ) → z ≢ F (Some c) → z ≢ Some c → C z ≡ B z

skip-here : (F B G C : Links) (x : Option ℕ) (c : ℕ) (ns : List ℕ) → Skips F B G C c → B (Some c) ≡ x → Apart x (c ∷ ns) → Path F B (Some c) ns → Path G C x ns
skip-here F B G C x c [] s e a p = (ap G (sym e) ∙ s.ahead ∙ p.0, ap C (sym p.0) ∙ s.back ∙ e)
skip-here F B G C x c (d ∷ ns) s e a p = (
  ap G (sym e) ∙ s.ahead ∙ p.0,
  ap C (sym p.0) ∙ s.back ∙ e,
  λ m h. a m (inr h),
  path-same F B G C (Some d) ns
      (s.others (Some d) (λ f. a d (inr (inl refl)) (sym (f ∙ e))) (λ f. p.2 d (inl refl) (sym f)))
      (λ m h. s.others (Some m) (λ f. a m (inr (inr h)) (sym (f ∙ e))) (λ f. p.2 m (inr h) (sym f)))
      (s.others_back None (λ f. none-some d (f ∙ p.0)) (λ f. none-some c f))
      (λ m h. s.others_back (Some m) (λ f. path-apart F B (Some d) ns p.3 m h (sym (f ∙ p.0))) (λ f. p.2 m (inr h) (sym f)))
      p.3,
)

-- one item out of the way
pub path-without : (F B G C : Links) (x : Option ℕ) (c : ℕ) (ns : List ℕ) → Skips F B G C c → Has c ns → Path F B x ns → Path G C x (without c ns)
path-without F B G C x c [] s h p = absurd h
path-without F B G C x c (n ∷ ns) s h p =
    elim (cases_eq n c) [
      | inl e ↦
          let q : Path F B (Some c) ns = subst (λ k. Path F B (Some k) ns) e p.3 in
          let gone : without c (n ∷ ns) ≡ ns = without-same c n ns e ∙ without-absent c ns (λ g. path-apart F B (Some c) ns q c g refl) in
          subst (Path G C x) (sym gone) (skip-here F B G C x c ns s (ap (λ k. B (Some k)) (sym e) ∙ p.1) (subst (λ k. Apart x (k ∷ ns)) e p.2) q)
      | inr e ↦
          let g : Has c ns = elim h [ inl f ↦ absurd (e (sym f)) | inr g ↦ g ] in
          subst (Path G C x) (sym (without-other c n ns e)) (
            s.others x
                (λ f. elim (front-cases F B (Some n) (Some c) ns p.3 g) [ inl r ↦ p.2 n (inl refl) (f ∙ r) | inr r ↦ p.2 r.0 (inr r.1) (f ∙ r.2) ])
                (λ f. p.2 c (inr g) f)
                ∙ p.0,
            s.others_back (Some n)
                (λ f. elim (behind-cases F B (Some n) c ns p.3 g) [ inl r ↦ none-some n (sym (f ∙ r)) | inr r ↦ path-apart F B (Some n) ns p.3 r.0 r.1 (f ∙ r.2) ])
                (λ f. e (same_Some n c f))
                ∙ p.1,
            λ m k. p.2 m (elim k [ inl f ↦ inl f | inr j ↦ inr (has-without m c ns j).0 ]),
            path-without F B G C (Some n) c ns s g p.3,
          )
    ]

-- the links are the old ones but at three places: what was in front of the place leads to the item, and the item to the place
pub record Enters (F B G C : Links) (c : ℕ) (at : Option ℕ) : Type 0 where
  pub ahead : G (B at) ≡ Some c
  pub onward : G (Some c) ≡ at
  pub back : C at ≡ Some c
  pub backward : C (Some c) ≡ B at
  pub others : (z : Option ℕ) → z ≢ B at → z ≢ Some c → G z ≡ F z
  pub others_back : (z : Option ℕ) → z ≢ at → z ≢ Some c → C z ≡ B z

apart-more : (x : Option ℕ) (c : ℕ) (ns : List ℕ) → x ≢ Some c → Apart x ns → Apart x (c ∷ ns)
apart-more x c ns d a = λ m h. elim h [ inl e ↦ λ f. d (f ∙ ap (λ k. Some k) e) | inr g ↦ a m g ]

-- one item more in the way
pub path-with : (F B G C : Links) (x : Option ℕ) (c : ℕ) (at : Option ℕ) (ns : List ℕ) → Enters F B G C c at → IsAt at ns → x ≢ Some c → (Has c ns → ⊥) → Path F B x ns → Path G C x (with_item c at ns)
path-with F B G C x c (Some r) [] s i d o p = absurd i
path-with F B G C x c None [] s i d o p =
    (ap G (sym p.1) ∙ s.ahead, s.backward ∙ p.1, apart-more x c [] d (λ m h. absurd h), (s.onward, s.back))
path-with F B G C x c at (n ∷ ns) s i d o p =
    elim (place_cases at n) [
      | inl e ↦
          let front : B at ≡ x = ap B e.0 ∙ p.1 in
          subst (Path G C x) (sym (with_item-here c at n ns e.1)) (
            ap G (sym front) ∙ s.ahead,
            s.backward ∙ front,
            apart-more x c (n ∷ ns) d p.2,
            (
              s.onward ∙ e.0,
              ap C (sym e.0) ∙ s.back,
              (λ m h f. o (subst (λ k. Has k (n ∷ ns)) (sym (same_Some c m f)) h)),
              path-same F B G C (Some n) ns
                  (s.others (Some n) (λ f. p.2 n (inl refl) (sym (f ∙ front))) (λ f. o (inl (sym (same_Some n c f)))))
                  (λ m h. s.others (Some m) (λ f. p.2 m (inr h) (sym (f ∙ front))) (λ f. o (inr (subst (λ k. Has k ns) (same_Some m c f) h))))
                  (s.others_back None (λ f. none-some n (f ∙ e.0)) (λ f. none-some c f))
                  (λ m h. s.others_back (Some m) (λ f. path-apart F B (Some n) ns p.3 m h (sym (f ∙ e.0))) (λ f. o (inr (subst (λ k. Has k ns) (same_Some m c f) h))))
                  p.3,
            ),
          )
      | inr e ↦
          let j : IsAt at ns = later at n ns e.0 i in
          subst (Path G C x) (sym (with_item-on c at n ns e.1)) (
            s.others x (λ f. elim (front-cases F B (Some n) at ns p.3 j) [ inl r ↦ p.2 n (inl refl) (f ∙ r) | inr r ↦ p.2 r.0 (inr r.1) (f ∙ r.2) ]) d ∙ p.0,
            s.others_back (Some n) (λ f. e.0 (sym f)) (λ f. o (inl (sym (same_Some n c f)))) ∙ p.1,
            (λ m h. elim h [ inl f ↦ p.2 m (inl f) | inr g ↦ elim (has-with_item m c at ns g) [ inl f ↦ λ w. d (w ∙ ap (λ k. Some k) f) | inr g ↦ p.2 m (inr g) ] ]),
            path-with F B G C (Some n) c at ns s j (λ f. o (inl (sym (same_Some n c f)))) (λ g. o (inr g)) p.3,
          )
    ]
  where
    later : (at : Option ℕ) (n : ℕ) (ns : List ℕ) → (at ≡ Some n → ⊥) → IsAt at (n ∷ ns) → IsAt at ns
    later None n ns e i = tt
    later (Some r) n ns e i = elim i [ inl f ↦ absurd (e (ap (λ k. Some k) f)) | inr g ↦ g ]

-- ENDS AND NEIGHBOURS

pub path-first : (F B : Links) (x : Option ℕ) (ns : List ℕ) → Path F B x ns → F x ≡ first_of ns
path-first F B x [] p = p.0
path-first F B x (n ∷ ns) p = p.0

pub path-last : (F B : Links) (x : Option ℕ) (ns : List ℕ) → Path F B x ns → B None ≡ last_or x ns
path-last F B x [] p = p.1
path-last F B x (n ∷ ns) p = path-last F B (Some n) ns p.3

pub path-behind : (F B : Links) (x : Option ℕ) (c : ℕ) (ns : List ℕ) → Path F B x ns → Has c ns → F (Some c) ≡ item_behind c ns
path-behind F B x c [] p h = absurd h
path-behind F B x c (n ∷ ns) p h =
    elim (cases_eq n c) [
      | inl e ↦ ap (λ k. F (Some k)) (sym e) ∙ path-first F B (Some n) ns p.3 ∙ sym (cond-true (n == c) (first_of ns) (item_behind c ns) (eq-eqb n c e))
      | inr e ↦
          let g : Has c ns = elim h [ inl f ↦ absurd (e (sym f)) | inr g ↦ g ] in
          path-behind F B (Some n) c ns p.3 g ∙ sym (cond-false (n == c) (first_of ns) (item_behind c ns) (ne_eqb n c e))
    ]

pub path-front : (F B : Links) (x : Option ℕ) (c : ℕ) (ns : List ℕ) → Path F B x ns → Has c ns → B (Some c) ≡ item_in_front x c ns
path-front F B x c [] p h = absurd h
path-front F B x c (n ∷ ns) p h =
    elim (cases_eq n c) [
      | inl e ↦ ap (λ k. B (Some k)) (sym e) ∙ p.1 ∙ sym (cond-true (n == c) x (item_in_front (Some n) c ns) (eq-eqb n c e))
      | inr e ↦
          let g : Has c ns = elim h [ inl f ↦ absurd (e (sym f)) | inr g ↦ g ] in
          path-front F B (Some n) c ns p.3 g ∙ sym (cond-false (n == c) x (item_in_front (Some n) c ns) (ne_eqb n c e))
    ]

-- HOW MANY

pub path-differ : (F B : Links) (x : Option ℕ) (ns : List ℕ) → Path F B x ns → Differ ns
path-differ F B x [] p = tt
path-differ F B x (n ∷ ns) p = (λ h. path-apart F B (Some n) ns p.3 n h refl, path-differ F B (Some n) ns p.3)

differ-without : (c : ℕ) (ns : List ℕ) → Differ ns → Differ (without c ns)
differ-without c [] d = tt
differ-without c (n ∷ ns) d =
    elim (cases_eq n c) [
      | inl e ↦ subst Differ (sym (without-same c n ns e)) (differ-without c ns d.1)
      | inr e ↦ subst Differ (sym (without-other c n ns e)) (λ h. d.0 (has-without n c ns h).0, differ-without c ns d.1)
    ]

length-without : (c : ℕ) (ns : List ℕ) → Differ ns → length ns ≤ suc (length (without c ns))
length-without c [] d = omega arith
length-without c (n ∷ ns) d =
    elim (cases_eq n c) [
      | inl e ↦
          let same : length (without c (n ∷ ns)) ≡ length ns = ap length (without-same c n ns e ∙ without-absent c ns (λ h. d.0 (subst (λ k. Has k ns) (sym e) h))) in
          let more : length (n ∷ ns) ≡ suc (length ns) = refl in
          omega (arith, same, more)
      | inr e ↦
          let same : length (without c (n ∷ ns)) ≡ suc (length (without c ns)) = ap length (without-other c n ns e) in
          let more : length (n ∷ ns) ≡ suc (length ns) = refl in
          omega (arith, same, more, length-without c ns d.1)
    ]

-- a list of different numbers below a count has no more than that many
pub few-below : (count : ℕ) (ns : List ℕ) → Differ ns → ((m : ℕ) → Has m ns → m < count) → length ns ≤ count
few-below zero [] d b = omega arith
few-below zero (n ∷ ns) d b = let h : n < 0 = b n (inl refl) in absurd (omega (arith, h))
few-below (suc k) ns d b =
    let less : (m : ℕ) → Has m (without k ns) → m < k = λ m h. below m (has-without m k ns h) in
    omega (arith, length-without k ns d, few-below k (without k ns) (differ-without k ns d) less)
  where
    below : (m : ℕ) → Has m ns × (m ≡ k → ⊥) → m < k
    below m h = let l : m < suc k = b m h.0 in let n : m ≢ k = h.1 in omega (arith, l, n)

-- what is put before a place is read before it
pub put-read : (ns : List ℕ) (c r : ℕ) → (Has c ns → ⊥) → Has r ns → item_behind c (with_item c (Some r) ns) ≡ Some r
put-read [] c r o h = absurd h
put-read (n ∷ ns) c r o h =
    elim (place_cases (Some r) n) [
      | inl e ↦
          ap (item_behind c) (with_item-here c (Some r) n ns e.1)
          ∙ cond-true (c == c) (Some n) (item_behind c (n ∷ ns)) (eq-eqb c c refl)
          ∙ sym e.0
      | inr e ↦
          let g : Has r ns = elim h [ inl f ↦ absurd (e.0 (ap (λ k. Some k) f)) | inr g ↦ g ] in
          ap (item_behind c) (with_item-on c (Some r) n ns e.1)
          ∙ cond-false (n == c) (first_of (with_item c (Some r) ns)) (item_behind c (with_item c (Some r) ns)) (ne_eqb n c (λ f. o (inl (sym f))))
          ∙ put-read ns c r (λ k. o (inr k)) g
    ]
