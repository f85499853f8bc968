-- A listener is put behind the others: the links lead along the chains as before, and to it.
use Rattle.std.proofs.Common.{◌≡◌, ℕ, suc, ◌+◌, ◌-◌, ◌<◌, ◌≤◌, ◌⊎◌, inl, inr, Bool, true, false, ◌==◌, List, [], ◌∷◌, ◌++◌, length, set, Option, None, Some, refl, sym, ap, ap₂, ◌∙◌, subst, arith, length-set, get_or-set_same, get_or-set_other}
use Rattle.std.specs.Prelude.{IfSome}
use Rattle.std.proofs.lemmas.Bool.{cases_eq, cases_lt, both_ways, eq-eqb, ne_eqb}
use Rattle.std.proofs.lemmas.Option.{none-some, same_Some}
use Rattle.std.proofs.lemmas.List.{get_or_append_left, get_or_push, length_push}
use Rattle.rip_events.specs.declared.listener.Listener.{Listener}
use Rattle.rip_events.specs.declared.listeners.Ends.{Ends}
use Rattle.rip_events.specs.Listed.{listener_at, no_listener, first_number}
use Rattle.rip_events.specs.Chained.{no_ends, ends_at, ends_with, or_this, link_at, with_link, is_on, first_on, AreSameEnds, IsChained}
use Rattle.rip_events.proofs.Chains.{none-passes, same, or_last, one-more, or-last-not, or-last-this, beyond}

abbrev pushed : List Listener → Listener → List Listener
pushed all x = all ++ x ∷ []

node-old : (all : List Listener) (x : Listener) (n : ℕ) → n < length all → listener_at (pushed all x) n ≡ listener_at all n
node-old all x n h = get_or_append_left all (x ∷ []) no_listener n h

node-new : (all : List Listener) (x : Listener) → listener_at (pushed all x) (length all) ≡ x
node-new all x = get_or_push all x no_listener (length all) refl

on-new : (all : List Listener) (x : Listener) (p : ℕ) → is_on (pushed all x) p (length all) ≡ (x.node == p)
on-new all x p = ap (λ (l : Listener). l.node == p) (node-new all x)

-- the first of a node from a number on, when there is one listener more
first-more : (all : List Listener) (x : Listener) (p n : ℕ) → n ≤ length all → first_on (pushed all x) p n ≡ or_last (first_on all p n) (x.node == p) (length all)
first-more all x p n h =
    let e : length (pushed all x) - n ≡ suc (length all - n) = omega (arith, length_push all x, h) in
    let f : length all ≡ n + (length all - n) = omega (arith, h) in
    ap (λ k. first_number k n (is_on (pushed all x) p)) e ∙ one-more (length all - n) n (length all) (is_on (pushed all x) p) f
    ∙ ap₂ (λ o b. or_last o b (length all))
    (same (length all - n) n (is_on (pushed all x) p) (is_on all p) (λ m g. ap (λ (l : Listener). l.node == p) (node-old all x m (omega (arith, f, g)))))
    (on-new all x p)

first-other : (all : List Listener) (x : Listener) (p n : ℕ) → n ≤ length all → (x.node ≡ p → ⊥) → first_on (pushed all x) p n ≡ first_on all p n
first-other all x p n h e = first-more all x p n h ∙ or-last-not (first_on all p n) (x.node == p) (length all) (ne_eqb x.node p e)

first-this : (all : List Listener) (x : Listener) (p n : ℕ) → n ≤ length all → x.node ≡ p → first_on (pushed all x) p n ≡ or_this (first_on all p n) (length all)
first-this all x p n h e = first-more all x p n h ∙ or-last-this (first_on all p n) (x.node == p) (length all) (eq-eqb x.node p e)

-- what comes behind a listener that is not the last
or-this-some : (o : Option ℕ) (c : ℕ) → (o ≡ None → ⊥) → or_this o c ≡ o
or-this-some None c f = absurd (f refl)
or-this-some (Some m) c f = refl

or-this-none : (o : Option ℕ) (c : ℕ) → o ≡ None → or_this o c ≡ Some c
or-this-none None c f = refl
or-this-none (Some m) c f = absurd (none-some m (sym f))

-- on a node, from the number on, no listener: then this one is not on it
not-on : (all : List Listener) (p n m : ℕ) → first_on all p n ≡ None → n ≤ m → m < length all → (listener_at all m).node ≡ p → ⊥
not-on all p n m f a b e = both_ways (is_on all p m) (none-passes (length all - n) n m (is_on all p) f a (omega (arith, a, b))) (eq-eqb (listener_at all m).node p e)

length-with_link : (links : List (Option ℕ)) (o : Option ℕ) (c : ℕ) → length (with_link links o c) ≡ length links
length-with_link links None c = refl
length-with_link links (Some l) c = length-set links l (Some c)

-- the links of all but the last stay
link-other : (links : List (Option ℕ)) (o : Option ℕ) (c n : ℕ) → n < length links → (o ≡ Some n → ⊥) → link_at (with_link links o c ++ None ∷ []) n ≡ link_at links n
link-other links o c n h f = get_or_append_left (with_link links o c) (None ∷ []) None n (subst (λ k. n < k) (sym (length-with_link links o c)) h) ∙ by o f
  where
    by : (o : Option ℕ) → (o ≡ Some n → ⊥) → link_at (with_link links o c) n ≡ link_at links n
    by None f = refl
    by (Some l) f = get_or-set_other links l n (Some c) None (λ e. f (ap Some (sym e)))

link-last : (links : List (Option ℕ)) (c n : ℕ) → n < length links → link_at (with_link links (Some n) c ++ None ∷ []) n ≡ Some c
link-last links c n h = get_or_append_left (set links n (Some c)) (None ∷ []) None n (subst (λ k. n < k) (sym (length-set links n (Some c))) h) ∙ get_or-set_same links n (Some c) None h

link-new : (links : List (Option ℕ)) (o : Option ℕ) (c : ℕ) → link_at (with_link links o c ++ None ∷ []) (length links) ≡ None
link-new links o c = get_or_push (with_link links o c) None None (length links) (length-with_link links o c)

pub chained : (limit : ℕ) (all : List Listener) (standing : List Bool) (links : List (Option ℕ)) (ends padded : List Ends) (x : Listener) → IsChained limit all standing links ends
    → AreSameEnds ends padded → x.node < length padded → length all < limit
    → IsChained limit (pushed all x) (standing ++ true ∷ []) (with_link links (ends_at ends x.node).last (length all) ++ None ∷ []) (set padded x.node (ends_with (ends_at padded x.node) (length all)))
chained limit all standing links ends padded x c s r h = record {
  standing_count = length_push standing true ∙ ap (λ k. k + 1) c.standing_count ∙ sym (length_push all x);
  link_count = length_push links' None ∙ ap (λ k. k + 1) (length-with_link links e.last (length all) ∙ c.link_count) ∙ sym (length_push all x);
  few = omega (arith, length_push all x, h);
  small = c.small;
  first = λ p. first-at p (cases_eq x.node p);
  next = λ n b. next-at n (cases_eq n (length all)) (omega (arith, length_push all x, b));
  last = λ p l d. last-at p l (cases_eq x.node p) d;
  empty = λ p d. empty-at p (cases_eq x.node p) d;
}
  where
    e : Ends
    e = ends_at ends x.node

    links' : List (Option ℕ)
    links' = with_link links e.last (length all)

    ends' : List Ends
    ends' = set padded x.node (ends_with (ends_at padded x.node) (length all))

    ends-this : ends_at ends' x.node ≡ ends_with e (length all)
    ends-this = get_or-set_same padded x.node (ends_with (ends_at padded x.node) (length all)) no_ends r ∙ ap (λ d. ends_with d (length all)) (s x.node)

    ends-other : (p : ℕ) → (x.node ≡ p → ⊥) → ends_at ends' p ≡ ends_at ends p
    ends-other p d = get_or-set_other padded x.node p (ends_with (ends_at padded x.node) (length all)) no_ends (λ q. d (sym q)) ∙ s p

    first-at : (p : ℕ) → (x.node ≡ p) ⊎ (x.node ≡ p → ⊥) → (ends_at ends' p).first ≡ first_on (pushed all x) p 0
    first-at p (inl d) = ap (λ q. (ends_at ends' q).first) (sym d) ∙ ap (λ (y : Ends). y.first) ends-this ∙ ap (λ o. or_this o (length all)) (c.first x.node ∙ ap (λ q. first_on all q 0) d) ∙ sym (first-this all x p 0 (omega arith) d)
    first-at p (inr d) = ap (λ (y : Ends). y.first) (ends-other p d) ∙ c.first p ∙ sym (first-other all x p 0 (omega arith) d)

    is-last : (n : ℕ) → n < length all → x.node ≡ (listener_at all n).node → (o : Option ℕ) → e.last ≡ o → (o ≡ Some n → ⊥) → first_on all (listener_at all n).node (suc n) ≡ None → ⊥
    is-last n b d None o f z = not-on all x.node 0 n (c.empty x.node o) (omega arith) b (sym d)
    is-last n b d (Some l) o f z = let k = c.last x.node l o in by k (cases_lt n l)
      where
        by : (l < length all) × ((listener_at all l).node ≡ x.node) × (link_at links l ≡ None) → (n < l) ⊎ (l ≤ n) → ⊥
        by k (inl t) = not-on all (listener_at all n).node (suc n) l z (omega (arith, t)) k.0 (k.1 ∙ d)
        by k (inr t) = let u : (n ≡ l → ⊥) = λ q. f (ap Some (sym q)) in
            not-on all (listener_at all l).node (suc l) n (sym (c.next l k.0) ∙ k.2) (omega (arith, t, u)) b (sym d ∙ sym k.1)

    same-last : (n : ℕ) (o : Option ℕ) → (o ≡ Some n) ⊎ (o ≡ Some n → ⊥)
    same-last n None = inr (λ q. none-some n q)
    same-last n (Some l) = by (cases_eq l n)
      where
        by : (l ≡ n) ⊎ (l ≡ n → ⊥) → (Some l ≡ Some n) ⊎ (Some l ≡ Some n → ⊥)
        by (inl q) = inl (ap Some q)
        by (inr q) = inr (λ w. q (same_Some l n w))

    next-on : (n : ℕ) → n < length all → (x.node ≡ (listener_at all n).node) ⊎ (x.node ≡ (listener_at all n).node → ⊥) → (e.last ≡ Some n) ⊎ (e.last ≡ Some n → ⊥)
        → link_at (links' ++ None ∷ []) n ≡ first_on (pushed all x) (listener_at all n).node (suc n)
    next-on n b (inl d) (inl o) = let k = c.last x.node n o in
        ap (λ o. link_at (with_link links o (length all) ++ None ∷ []) n) o ∙ link-last links (length all) n (subst (λ k. n < k) (sym c.link_count) b)
        ∙ sym (first-this all x (listener_at all n).node (suc n) b d ∙ or-this-none (first_on all (listener_at all n).node (suc n)) (length all) (sym (c.next n b) ∙ k.2))
    next-on n b (inl d) (inr o) =
        link-other links e.last (length all) n (subst (λ k. n < k) (sym c.link_count) b) o ∙ c.next n b
        ∙ sym (first-this all x (listener_at all n).node (suc n) b d ∙ or-this-some (first_on all (listener_at all n).node (suc n)) (length all) (is-last n b d e.last refl o))
    next-on n b (inr d) (inl o) = absurd (d (sym ((c.last x.node n o).1)))
    next-on n b (inr d) (inr o) =
        link-other links e.last (length all) n (subst (λ k. n < k) (sym c.link_count) b) o ∙ c.next n b ∙ sym (first-other all x (listener_at all n).node (suc n) b d)

    next-at : (n : ℕ) → (n ≡ length all) ⊎ (n ≡ length all → ⊥) → n < length all + 1 → link_at (links' ++ None ∷ []) n ≡ first_on (pushed all x) (listener_at (pushed all x) n).node (suc n)
    next-at n (inl d) b = ap (link_at (links' ++ None ∷ [])) (d ∙ sym c.link_count) ∙ link-new links e.last (length all)
        ∙ sym (beyond (length (pushed all x)) (suc n) (is_on (pushed all x) (listener_at (pushed all x) n).node) (omega (arith, d, length_push all x)))
    next-at n (inr d) b = let w : n < length all = omega (arith, b, d) in
        next-on n w (cases_eq x.node (listener_at all n).node) (same-last n e.last) ∙ ap (λ (l : Listener). first_on (pushed all x) l.node (suc n)) (sym (node-old all x n w))

    last-at : (p l : ℕ) → (x.node ≡ p) ⊎ (x.node ≡ p → ⊥) → (ends_at ends' p).last ≡ Some l → (l < length (pushed all x)) × ((listener_at (pushed all x) l).node ≡ p) × (link_at (links' ++ None ∷ []) l ≡ None)
    last-at p l (inl d) o =
        let q : length all ≡ l = same_Some (length all) l (sym (ap (λ q. (ends_at ends' q).last) (sym d) ∙ ap (λ (y : Ends). y.last) ends-this) ∙ o) in (
          omega (arith, q, length_push all x),
          ap (λ k. (listener_at (pushed all x) k).node) (sym q) ∙ ap (λ (l : Listener). l.node) (node-new all x) ∙ d,
          ap (link_at (links' ++ None ∷ [])) (sym q ∙ sym c.link_count) ∙ link-new links e.last (length all),
        )
    last-at p l (inr d) o = let k = c.last p l (sym (ap (λ (y : Ends). y.last) (ends-other p d)) ∙ o) in (
      omega (arith, k.0, length_push all x),
      ap (λ (l : Listener). l.node) (node-old all x l k.0) ∙ k.1,
      link-other links e.last (length all) l (subst (λ m. l < m) (sym c.link_count) k.0) (λ w. d (sym ((c.last x.node l w).1) ∙ k.1)) ∙ k.2,
    )

    empty-at : (p : ℕ) → (x.node ≡ p) ⊎ (x.node ≡ p → ⊥) → (ends_at ends' p).last ≡ None → first_on (pushed all x) p 0 ≡ None
    empty-at p (inl d) o = absurd (none-some (length all) (sym o ∙ ap (λ q. (ends_at ends' q).last) (sym d) ∙ ap (λ (y : Ends). y.last) ends-this))
    empty-at p (inr d) o = first-other all x p 0 (omega arith) d ∙ c.empty p (sym (ap (λ (y : Ends). y.last) (ends-other p d)) ∙ o)

-- the same of what the calls leave
pub put : (limit : ℕ) (all all' : List Listener) (standing standing' : List Bool) (links linked links' : List (Option ℕ)) (ends padded ends' : List Ends) (x : Listener) (count : ℕ) (last : Option ℕ)
    → IsChained limit all standing links ends → AreSameEnds ends padded → x.node < length padded → length all < limit → count ≡ length all → last ≡ (ends_at ends x.node).last
    → ends' ≡ set padded x.node (ends_with (ends_at padded x.node) count) → linked ≡ with_link links last count → links' ≡ linked ++ None ∷ [] → all' ≡ pushed all x → standing' ≡ standing ++ true ∷ []
    → IsChained limit all' standing' links' ends'
put limit all all' standing standing' links linked links' ends padded ends' x count last c s r h n o e k l a t =
    subst (λ y. IsChained limit y standing' links' ends') (sym a)
    (subst (λ y. IsChained limit (pushed all x) y links' ends') (sym t)
    (subst (λ y. IsChained limit (pushed all x) (standing ++ true ∷ []) y ends') (sym links-are)
    (subst (λ y. IsChained limit (pushed all x) (standing ++ true ∷ []) (with_link links (ends_at ends x.node).last (length all) ++ None ∷ []) y) (sym ends-are)
    (chained limit all standing links ends padded x c s r h))))
  where
    links-are : links' ≡ with_link links (ends_at ends x.node).last (length all) ++ None ∷ []
    links-are = l ∙ ap (λ y. y ++ None ∷ []) (k ∙ ap₂ (λ o n. with_link links o n) o n)

    ends-are : ends' ≡ set padded x.node (ends_with (ends_at padded x.node) (length all))
    ends-are = e ∙ ap (λ n. set padded x.node (ends_with (ends_at padded x.node) n)) n

-- one that stands no longer hangs where it hung
pub taken : (limit n : ℕ) (all : List Listener) (standing standing' : List Bool) (links : List (Option ℕ)) (ends : List Ends) → IsChained limit all standing links ends → standing' ≡ set standing n false → IsChained limit all standing' links ends
taken limit n all standing standing' links ends c e = record {
  standing_count = ap length e ∙ length-set standing n false ∙ c.standing_count;
  link_count = c.link_count;
  few = c.few;
  small = c.small;
  first = c.first;
  next = c.next;
  last = c.last;
  empty = c.empty;
}

pub last-within : (limit : ℕ) (all : List Listener) (standing : List Bool) (links : List (Option ℕ)) (ends : List Ends) (p : ℕ) (e : Ends) → IsChained limit all standing links ends → e ≡ ends_at ends p → IfSome e.last (λ l. l < length links)
last-within limit all standing links ends p e c q = by e.last (ap (λ (y : Ends). y.last) (sym q))
  where
    by : (o : Option ℕ) → (ends_at ends p).last ≡ o → IfSome o (λ l. l < length links)
    by None h = tt
    by (Some l) h = subst (λ k. l < k) (sym c.link_count) (c.last p l h).0
