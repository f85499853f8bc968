-- What an item taken out or put in leaves of all lists.
use Rattle.std.proofs.Common.{◌≡◌, ◌≢◌, ℕ, zero, suc, ◌<◌, ◌≤◌, inl, inr, List, [], ◌∷◌, length, map, get_or, set, Option, None, Some, refl, sym, ap, ◌∙◌, subst, arith, length-set, get_or-set_same, get_or-set_other}
use Rattle.std.specs.Prelude.{IfSome}
use Rattle.std.proofs.lemmas.Bool.{cases_eq, cases_lt}
use Rattle.std.proofs.lemmas.Option.{same_Some, none-some}
use Rattle.std.proofs.lemmas.List.{length-map, ext_get_or, get_or-map, get_or_past}
use Rattle.rip_dom.specs.declared.lists.Ends.{Ends}
use Rattle.rip_dom.specs.declared.lists.Item.{Item}
use Rattle.rip_dom.specs.Lists.{list_at, owner_at, without, with_item}
use Rattle.rip_dom.specs.Linked.{no_ends, no_item, ends_at, item_at, forward, backward, owner_of, walk, lists_of, ends_forward, ends_backward, items_forward, items_backward, ends_joined, items_joined, Has, Path, Linked, AreLinked}
use Rattle.rip_dom.proofs.Paths.{Links, IsAt, path-same, path-without, path-with, path-differ, few-below, front-cases, behind-cases, has-without, has-without-from, has-with_item, has-with_item-from, without-absent}

-- what a change at one place leaves of a part that it does not change
kept : {A C : Type 0} (f : A → C) (l : List A) (i : ℕ) (v d : A) → i < length l → f v ≡ f (get_or l i d) → (k : ℕ) → f (get_or (set l i v) k d) ≡ f (get_or l k d)
kept {A} f l i v d h e k =
    elim (cases_eq k i) [
      | inl s ↦ subst (λ k. f (get_or (set l i v) k d) ≡ f (get_or l k d)) (sym s) (ap f (get_or-set_same l i v d h) ∙ e)
      | inr s ↦ ap f (get_or-set_other l i k v d s)
    ]

abbrev first_in : Ends → Option ℕ
first_in e = e.first

abbrev last_in : Ends → Option ℕ
last_in e = e.last

abbrev next_in : Item → Option ℕ
next_in i = i.next

abbrev previous_in : Item → Option ℕ
previous_in i = i.previous

abbrev owner_in : Item → Option ℕ
owner_in i = i.owner

-- the number is none, or that of an item
abbrev pub IsWithin : Option ℕ → ℕ → Type 0
IsWithin x count = IfSome x (λ n. n < count)

-- two places of lists are different: the starts of different lists, or different items, or of different kinds
abbrev pub Other : ℕ → Option ℕ → ℕ → Option ℕ → Type 0
Other p None q None = p ≢ q
Other p None q (Some m) = Unit {0}
Other p (Some n) q None = Unit {0}
Other p (Some n) q (Some m) = n ≢ m

forward-at : (E : List Ends) (I : List Item) (p : ℕ) (x y : Option ℕ) → p < length E → IsWithin x (length I) → forward (ends_forward E p x y) (items_forward I x y) p x ≡ y
forward-at E I p None y h r = ap first_in (get_or-set_same E p (record (ends_at E p) { first = y }) no_ends h)
forward-at E I p (Some n) y h r = ap next_in (get_or-set_same I n (record (item_at I n) { next = y }) no_item r)

forward-else : (E : List Ends) (I : List Item) (p : ℕ) (x y : Option ℕ) (q : ℕ) (z : Option ℕ) → Other p x q z → forward (ends_forward E p x y) (items_forward I x y) q z ≡ forward E I q z
forward-else E I p None y q None o = ap first_in (get_or-set_other E p q (record (ends_at E p) { first = y }) no_ends (λ e. o (sym e)))
forward-else E I p None y q (Some m) o = refl
forward-else E I p (Some n) y q None o = refl
forward-else E I p (Some n) y q (Some m) o = ap next_in (get_or-set_other I n m (record (item_at I n) { next = y }) no_item (λ e. o (sym e)))

backward-kept : (E : List Ends) (I : List Item) (p : ℕ) (x y : Option ℕ) (q : ℕ) (z : Option ℕ) → p < length E → IsWithin x (length I) → backward (ends_forward E p x y) (items_forward I x y) q z ≡ backward E I q z
backward-kept E I p None y q None h r = kept last_in E p (record (ends_at E p) { first = y }) no_ends h refl q
backward-kept E I p None y q (Some m) h r = refl
backward-kept E I p (Some n) y q None h r = refl
backward-kept E I p (Some n) y q (Some m) h r = kept previous_in I n (record (item_at I n) { next = y }) no_item r refl m

owner-forward : (I : List Item) (x y : Option ℕ) (m : ℕ) → IsWithin x (length I) → owner_of (items_forward I x y) m ≡ owner_of I m
owner-forward I None y m r = refl
owner-forward I (Some n) y m r = kept owner_in I n (record (item_at I n) { next = y }) no_item r refl m

backward-at : (E : List Ends) (I : List Item) (p : ℕ) (x y : Option ℕ) → p < length E → IsWithin x (length I) → backward (ends_backward E p x y) (items_backward I x y) p x ≡ y
backward-at E I p None y h r = ap last_in (get_or-set_same E p (record (ends_at E p) { last = y }) no_ends h)
backward-at E I p (Some n) y h r = ap previous_in (get_or-set_same I n (record (item_at I n) { previous = y }) no_item r)

backward-else : (E : List Ends) (I : List Item) (p : ℕ) (x y : Option ℕ) (q : ℕ) (z : Option ℕ) → Other p x q z → backward (ends_backward E p x y) (items_backward I x y) q z ≡ backward E I q z
backward-else E I p None y q None o = ap last_in (get_or-set_other E p q (record (ends_at E p) { last = y }) no_ends (λ e. o (sym e)))
backward-else E I p None y q (Some m) o = refl
backward-else E I p (Some n) y q None o = refl
backward-else E I p (Some n) y q (Some m) o = ap previous_in (get_or-set_other I n m (record (item_at I n) { previous = y }) no_item (λ e. o (sym e)))

forward-kept : (E : List Ends) (I : List Item) (p : ℕ) (x y : Option ℕ) (q : ℕ) (z : Option ℕ) → p < length E → IsWithin x (length I) → forward (ends_backward E p x y) (items_backward I x y) q z ≡ forward E I q z
forward-kept E I p None y q None h r = kept first_in E p (record (ends_at E p) { last = y }) no_ends h refl q
forward-kept E I p None y q (Some m) h r = refl
forward-kept E I p (Some n) y q None h r = refl
forward-kept E I p (Some n) y q (Some m) h r = kept next_in I n (record (item_at I n) { previous = y }) no_item r refl m

owner-backward : (I : List Item) (x y : Option ℕ) (m : ℕ) → IsWithin x (length I) → owner_of (items_backward I x y) m ≡ owner_of I m
owner-backward I None y m r = refl
owner-backward I (Some n) y m r = kept owner_in I n (record (item_at I n) { previous = y }) no_item r refl m

length-ends_forward : (E : List Ends) (p : ℕ) (x y : Option ℕ) → length (ends_forward E p x y) ≡ length E
length-ends_forward E p None y = length-set E p (record (ends_at E p) { first = y })
length-ends_forward E p (Some n) y = refl

length-ends_backward : (E : List Ends) (p : ℕ) (x y : Option ℕ) → length (ends_backward E p x y) ≡ length E
length-ends_backward E p None y = length-set E p (record (ends_at E p) { last = y })
length-ends_backward E p (Some n) y = refl

length-items_forward : (I : List Item) (x y : Option ℕ) → length (items_forward I x y) ≡ length I
length-items_forward I None y = refl
length-items_forward I (Some n) y = length-set I n (record (item_at I n) { next = y })

length-items_backward : (I : List Item) (x y : Option ℕ) → length (items_backward I x y) ≡ length I
length-items_backward I None y = refl
length-items_backward I (Some n) y = length-set I n (record (item_at I n) { previous = y })

-- what is known when two places are made neighbours
pub record Joins (F B G C : ℕ → Links) (p : ℕ) (x y : Option ℕ) : Type 0 where
  pub ahead : G p x ≡ y
  pub back : C p y ≡ x
  pub others : (q : ℕ) (z : Option ℕ) → Other p x q z → G q z ≡ F q z
  pub others_back : (q : ℕ) (z : Option ℕ) → Other p y q z → C q z ≡ B q z

pub joins : (E : List Ends) (I : List Item) (p : ℕ) (x y : Option ℕ) → p < length E → IsWithin x (length I) → IsWithin y (length I)
    → Joins (forward E I) (backward E I) (forward (ends_joined E p x y) (items_joined I x y)) (backward (ends_joined E p x y) (items_joined I x y)) p x y
joins E I p x y h a b =
    let h' : p < length (ends_forward E p x y) = subst (λ n. p < n) (sym (length-ends_forward E p x y)) h in
    let b' : IsWithin y (length (items_forward I x y)) = subst (IsWithin y) (sym (length-items_forward I x y)) b in
    record {
      ahead = forward-kept (ends_forward E p x y) (items_forward I x y) p y x p x h' b' ∙ forward-at E I p x y h a;
      back = backward-at (ends_forward E p x y) (items_forward I x y) p y x h' b';
      others = λ q z o. forward-kept (ends_forward E p x y) (items_forward I x y) p y x q z h' b' ∙ forward-else E I p x y q z o;
      others_back = λ q z o. backward-else (ends_forward E p x y) (items_forward I x y) p y x q z o ∙ backward-kept E I p x y q z h a;
    }

pub length-ends_joined : (E : List Ends) (p : ℕ) (x y : Option ℕ) → length (ends_joined E p x y) ≡ length E
length-ends_joined E p x y = length-ends_backward (ends_forward E p x y) p y x ∙ length-ends_forward E p x y

pub length-items_joined : (I : List Item) (x y : Option ℕ) → length (items_joined I x y) ≡ length I
length-items_joined I x y = length-items_backward (items_forward I x y) y x ∙ length-items_forward I x y

pub owner-joined : (I : List Item) (x y : Option ℕ) (m : ℕ) → IsWithin x (length I) → IsWithin y (length I) → owner_of (items_joined I x y) m ≡ owner_of I m
owner-joined I x y m a b =
    owner-backward (items_forward I x y) y x m (subst (IsWithin y) (sym (length-items_forward I x y)) b) ∙ owner-forward I x y m a

-- ALL LISTS

other-place : (p : ℕ) (x z : Option ℕ) → z ≢ x → Other p x p z
other-place p None None d = absurd (d refl)
other-place p None (Some m) d = tt
other-place p (Some n) None d = tt
other-place p (Some n) (Some m) d = λ e. d (ap (λ k. Some k) (sym e))

other-start : (p q : ℕ) (x : Option ℕ) → (q ≡ p → ⊥) → Other p x q None
other-start p q None d = λ e. d (sym e)
other-start p q (Some n) d = tt

-- an item of one list is none of another's
other-item : (own : ℕ → Option ℕ) (p q m : ℕ) (x : Option ℕ) → (q ≡ p → ⊥) → own m ≡ Some q → ((n : ℕ) → x ≡ Some n → own n ≡ Some p) → Other p x q (Some m)
other-item own p q m None d h k = tt
other-item own p q m (Some n) d h k = λ e. d (same_Some q p (sym h ∙ ap own (sym e) ∙ k n refl))

-- what is in front of a place of a list is an item of that list, or none
front-owner : (F B : ℕ → Links) (own : ℕ → Option ℕ) (ls : ℕ → List ℕ) (p : ℕ) (at : Option ℕ) → Linked F B own ls → IsAt at (ls p) → (n : ℕ) → B p at ≡ Some n → own n ≡ Some p
front-owner F B own ls p at l i n e =
    elim (front-cases (F p) (B p) None at (ls p) (l.paths p) i) [
      | inl f ↦ absurd (none-some n (sym f ∙ e))
      | inr r ↦ l.owned p n (subst (λ k. Has k (ls p)) (same_Some r.0 n (sym r.2 ∙ e)) r.1)
    ]

behind-owner : (F B : ℕ → Links) (own : ℕ → Option ℕ) (ls : ℕ → List ℕ) (p c : ℕ) → Linked F B own ls → Has c (ls p) → (n : ℕ) → F p (Some c) ≡ Some n → own n ≡ Some p
behind-owner F B own ls p c l h n e =
    elim (behind-cases (F p) (B p) None c (ls p) (l.paths p) h) [
      | inl f ↦ absurd (none-some n (sym f ∙ e))
      | inr r ↦ l.owned p n (subst (λ k. Has k (ls p)) (same_Some r.0 n (sym r.2 ∙ e)) r.1)
    ]

pub removed : (F B G C : ℕ → Links) (own new : ℕ → Option ℕ) (ls ms : ℕ → List ℕ) (p c : ℕ) → Linked F B own ls → own c ≡ Some p
    → Joins F B G C p (B p (Some c)) (F p (Some c)) → new c ≡ None → ((n : ℕ) → (n ≡ c → ⊥) → new n ≡ own n)
    → ((q : ℕ) → ms q ≡ without c (ls q)) → Linked G C new ms
removed F B G C own new ls ms p c l o j gone others m = record { paths = path; owned = holds; listed = lists }
  where
    has : Has c (ls p)
    has = l.listed p c o

    path : (q : ℕ) → Path (G q) (C q) None (ms q)
    path q =
        subst (Path (G q) (C q) None) (sym (m q)) (elim (cases_eq q p) [
          | inl e ↦ subst (λ r. Path (G r) (C r) None (without c (ls r))) (sym e) (path-without (F p) (B p) (G p) (C p) None c (ls p)
              (record {
                ahead = j.ahead;
                back = j.back;
                others = λ z d _. j.others p z (other-place p (B p (Some c)) z d);
                others_back = λ z d _. j.others_back p z (other-place p (F p (Some c)) z d);
              })
              has (l.paths p))
          | inr d ↦ subst (Path (G q) (C q) None) (sym (without-absent c (ls q) (λ h. d (same_Some q p (sym (l.owned q c h) ∙ o)))))
              (path-same (F q) (B q) (G q) (C q) None (ls q)
              (j.others q None (other-start p q (B p (Some c)) d))
              (λ n h. j.others q (Some n) (other-item own p q n (B p (Some c)) d (l.owned q n h) (front-owner F B own ls p (Some c) l has)))
              (j.others_back q None (other-start p q (F p (Some c)) d))
              (λ n h. j.others_back q (Some n) (other-item own p q n (F p (Some c)) d (l.owned q n h) (behind-owner F B own ls p c l has)))
              (l.paths q))
        ])

    holds : (q n : ℕ) → Has n (ms q) → new n ≡ Some q
    holds q n h = let r = has-without n c (ls q) (subst (Has n) (m q) h) in others n r.1 ∙ l.owned q n r.0

    lists : (q n : ℕ) → new n ≡ Some q → Has n (ms q)
    lists q n h =
        let d : n ≡ c → ⊥ = λ e. none-some q (sym gone ∙ ap new (sym e) ∙ h) in
        subst (Has n) (sym (m q)) (has-without-from n c (ls q) (l.listed q n (sym (others n d) ∙ h)) d)

pub inserted : (F B G C H D : ℕ → Links) (own new : ℕ → Option ℕ) (ls ms : ℕ → List ℕ) (p c : ℕ) (at : Option ℕ) → Linked F B own ls → own c ≡ None → IsAt at (ls p)
    → Joins F B G C p (B p at) (Some c) → Joins G C H D p (Some c) at → new c ≡ Some p → ((n : ℕ) → (n ≡ c → ⊥) → new n ≡ own n)
    → ms p ≡ with_item c at (ls p) → ((q : ℕ) → (q ≡ p → ⊥) → ms q ≡ ls q) → Linked H D new ms
inserted F B G C H D own new ls ms p c at l o i j k goes others m ms-others = record { paths = path; owned = holds; listed = lists }
  where
    free : (q : ℕ) → Has c (ls q) → ⊥
    free q h = none-some q (sym o ∙ l.owned q c h)

    not-front : Some c ≡ B p at → ⊥
    not-front e = none-some p (sym o ∙ front-owner F B own ls p at l i c (sym e))

    not-at : (at : Option ℕ) → IsAt at (ls p) → Some c ≡ at → ⊥
    not-at None _ e = none-some c (sym e)
    not-at (Some r) h e = free p (subst (λ n. Has n (ls p)) (sym (same_Some c r e)) h)

    at-owner : (at : Option ℕ) → IsAt at (ls p) → (n : ℕ) → at ≡ Some n → own n ≡ Some p
    at-owner None _ n e = absurd (none-some n e)
    at-owner (Some r) h n e = l.owned p n (subst (λ n. Has n (ls p)) (same_Some r n e) h)

    c-else : (q n : ℕ) → Has n (ls q) → Other p (Some c) q (Some n)
    c-else q n h = λ e. free q (subst (λ k. Has k (ls q)) (sym e) h)

    path : (q : ℕ) → Path (H q) (D q) None (ms q)
    path q =
        elim (cases_eq q p) [
          | inl e ↦ subst (λ r. Path (H r) (D r) None (ms r)) (sym e) (subst (Path (H p) (D p) None) (sym m) (path-with (F p) (B p) (H p) (D p) None c at (ls p)
              (record {
                ahead = k.others p (B p at) (other-place p (Some c) (B p at) (λ f. not-front (sym f))) ∙ j.ahead;
                onward = k.ahead;
                back = k.back;
                backward = k.others_back p (Some c) (other-place p at (Some c) (not-at at i)) ∙ j.back;
                others = λ z d f. k.others p z (other-place p (Some c) z f) ∙ j.others p z (other-place p (B p at) z d);
                others_back = λ z d f. k.others_back p z (other-place p at z d) ∙ j.others_back p z (other-place p (Some c) z f);
              })
              i (λ e. none-some c e) (free p) (l.paths p)))
          | inr d ↦ subst (Path (H q) (D q) None) (sym (ms-others q d))
              (path-same (F q) (B q) (H q) (D q) None (ls q)
              (k.others q None tt ∙ j.others q None (other-start p q (B p at) d))
              (λ n h. k.others q (Some n) (c-else q n h) ∙ j.others q (Some n) (other-item own p q n (B p at) d (l.owned q n h) (front-owner F B own ls p at l i)))
              (k.others_back q None (other-start p q at d) ∙ j.others_back q None tt)
              (λ n h. k.others_back q (Some n) (other-item own p q n at d (l.owned q n h) (at-owner at i)) ∙ j.others_back q (Some n) (c-else q n h))
              (l.paths q))
        ]

    holds-old : (q n : ℕ) → Has n (ls q) → new n ≡ Some q
    holds-old q n h = others n (λ e. free q (subst (λ k. Has k (ls q)) e h)) ∙ l.owned q n h

    holds : (q n : ℕ) → Has n (ms q) → new n ≡ Some q
    holds q n h =
        elim (cases_eq q p) [
          | inl e ↦ elim (has-with_item n c at (ls p) (subst (Has n) (ap ms e ∙ m) h)) [
            | inl f ↦ ap new f ∙ goes ∙ ap (λ k. Some k) (sym e)
            | inr g ↦ holds-old p n g ∙ ap (λ k. Some k) (sym e)
          ]
          | inr d ↦ holds-old q n (subst (Has n) (ms-others q d) h)
        ]

    lists : (q n : ℕ) → new n ≡ Some q → Has n (ms q)
    lists q n h =
        elim (cases_eq q p) [
          | inl e ↦ subst (Has n) (sym (ap ms e ∙ m)) (has-with_item-from n c at (ls p) (elim (cases_eq n c) [
            | inl f ↦ inl f
            | inr d ↦ inr (l.listed p n (sym (others n d) ∙ h ∙ ap (λ k. Some k) e))
          ]))
          | inr d ↦ subst (Has n) (sym (ms-others q d)) (l.listed q n (sym (others n (λ f. d (same_Some q p (sym h ∙ ap new f ∙ goes)))) ∙ h))
        ]

-- THE VIEW

walk-none : (k : ℕ) (I : List Item) → walk k I None ≡ []
walk-none zero I = refl
walk-none (suc k) I = refl

walk-path : (E : List Ends) (I : List Item) (p k : ℕ) (x : Option ℕ) (ns : List ℕ) → Path (forward E I p) (backward E I p) x ns → length ns ≤ k → walk k I (forward E I p x) ≡ ns
walk-path E I p k x [] w h = ap (walk k I) w.0 ∙ walk-none k I
walk-path E I p zero x (n ∷ ns) w h = absurd (omega (arith, h))
walk-path E I p (suc k) x (n ∷ ns) w h = ap (walk (suc k) I) w.0 ∙ ap (λ ms. n ∷ ms) (walk-path E I p k (Some n) ns w.3 (omega (arith, h)))

-- each item that stands in a list is one of the items
pub within : (I : List Item) (m q : ℕ) → owner_of I m ≡ Some q → m < length I
within I m q h = elim (cases_lt m (length I)) [ inl l ↦ l | inr g ↦ absurd (none-some q (sym (ap owner_in (get_or_past I m no_item g)) ∙ h)) ]

-- the links say these lists
pub view-linked : (E : List Ends) (I : List Item) (ls : List (List ℕ)) → Linked (forward E I) (backward E I) (owner_of I) (λ p. list_at ls p) → length ls ≡ length E → lists_of E I ≡ ls
view-linked E I ls l n =
    ext_get_or [] (lists_of E I) ls (length-map E (λ e. walk (length I) I e.first) ∙ sym n)
    (λ i h. get_or-map (λ e. walk (length I) I e.first) E i no_ends [] (subst (λ k. i < k) (length-map E (λ e. walk (length I) I e.first)) h)
    ∙ walk-path E I i (length I) None (list_at ls i) (l.paths i)
    (few-below (length I) (list_at ls i) (path-differ (forward E I i) (backward E I i) None (list_at ls i) (l.paths i)) (λ m g. within I m i (l.owned i m g))))

-- what the lists keep, once the links are known to lead along some lists
pub relinked : (E : List Ends) (I : List Item) (ls : List (List ℕ)) (limit ends_room items_room : ℕ) → Linked (forward E I) (backward E I) (owner_of I) (λ p. list_at ls p) → length ls ≡ length E
    → length E ≤ limit → length I ≤ limit → limit ≤ ends_room → limit ≤ items_room → AreLinked E I limit ends_room items_room
relinked E I ls limit er ir l n a b c d = record {
  links = subst (λ ms. Linked (forward E I) (backward E I) (owner_of I) (λ p. list_at ms p)) (sym (view-linked E I ls l n)) l;
  few_lists = a;
  few_items = b;
  ends_reserved = c;
  items_reserved = d;
}

pub owners-at : (I : List Item) (n : ℕ) → owner_at (map (λ i. i.owner) I) n ≡ owner_of I n
owners-at I n =
    elim (cases_lt n (length I)) [
      | inl h ↦ get_or-map (λ i. i.owner) I n no_item None h
      | inr g ↦ get_or_past (map (λ i. i.owner) I) n None (subst (λ k. k ≤ n) (sym (length-map I (λ i. i.owner))) g) ∙ sym (ap owner_in (get_or_past I n no_item g))
    ]

-- a list with an item is one of the lists
pub has-list : (ls : List (List ℕ)) (p c : ℕ) → Has c (list_at ls p) → p < length ls
has-list ls p c h = elim (cases_lt p (length ls)) [ inl l ↦ l | inr g ↦ absurd (subst (Has c) (get_or_past ls p [] g) h) ]

-- what is in front of a place of a list, and what is behind an item of it, is one of the items
pub front-within : (E : List Ends) (I : List Item) (ls : List (List ℕ)) (p : ℕ) (at : Option ℕ) → Linked (forward E I) (backward E I) (owner_of I) (λ q. list_at ls q) → IsAt at (list_at ls p) → IsWithin (backward E I p at) (length I)
front-within E I ls p at l i =
    elim (front-cases (forward E I p) (backward E I p) None at (list_at ls p) (l.paths p) i) [
      | inl e ↦ subst (λ x. IsWithin x (length I)) (sym e) tt
      | inr r ↦ subst (λ x. IsWithin x (length I)) (sym r.2) (within I r.0 p (l.owned p r.0 r.1))
    ]

pub behind-within : (E : List Ends) (I : List Item) (ls : List (List ℕ)) (p c : ℕ) → Linked (forward E I) (backward E I) (owner_of I) (λ q. list_at ls q) → Has c (list_at ls p) → IsWithin (item_at I c).next (length I)
behind-within E I ls p c l h =
    elim (behind-cases (forward E I p) (backward E I p) None c (list_at ls p) (l.paths p) h) [
      | inl e ↦ subst (λ x. IsWithin x (length I)) (sym e) tt
      | inr r ↦ subst (λ x. IsWithin x (length I)) (sym r.2) (within I r.0 p (l.owned p r.0 r.1))
    ]
