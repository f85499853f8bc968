-- What each call on linked lists leaves: its links lead along the lists that its contract names.
use Rattle.std.proofs.Common.{◌≡◌, ℕ, zero, suc, ◌<◌, ◌≤◌, inl, inr, List, [], ◌∷◌, ◌++◌, length, map, get_or, set, Option, None, Some, refl, sym, ap, ap₂, ◌∙◌, subst, arith, length-set, get_or-set_same, get_or-set_other}
use Rattle.std.specs.Prelude.{IfSome, option_and_then}
use Rattle.std.proofs.lemmas.Bool.{cases_eq, cases_lt}
use Rattle.std.proofs.lemmas.Option.{none-some}
use Rattle.std.proofs.lemmas.List.{length-map, ext_get_or, get_or-map, get_or_past, length_push, map_push, map-set, set-get_or}
use Rattle.rip_dom.specs.declared.lists.Ends.{Ends}
use Rattle.rip_dom.specs.declared.lists.Item.{Item}
use Rattle.rip_dom.specs.Lists.{Lists, list_at, owner_at, without, with_item, first_of, last_or, item_behind, item_in_front}
use Rattle.rip_dom.specs.Linked.{no_ends, no_item, ends_at, item_at, forward, backward, owner_of, walk, lists_of, ends_joined, items_joined, items_forward, items_backward, Has, Path, Linked, AreLinked, AreKnown, AreListed}
use Rattle.rip_dom.proofs.Paths.{IsAt, path-same, path-first, path-last, path-behind, path-front, path-differ, without-absent}
use Rattle.rip_dom.proofs.Links.{IsWithin, Joins, joins, removed, inserted, view-linked, relinked, owners-at, has-list, length-ends_joined, length-items_joined, owner-joined, front-within, behind-within, within}

abbrev pub view : ℕ → List (List ℕ) → List (Option ℕ) → Lists
view limit lists owners = record { limit = limit; lists = lists; owners = owners }

-- the links lead along these lists, and the items know these owners
pub record Shows (E : List Ends) (I : List Item) (ls : List (List ℕ)) (os : List (Option ℕ)) (limit ends_room items_room : ℕ) : Type 0 where
  pub are : AreLinked E I limit ends_room items_room
  pub lists : lists_of E I ≡ ls
  pub owners : map (λ i. i.owner) I ≡ os

pub same-view : (limit : ℕ) (ls ms : List (List ℕ)) (os ps : List (Option ℕ)) → ls ≡ ms → os ≡ ps → view limit ls os ≡ view limit ms ps
same-view limit ls ms os ps e f = ap₂ (λ l o. view limit l o) e f

-- a list with one default more is read as before
more : {X : Type 0} (xs : List X) (d : X) (n : ℕ) → get_or (xs ++ d ∷ []) n d ≡ get_or xs n d
more [] d zero = refl
more [] d (suc n) = refl
more (x ∷ xs) d zero = refl
more (x ∷ xs) d (suc n) = more xs d n

linked-same : (F B G C : ℕ → Option ℕ → Option ℕ) (own new : ℕ → Option ℕ) (ls ms : ℕ → List ℕ) → ((q : ℕ) (z : Option ℕ) → G q z ≡ F q z) → ((q : ℕ) (z : Option ℕ) → C q z ≡ B q z)
    → ((n : ℕ) → new n ≡ own n) → ((q : ℕ) → ms q ≡ ls q) → Linked F B own ls → Linked G C new ms
linked-same F B G C own new ls ms f b o m l = record {
  paths = λ q. subst (Path (G q) (C q) None) (sym (m q)) (path-same (F q) (B q) (G q) (C q) None (ls q) (f q None) (λ n _. f q (Some n)) (b q None) (λ n _. b q (Some n)) (l.paths q));
  owned = λ q n h. o n ∙ l.owned q n (subst (Has n) (m q) h);
  listed = λ q n h. subst (Has n) (sym (m q)) (l.listed q n (sym (o n) ∙ h));
}

walk-none : (k : ℕ) (I : List Item) → walk k I None ≡ []
walk-none zero I = refl
walk-none (suc k) I = refl

-- one list more
pub list-added : (E E' : List Ends) (I : List Item) (limit er ir er' : ℕ) → AreLinked E I limit er ir → E' ≡ E ++ no_ends ∷ [] → er' ≡ er → length (lists_of E I) < limit
    → Shows E' I (lists_of E I ++ [] ∷ []) (map (λ i. i.owner) I) limit er' ir
list-added E E' I limit er ir er' a e r h =
    subst (λ D. Shows D I (lists_of E I ++ [] ∷ []) (map (λ i. i.owner) I) limit er' ir) (sym e)
    (subst (λ k. Shows (E ++ no_ends ∷ []) I (lists_of E I ++ [] ∷ []) (map (λ i. i.owner) I) limit k ir) (sym r) (record { are = are; lists = view-linked _ _ _ linked count; owners = refl }))
  where
    ahead : (q : ℕ) (z : Option ℕ) → forward (E ++ no_ends ∷ []) I q z ≡ forward E I q z
    ahead q None = ap (λ (d : Ends). d.first) (more E no_ends q)
    ahead q (Some n) = refl

    back : (q : ℕ) (z : Option ℕ) → backward (E ++ no_ends ∷ []) I q z ≡ backward E I q z
    back q None = ap (λ (d : Ends). d.last) (more E no_ends q)
    back q (Some n) = refl

    linked : Linked (forward (E ++ no_ends ∷ []) I) (backward (E ++ no_ends ∷ []) I) (owner_of I) (λ p. list_at (lists_of E I ++ [] ∷ []) p)
    linked = linked-same (forward E I) (backward E I) (forward (E ++ no_ends ∷ []) I) (backward (E ++ no_ends ∷ []) I) (owner_of I) (owner_of I) (λ p. list_at (lists_of E I) p) (λ p. list_at (lists_of E I ++ [] ∷ []) p)
        ahead back (λ n. refl) (λ q. more (lists_of E I) [] q) a.links

    count : length (lists_of E I ++ [] ∷ []) ≡ length (E ++ no_ends ∷ [])
    count = omega (arith, length_push (lists_of E I) [], length_push E no_ends, length-map E (λ e. walk (length I) I e.first))

    few : length (E ++ no_ends ∷ []) ≤ limit
    few = omega (arith, length_push E no_ends, length-map E (λ e. walk (length I) I e.first), h)

    are : AreLinked (E ++ no_ends ∷ []) I limit er ir
    are = relinked (E ++ no_ends ∷ []) I (lists_of E I ++ [] ∷ []) limit er ir linked count few a.few_items a.ends_reserved a.items_reserved

-- one item more
pub item-added : (E : List Ends) (I I' : List Item) (limit er ir ir' : ℕ) → AreLinked E I limit er ir → I' ≡ I ++ no_item ∷ [] → ir' ≡ ir → length (map (λ i. i.owner) I) < limit
    → Shows E I' (lists_of E I) (map (λ i. i.owner) I ++ None ∷ []) limit er ir'
item-added E I I' limit er ir ir' a e r h =
    subst (λ J. Shows E J (lists_of E I) (map (λ i. i.owner) I ++ None ∷ []) limit er ir') (sym e)
    (subst (λ k. Shows E (I ++ no_item ∷ []) (lists_of E I) (map (λ i. i.owner) I ++ None ∷ []) limit er k) (sym r) (record { are = are; lists = view-linked _ _ _ linked count; owners = map_push (λ i. i.owner) I no_item }))
  where
    ahead : (q : ℕ) (z : Option ℕ) → forward E (I ++ no_item ∷ []) q z ≡ forward E I q z
    ahead q None = refl
    ahead q (Some n) = ap (λ (i : Item). i.next) (more I no_item n)

    back : (q : ℕ) (z : Option ℕ) → backward E (I ++ no_item ∷ []) q z ≡ backward E I q z
    back q None = refl
    back q (Some n) = ap (λ (i : Item). i.previous) (more I no_item n)

    linked : Linked (forward E (I ++ no_item ∷ [])) (backward E (I ++ no_item ∷ [])) (owner_of (I ++ no_item ∷ [])) (λ p. list_at (lists_of E I) p)
    linked = linked-same (forward E I) (backward E I) (forward E (I ++ no_item ∷ [])) (backward E (I ++ no_item ∷ [])) (owner_of I) (owner_of (I ++ no_item ∷ [])) (λ p. list_at (lists_of E I) p) (λ p. list_at (lists_of E I) p)
        ahead back (λ n. ap (λ (i : Item). i.owner) (more I no_item n)) (λ q. refl) a.links

    count : length (lists_of E I) ≡ length E
    count = length-map E (λ e. walk (length I) I e.first)

    few : length (I ++ no_item ∷ []) ≤ limit
    few = omega (arith, length_push I no_item, length-map I (λ i. i.owner), h)

    are : AreLinked E (I ++ no_item ∷ []) limit er ir
    are = relinked E (I ++ no_item ∷ []) (lists_of E I) limit er ir linked count a.few_lists few a.ends_reserved a.items_reserved

-- READING

pub list-last : (E : List Ends) (I : List Item) (limit er ir p : ℕ) → AreLinked E I limit er ir → (ends_at E p).last ≡ last_or None (list_at (lists_of E I) p)
list-last E I limit er ir p a = path-last (forward E I p) (backward E I p) None (list_at (lists_of E I) p) (a.links.paths p)

pub list-first : (E : List Ends) (I : List Item) (limit er ir p : ℕ) → AreLinked E I limit er ir → (ends_at E p).first ≡ first_of (list_at (lists_of E I) p)
list-first E I limit er ir p a = path-first (forward E I p) (backward E I p) None (list_at (lists_of E I) p) (a.links.paths p)

pub item-next : (E : List Ends) (I : List Item) (limit er ir c p : ℕ) (i : Item) → AreLinked E I limit er ir → i ≡ item_at I c → i.owner ≡ Some p
    → i.next ≡ option_and_then (λ q. item_behind c (list_at (lists_of E I) q)) (owner_at (map (λ i. i.owner) I) c)
item-next E I limit er ir c p i a e o =
    let f : owner_of I c ≡ Some p = ap (λ (i : Item). i.owner) (sym e) ∙ o in
    ap (λ (i : Item). i.next) e
    ∙ path-behind (forward E I p) (backward E I p) None c (list_at (lists_of E I) p) (a.links.paths p) (a.links.listed p c f)
    ∙ ap (option_and_then (λ q. item_behind c (list_at (lists_of E I) q))) (sym (owners-at I c ∙ f))

pub item-previous : (E : List Ends) (I : List Item) (limit er ir c p : ℕ) (i : Item) → AreLinked E I limit er ir → i ≡ item_at I c → i.owner ≡ Some p
    → i.previous ≡ option_and_then (λ q. item_in_front None c (list_at (lists_of E I) q)) (owner_at (map (λ i. i.owner) I) c)
item-previous E I limit er ir c p i a e o =
    let f : owner_of I c ≡ Some p = ap (λ (i : Item). i.owner) (sym e) ∙ o in
    ap (λ (i : Item). i.previous) e
    ∙ path-front (forward E I p) (backward E I p) None c (list_at (lists_of E I) p) (a.links.paths p) (a.links.listed p c f)
    ∙ ap (option_and_then (λ q. item_in_front None c (list_at (lists_of E I) q))) (sym (owners-at I c ∙ f))

pub item-alone : (I : List Item) (c : ℕ) (i : Item) (f : ℕ → Option ℕ) → i ≡ item_at I c → i.owner ≡ None → None ≡ option_and_then f (owner_at (map (λ i. i.owner) I) c)
item-alone I c i f e o = ap (option_and_then f) (sym (owners-at I c ∙ ap (λ (i : Item). i.owner) (sym e) ∙ o))

-- CHANGES

owners-forward : (I : List Item) (x y : Option ℕ) → map (λ i. i.owner) (items_forward I x y) ≡ map (λ i. i.owner) I
owners-forward I None y = refl
owners-forward I (Some n) y =
    map-set (λ i. i.owner) I n (record (item_at I n) { next = y })
    ∙ ap (set (map (λ i. i.owner) I) n) (sym (owners-at I n))
    ∙ set-get_or (map (λ i. i.owner) I) n None

owners-backward : (I : List Item) (x y : Option ℕ) → map (λ i. i.owner) (items_backward I x y) ≡ map (λ i. i.owner) I
owners-backward I None y = refl
owners-backward I (Some n) y =
    map-set (λ i. i.owner) I n (record (item_at I n) { previous = y })
    ∙ ap (set (map (λ i. i.owner) I) n) (sym (owners-at I n))
    ∙ set-get_or (map (λ i. i.owner) I) n None

owners-joined : (I : List Item) (x y : Option ℕ) → map (λ i. i.owner) (items_joined I x y) ≡ map (λ i. i.owner) I
owners-joined I x y = owners-backward (items_forward I x y) y x ∙ owners-forward I x y

abbrev owned_by : List Item → ℕ → Option ℕ → List Item
owned_by I c o = set I c (record (item_at I c) { owner = o })

-- an item with another owner keeps its links
ahead-owned : (E : List Ends) (I : List Item) (c : ℕ) (o : Option ℕ) → c < length I → (q : ℕ) (z : Option ℕ) → forward E (owned_by I c o) q z ≡ forward E I q z
ahead-owned E I c o h q None = refl
ahead-owned E I c o h q (Some m) =
    elim (cases_eq m c) [
      | inl s ↦ subst (λ k. (item_at (owned_by I c o) k).next ≡ (item_at I k).next) (sym s) (ap (λ (i : Item). i.next) (get_or-set_same I c (record (item_at I c) { owner = o }) no_item h))
      | inr s ↦ ap (λ (i : Item). i.next) (get_or-set_other I c m (record (item_at I c) { owner = o }) no_item s)
    ]

back-owned : (E : List Ends) (I : List Item) (c : ℕ) (o : Option ℕ) → c < length I → (q : ℕ) (z : Option ℕ) → backward E (owned_by I c o) q z ≡ backward E I q z
back-owned E I c o h q None = refl
back-owned E I c o h q (Some m) =
    elim (cases_eq m c) [
      | inl s ↦ subst (λ k. (item_at (owned_by I c o) k).previous ≡ (item_at I k).previous) (sym s) (ap (λ (i : Item). i.previous) (get_or-set_same I c (record (item_at I c) { owner = o }) no_item h))
      | inr s ↦ ap (λ (i : Item). i.previous) (get_or-set_other I c m (record (item_at I c) { owner = o }) no_item s)
    ]

owner-owned : (I : List Item) (c : ℕ) (o : Option ℕ) → c < length I → owner_of (owned_by I c o) c ≡ o
owner-owned I c o h = ap (λ (i : Item). i.owner) (get_or-set_same I c (record (item_at I c) { owner = o }) no_item h)

owner-others : (I : List Item) (c n : ℕ) (o : Option ℕ) → (n ≡ c → ⊥) → owner_of (owned_by I c o) n ≡ owner_of I n
owner-others I c n o d = ap (λ (i : Item). i.owner) (get_or-set_other I c n (record (item_at I c) { owner = o }) no_item d)

joins-owned : (E : List Ends) (I : List Item) (c : ℕ) (o : Option ℕ) (F B : ℕ → Option ℕ → Option ℕ) (p : ℕ) (x y : Option ℕ) → c < length I
    → Joins F B (forward E I) (backward E I) p x y → Joins F B (forward E (owned_by I c o)) (backward E (owned_by I c o)) p x y
joins-owned E I c o F B p x y h j = record {
  ahead = ahead-owned E I c o h p x ∙ j.ahead;
  back = back-owned E I c o h p y ∙ j.back;
  others = λ q z d. ahead-owned E I c o h q z ∙ j.others q z d;
  others_back = λ q z d. back-owned E I c o h q z ∙ j.others_back q z d;
}

list-map : (c : ℕ) (ls : List (List ℕ)) (q : ℕ) → list_at (map (without c) ls) q ≡ without c (list_at ls q)
list-map c ls q =
    elim (cases_lt q (length ls)) [
      | inl h ↦ get_or-map (without c) ls q [] [] h
      | inr g ↦ get_or_past (map (without c) ls) q [] (subst (λ k. k ≤ q) (sym (length-map ls (without c))) g) ∙ ap (without c) (sym (get_or_past ls q [] g))
    ]

-- what is shown is shown under other names of the same lists
shows-by : (E D : List Ends) (I J : List Item) (ls : List (List ℕ)) (os : List (Option ℕ)) (limit er ir dr jr : ℕ) → D ≡ E → J ≡ I → dr ≡ er → jr ≡ ir
    → Shows E I ls os limit er ir → Shows D J ls os limit dr jr
shows-by E D I J ls os limit er ir dr jr d j r s h =
    subst (λ X. Shows X J ls os limit dr jr) (sym d) (subst (λ X. Shows E X ls os limit dr jr) (sym j)
    (subst (λ k. Shows E I ls os limit k jr) (sym r) (subst (λ k. Shows E I ls os limit er k) (sym s) h)))

abbrev ends_out : List Ends → List Item → ℕ → ℕ → List Ends
ends_out E I c p = ends_joined E p (item_at I c).previous (item_at I c).next

abbrev items_out : List Item → ℕ → List Item
items_out I c = items_joined I (item_at I c).previous (item_at I c).next

removed-shows : (E : List Ends) (I : List Item) (c p limit er ir : ℕ) → AreLinked E I limit er ir → owner_of I c ≡ Some p
    → Shows (ends_joined E p (item_at I c).previous (item_at I c).next) (owned_by (items_joined I (item_at I c).previous (item_at I c).next) c None)
    (map (without c) (lists_of E I)) (set (map (λ i. i.owner) I) c None) limit er ir
removed-shows E I c p limit er ir a o = record {
  are = relinked (ends_out E I c p) (owned_by (items_out I c) c None) (map (without c) (lists_of E I)) limit er ir linked count few_lists few_items a.ends_reserved a.items_reserved;
  lists = view-linked (ends_out E I c p) (owned_by (items_out I c) c None) (map (without c) (lists_of E I)) linked count;
  owners = map-set (λ i. i.owner) (items_out I c) c (record (item_at (items_out I c) c) { owner = None }) ∙ ap (λ os. set os c None) (owners-joined I (item_at I c).previous (item_at I c).next);
}
  where
    has : Has c (list_at (lists_of E I) p)
    has = a.links.listed p c o

    in-list : p < length E
    in-list = subst (λ n. p < n) (length-map E (λ e. walk (length I) I e.first)) (has-list (lists_of E I) p c has)

    c-in : c < length I
    c-in = within I c p o

    c-in-J : c < length (items_out I c)
    c-in-J = subst (λ n. c < n) (sym (length-items_joined I (item_at I c).previous (item_at I c).next)) c-in

    front-in : IsWithin (item_at I c).previous (length I)
    front-in = front-within E I (lists_of E I) p (Some c) a.links has

    next-in : IsWithin (item_at I c).next (length I)
    next-in = behind-within E I (lists_of E I) p c a.links has

    linked : Linked (forward (ends_out E I c p) (owned_by (items_out I c) c None)) (backward (ends_out E I c p) (owned_by (items_out I c) c None)) (owner_of (owned_by (items_out I c) c None)) (λ q. list_at (map (without c) (lists_of E I)) q)
    linked = removed (forward E I) (backward E I) (forward (ends_out E I c p) (owned_by (items_out I c) c None)) (backward (ends_out E I c p) (owned_by (items_out I c) c None)) (owner_of I) (owner_of (owned_by (items_out I c) c None)) (λ q. list_at (lists_of E I) q) (λ q. list_at (map (without c) (lists_of E I)) q) p c a.links o
        (joins-owned (ends_out E I c p) (items_out I c) c None (forward E I) (backward E I) p (item_at I c).previous (item_at I c).next c-in-J (joins E I p (item_at I c).previous (item_at I c).next in-list front-in next-in))
        (owner-owned (items_out I c) c None c-in-J)
        (λ n d. owner-others (items_out I c) c n None d ∙ owner-joined I (item_at I c).previous (item_at I c).next n front-in next-in)
        (λ q. list-map c (lists_of E I) q)

    count : length (map (without c) (lists_of E I)) ≡ length (ends_out E I c p)
    count = length-map (lists_of E I) (without c) ∙ length-map E (λ e. walk (length I) I e.first) ∙ sym (length-ends_joined E p (item_at I c).previous (item_at I c).next)

    few_lists : length (ends_out E I c p) ≤ limit
    few_lists = subst (λ n. n ≤ limit) (sym (length-ends_joined E p (item_at I c).previous (item_at I c).next)) a.few_lists

    few_items : length (owned_by (items_out I c) c None) ≤ limit
    few_items = subst (λ n. n ≤ limit) (sym (length-set (items_out I c) c (record (item_at (items_out I c) c) { owner = None }) ∙ length-items_joined I (item_at I c).previous (item_at I c).next)) a.few_items

-- an item taken out of its list
pub item-removed : (E D : List Ends) (I J K : List Item) (c p limit er ir dr kr : ℕ) (i : Item) → AreLinked E I limit er ir → i ≡ item_at I c → i.owner ≡ Some p
    → D ≡ ends_joined E p i.previous i.next → J ≡ items_joined I i.previous i.next → K ≡ owned_by J c None → dr ≡ er → kr ≡ ir
    → Shows D K (map (without c) (lists_of E I)) (set (map (λ i. i.owner) I) c None) limit dr kr
item-removed E D I J K c p limit er ir dr kr i a ei o d j k rd rk =
    shows-by (ends_joined E p (item_at I c).previous (item_at I c).next) D (owned_by (items_joined I (item_at I c).previous (item_at I c).next) c None) K
    (map (without c) (lists_of E I)) (set (map (λ i. i.owner) I) c None) limit er ir dr kr
    (d ∙ ap (λ (i : Item). ends_joined E p i.previous i.next) ei)
    (k ∙ ap (λ J. owned_by J c None) (j ∙ ap (λ (i : Item). items_joined I i.previous i.next) ei))
    rd rk (removed-shows E I c p limit er ir a (ap (λ (i : Item). i.owner) (sym ei) ∙ o))

-- an item that stands in no list stays
pub item-not-removed : (E : List Ends) (I : List Item) (c limit er ir : ℕ) (i : Item) → AreLinked E I limit er ir → i ≡ item_at I c → i.owner ≡ None
    → view limit (lists_of E I) (map (λ i. i.owner) I) ≡ view limit (map (without c) (lists_of E I)) (set (map (λ i. i.owner) I) c None)
item-not-removed E I c limit er ir i a e o =
    same-view limit (lists_of E I) (map (without c) (lists_of E I)) (map (λ i. i.owner) I) (set (map (λ i. i.owner) I) c None)
    (ext_get_or [] (lists_of E I) (map (without c) (lists_of E I)) (sym (length-map (lists_of E I) (without c)))
    (λ q h. sym (list-map c (lists_of E I) q ∙ without-absent c (list_at (lists_of E I) q) (λ g. none-some q (sym alone ∙ a.links.owned q c g)))))
    (sym (ap (set (map (λ i. i.owner) I) c) (sym (owners-at I c ∙ alone)) ∙ set-get_or (map (λ i. i.owner) I) c None))
  where
    alone : owner_of I c ≡ None
    alone = ap (λ (i : Item). i.owner) (sym e) ∙ o

-- the place is none, or an item of the list
place-in : (E : List Ends) (I : List Item) (p : ℕ) (at : Option ℕ) (limit er ir : ℕ) → AreLinked E I limit er ir → IfSome at (λ r. owner_of I r ≡ Some p) → IsAt at (list_at (lists_of E I) p)
place-in E I p None limit er ir a h = tt
place-in E I p (Some r) limit er ir a h = a.links.listed p r h

place-within : (I : List Item) (p : ℕ) (at : Option ℕ) → IfSome at (λ r. owner_of I r ≡ Some p) → IsWithin at (length I)
place-within I p None h = tt
place-within I p (Some r) h = within I r p h

abbrev ends_one : List Ends → List Item → ℕ → ℕ → Option ℕ → List Ends
ends_one E I p c at = ends_joined E p (backward E I p at) (Some c)

abbrev items_one : List Ends → List Item → ℕ → ℕ → Option ℕ → List Item
items_one E I p c at = items_joined I (backward E I p at) (Some c)

abbrev ends_in : List Ends → List Item → ℕ → ℕ → Option ℕ → List Ends
ends_in E I p c at = ends_joined (ends_one E I p c at) p (Some c) at

abbrev items_in : List Ends → List Item → ℕ → ℕ → Option ℕ → List Item
items_in E I p c at = items_joined (items_one E I p c at) (Some c) at

abbrev lists_in : List Ends → List Item → ℕ → ℕ → Option ℕ → List (List ℕ)
lists_in E I p c at = set (lists_of E I) p (with_item c at (list_at (lists_of E I) p))

inserted-shows : (E : List Ends) (I : List Item) (p c : ℕ) (at : Option ℕ) (limit er ir : ℕ) → AreLinked E I limit er ir → p < length E → c < length I → owner_of I c ≡ None → IfSome at (λ r. owner_of I r ≡ Some p)
    → Shows (ends_joined (ends_joined E p (backward E I p at) (Some c)) p (Some c) at) (owned_by (items_joined (items_joined I (backward E I p at) (Some c)) (Some c) at) c (Some p))
    (set (lists_of E I) p (with_item c at (list_at (lists_of E I) p))) (set (map (λ i. i.owner) I) c (Some p)) limit er ir
inserted-shows E I p c at limit er ir a p-in c-in o h = record {
  are = relinked (ends_in E I p c at) (owned_by (items_in E I p c at) c (Some p)) (lists_in E I p c at) limit er ir linked count few_lists few_items a.ends_reserved a.items_reserved;
  lists = view-linked (ends_in E I p c at) (owned_by (items_in E I p c at) c (Some p)) (lists_in E I p c at) linked count;
  owners = map-set (λ i. i.owner) (items_in E I p c at) c (record (item_at (items_in E I p c at) c) { owner = Some p }) ∙ ap (λ os. set os c (Some p)) (owners-joined (items_one E I p c at) (Some c) at ∙ owners-joined I (backward E I p at) (Some c));
}
  where
    place : IsAt at (list_at (lists_of E I) p)
    place = place-in E I p at limit er ir a h

    front-in : IsWithin (backward E I p at) (length I)
    front-in = front-within E I (lists_of E I) p at a.links place

    lists-count : length (lists_of E I) ≡ length E
    lists-count = length-map E (λ e. walk (length I) I e.first)

    items-one : length (items_one E I p c at) ≡ length I
    items-one = length-items_joined I (backward E I p at) (Some c)

    items-two : length (items_in E I p c at) ≡ length I
    items-two = length-items_joined (items_one E I p c at) (Some c) at ∙ items-one

    ends-one : length (ends_one E I p c at) ≡ length E
    ends-one = length-ends_joined E p (backward E I p at) (Some c)

    ends-two : length (ends_in E I p c at) ≡ length E
    ends-two = length-ends_joined (ends_one E I p c at) p (Some c) at ∙ ends-one

    c-one : c < length (items_one E I p c at)
    c-one = subst (λ n. c < n) (sym items-one) c-in

    c-two : c < length (items_in E I p c at)
    c-two = subst (λ n. c < n) (sym items-two) c-in

    p-one : p < length (ends_one E I p c at)
    p-one = subst (λ n. p < n) (sym ends-one) p-in

    at-one : IsWithin at (length (items_one E I p c at))
    at-one = subst (IsWithin at) (sym items-one) (place-within I p at h)

    linked : Linked (forward (ends_in E I p c at) (owned_by (items_in E I p c at) c (Some p))) (backward (ends_in E I p c at) (owned_by (items_in E I p c at) c (Some p))) (owner_of (owned_by (items_in E I p c at) c (Some p))) (λ q. list_at (lists_in E I p c at) q)
    linked = inserted (forward E I) (backward E I) (forward (ends_one E I p c at) (items_one E I p c at)) (backward (ends_one E I p c at) (items_one E I p c at)) (forward (ends_in E I p c at) (owned_by (items_in E I p c at) c (Some p))) (backward (ends_in E I p c at) (owned_by (items_in E I p c at) c (Some p))) (owner_of I) (owner_of (owned_by (items_in E I p c at) c (Some p))) (λ q. list_at (lists_of E I) q) (λ q. list_at (lists_in E I p c at) q) p c at a.links o place
        (joins E I p (backward E I p at) (Some c) p-in front-in c-in)
        (joins-owned (ends_in E I p c at) (items_in E I p c at) c (Some p) (forward (ends_one E I p c at) (items_one E I p c at)) (backward (ends_one E I p c at) (items_one E I p c at)) p (Some c) at c-two (joins (ends_one E I p c at) (items_one E I p c at) p (Some c) at p-one c-one at-one))
        (owner-owned (items_in E I p c at) c (Some p) c-two)
        (λ n d. owner-others (items_in E I p c at) c n (Some p) d ∙ owner-joined (items_one E I p c at) (Some c) at n c-one at-one ∙ owner-joined I (backward E I p at) (Some c) n front-in c-in)
        (get_or-set_same (lists_of E I) p (with_item c at (list_at (lists_of E I) p)) [] (subst (λ n. p < n) (sym lists-count) p-in))
        (λ q d. get_or-set_other (lists_of E I) p q (with_item c at (list_at (lists_of E I) p)) [] d)

    count : length (lists_in E I p c at) ≡ length (ends_in E I p c at)
    count = length-set (lists_of E I) p (with_item c at (list_at (lists_of E I) p)) ∙ lists-count ∙ sym ends-two

    few_lists : length (ends_in E I p c at) ≤ limit
    few_lists = subst (λ n. n ≤ limit) (sym ends-two) a.few_lists

    few_items : length (owned_by (items_in E I p c at) c (Some p)) ≤ limit
    few_items = subst (λ n. n ≤ limit) (sym (length-set (items_in E I p c at) c (record (item_at (items_in E I p c at) c) { owner = Some p }) ∙ items-two)) a.few_items

-- the place as the owners tell it
pub places : (I : List Item) (p : ℕ) (at : Option ℕ) → IfSome at (λ r. owner_at (map (λ i. i.owner) I) r ≡ Some p) → IfSome at (λ r. owner_of I r ≡ Some p)
places I p None h = tt
places I p (Some r) h = sym (owners-at I r) ∙ h

-- an item put into a list
pub item-inserted : (E D1 D2 : List Ends) (I J1 J2 K : List Item) (p c : ℕ) (at front : Option ℕ) (limit er ir dr kr : ℕ) → AreLinked E I limit er ir → p < length (lists_of E I) → c < length (map (λ i. i.owner) I)
    → owner_at (map (λ i. i.owner) I) c ≡ None → IfSome at (λ r. owner_at (map (λ i. i.owner) I) r ≡ Some p) → front ≡ backward E I p at
    → D1 ≡ ends_joined E p front (Some c) → J1 ≡ items_joined I front (Some c) → D2 ≡ ends_joined D1 p (Some c) at → J2 ≡ items_joined J1 (Some c) at → K ≡ owned_by J2 c (Some p) → dr ≡ er → kr ≡ ir
    → Shows D2 K (set (lists_of E I) p (with_item c at (list_at (lists_of E I) p))) (set (map (λ i. i.owner) I) c (Some p)) limit dr kr
item-inserted E D1 D2 I J1 J2 K p c at front limit er ir dr kr a p-in c-in o h f d1 j1 d2 j2 k rd rk =
    shows-by (ends_joined (ends_joined E p (backward E I p at) (Some c)) p (Some c) at) D2 (owned_by (items_joined (items_joined I (backward E I p at) (Some c)) (Some c) at) c (Some p)) K
    (set (lists_of E I) p (with_item c at (list_at (lists_of E I) p))) (set (map (λ i. i.owner) I) c (Some p)) limit er ir dr kr
    (d2 ∙ ap (λ D. ends_joined D p (Some c) at) (d1 ∙ ap (λ x. ends_joined E p x (Some c)) f))
    (k ∙ ap (λ J. owned_by J c (Some p)) (j2 ∙ ap (λ J. items_joined J (Some c) at) (j1 ∙ ap (λ x. items_joined I x (Some c)) f)))
    rd rk
    (inserted-shows E I p c at limit er ir a (subst (λ n. p < n) (length-map E (λ e. walk (length I) I e.first)) p-in) (subst (λ n. c < n) (length-map I (λ i. i.owner)) c-in) (sym (owners-at I c) ∙ o) (places I p at h))

-- what each call needs of numbers
pub front-is-within : (E : List Ends) (I : List Item) (p : ℕ) (at front : Option ℕ) (limit er ir : ℕ) → AreLinked E I limit er ir → IfSome at (λ r. owner_at (map (λ i. i.owner) I) r ≡ Some p) → front ≡ backward E I p at → IsWithin front (length I)
front-is-within E I p at front limit er ir a h f = subst (λ x. IsWithin x (length I)) (sym f) (front-within E I (lists_of E I) p at a.links (place-in E I p at limit er ir a (places I p at h)))

pub place-is-within : (I : List Item) (p : ℕ) (at : Option ℕ) → IfSome at (λ r. owner_at (map (λ i. i.owner) I) r ≡ Some p) → IsWithin at (length I)
place-is-within I p at h = place-within I p at (places I p at h)

pub owner-list : (E : List Ends) (I : List Item) (c p limit er ir : ℕ) (i : Item) → AreLinked E I limit er ir → i ≡ item_at I c → i.owner ≡ Some p → p < length E
owner-list E I c p limit er ir i a e o =
    subst (λ n. p < n) (length-map E (λ e. walk (length I) I e.first)) (has-list (lists_of E I) p c (a.links.listed p c (ap (λ (i : Item). i.owner) (sym e) ∙ o)))

pub owned-item : (I : List Item) (c p : ℕ) (i : Item) → i ≡ item_at I c → i.owner ≡ Some p → c < length I
owned-item I c p i e o = within I c p (ap (λ (i : Item). i.owner) (sym e) ∙ o)

pub item-front : (E : List Ends) (I : List Item) (c p limit er ir : ℕ) (i : Item) → AreLinked E I limit er ir → i ≡ item_at I c → i.owner ≡ Some p → IsWithin i.previous (length I)
item-front E I c p limit er ir i a e o =
    subst (λ (j : Item). IsWithin j.previous (length I)) (sym e) (front-within E I (lists_of E I) p (Some c) a.links (a.links.listed p c (ap (λ (i : Item). i.owner) (sym e) ∙ o)))

pub item-behind : (E : List Ends) (I : List Item) (c p limit er ir : ℕ) (i : Item) → AreLinked E I limit er ir → i ≡ item_at I c → i.owner ≡ Some p → IsWithin i.next (length I)
item-behind E I c p limit er ir i a e o =
    subst (λ (j : Item). IsWithin j.next (length I)) (sym e) (behind-within E I (lists_of E I) p c a.links (a.links.listed p c (ap (λ (i : Item). i.owner) (sym e) ∙ o)))

-- each item of a list is one of the items
pub items-known : (E : List Ends) (I : List Item) (limit er ir : ℕ) → AreLinked E I limit er ir → AreKnown (view limit (lists_of E I) (map (λ i. i.owner) I))
items-known E I limit er ir a = λ p m h. subst (λ k. m < k) (sym (length-map I (λ i. i.owner))) (within I m p (a.links.owned p m h))

pub items-listed : (E : List Ends) (I : List Item) (limit er ir : ℕ) → AreLinked E I limit er ir → AreListed (view limit (lists_of E I) (map (λ i. i.owner) I))
items-listed E I limit er ir a = record {
  owned = λ p n h. owners-at I n ∙ a.links.owned p n h;
  listed = λ p n h. a.links.listed p n (sym (owners-at I n) ∙ h);
  once = λ p. path-differ (forward E I p) (backward E I p) None (list_at (lists_of E I) p) (a.links.paths p);
}
