-- Connections in a list, one after another.
use Rattle.std.proofs.Common.{◌≡◌, ◌≢◌, ℕ, zero, suc, ◌+◌, ◌<◌, ◌≤◌, ⊎_elim, Bool, true, false, cond, ◌||◌, eqb, List, [], ◌∷◌, ◌++◌, length, take, drop, map, get_or, Option, Some, None, refl, sym, ap, subst, ◌∙◌, arith, IsTrue}
use Rattle.std.specs.Prelude.{slice_get, option_map, is_some}
use Rattle.std.specs.Bool.{OnTrue, OnFalse}
use Rattle.std.specs.List.{AllByRecursion, list_any}
use Rattle.std.proofs.lemmas.Bool.{eqb-true, eqb-false, ne_eqb, eq-eqb}
use Rattle.std.proofs.lemmas.List.{take_more, take_all, map-append}
use Rattle.std.proofs.lemmas.List.Folds.{list_any-append}
use Rattle.rip_http.specs.Stream.{waits, IsNext}
use Rattle.rip_history.specs.Connections.{Owed, Connection as Link, is_there, owed_for, owing}
use Rattle.rip_history.specs.Run.{IsQuiet, AreQuiet}
use Rattle.rip_server.specs.Links.{owed_of, link_of, there_of}
use Rattle.rip_server.specs.declared.connection.Connection.{Connection}
use Rattle.rip_server.specs.declared.connection.Wait.{Wait}

-- what is read at a place stands there
pub got : (cs : List Connection) (place : ℕ) (c : Connection) → place < length cs → c ≡ get_or cs place c → slice_get cs place ≡ Some c
got [] place c below is = absurd (omega (arith, below))
got (d ∷ cs) zero c below is = ap Some (sym is)
got (d ∷ cs) (suc place) c below is = got cs place c (omega (arith, below)) is

pub got_below : (cs : List Connection) (place : ℕ) (c : Connection) → slice_get cs place ≡ Some c → place < length cs
got_below [] place c e = cc
got_below (d ∷ cs) zero c e = omega arith
got_below (d ∷ cs) (suc place) c e = omega (arith, got_below cs place c e)

-- the links of those up to a place and with it
there_more : (cs : List Connection) (p : ℕ) (c : Connection) → p < length cs → c ≡ get_or cs p c
    → there_of (take (p + 1) cs) ≡ there_of (take p cs) ++ link_of c ∷ []
there_more cs p c below is =
    ap there_of (take_more cs p c below) ∙ map-append link_of (take p cs) (get_or cs p c ∷ [])
    ∙ ap (λ (d : Connection). there_of (take p cs) ++ link_of d ∷ []) (sym is)

none_of : (a b : Bool) → a ≡ false → b ≡ false → (a || b) ≡ false
none_of a b e f = ap (λ (t : Bool). t || b) e ∙ f

-- ---- a number that none has

pub none_more : (n : ℕ) (cs : List Connection) (p : ℕ) (c : Connection) → p < length cs → c ≡ get_or cs p c → (c.number ≡ n → ⊥)
    → is_there n (there_of (take p cs)) ≡ false → is_there n (there_of (take (p + 1) cs)) ≡ false
none_more n cs p c below is other before =
    ap (is_there n) (there_more cs p c below is)
    ∙ list_any-append (λ (d : Link). eqb d.number n) (there_of (take p cs)) (link_of c ∷ [])
    ∙ none_of _ _ before (none_of _ _ (ne_eqb c.number n other) refl)

pub none_at_all : (n : ℕ) (cs : List Connection) (p : ℕ) → length cs ≤ p → is_there n (there_of (take p cs)) ≡ false → is_there n (there_of cs) ≡ false
none_at_all n cs p le before = ap (λ (t : List Connection). is_there n (there_of t)) (sym (take_all p cs le)) ∙ before

-- ---- an answer that is owed

-- no answer for the batch of this session is owed on a connection
abbrev pub Passes : ℕ → Option Wait → Type 0
Passes n o = (w : Wait) → o ≡ Some w → w.session ≡ n → ⊥

passed : (n number : ℕ) (o : Option Wait) (others : Option (ℕ × Bool)) → Passes n o → owed_for n number (option_map owed_of o) others ≡ others
passed n number None others p = refl
passed n number (Some w) others p =
    ap (λ (t : Bool). cond t (Some (number, w.close)) others) (ne_eqb w.session n (p w refl))

owing-append : (n : ℕ) (xs : List Link) (c : Link) (rest : List Link) → owing n ((xs ++ c ∷ []) ++ rest) ≡ owing n (xs ++ c ∷ rest)
owing-append n [] c rest = refl
owing-append n (x ∷ xs) c rest = ap (owed_for n x.number x.owed) (owing-append n xs c rest)

pub owed_more : (n : ℕ) (cs : List Connection) (p : ℕ) (c : Connection) → p < length cs → c ≡ get_or cs p c → Passes n c.waits
    → ((rest : List Link) → owing n (there_of (take p cs) ++ rest) ≡ owing n rest)
    → (rest : List Link) → owing n (there_of (take (p + 1) cs) ++ rest) ≡ owing n rest
owed_more n cs p c below is none before rest =
    ap (λ (t : List Link). owing n (t ++ rest)) (there_more cs p c below is)
    ∙ owing-append n (there_of (take p cs)) (link_of c) rest
    ∙ before (link_of c ∷ rest)
    ∙ passed n c.number c.waits (owing n rest) none

split_links : (cs : List Connection) (p : ℕ) (c : Connection) → p < length cs → c ≡ get_or cs p c
    → there_of cs ≡ there_of (take p cs) ++ link_of c ∷ there_of (drop (suc p) cs)
split_links [] p c below is = absurd (omega (arith, below))
split_links (d ∷ cs) zero c below is = ap (λ (x : Connection). link_of x ∷ there_of cs) (sym is)
split_links (d ∷ cs) (suc p) c below is = ap (λ (t : List Link). link_of d ∷ t) (split_links cs p c (omega (arith, below)) is)

pub owed_found : (n : ℕ) (cs : List Connection) (p : ℕ) (c : Connection) (w : Wait) → p < length cs → c ≡ get_or cs p c → c.waits ≡ Some w → w.session ≡ n
    → ((rest : List Link) → owing n (there_of (take p cs) ++ rest) ≡ owing n rest)
    → owing n (there_of cs) ≡ Some (c.number, w.close)
owed_found n cs p c w below is wait same before =
    let behind = there_of (drop (suc p) cs) in
    ap (owing n) (split_links cs p c below is) ∙ before (link_of c ∷ behind)
    ∙ ap (λ (o : Option Wait). owed_for n c.number (option_map owed_of o) (owing n behind)) wait
    ∙ ap (λ (t : Bool). cond t (Some (c.number, w.close)) (owing n behind)) (eq-eqb w.session n same)

pub owed_none : (n : ℕ) (cs : List Connection) (p : ℕ) → length cs ≤ p → ((rest : List Link) → owing n (there_of (take p cs) ++ rest) ≡ owing n rest)
    → owing n (there_of cs) ≡ None
owed_none n cs p le before =
    sym (ap (owing n) (append-end (there_of cs)))
    ∙ ap (λ (t : List Connection). owing n (there_of t ++ [])) (sym (take_all p cs le)) ∙ before []
  where
    append-end : (xs : List Link) → xs ++ [] ≡ xs
    append-end [] = refl
    append-end (x ∷ xs) = ap (λ (t : List Link). x ∷ t) (append-end xs)

-- ---- nothing to handle

pub none_owed : (o : Option Wait) → false ≡ is_some o → option_map owed_of o ≡ None
none_owed None e = refl
none_owed (Some w) e = cc

pub due_told : (c : Connection) (b : Bool) → false ≡ is_some c.waits → (IsTrue b → ¬ IsNext c.conn waits) × ((¬ IsNext c.conn waits) → IsTrue b)
    → OnTrue b (¬ IsQuiet (link_of c))
due_told c true free ready = λ q. ⊎_elim (λ owed. owed (none_owed c.waits free)) (λ next. ready.0 refl next) q
due_told c false free ready = tt

pub quiet_at : (cs : List Connection) (p : ℕ) (c : Connection) → p < length cs → c ≡ get_or cs p c → AreQuiet (there_of cs) → IsQuiet (link_of c)
quiet_at [] p c below is quiet = absurd (omega (arith, below))
quiet_at (d ∷ cs) zero c below is quiet = subst (λ (x : Connection). IsQuiet (link_of x)) (sym is) quiet.0
quiet_at (d ∷ cs) (suc p) c below is quiet = quiet_at cs p c (omega (arith, below)) is quiet.1

quiet_push : (xs : List Link) (c : Link) → AreQuiet xs → IsQuiet c → AreQuiet (xs ++ c ∷ [])
quiet_push [] c all q = (q, tt)
quiet_push (x ∷ xs) c all q = (all.0, quiet_push xs c all.1 q)

pub quiet_more : (cs : List Connection) (p : ℕ) (c : Connection) → p < length cs → c ≡ get_or cs p c → IsQuiet (link_of c)
    → AreQuiet (there_of (take p cs)) → AreQuiet (there_of (take (p + 1) cs))
quiet_more cs p c below is q before =
    subst AreQuiet (sym (there_more cs p c below is)) (quiet_push (there_of (take p cs)) (link_of c) before q)
