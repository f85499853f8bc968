-- A piece comes on a connection.
use Rattle.std.proofs.Common.{◌≡◌, ℕ, zero, suc, ◌+◌, ◌<◌, ◌≤◌, ⊎_elim, Bool, true, false, cond, ◌||◌, ◌&&◌, not, ltb, eqb, List, [], ◌∷◌, ◌++◌, length, Option, Some, None, refl, sym, ap, subst, ◌∙◌, arith}
use Rattle.std.specs.Prelude.{slice_get}
use Rattle.std.specs.List.{AllByRecursion}
use Rattle.std.proofs.lemmas.Bool.{eq-eqb, ne_eqb, lt-ltb, le-ltb}
use Rattle.rip_history.specs.Connections.{Act, shuts, Connection as Link, Connections as Links, is_there, unread_of, without, changed, overflows, after_piece, piece_acts}
use Rattle.rip_server.specs.Links.{link_of, there_of, AreRising}
use Rattle.rip_server.specs.declared.connection.Connection.{Connection}
use Rattle.rip_server.proofs.LinkLemmas.{above_at, there-get}

there_here : (cs : List Link) (place : ℕ) (d : Link) → slice_get cs place ≡ Some d → is_there d.number cs ≡ true
there_here [] place d e = cc
there_here (c ∷ cs) zero d e =
    let same : c ≡ d = cc in
    let here : eqb c.number d.number ≡ true = eq-eqb c.number d.number (ap (λ (x : Link). x.number) same) in
    ap (λ (t : Bool). t || is_there d.number cs) here
there_here (c ∷ cs) (suc place) d e = ap (λ (t : Bool). eqb c.number d.number || t) (there_here cs place d e) ∙ either (eqb c.number d.number)
  where
    either : (t : Bool) → (t || true) ≡ true
    either true = refl
    either false = refl

unread_here : (cs : List Link) (high place : ℕ) (d : Link) → AreRising cs high → slice_get cs place ≡ Some d → unread_of d.number cs ≡ d.unread
unread_here [] high place d rising e = cc
unread_here (c ∷ cs) high zero d rising e =
    let same : c ≡ d = cc in
    let here : eqb c.number d.number ≡ true = eq-eqb c.number d.number (ap (λ (x : Link). x.number) same) in
    ap (λ (t : Bool). cond t c.unread (unread_of d.number cs)) here ∙ ap (λ (x : Link). x.unread) same
unread_here (c ∷ cs) high (suc place) d rising e =
    let above : c.number < d.number = above_at c.number cs place d rising.1 e in
    let other : eqb c.number d.number ≡ false = ne_eqb c.number d.number (λ same. omega (arith, above, same)) in
    ap (λ (t : Bool). cond t c.unread (unread_of d.number cs)) other ∙ unread_here cs high place d rising.2 e

-- what is known of the connection on which the piece comes
pub is_here : (cs : List Connection) (place : ℕ) (c : Connection) → slice_get cs place ≡ Some c → is_there c.number (there_of cs) ≡ true
is_here cs place c e = there_here (there_of cs) place (link_of c) (there-get cs place c e)

pub has_unread : (cs : List Connection) (high place : ℕ) (c : Connection) → AreRising (there_of cs) high → slice_get cs place ≡ Some c
    → unread_of c.number (there_of cs) ≡ c.conn
has_unread cs high place c rising e = unread_here (there_of cs) high place (link_of c) rising (there-get cs place c e)

-- whether the connection overflows, by its unread bytes
pub overflow_is : (n opened : ℕ) (piece unread : List ℕ) (cs : List Link) (b : Bool) → unread_of n cs ≡ unread → ltb 77824 (length unread + length piece) ≡ b
    → overflows n piece (record { opened = opened; there = cs }) ≡ b
overflow_is n opened piece unread cs b is over = ap (λ (t : List ℕ). ltb 77824 (length t + length piece)) is ∙ over

-- the piece is fed, where there is room
pub fed_after : (n opened : ℕ) (piece : List ℕ) (cs now : List Link) → is_there n cs ≡ true → overflows n piece (record { opened = opened; there = cs }) ≡ false
    → now ≡ changed n (λ (d : Link). record d { unread = d.unread ++ piece }) cs
    → record { opened = opened; there = now } ≡ after_piece n piece (record { opened = opened; there = cs })
fed_after n opened piece cs now here fits is =
    let k : Links = record { opened = opened; there = cs } in
    let fed : Links = record { opened = opened; there = changed n (λ (d : Link). record d { unread = d.unread ++ piece }) cs } in
    let full : Links = record { opened = opened; there = without n cs } in
    ap (λ (t : List Link). record { opened = opened; there = t }) is
    ∙ sym (ap (λ (t : Bool). cond (not t) k (cond (overflows n piece k) full fed)) here ∙ ap (λ (t : Bool). cond t full fed) fits)

-- or it is shut
pub full_after : (n opened : ℕ) (piece : List ℕ) (cs now : List Link) → is_there n cs ≡ true → overflows n piece (record { opened = opened; there = cs }) ≡ true
    → now ≡ without n cs → record { opened = opened; there = now } ≡ after_piece n piece (record { opened = opened; there = cs })
full_after n opened piece cs now here over is =
    let k : Links = record { opened = opened; there = cs } in
    let fed : Links = record { opened = opened; there = changed n (λ (d : Link). record d { unread = d.unread ++ piece }) cs } in
    let full : Links = record { opened = opened; there = without n cs } in
    ap (λ (t : List Link). record { opened = opened; there = t }) is
    ∙ sym (ap (λ (t : Bool). cond (not t) k (cond (overflows n piece k) full fed)) here ∙ ap (λ (t : Bool). cond t full fed) over)

pub fed_acts : (n : ℕ) (piece : List ℕ) (k : Links) → overflows n piece k ≡ false → piece_acts n piece k ≡ []
fed_acts n piece k fits = ap (λ (t : Bool). cond (is_there n k.there && t) (shuts n ∷ []) []) fits ∙ neither (is_there n k.there)
  where
    neither : (t : Bool) → cond (t && false) (shuts n ∷ []) [] ≡ []
    neither true = refl
    neither false = refl

pub full_acts : (n : ℕ) (piece : List ℕ) (k : Links) → is_there n k.there ≡ true → overflows n piece k ≡ true → piece_acts n piece k ≡ shuts n ∷ []
full_acts n piece k here over =
    ap (λ (t : Bool). cond (t && overflows n piece k) (shuts n ∷ []) []) here ∙ ap (λ (t : Bool). cond (true && t) (shuts n ∷ []) []) over
