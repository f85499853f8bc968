-- What the names of a clean program mean, node by node.
use Rattle.std.proofs.Common.{◌≡◌, ℕ, zero, suc, ◌+◌, ◌<◌, Bool, true, false, not, List, [], ◌∷◌, ◌++◌, length, map, fold, Option, Some, None, refl, sym, ap, ◌∙◌, subst, arith, append_assoc, append-nil}
use Rattle.std.specs.Prelude.{is_some, ⊤}
use Rattle.std.specs.List.{All, flat_map, range_with_len}
use Rattle.std.proofs.lemmas.Bool.{false≢true}
use Rattle.std.proofs.lemmas.List.Elements.{All-head, All-tail}
use Rattle.rip_tree.specs.declared.form.Form.{Form}
use Rattle.rip_tree.specs.declared.form.Form.TheVariants as F
use Rattle.rip_tree.specs.declared.form.FunctionHead.{FunctionHead}
use Rattle.rip_tree.specs.declared.node.Node.{Node}
use Rattle.rip_tree.specs.declared.node.Piece.{Piece}
use Rattle.rip_tree.specs.declared.program.Scoping.{Scoping}
use Rattle.rip_tree.specs.Branches.{Branch, Plant, node_of}
use Rattle.rip_tree.specs.Program.{Grove, moved_piece, moved_branch, with_pieces, with_tree, joined, scoping_of}
use Rattle.rip_early.specs.declared.mistake.Mistake.{Mistake}
use Rattle.rip_early.specs.Around.{form_of, form_or_empty, numbers}
use Rattle.rip_early.specs.Laws.{NamesAreResolved, has_name}
use Rattle.rip_early.specs.Mistakes.{AreClean, bad_assignments, bad_bindings, bad_uses, duplicates, is_name_form, is_strict, mistake, mistakes, mistakes_of, where_so}
use Rattle.rip_early.specs.Names.{Name, top_scope}
use Rattle.rip_early.specs.Program.{program_of, script_scoping}
use Rattle.rip_early.specs.Scopes.{meaning_at, node_meaning, scoping_at}
use Rattle.rip_early.specs.declared.refusal.EarlyKind.TheVariants.{NotStrict, UnknownGlobal}

-- ---- a node of a clean script

left_nil : {X : Type 0} (xs ys : List X) → xs ++ ys ≡ [] → xs ≡ []
left_nil [] ys e = refl
left_nil (x ∷ xs) ys e = absurd (let h : x ∷ (xs ++ ys) ≡ [] = e in cc)

right_nil : {X : Type 0} (xs ys : List X) → xs ++ ys ≡ [] → ys ≡ []
right_nil [] ys e = e
right_nil (x ∷ xs) ys e = absurd (let h : x ∷ (xs ++ ys) ≡ [] = e in cc)

not_so : (b : Bool) (m : Mistake) → where_so (not b) m ≡ [] → b ≡ true
not_so true m e = refl
not_so false m e = absurd (let h : m ∷ [] ≡ [] = e in cc)

-- what is said of a node by its form: no name means nothing, and a name that is read means something
pub record Says (form : Form) (said : Scoping) : Type 0 where
  pub unnamed : has_name form ≡ false → said.resolved ≡ None
  pub read : is_name_form form ≡ true → is_some said.resolved ≡ true

read_by : (top : List Name) (t : Plant) (id place : ℕ) (f : Form) → bad_uses top t id place f ≡ [] → is_name_form f ≡ true → is_some (node_meaning top t id f).resolved ≡ true
read_by top t id place (F.Name p) clean is = not_so (is_some (meaning_at top t id p).resolved) (mistake place UnknownGlobal) clean
read_by top t id place _ clean is = absurd (false≢true is)

unnamed_by : (top : List Name) (t : Plant) (id : ℕ) (f : Form) → has_name f ≡ false → (node_meaning top t id f).resolved ≡ None
unnamed_by top t id (F.Name p) e = absurd (false≢true (sym e))
unnamed_by top t id (F.Declarator p) e = absurd (false≢true (sym e))
unnamed_by top t id (F.Parameter p) e = absurd (false≢true (sym e))
unnamed_by top t id (F.Catch p) e = absurd (false≢true (sym e))
unnamed_by top t id (F.FunctionDeclaration head) e = by head.name e
  where
    by : (o : Option Piece) → is_some o ≡ false → (node_meaning top t id (F.FunctionDeclaration (record head { name = o }))).resolved ≡ None
    by None e = refl
    by (Some p) e = absurd (false≢true (sym e))
unnamed_by top t id (F.Function head) e = by head.name e
  where
    by : (o : Option Piece) → is_some o ≡ false → (node_meaning top t id (F.Function (record head { name = o }))).resolved ≡ None
    by None e = refl
    by (Some p) e = absurd (false≢true (sym e))
unnamed_by top t id _ e = refl

-- the mistakes of a node are none
says_node : (top : List Name) (t : Plant) (id : ℕ) (node : Node) → node_of t.branches id ≡ Some node → mistakes_of top t id (node_of t.branches id) ≡ [] → Says node.form (scoping_at top t id)
says_node top t id node is clean =
    let here : mistakes_of top t id (Some node) ≡ [] = ap (mistakes_of top t id) (sym is) ∙ clean in
    let uses = right_nil (duplicates t id node.form ++ bad_bindings t id node.form ++ bad_assignments t id node.form) (bad_uses top t id node.place node.form) here in
    let form : form_of t id ≡ node.form = ap form_or_empty is in
    record {
      unnamed = λ e. ap (λ f. (node_meaning top t id f).resolved) form ∙ unnamed_by top t id node.form e;
      read = λ e. ap (λ f. is_some (node_meaning top t id f).resolved) form ∙ read_by top t id node.place node.form uses e;
    }

-- ---- all nodes of scripts

-- of each branch this is said
abbrev pub Agree : List Branch → List Scoping → Type 0
Agree [] [] = ⊤
Agree [] (s ∷ ss) = ⊥
Agree (b ∷ bs) [] = ⊥
Agree (b ∷ bs) (s ∷ ss) = Says b.node.form s × Agree bs ss

agree_append : (bs cs : List Branch) (ss us : List Scoping) → Agree bs ss → Agree cs us → Agree (bs ++ cs) (ss ++ us)
agree_append [] cs [] us a b = b
agree_append [] cs (s ∷ ss) us a b = absurd a
agree_append (x ∷ bs) cs [] us a b = absurd a
agree_append (x ∷ bs) cs (s ∷ ss) us a b = (a.0, agree_append bs cs ss us a.1 b)

moved_name : (f : Piece → Piece) (form : Form) → has_name (with_pieces f form) ≡ has_name form
moved_name f (F.FunctionDeclaration head) = by head.name
  where
    by : (o : Option Piece) → has_name (with_pieces f (F.FunctionDeclaration (record head { name = o }))) ≡ is_some o
    by None = refl
    by (Some p) = refl
moved_name f (F.Function head) = by head.name
  where
    by : (o : Option Piece) → has_name (with_pieces f (F.Function (record head { name = o }))) ≡ is_some o
    by None = refl
    by (Some p) = refl
moved_name f _ = refl

moved_read : (f : Piece → Piece) (form : Form) → is_name_form (with_pieces f form) ≡ is_name_form form
moved_read f (F.Name p) = refl
moved_read f _ = refl

says_moved : (f : Piece → Piece) (form : Form) (said : Scoping) → Says form said → Says (with_pieces f form) said
says_moved f form said says = record {
  unnamed = λ e. says.unnamed (sym (moved_name f form) ∙ e);
  read = λ e. says.read (sym (moved_read f form) ∙ e);
}

-- the last branches of a script, from this number on
script_from : (top : List Name) (t : Plant) (there branches units at : ℕ) (bs : List Branch) → ((j : ℕ) → node_of t.branches (at + j) ≡ node_of bs j)
    → flat_map (λ id. mistakes_of top t id (node_of t.branches id)) (range_with_len at (length bs)) ≡ []
    → Agree (map (moved_branch there branches units) bs) (map (scoping_at top t) (range_with_len at (length bs)))
script_from top t there branches units at [] stands clean = tt
script_from top t there branches units at (b ∷ bs) stands clean =
    let own = mistakes_of top t at (node_of t.branches at) in
    let others = flat_map (λ id. mistakes_of top t id (node_of t.branches id)) (range_with_len (at + 1) (length bs)) in
    let here : node_of t.branches at ≡ Some b.node = ap (node_of t.branches) (let e : at ≡ at + 0 = omega arith in e) ∙ stands 0 in (
      says_moved (moved_piece there units) b.node.form (scoping_at top t at) (says_node top t at b.node here (left_nil own others clean)),
      script_from top t there branches units (at + 1) bs
          (λ j. ap (node_of t.branches) (let e : at + 1 + j ≡ at + suc j = omega arith in e) ∙ stands (suc j))
          (right_nil own others clean),
    )

script_agrees : (top : List Name) (t : Plant) (there branches units : ℕ) → mistakes top t ≡ [] → Agree (map (moved_branch there branches units) t.branches) (script_scoping top t)
unfolding mistakes
script_agrees top t there branches units clean =
    script_from top t there branches units 0 t.branches (λ j. ap (node_of t.branches) (let e : 0 + j ≡ j = omega arith in e))
    (right_nil (where_so (not (is_strict t)) (mistake 0 NotStrict)) (flat_map (λ id. mistakes_of top t id (node_of t.branches id)) (numbers t)) clean)

scripts_agree : (top : List Name) (g : Grove) (said : List Scoping) (trees : List Plant) → Agree g.branches said → All (λ t. mistakes top t ≡ []) trees
    → Agree (fold with_tree g trees).branches (said ++ flat_map (script_scoping top) trees)
scripts_agree top g said [] agree clean = subst (Agree g.branches) (sym (append-nil said)) agree
scripts_agree top g said (t ∷ ts) agree clean =
    let moved = map (moved_branch (length t.units) (length g.branches) (length g.units)) t.branches in
    let first : Agree (g.branches ++ moved) (said ++ script_scoping top t) =
    agree_append g.branches moved said (script_scoping top t) agree
    (script_agrees top t (length t.units) (length g.branches) (length g.units) (All-head (λ t. mistakes top t ≡ []) t ts clean)) in
    subst (Agree (fold with_tree (with_tree g t) ts).branches) (append_assoc said (script_scoping top t) (flat_map (script_scoping top) ts))
    (scripts_agree top (with_tree g t) (said ++ script_scoping top t) ts first (All-tail (λ t. mistakes top t ≡ []) t ts clean))

agree_at : (bs : List Branch) (ss : List Scoping) (id : ℕ) (node : Node) → Agree bs ss → node_of bs id ≡ Some node → Says node.form (scoping_of ss id)
agree_at [] [] id node agree e = absurd (let h : None ≡ Some node = e in cc)
agree_at [] (s ∷ ss) id node agree e = absurd agree
agree_at (b ∷ bs) [] id node agree e = absurd agree
agree_at (b ∷ bs) (s ∷ ss) zero node agree e =
    let same : b.node ≡ node = let h : Some b.node ≡ Some node = e in cc in
    subst (λ (n : Node). Says n.form s) same agree.0
agree_at (b ∷ bs) (s ∷ ss) (suc id) node agree e = agree_at bs ss id node agree.1 e

pub names_resolved : NamesAreResolved
unfolding program_of
names_resolved trees clean id node e =
    let agree = scripts_agree (top_scope trees) (record { branches = []; units = []; roots = [] }) [] trees tt clean in
    let says = agree_at (joined trees).branches (flat_map (script_scoping (top_scope trees)) trees) id node agree e in
    (says.unnamed, says.read)
