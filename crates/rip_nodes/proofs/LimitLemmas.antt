-- No change of a tree changes its limit.
use Rattle.std.proofs.Common.{◌≡◌, ℕ, Bool, true, false, Option, None, Some, List, [], ◌∷◌, length, refl, sym, ap, ◌∙◌}
use Rattle.std.specs.Prelude.{if◌then◌else◌, ◌==◌}
use Rattle.rip_base.specs.declared.page.NodeKind.TheVariants.{Text}
use Rattle.rip_base.specs.declared.value.Span.{Span}
use Rattle.rip_dom.specs.Attributes.{attribute_set, has_attribute}
use Rattle.rip_dom.specs.Lists.{is_place}
use Rattle.rip_dom.specs.Opening.{Opening}
use Rattle.rip_dom.specs.Tree.{Tree, children_of, inserted, is_element, node_at, put_in, replaced, taken_out, with_node}
use Rattle.rip_dom.specs.Writing.{emptied, filled, is_empty, with_text_of, without_nodes, written}

limit-if : (b : Bool) (t u v : Tree) → u.limit ≡ t.limit → v.limit ≡ t.limit → (if b then u else v).limit ≡ t.limit
limit-if true t u v e f = e
limit-if false t u v e f = f

pub limit_of_inserted : (t : Tree) (p c : ℕ) (at : Option ℕ) → (inserted t p c at).limit ≡ t.limit
limit_of_inserted t p c at = limit-if (is_place at c) t t (put_in t p c at) refl refl

pub limit_of_replaced : (t : Tree) (p c o : ℕ) → (replaced t p c o).limit ≡ t.limit
limit_of_replaced t p c o = limit-if (o == c) t t (taken_out (put_in t p c (Some o)) o) refl refl

limit-without : (t : Tree) (cs : List ℕ) → (without_nodes t cs).limit ≡ t.limit
limit-without t [] = refl
limit-without t (c ∷ cs) = limit-without (taken_out t c) cs

limit-filled : (t : Tree) (n : ℕ) (text : Span) → (filled t n text).limit ≡ t.limit
limit-filled t n text =
    limit-if (is_empty text) t (emptied t n) (put_in (with_node (emptied t n) Text None (Some text)) n (length t.nodes) None)
    (limit-without t (children_of t n)) (limit-without t (children_of t n))

pub limit_of_written : (t : Tree) (n : ℕ) (text : Span) → (written t n text).limit ≡ t.limit
limit_of_written t n text = limit-if (is_element (node_at t n).kind) t (filled t n text) (with_text_of t n text) (limit-filled t n text) refl

limit-of_opening : (b : Bool) (l : ℕ) (s x : Opening) → s.tree.limit ≡ l → x.tree.limit ≡ l → (if b then s else x).tree.limit ≡ l
limit-of_opening true l s x e f = e
limit-of_opening false l s x e f = f

pub limit_of_attribute_set : (s : Opening) (n : ℕ) (name value : Span) → (attribute_set s n name value).tree.limit ≡ s.tree.limit
limit_of_attribute_set s n name value = limit-of_opening (has_attribute s n name) s.tree.limit _ _ refl refl
