-- Calls that take a pool alone only add texts to it.
use Rattle.std.proofs.Common.{◌≡◌, ℕ, ◌+◌, Bool, true, false, List, ◌++◌, length, Result, Ok, Err, sym, ap, ◌∙◌, subst, refl, arith, true≢false}
use Rattle.std.specs.Prelude.{IsOk, if◌then◌else◌}
use Rattle.std.proofs.lemmas.List.{length-append}
use Rattle.rip_base.specs.declared.value.Limit.TheVariants.{Fuel, Cells, Units, Nodes, Depth, Queue, Replies}
use Rattle.rip_base.specs.declared.value.Refused.TheVariants.{Limit as At, Memory}
use Rattle.rip_base.specs.declared.value.Span.{Span}
use Rattle.rip_values.specs.Pool.{Texts, text_at, with_text}
use Rattle.rip_base.specs.Units.{small_text}
use Rattle.rip_heap.specs.Lending.{PoolGrows}
use Rattle.rip_dom.specs.declared.creation.DomRefused.{DomRefused}
use Rattle.rip_dom.specs.declared.reading.TextRefused.{TextRefused}
use Rattle.rip_dom.specs.declared.reading.TextRefused.TheVariants.{TooLong, Refused}
use Rattle.rip_dom.specs.Attributes.{Sets, attribute_refusal, attribute_set, has_attribute}
use Rattle.rip_dom.specs.Creation.{Creates, element_made, element_refusal, is_all_small, with_kept}
use Rattle.rip_dom.specs.Opening.{Opening}
use Rattle.rip_dom.specs.Reading.{Reads}
use Rattle.rip_dom.specs.Tree.{Tree}
use Rattle.rip_dom.proofs.CreationLemmas.{stands-still}

text-behind : (p : Texts) (text : List ℕ) (n : ℕ) → PoolGrows p (with_text p text n)
text-behind p text n =
    let more : length (p.units ++ text) ≡ length p.units + length text = length-append p.units text in
    record {
      limit = refl;
      text_limit = refl;
      used = omega arith;
      texts = λ s h. stands-still p (with_text p text n) text s refl h;
      spans = omega (arith, more);
    }

nothing : (p : Texts) → PoolGrows p p
nothing p = record { limit = refl; text_limit = refl; used = omega arith; texts = λ s h. refl; spans = omega arith }

-- a text
pub text-grows : (p q : Texts) (text : List ℕ) (n : ℕ) → q ≡ with_text p text n → PoolGrows p q
text-grows p q text n e = subst (PoolGrows p) (sym e) (text-behind p text n)

-- nothing
pub same-grows : (p q : Texts) → q ≡ p → PoolGrows p q
same-grows p q e = subst (PoolGrows p) (sym e) (nothing p)

-- a text that is read
pub read-grows : (text : List ℕ) (p : Texts) (r : Result Span TextRefused) (q : Texts) → Reads text p r q → PoolGrows p q
read-grows text p (Ok span) q h = text-grows p q text (length text) h.3
read-grows text p (Err TooLong) q h = same-grows p q h.1
read-grows text p (Err (Refused (At Units))) q h = same-grows p q h.2
read-grows text p (Err (Refused (At Fuel))) q h = absurd h
read-grows text p (Err (Refused (At Cells))) q h = absurd h
read-grows text p (Err (Refused (At Nodes))) q h = absurd h
read-grows text p (Err (Refused (At Depth))) q h = absurd h
read-grows text p (Err (Refused (At Queue))) q h = absurd h
read-grows text p (Err (Refused (At Replies))) q h = absurd h
read-grows text p (Err (Refused Memory)) q h = absurd h

-- a name that is kept
kept-by : (b : Bool) (p : Texts) (text : List ℕ) (n : ℕ) → PoolGrows p (if b then p else with_text p text n)
kept-by true p text n = nothing p
kept-by false p text n = text-behind p text n

kept-grows : (p : Texts) (name : Span) (q : Texts) → q ≡ with_kept p name → PoolGrows p q
kept-grows p name q e = subst (PoolGrows p) (sym e) (kept-by (is_all_small (text_at p name)) p (small_text (text_at p name)) (length (text_at p name)))

-- an element that is made
pub element-grows : (name : Span) (s : Opening) (r : Result ℕ DomRefused) (t : Opening) → Creates (element_refusal s name) (length s.tree.nodes) (element_made s name) s r t → PoolGrows s.pool t.pool
element-grows name s (Ok n) t h = kept-grows s.pool name t.pool (ap (λ (x : Opening). x.pool) h.2)
element-grows name s (Err e) t h = same-grows s.pool t.pool (ap (λ (x : Opening). x.pool) h.1)

-- an attribute that is set
set-by : (b : Bool) (s x y : Opening) (name : Span) → x.pool ≡ s.pool → y.pool ≡ with_kept s.pool name → PoolGrows s.pool (if b then x else y).pool
set-by true s x y name e f = same-grows s.pool x.pool e
set-by false s x y name e f = kept-grows s.pool name y.pool f

pub attribute-grows : (n : ℕ) (name value : Span) (s : Opening) (r : Result (Unit {0}) DomRefused) (t : Opening) → Sets (attribute_refusal s n name) (attribute_set s n name value) s r t → PoolGrows s.pool t.pool
attribute-grows n name value s (Ok done) t h =
    subst (PoolGrows s.pool) (sym (ap (λ (x : Opening). x.pool) h.1)) (set-by (has_attribute s n name) s _ _ name refl refl)
attribute-grows n name value s (Err e) t h = same-grows s.pool t.pool (ap (λ (x : Opening). x.pool) h.1)

-- where it is not refused, it is set so
pub attribute-set : (n : ℕ) (name value : Span) (p shown : Texts) (tree : Tree) (r : Result (Unit {0}) DomRefused) (done : Unit {0}) (t : Opening) → shown ≡ p → r ≡ Ok done
    → Sets (attribute_refusal (record { pool = shown; tree = tree }) n name) (attribute_set (record { pool = shown; tree = tree }) n name value) (record { pool = shown; tree = tree }) r t
    → t ≡ attribute_set (record { pool = p; tree = tree }) n name value
attribute-set n name value p shown tree (Ok done) d t e f h = h.1 ∙ ap (λ q. attribute_set (record { pool = q; tree = tree }) n name value) e
attribute-set n name value p shown tree (Err why) d t e f h = absurd (true≢false (sym (subst IsOk (sym f) refl)))
