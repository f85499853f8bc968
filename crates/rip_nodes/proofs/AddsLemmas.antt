-- Only texts are added: by a new text, and by one such step after another.
use Rattle.std.proofs.Common.{◌≡◌, ℕ, ◌+◌, ◌<◌, ◌≤◌, Bool, true, false, List, ◌++◌, length, refl, sym, ap, ◌∙◌, subst, arith}
use Rattle.std.specs.Prelude.{if◌then◌else◌}
use Rattle.std.proofs.lemmas.List.{length-append, length-map}
use Rattle.rip_base.specs.declared.value.Span.{Span}
use Rattle.rip_values.specs.Pool.{Texts, text_at, with_text}
use Rattle.rip_base.specs.Units.{small_unit, small_text}
use Rattle.rip_heap.specs.World.{World}
use Rattle.rip_dom.specs.Attributes.{has_attribute}
use Rattle.rip_dom.specs.Creation.{cost_of_name, is_all_small, with_kept}
use Rattle.rip_dom.specs.Opening.{Opening}
use Rattle.rip_dom.specs.Tree.{Tree}
use Rattle.rip_dom.proofs.CreationLemmas.{stands-still}
use Rattle.rip_nodes.specs.Answers.{AddsTexts}
use Rattle.rip_nodes.specs.Attributes.{cost_of_new, opening, texts_kept}

text-behind : (w : World) (text : List ℕ) (n : ℕ) → AddsTexts w (record w { pool = with_text w.pool text n })
text-behind w text n =
    let more : length (w.pool.units ++ text) ≡ length w.pool.units + length text = length-append w.pool.units text in
    record {
      grows = record {
        limit = refl;
        unit_limit = refl;
        text_limit = refl;
        cells = omega arith;
        units = omega arith;
        texts = λ s h. stands-still w.pool (with_text w.pool text n) text s refl h;
        spans = omega (arith, more);
        made = omega arith;
        objects = λ i d h. (refl, refl, refl);
        opened = omega arith;
        scopes = λ i d h. (refl, refl);
      };
      objects = refl;
    }

pub adds-text : (w x : World) (text : List ℕ) (n : ℕ) → x ≡ record w { pool = with_text w.pool text n } → AddsTexts w x
adds-text w x text n e = subst (AddsTexts w) (sym e) (text-behind w text n)

length-kept_by : (b : Bool) (pool : Texts) (text : List ℕ) → length (if b then pool else with_text pool (small_text text) (length text)).units ≡ length pool.units + (if b then 0 else length text)
length-kept_by true pool text = omega arith
length-kept_by false pool text = let h : length (pool.units ++ small_text text) ≡ length pool.units + length (small_text text) = length-append pool.units (small_text text) in h ∙ ap (λ k. length pool.units + k) (length-map text small_unit)

length-texts_by : (b : Bool) (w : World) (s x : Opening) (name : Span) → s.pool ≡ w.pool → x.pool ≡ with_kept w.pool name
    → length (if b then s else x).pool.units ≡ length w.pool.units + (if b then 0 else cost_of_name w.pool name)
length-texts_by true w s x name e f = let h : length s.pool.units ≡ length w.pool.units = ap (λ (q : Texts). length q.units) e in omega (arith, h)
length-texts_by false w s x name e f = ap (λ (q : Texts). length q.units) f ∙ length-kept_by (is_all_small (text_at w.pool name)) w.pool (text_at w.pool name)

-- how much longer the texts are
pub length-texts_kept : (w : World) (t : Tree) (n : ℕ) (name : Span) → length (texts_kept w t n name).units ≡ length w.pool.units + cost_of_new w t n name
length-texts_kept w t n name = length-texts_by (has_attribute (opening w.pool t) n name) w _ _ name refl refl

pub adds-on : (a b c : World) → AddsTexts a b → AddsTexts b c → AddsTexts a c
adds-on a b c f g = record {
  grows = record {
    limit = g.grows.limit ∙ f.grows.limit;
    unit_limit = g.grows.unit_limit ∙ f.grows.unit_limit;
    text_limit = g.grows.text_limit ∙ f.grows.text_limit;
    cells = omega (arith, f.grows.cells, g.grows.cells);
    units = omega (arith, f.grows.units, g.grows.units);
    texts = λ s h. let k : s.start + s.count ≤ length b.pool.units = omega (arith, h, f.grows.spans) in g.grows.texts s k ∙ f.grows.texts s h;
    spans = omega (arith, f.grows.spans, g.grows.spans);
    made = omega (arith, f.grows.made, g.grows.made);
    objects = λ i d h.
        let k : i < length b.objects = omega (arith, h, f.grows.made) in
        let u = g.grows.objects i d k in
        let v = f.grows.objects i d h in
        (u.0 ∙ v.0, u.1 ∙ v.1, u.2 ∙ v.2);
    opened = omega (arith, f.grows.opened, g.grows.opened);
    scopes = λ i d h.
        let k : i < length b.scopes = omega (arith, h, f.grows.opened) in
        let u = g.grows.scopes i d k in
        let v = f.grows.scopes i d h in
        (u.0 ∙ v.0, u.1 ∙ v.1);
  };
  objects = g.objects ∙ f.objects;
}
