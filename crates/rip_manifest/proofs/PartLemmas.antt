-- The members that were found are those of the object.
use Rattle.std.proofs.Common.{◌≡◌, ℕ, List, Option, None, Some, IfSome, IfNone, Bor, sym, ap, ◌∙◌, refl, subst, arith}
use Rattle.std.specs.Prelude.{codes}
use Rattle.serde_json.specs.Data.{Data, object, Members}
use Rattle.serde_json.specs.Events.{members_len}
use Rattle.serde_json.specs.Find.{get, get_member}
use Rattle.serde_json.specs.View.{view}
use Rattle.serde_json.specs.declared.value.Value.{Value}
use Rattle.rip_manifest.specs.declared.parts.Parts.{Parts as Found}
use Rattle.rip_manifest.specs.Reading.{parts_view}
use Rattle.rip_manifest.specs.Manifest.{HasBeside, HasShared, HasParts, Parts}

-- an object with these beside what manifests of both versions have
pub with_shared : (value : Data) (ms : Members) (parts : Parts) → value ≡ object ms → HasBeside ms parts.beside → HasShared value parts → HasParts value parts
with_shared value ms parts are beside shared =
    let found : (name : List ℕ) (x : Data) → get name value ≡ Some x → get_member name ms ≡ Some x =
    λ name x is. sym (ap (get name) are) ∙ is in
    record {
      members = ms;
      are = are;
      beside = beside;
      version = found (codes "version") parts.version shared.version;
      functions = found (codes "functions") parts.functions shared.functions;
      limits = found (codes "limits") parts.limits shared.limits;
    }

-- of three members none is a language or a wire
pub three_parts : (value : Data) (ms : Members) (r : Option Found) → value ≡ object ms → members_len ms ≡ 3 → IfSome r (λ p. p.beside ≡ None)
    → IfSome r (λ p. HasShared value (parts_view p)) → IfSome r (λ p. HasParts value (parts_view p))
three_parts value ms None are three beside shared = tt
three_parts value ms (Some p) are three beside shared = with_shared value ms (parts_view p) are (rw beside three) shared

-- of five members these are the language and the wire
pub five_parts : (value : Data) (ms : Members) (both : Bor Value × Bor Value) (r : Option Found) → value ≡ object ms
    → HasBeside ms (Some (view both.0.now, view both.1.now)) → IfSome r (λ p. p.beside ≡ Some both)
    → IfSome r (λ p. HasShared value (parts_view p)) → IfSome r (λ p. HasParts value (parts_view p))
five_parts value ms both None are has beside shared = tt
five_parts value ms both (Some p) are has beside shared = with_shared value ms (parts_view p) are (rw beside has) shared

-- what holds of all parts holds where there are none
pub if_none : (r : Option Found) (P : Type 0) → P → IfNone r P
if_none None P h = h
if_none (Some p) P h = tt

beside_of : (value : Data) (ms : Members) (parts : Parts) → value ≡ object ms → HasParts value parts → HasBeside ms parts.beside
beside_of value ms parts are h = subst (λ ns. HasBeside ns parts.beside) (sym (objects ms h.members (sym are ∙ h.are))) h.beside
  where
    objects : (ms ns : Members) → object ms ≡ object ns → ms ≡ ns
    objects ms ns e = cc

-- five members without a language, or without a wire, are no parts
pub no_language : (value : Data) (ms : Members) → value ≡ object ms → members_len ms ≡ 5 → None ≡ get (codes "language") value → (parts : Parts) → HasParts value parts → ⊥
no_language value ms are five none parts h = by parts.beside (beside_of value ms parts are h)
  where
    by : (b : Option (Data × Data)) → HasBeside ms b → ⊥
    by None three = let same : members_len ms ≡ 3 = three in absurd (omega arith)
    by (Some both) has = let found : get (codes "language") value ≡ Some both.0 = ap (get (codes "language")) are ∙ has.1 in cc

pub no_wire : (value : Data) (ms : Members) → value ≡ object ms → members_len ms ≡ 5 → None ≡ get (codes "wire") value → (parts : Parts) → HasParts value parts → ⊥
no_wire value ms are five none parts h = by parts.beside (beside_of value ms parts are h)
  where
    by : (b : Option (Data × Data)) → HasBeside ms b → ⊥
    by None three = let same : members_len ms ≡ 3 = three in absurd (omega arith)
    by (Some both) has = let found : get (codes "wire") value ≡ Some both.1 = ap (get (codes "wire")) are ∙ has.2 in cc

-- neither three members nor five
pub other_count : (value : Data) (ms : Members) → value ≡ object ms → (members_len ms ≡ 3 → ⊥) → (members_len ms ≡ 5 → ⊥) → (parts : Parts) → HasParts value parts → ⊥
other_count value ms are three five parts h = by parts.beside (beside_of value ms parts are h)
  where
    by : (b : Option (Data × Data)) → HasBeside ms b → ⊥
    by None has = three has
    by (Some both) has = five has.0
