-- The laws of texts and bodies.
use Rattle.std.proofs.Common.{◌≡◌, ℕ, List, Some, Result, Ok, Err, IfOk, IfErr, IsErrOf, IsUtf8, refl, sym, ◌∙◌}
use Rattle.serde_json.specs.Data.{Data}
use Rattle.rip_wire.specs.declared.item.Batch.{Batch}
use Rattle.rip_wire.specs.declared.error.WireError.{WireError}
use Rattle.rip_wire.specs.declared.error.WireError.TheVariants.{Body, Memory}
use Rattle.rip_wire.specs.Batches.{Contents, contents_of, batch_value, batch_text, IsBatch, Spells, SpellsNone}
use Rattle.rip_wire.specs.Laws.{TextSpellsBatch, BodyTellsBatch, BodiesAreOneValue}
use Rattle.rip_wire.proofs.SameLemmas.{batch_same}
use Rattle.rip_wire.proofs.TreeLemmas.{value_of-batch_text}
use Rattle.rip_wire.proofs.Utf8Lemmas.{batch_text-utf8}

same_value : (d e : Data) → Some d ≡ Some e → d ≡ e
same_value d e h = cc

pub body_tells : BodyTellsBatch
body_tells body b c h g = batch_same b c h.in_range g.in_range (same_value (batch_value b) (batch_value c) (sym h.is ∙ g.is))

pub one_value : BodiesAreOneValue
one_value one other b h g = h.is ∙ sym g.is

pub spelled : (b : Contents) → IsBatch b → (text : List ℕ) → text ≡ batch_text b → IsUtf8 text → Spells text b
spelled b h text is utf8 = record { in_range = h; is = rw is (value_of-batch_text b h (rw (sym is) utf8)) }

pub text_spells : TextSpellsBatch
text_spells b h = spelled b h (batch_text b) refl (batch_text-utf8 b h)

pub read_same : (r : Result Batch WireError) (text : List ℕ) (b : Contents) → Spells text b → IfOk r (λ c. Spells text (contents_of c)) → IfOk r (λ c. contents_of c ≡ b)
read_same (Ok c) text b h ok = body_tells text (contents_of c) b ok h
read_same (Err e) text b h ok = tt

pub read_accepted : (r : Result Batch WireError) (text : List ℕ) (b : Contents) → Spells text b → (IsErrOf r Body → SpellsNone text) → IfErr r (λ e. e ≡ Memory)
read_accepted (Ok c) text b h body = tt
read_accepted (Err Body) text b h body = absurd (body refl b h)
read_accepted (Err Memory) text b h body = refl
