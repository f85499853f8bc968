-- A list with commas that goes on with one part more.
use Rattle.std.proofs.Common.{◌≡◌, ◌+◌, Bool, true, false, ◌&&◌, ◌||◌, List, refl}
use Rattle.rip_grammar.specs.declared.word.Lexeme.{Lexeme}
use Rattle.rip_grammar.specs.declared.event.Event.{Event}
use Rattle.rip_grammar.specs.Phrases.{Phrase, spell}
use Rattle.rip_grammar.specs.Semicolons.{has_bare_in}
use Rattle.rip_grammar.specs.Grammar.{IsMade, is_nothing, is_comma_list, may_be_commas, may_end_in_comma}
use Rattle.rip_grammar.specs.Events.{width, emit}
use Rattle.rip_automaton.proofs.Open.{Prior, First, Behind, listed, with_next, spell_prior, IsPrior}

pub next_spell : (prior : Prior) (d : Phrase) (r : List Lexeme) → spell_prior prior (spell d r) ≡ spell (with_next prior d) r
next_spell First d r = refl
next_spell (Behind l c) d r = refl

pub next_emit : (prior : Prior) (d : Phrase) (out : List Event) → emit d (emit (listed prior) out) ≡ emit (with_next prior d) out
next_emit First d out = refl
next_emit (Behind l c) d out = refl

pub next_width : (prior : Prior) (d : Phrase) → width (with_next prior d) ≡ width (listed prior) + 1
next_width First d = refl
next_width (Behind l c) d = refl

pub next_made : (p : Phrase → Bool) (prior : Prior) (d : Phrase) (r : List Lexeme) → IsPrior p prior (spell d r) → IsMade d r → IsMade (with_next prior d) r
next_made p First d r before made = (tt, made)
next_made p (Behind l c) d r before made = (before.1, before.2, made)

and_true : (a b : Bool) → a ≡ true → b ≡ true → (a && b) ≡ true
and_true true b h g = g
and_true false b h g = cc

pub next_list : (p : Phrase → Bool) (prior : Prior) (d : Phrase) (q : List Lexeme) → IsPrior p prior q → p d ≡ true → is_comma_list p (with_next prior d) ≡ true
next_list p First d q before so = so
next_list p (Behind l c) d q before so = and_true _ _ before.0 so

pub next_bare : (prior : Prior) (d : Phrase) → has_bare_in (with_next prior d) ≡ (has_bare_in (listed prior) || has_bare_in d)
next_bare First d = refl
next_bare (Behind l c) d = refl

-- a list with commas may be one that is given, and one that a comma may end
or_right : (a b : Bool) → b ≡ true → (a || b) ≡ true
or_right true b h = refl
or_right false b h = h

pub may_be : (p : Phrase → Bool) (l : Phrase) → is_comma_list p l ≡ true → may_be_commas p l ≡ true
may_be p l h = or_right (is_nothing l) _ h

pub may_end : (p : Phrase → Bool) (prior : Prior) (d : Phrase) (q : List Lexeme) → IsPrior p prior q → p d ≡ true → may_end_in_comma p (with_next prior d) ≡ true
may_end p First d q before so = so
may_end p (Behind l c) d q before so = and_true _ _ before.0 so
