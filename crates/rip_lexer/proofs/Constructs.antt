-- What the code shows is what the units begin with.
use Rattle.std.proofs.Common.{◌≡◌, ℕ, ◌≤◌, arith, get_or, ◌⊎◌, inl, inr, Bool, true, false, not, cond, ◌||◌, ◌&&◌, ◌==◌, List, [], ◌∷◌, length, take, drop, take_while, None, Some, option_map, refl, sym, ap, ◌∙◌, ⊎_elim, take-append-drop, length-take-le, eqb-true}
use Rattle.std.proofs.lemmas.Bool.{and_parts, or_from, cond-true, both_ways, false≢true}
use Rattle.std.proofs.lemmas.Option.{none-some}
use Rattle.std.specs.List.{prefix_len}
use Rattle.rip_base.specs.Units.{begins}
use Rattle.rip_grammar.specs.declared.word.Word.{Word}
use Rattle.rip_grammar.specs.declared.word.Word.TheVariants as W
use Rattle.rip_grammar.specs.Words.{is_name}
use Rattle.rip_lexer.specs.Units.{class_of, is_line_end, is_blank, is_blank_class, is_name_start, is_name_unit}
use Rattle.rip_lexer.specs.Words.{is_among, look_up, reserved_words, word_in}
use Rattle.rip_lexer.specs.Gap.{Blank, LineComment, BlockComment, holds_close, begins_comment}
use Rattle.rip_lexer.specs.Tokens.{Begins, fault_of, Refuses, Spelling, InText, InComment, AtUnit}
use Rattle.rip_lexer.specs.View.{IsConstruct, ReadsEnd, before_close, comment_of, first_part}
use Rattle.rip_lexer.specs.declared.construct.Construct.TheVariants as C
use Rattle.rip_lexer.specs.declared.text.TextEnd.{TextEnd}
use Rattle.rip_lexer.specs.declared.refusal.Fault.{Fault}
use Rattle.rip_lexer.specs.declared.refusal.LexKind.TheVariants.{BadCharacter, OpenComment}
use Rattle.rip_lexer.specs.declared.units.UnitClass.{UnitClass}
use Rattle.rip_lexer.specs.declared.units.UnitClass.TheVariants.{White, LineEnd, Other}
use Rattle.rip_lexer.specs.declared.token.TokenKind.{TokenKind}
use Rattle.rip_lexer.specs.declared.token.TokenKind.TheVariants.{Name, Reserved, Text}
use Rattle.rip_lexer.proofs.Choice.{chosen, mapped_none}
use Rattle.rip_lexer.proofs.Longest.{closed, begins_text, begins_word, word_front}
use Rattle.rip_lexer.proofs.Spellings.{look_up-none, look_up-some, reserved_named}

from_not : (b c : Bool) → not b ≡ not c → b ≡ c
from_not true true same = refl
from_not false false same = refl
from_not true false same = absurd (false≢true same)
from_not false true same = absurd (false≢true (sym same))

pub token_of : (kind : TokenKind) (word : Word) (units front : List ℕ) (n : ℕ) → front ≡ take n units → Begins kind (take n units) (drop n units) → fault_of kind (take n units) (drop n units) ≡ None → word ≡ word_in kind (take n units) → IsConstruct units (C.Token kind word (length front))
token_of kind word units front n front-is begins no-fault word-is = (take n units, drop n units, sym (take-append-drop n units), begins, no-fault, ap length front-is, word-is)

-- the name or reserved word that the units begin with
pub word_token : (units front : List ℕ) (n : ℕ) (word : Word) (name : Bool) → front ≡ take n units → n ≡ prefix_len is_name_unit units → begins is_name_start units ≡ true → word ≡ look_up W.Name reserved_words front → name ≡ is_name word
    → IsConstruct units (C.Token (cond name Name Reserved) word (length front))
word_token units front n word name front-is n-is starts word-is name-is = by name name-is
  where
    looked : word ≡ look_up W.Name reserved_words (take n units)
    looked = word-is ∙ ap (look_up W.Name reserved_words) front-is

    kind-is : is_name word ≡ not (is_among reserved_words (take n units))
    kind-is = ap is_name looked ∙ reserved_named (take n units)

    by : (b : Bool) → b ≡ is_name word → IsConstruct units (C.Token (cond b Name Reserved) word (length front))
    by true is =
        let none = from_not (is_among reserved_words (take n units)) false (sym kind-is ∙ sym is) in
        token_of Name word units front n front-is (begins_word units n n-is starts Name refl (word_front units n n-is starts, none)) refl (looked ∙ look_up-none W.Name reserved_words (take n units) none)
    by false is =
        let among = from_not (is_among reserved_words (take n units)) true (sym kind-is ∙ sym is) in
        token_of Reserved word units front n front-is (begins_word units n n-is starts Reserved refl among) refl (looked ∙ look_up-some W.Name W.Unused reserved_words (take n units) among)

-- the text that the code found
pub text_token : (units : List ℕ) (end : TextEnd) → ReadsEnd units end → end.fault ≡ None → IsConstruct units (C.Token Text W.Text end.count)
text_token units end found none =
    let close = closed units found.quote found.characters found.rest (sym found.fault-is ∙ none) in
    let text = begins_text units found.quote found.characters found.rest close.tail end.count found.reads close.rest-is close.right found.count-is in
    (take end.count units, drop end.count units, sym (take-append-drop end.count units), text.1, refl, sym (length-take-le end.count units text.0), refl)

pub text_refused : (units : List ℕ) (end : TextEnd) (f : Fault) → ReadsEnd units end → end.fault ≡ Some f → Refuses units f.offset f.kind
text_refused units end f found some = InText found.quote found.characters found.rest found.reads (sym found.fault-is ∙ some)

-- a spelling with a fault
pub spelling_refused : (kind : TokenKind) (units : List ℕ) (n : ℕ) (f : Fault) → Begins kind (take n units) (drop n units) → fault_of kind (take n units) (drop n units) ≡ Some f → Refuses units f.offset f.kind
spelling_refused kind units n f begins found = Spelling kind (take n units) (drop n units) (sym (take-append-drop n units)) begins found

none_closes : (units : List ℕ) → before_close units ≡ None → holds_close units ≡ false
none_closes [] none = refl
none_closes (c ∷ rest) none =
    ⊎_elim
    (λ here. absurd (none-some [] (sym here.1)))
    (λ later. or_from _ _ later.0 (none_closes rest (mapped_none (λ b. c ∷ b) (before_close rest) later.1)))
    (chosen ((c == 42) && begins (λ d. d == 47) rest) (Some []) _ None none)

comment_open : (rest : List ℕ) → comment_of rest ≡ None → begins (λ d. (d == 47) || (d == 42)) rest ≡ true → (body : List ℕ) × (rest ≡ 42 ∷ body) × (holds_close body ≡ false)
comment_open [] none test = absurd (false≢true test)
comment_open (d ∷ body) none test =
    ⊎_elim
    (λ line. absurd (none-some _ (sym line.1)))
    (λ other.
    ⊎_elim
    (λ block. (body, ap (λ x. x ∷ body) (eqb-true d 42 block.0), none_closes body (mapped_none (λ b. BlockComment b) (before_close body) block.1)))
    (λ neither. absurd (both_ways ((d == 47) || (d == 42)) (or_from _ _ other.0 neither.0) test))
    (chosen (d == 42) (option_map (λ b. BlockComment b) (before_close body)) None None other.1))
    (chosen (d == 47) (Some (LineComment (take_while (λ c. not (is_line_end c)) body))) _ None none)

-- a comment that begins where no part of a gap does isn't closed
pub comment_refused : (units : List ℕ) → first_part units ≡ None → begins_comment units ≡ true → Refuses units 0 OpenComment
comment_refused [] none test = absurd (false≢true test)
comment_refused (c ∷ rest) none test =
    let parts = and_parts (c == 47) _ test in
    let slash = eqb-true c 47 parts.0 in
    ⊎_elim
    (λ blank. absurd (none-some (Blank c) (sym blank.1)))
    (λ other.
    let comment : comment_of rest ≡ None = sym (cond-true (c == 47) _ _ parts.0) ∙ other.1 in
    let open-one = comment_open rest comment parts.1 in
    let second = open-one.1 in
    InComment open-one.0 (λ i. slash i ∷ second i) open-one.2 refl refl)
    (chosen (is_blank c) (Some (Blank c)) _ None none)

-- where no part of a gap begins stands no white space and no line end
pub not_blank : (c : ℕ) (rest : List ℕ) → first_part (c ∷ rest) ≡ None → is_blank c ≡ false
not_blank c rest none =
    ⊎_elim (λ blank. absurd (none-some (Blank c) (sym blank.1))) (λ other. other.0) (chosen (is_blank c) (Some (Blank c)) _ None none)

not_name : (k : UnitClass) → (k ≡ White) ⊎ ((k ≡ LineEnd) ⊎ (k ≡ Other)) → is_blank_class k ≡ false → k ≡ Other
not_name k (inl white) other = absurd (false≢true (sym other ∙ ap is_blank_class white))
not_name k (inr (inl line)) other = absurd (false≢true (sym other ∙ ap is_blank_class line))
not_name k (inr (inr rest)) other = rest

-- a unit that begins nothing
pub unit_refused : (units : List ℕ) (k : UnitClass) → 1 ≤ length units → first_part units ≡ None → k ≡ class_of (get_or units 0 0) → (k ≡ White) ⊎ ((k ≡ LineEnd) ⊎ (k ≡ Other)) → Refuses units 0 BadCharacter
unit_refused [] k some none class which = absurd (omega arith)
unit_refused (c ∷ rest) k some none class which =
    AtUnit c rest refl (sym class ∙ not_name k which (ap is_blank_class class ∙ not_blank c rest none)) refl refl
