-- The tokens of a script stand in order, and each lexeme can be read.
use Rattle.std.proofs.Common.{◌≡◌, ℕ, zero, suc, ◌+◌, ◌<◌, ◌≤◌, Bool, true, false, List, [], ◌∷◌, ◌++◌, length, map, All, cond, bytes_eq, refl, sym, ap, ◌∙◌, subst, arith, get_or, append_assoc}
use Rattle.std.specs.List.{list_all}
use Rattle.std.proofs.lemmas.Bool.{and_parts}
use Rattle.rip_lexer.specs.Words.{Entry, double_punctuators, long_punctuators, look_up, punctuators, reserved_words, single_punctuators, word_in}
use Rattle.rip_lexer.specs.Tokens.{Outcome, Lexes, IsTokens, IsTokenOf, units_of}
use Rattle.rip_lexer.proofs.Lexing.{tokens_stand}
use Rattle.rip_lexer.proofs.Longest.{not_empty}
use Rattle.rip_lexer.specs.declared.token.Token.{Token}
use Rattle.rip_lexer.specs.declared.token.TokenKind.{TokenKind}
use Rattle.rip_lexer.specs.declared.token.TokenKind.TheVariants as K
use Rattle.rip_grammar.specs.declared.word.Word.{Word}
use Rattle.rip_grammar.specs.declared.word.Word.TheVariants as W
use Rattle.rip_grammar.specs.declared.word.Lexeme.{Lexeme}
use Rattle.rip_parser.specs.Words.{lexeme_of, end_of, lexemes_of}
use Rattle.rip_parser.specs.Listed.{AreInOrder, IsTextToken}
use Rattle.rip_parser.specs.Building.{IsReadable}
use Rattle.rip_parser.proofs.Following.{Each}
use Rattle.rip_parser.proofs.Numbers.{Reads}

-- the tokens of a text begin at its place or later
begin-from : (at : ℕ) (text : List ℕ) (ts : List Token) (outcome : Outcome) → Lexes at text ts outcome → (j : ℕ) (d : Token) → j < length ts → at ≤ (get_or ts j d).start
begin-from at text [] outcome lexes j d within = absurd (omega arith)
begin-from at text (t ∷ ts) outcome lexes zero d within = let start = lexes.1.start in omega arith
begin-from at text (t ∷ ts) outcome lexes (suc j) d within =
    let below = begin-from (t.start + t.count) lexes.0 ts outcome lexes.2 j d (omega arith) in
    let start = lexes.1.start in
    omega arith

-- each token begins behind the one before it
pub in-order : (at : ℕ) (text : List ℕ) (ts : List Token) (outcome : Outcome) → Lexes at text ts outcome → AreInOrder ts
in-order at text [] outcome lexes i j d less within = absurd (omega arith)
in-order at text (t ∷ ts) outcome lexes i zero d less within = absurd (omega arith)
in-order at text (t ∷ ts) outcome lexes zero (suc j) d less within =
    let below = begin-from (t.start + t.count) lexes.0 ts outcome lexes.2 j d (omega arith) in
    let some = not_empty t.kind lexes.1.spelling lexes.1.begins_token.spelled in
    let count = lexes.1.count in
    omega arith
in-order at text (t ∷ ts) outcome lexes (suc i) (suc j) d less within = in-order (t.start + t.count) lexes.0 ts outcome lexes.2 i j d (omega arith) (omega arith)

-- a word that is no literal
abbrev pub is_valueless : Word → Bool
is_valueless W.Numeral = false
is_valueless W.Text = false
is_valueless w = true

-- what is no name, numeral or text has no value
look_up-valueless : (entries : List Entry) (s : List ℕ) → list_all (λ (e : Entry). is_valueless e.word) entries ≡ true → is_valueless (look_up W.Unused entries s) ≡ true
look_up-valueless [] s all = refl
look_up-valueless (e ∷ entries) s all =
    let parts = and_parts (is_valueless e.word) _ all in by (bytes_eq s e.spelling) parts.0 (look_up-valueless entries s parts.1)
  where
    by : (b : Bool) → is_valueless e.word ≡ true → is_valueless (look_up W.Unused entries s) ≡ true → is_valueless (cond b e.word (look_up W.Unused entries s)) ≡ true
    by true here below = here
    by false here below = below

reserved-valueless : (s : List ℕ) → is_valueless (look_up W.Unused reserved_words s) ≡ true
unfolding reserved_words
reserved-valueless s = look_up-valueless reserved_words s refl

marks-valueless : (s : List ℕ) → is_valueless (look_up W.Unused punctuators s) ≡ true
unfolding punctuators long_punctuators double_punctuators single_punctuators
marks-valueless s = look_up-valueless punctuators s refl

valueless-readable : (text : List ℕ) (tokens : List Token) (t : Lexeme) (w : Word) → is_valueless w ≡ true → IsReadable text tokens t w
valueless-readable text tokens t W.Numeral e = cc
valueless-readable text tokens t W.Text e = cc
valueless-readable text tokens t w e = tt

get_or-seam : (before ts : List Token) (t d : Token) → get_or (before ++ t ∷ ts) (length before) d ≡ t
get_or-seam [] ts t d = refl
get_or-seam (b ∷ before) ts t d = get_or-seam before ts t d

length-seam : (before ts : List Token) (t : Token) → length before < length (before ++ t ∷ ts)
length-seam [] ts t = omega arith
length-seam (b ∷ before) ts t = let below = length-seam before ts t in omega arith

-- the lexeme of a token can be read
token-readable : (text : List ℕ) (before ts : List Token) (t : Token) → IsTokenOf text t → (k : TokenKind) → t.kind ≡ k → IsReadable text (before ++ t ∷ ts) (lexeme_of t) (word_in k (units_of text t))
token-readable text before ts t of K.Name is = tt
token-readable text before ts t of K.Reserved is = valueless-readable text (before ++ t ∷ ts) (lexeme_of t) (word_in K.Reserved (units_of text t)) (reserved-valueless (units_of text t))
token-readable text before ts t of K.Numeral is = of.whole is
token-readable text before ts t of K.Text is =
    (length before, length-seam before ts t, λ d. subst (λ (x : Token). IsTextToken (lexeme_of t) x) (sym (get_or-seam before ts t d)) (is, refl, refl))
token-readable text before ts t of K.Punctuator is = valueless-readable text (before ++ t ∷ ts) (lexeme_of t) (word_in K.Punctuator (units_of text t)) (marks-valueless (units_of text t))

readable-from : (text : List ℕ) (all before ts : List Token) → All (IsTokenOf text) all → all ≡ before ++ ts → Each (Reads text all) (map lexeme_of ts ++ end_of (length text) ∷ [])
readable-from text all before [] of splits = (tt, tt)
readable-from text all before (t ∷ ts) of splits =
    let within : length before < length all = subst (λ (l : List Token). length before < length l) (sym splits) (length-seam before ts t) in
    let here : IsTokenOf text t = subst (λ (x : Token). IsTokenOf text x) (ap (λ (l : List Token). get_or l (length before) t) splits ∙ get_or-seam before ts t t) (of (length before) t within) in
    let reads : IsReadable text (before ++ t ∷ ts) (lexeme_of t) t.word = subst (λ (w : Word). IsReadable text (before ++ t ∷ ts) (lexeme_of t) w) (sym here.word) (token-readable text before ts t here t.kind refl) in (
      subst (λ (l : List Token). IsReadable text l (lexeme_of t) t.word) (sym splits) reads,
      readable-from text all (before ++ t ∷ []) ts of (splits ∙ sym (append_assoc before (t ∷ []) ts)),
    )

-- each lexeme of a script can be read
pub readable : (text : List ℕ) (tokens : List Token) → IsTokens text tokens → Each (Reads text tokens) (lexemes_of text tokens)
readable text tokens are = readable-from text tokens [] tokens (tokens_stand text tokens are) refl
