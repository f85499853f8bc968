-- A script is refused once, and has no tree then.
use Rattle.std.proofs.Common.{◌≡◌, ℕ, ◌+◌, ◌<◌, ◌≤◌, Bool, true, false, ltb, ltb-true, ltb-false, List, [], ◌∷◌, ◌++◌, length, refl, sym, ap, ◌∙◌, subst, arith, append_assoc}
use Rattle.rip_lexer.specs.declared.token.Token.{Token}
use Rattle.rip_lexer.proofs.Lexing.{same_tokens}
use Rattle.rip_tree.specs.Branches.{Plant}
use Rattle.rip_grammar.specs.declared.word.Lexeme.{Lexeme}
use Rattle.rip_grammar.specs.Phrases.{Phrase}
use Rattle.rip_grammar.specs.Grammar.{IsScript, IsViable}
use Rattle.rip_parser.specs.Words.{lexemes_of}
use Rattle.rip_parser.specs.Parsed.{IsBody, HasTree, IsShallow, IsRefused, IsTooDeep, IsUnexpected, IsTreeOf, IsNoTree}
use Rattle.rip_parser.specs.Laws.{HaveOneTree, HaveOneRefusal, HaveNotBoth}
use Rattle.rip_parser.specs.declared.refusal.ParseKind.{ParseKind}
use Rattle.rip_parser.specs.declared.refusal.ParseKind.TheVariants as K
use Rattle.rip_parser.specs.declared.refusal.ParseRefusal.TheVariants as R
use Rattle.rip_parser.proofs.Steps.{unexpected-none}
use Rattle.rip_parser.proofs.Trees.{one-tree}

-- of two fronts of one list the shorter, and what follows it, begin the other
shorter : (a b r s : List Lexeme) (t u : Lexeme) → a ++ t ∷ r ≡ b ++ u ∷ s → length a < length b → (more : List Lexeme) × (b ≡ (a ++ t ∷ []) ++ more)
shorter a [] r s t u same less = absurd (omega arith)
shorter [] (x ∷ b) r s t u same less = let first : x ≡ t = cc in (b, ap (λ y. y ∷ b) first)
shorter (x ∷ a) (y ∷ b) r s t u same less =
    let first : y ≡ x = cc in
    let behind : a ++ t ∷ r ≡ b ++ u ∷ s = cc in
    let rest = shorter a b r s t u behind (omega arith) in
    (rest.0, ap (λ z. z ∷ b) first ∙ ap (λ l. x ∷ l) rest.1)

as-long : (a b r s : List Lexeme) (t u : Lexeme) → a ++ t ∷ r ≡ b ++ u ∷ s → length a ≡ length b → t ≡ u
as-long [] [] r s t u same long = cc
as-long [] (x ∷ b) r s t u same long = absurd (omega arith)
as-long (x ∷ a) [] r s t u same long = absurd (omega arith)
as-long (x ∷ a) (y ∷ b) r s t u same long = let behind : a ++ t ∷ r ≡ b ++ u ∷ s = cc in as-long a b r s t u behind (omega arith)

-- what begins lexemes that begin a script begins one
viable-front : (a more : List Lexeme) → IsViable (a ++ more) → IsViable a
viable-front a more (rest, body, is) = (more ++ rest, body, subst (λ (l : List Lexeme). IsScript l body) (append_assoc a more rest) is)

-- a front with which no script goes on is not the shorter of two
not-shorter : (lexemes : List Lexeme) (p q : ℕ) (a : IsUnexpected lexemes p) (b : IsUnexpected lexemes q) → length a.front < length b.front → ⊥
not-shorter lexemes p q a b less =
    let more = shorter a.front b.front a.behind b.behind a.lexeme b.lexeme (sym a.splits ∙ b.splits) less in
    a.ends (viable-front (a.front ++ a.lexeme ∷ []) more.0 (subst (λ (l : List Lexeme). IsViable l) more.1 b.begins))

-- the first lexeme with which no script goes on is one
unexpected-once : (lexemes : List Lexeme) (p q : ℕ) → IsUnexpected lexemes p → IsUnexpected lexemes q → p ≡ q
unexpected-once lexemes p q a b = by (ltb (length a.front) (length b.front)) refl (ltb (length b.front) (length a.front)) refl
  where
    by : (x : Bool) → ltb (length a.front) (length b.front) ≡ x → (y : Bool) → ltb (length b.front) (length a.front) ≡ y → p ≡ q
    by true less y at = absurd (not-shorter lexemes p q a b (ltb-true _ _ less))
    by false not_less true less = absurd (not-shorter lexemes q p b a (ltb-true _ _ less))
    by false one false other =
        let low = ltb-false _ _ one in
        let high = ltb-false _ _ other in
        let long : length a.front ≡ length b.front = omega arith in
        a.place-is ∙ ap (λ (t : Lexeme). t.start) (as-long a.front b.front a.behind b.behind a.lexeme b.lexeme (sym a.splits ∙ b.splits) long) ∙ sym b.place-is

-- a script's tokens are refused so
record IsUnread (script : List ℕ) (tokens : List Token) (place : ℕ) (kind : ParseKind) : Type 0 where
  refused : IsRefused script tokens (R.At place kind)
  deep : (body : Phrase) → IsBody script tokens body → IsTooDeep body (R.At place kind)

refused-once : (script : List ℕ) (tokens : List Token) (p q : ℕ) (k j : ParseKind) → IsUnread script tokens p k → IsUnread script tokens q j → (p ≡ q) × (k ≡ j)
refused-once script tokens p q K.Unexpected K.Unexpected a b = (unexpected-once (lexemes_of script tokens) p q a.refused b.refused, refl)
refused-once script tokens p q K.Unexpected K.TooNested a b = absurd (unexpected-none (lexemes_of script tokens) p b.refused.0 a.refused b.refused.1)
refused-once script tokens p q K.TooNested K.Unexpected a b = absurd (unexpected-none (lexemes_of script tokens) q a.refused.0 b.refused a.refused.1)
refused-once script tokens p q K.TooNested K.TooNested a b =
    let one = a.refused.2.1 in
    let other = (b.deep a.refused.0 a.refused.1).1 in
    (cc, refl)

not-both : (script : List ℕ) (tokens : List Token) (tree : Plant) (place : ℕ) (kind : ParseKind) → HasTree script tokens tree → IsUnread script tokens place kind → ⊥
not-both script tokens tree place K.Unexpected has a = a.deep has.0 has.1
not-both script tokens tree place K.TooNested has a =
    let shallow : IsShallow has.0 = has.3 in
    let deep = (a.deep has.0 has.1).0 in
    omega arith

-- the same, of the tokens that the script has elsewhere
unread : (script : List ℕ) (tokens : List Token) (place : ℕ) (kind : ParseKind) → (a : IsNoTree script place kind) → a.tokens ≡ tokens → IsUnread script tokens place kind
unread script tokens place kind a same = subst (λ (ts : List Token). IsUnread script ts place kind) same (record { refused = a.refused; deep = a.deep })

pub have_one_tree : HaveOneTree
have_one_tree script tree other a b =
    let same : b.tokens ≡ a.tokens = same_tokens script b.tokens a.tokens b.are a.are in
    let has : HasTree script a.tokens other = subst (λ (ts : List Token). HasTree script ts other) same b.found in
    one-tree (lexemes_of script a.tokens) script tree other a.found.0 has.0 a.found.1 has.1 a.found.2 has.2

pub have_one_refusal : HaveOneRefusal
have_one_refusal script place other kind why a b =
    refused-once script a.tokens place other kind why (unread script a.tokens place kind a refl) (unread script a.tokens other why b (same_tokens script b.tokens a.tokens b.are a.are))

pub have_not_both : HaveNotBoth
have_not_both script tree place kind a b =
    not-both script a.tokens tree place kind a.found (unread script a.tokens place kind b (same_tokens script b.tokens a.tokens b.are a.are))
