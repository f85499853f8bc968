-- Each script that has tokens has a tree, or it is refused.
use Rattle.std.proofs.Common.{◌≡◌, ◌⊎◌, inl, inr, ℕ, zero, suc, ◌+◌, ◌-◌, ◌<◌, ◌≤◌, Bool, true, false, ltb, ltb-true, ltb-false, leb, leb-true, leb-false, bytes_eq, List, [], ◌∷◌, ◌++◌, length, take, drop, All, Option, Some, None, get_or, refl, sym, ap, ◌∙◌, subst, arith, append_assoc, append-nil, length-append}
use Rattle.std.specs.Prelude.{pos, min, unwrap_or}
use Rattle.std.proofs.lemmas.Bool.Decides.{eqb_tells}
use Rattle.rip_lexer.specs.declared.token.Token.{Token}
use Rattle.rip_lexer.specs.declared.token.TokenKind.{TokenKind}
use Rattle.rip_lexer.specs.declared.token.TokenKind.TheVariants as K
use Rattle.rip_lexer.specs.Numeral.{numeral_value}
use Rattle.rip_lexer.specs.Text.{StandsFor}
use Rattle.rip_lexer.specs.Tokens.{IsTokens, IsTokenOf}
use Rattle.rip_lexer.proofs.Lexing.{tokens_stand}
use Rattle.rip_tree.specs.Branches.{Plant}
use Rattle.rip_tree.specs.Making.{Growth, with_branch, with_units}
use Rattle.rip_tree.specs.declared.form.Form.{Form}
use Rattle.rip_tree.specs.declared.form.Form.TheVariants as F
use Rattle.rip_tree.specs.declared.form.Key.{Key}
use Rattle.rip_tree.specs.declared.form.Key.TheVariants as Y
use Rattle.rip_tree.specs.declared.form.TextLiteral.{TextLiteral}
use Rattle.rip_grammar.specs.declared.word.Word.{Word}
use Rattle.rip_grammar.specs.declared.word.Word.TheVariants as W
use Rattle.rip_grammar.specs.declared.word.Lexeme.{Lexeme}
use Rattle.rip_grammar.specs.declared.event.Head.{Head}
use Rattle.rip_grammar.specs.declared.event.Head.TheVariants as H
use Rattle.rip_grammar.specs.declared.event.Event.{Event}
use Rattle.rip_grammar.specs.declared.event.Event.TheVariants as E
use Rattle.rip_automaton.specs.declared.mode.Mode.{Mode}
use Rattle.rip_automaton.specs.declared.mode.Mode.TheVariants as M
use Rattle.rip_automaton.specs.declared.frame.Frame.{Frame}
use Rattle.rip_grammar.specs.Words.{is_single}
use Rattle.rip_grammar.specs.Phrases.{Phrase}
use Rattle.rip_grammar.specs.Events.{emit}
use Rattle.rip_grammar.specs.Depths.{depth}
use Rattle.rip_grammar.specs.Grammar.{IsScript}
use Rattle.rip_automaton.specs.States.{State as Standing, At}
use Rattle.rip_automaton.specs.Machine.{step, go, begins}
use Rattle.rip_automaton.proofs.Complete.{script as told_of_script}
use Rattle.rip_automaton.proofs.Folding.{go_front, refused_begins_none}
use Rattle.rip_automaton.proofs.Sound.{sound}
use Rattle.rip_automaton.proofs.Viable.{viable}
use Rattle.rip_parser.specs.declared.part.Part.{Part}
use Rattle.rip_parser.specs.declared.refusal.ParseKind.{ParseKind}
use Rattle.rip_parser.specs.declared.refusal.ParseKind.TheVariants as R
use Rattle.rip_parser.specs.Words.{lexemes_of}
use Rattle.rip_parser.specs.Listed.{IsListed, IsTextToken}
use Rattle.rip_parser.specs.Parsed.{IsBody, IsUnexpected, IsTooDeepAt, IsTreeOf, IsNoTree}
use Rattle.rip_parser.specs.Laws.{HasReading}
use Rattle.rip_parser.specs.Search.{found}
use Rattle.rip_parser.specs.Shows.{spelling_of, piece_of, text_of, IsText, IsSingle, IsKey}
use Rattle.rip_parser.specs.Building.{State, numbers, last_parts, other_parts, part_of, place_over, wrapped, absent, beginning, rooted, deeper, greatest, plain_form, IsFormOf, IsPut, IsReadable, HasForm, IsTakeable, Takes, Comes, node_count}
use Rattle.rip_parser.proofs.Courses.{Builds}
use Rattle.rip_parser.proofs.Literals.{text_stands, text_read, closed_by_first}
use Rattle.rip_parser.proofs.Textless.{plain-put, plain-told}
use Rattle.rip_parser.proofs.Kept.{builds-kept}
use Rattle.rip_parser.proofs.Shown.{never-none, shows-script, is-deep}
use Rattle.rip_parser.proofs.Steps.{told-of-body, unexpected-none, ends-in-end, done-at-end}
use Rattle.rip_parser.proofs.Seeking.{found-there, place-is}

-- ---- what can be taken is known

-- it is so, or it is not
abbrev Known : Type 0 → Type 0
Known P = P ⊎ (P → ⊥)

known-both : (P Q : Type 0) → Known P → Known Q → Known (P × Q)
known-both P Q (inl p) (inl q) = inl (p, q)
known-both P Q (inl p) (inr never) = inr (λ both. never both.1)
known-both P Q (inr never) q = inr (λ both. never both.0)

known-three : (P Q R : Type 0) → Known P → Known Q → Known R → Known (P × Q × R)
known-three P Q R (inl p) (inl q) (inl r) = inl (p, q, r)
known-three P Q R (inl p) (inl q) (inr never) = inr (λ all. never all.2)
known-three P Q R (inl p) (inr never) r = inr (λ all. never all.1)
known-three P Q R (inr never) q r = inr (λ all. never all.0)

known-same : (a b : ℕ) → Known (a ≡ b)
known-same a b = elim (eqb_tells a b) [
  | inl same ↦ inl same.1
  | inr other ↦ inr other.1
]

known-most : (a b : ℕ) → Known (a ≤ b)
known-most a b = by (ltb b a) refl
  where
    by : (x : Bool) → ltb b a ≡ x → Known (a ≤ b)
    by true more = inr (λ less. absurd (omega (arith, ltb-true b a more, less)))
    by false not_more = inl (omega (arith, ltb-false b a not_more))

known-text : (k : TokenKind) → Known (k ≡ K.Text)
known-text K.Text = inl refl
known-text K.Name = inr (λ e. cc)
known-text K.Reserved = inr (λ e. cc)
known-text K.Numeral = inr (λ e. cc)
known-text K.Punctuator = inr (λ e. cc)

known-listed : (tokens : List Token) (t : Lexeme) → Known (IsListed tokens t)
known-listed [] t = inr (λ listed. absurd (omega (arith, listed.1)))
known-listed (x ∷ xs) t =
    by (known-three (x.kind ≡ K.Text) (x.start ≡ t.start) (x.count ≡ t.count) (known-text x.kind) (known-same x.start t.start) (known-same x.count t.count)) (known-listed xs t)
  where
    by : Known (IsTextToken t x) → Known (IsListed xs t) → Known (IsListed (x ∷ xs) t)
    by (inl is) rest = inl (0, omega arith, λ d. is)
    by (inr never) (inl there) = inl (suc there.0, omega (arith, there.1), there.2)
    by (inr never) (inr none) = inr later
      where
        later : IsListed (x ∷ xs) t → ⊥
        later (zero, within, is) = never (is x)
        later (suc i, within, is) = none (i, omega (arith, within), is)

module _ (script : List ℕ) (tokens : List Token) where
  known-readable : (t : Lexeme) (w : Word) → Known (IsReadable script tokens t w)
  known-readable t W.Numeral = known-most (numeral_value (spelling_of script t)) 9007199254740991
  known-readable t W.Text = known-listed tokens t
  known-readable t w = inl tt

  known-true : (b : Bool) → Known (b ≡ true)
  known-true true = inl refl
  known-true false = inr (λ e. cc)

  known-plain : (head : Head) (x : Option Form) → plain_form head ≡ x → Known ((form : Form) × (plain_form head ≡ Some form))
  known-plain head None is = inr (λ has. let no : ⊥ = none has.0 (sym is ∙ has.1) in no)
    where
      none : (form : Form) → None ≡ Some form → ⊥
      none form e = cc
  known-plain head (Some shown) is = inl (shown, is)

  known-form : (head : Head) → Known (HasForm script tokens head)
  known-form (H.Single t) = known-both (is_single t.word ≡ true) (IsReadable script tokens t t.word) (known-true (is_single t.word)) (known-readable t t.word)
  known-form (H.Entry k) = known-readable k k.word
  known-form head = known-plain head (plain_form head) refl

  known-takeable : (event : Event) (s : State) → Known (IsTakeable script tokens event s)
  known-takeable E.Absent s = inl tt
  known-takeable (E.Parenthesized place) s = known-most 1 (length s.parts)
  known-takeable (E.Node place head count) s = known-both (count ≤ length s.parts) (HasForm script tokens head) (known-most count (length s.parts)) (known-form head)

-- ---- what can be taken is taken

-- a form of a head, and what it puts behind units
record Made (script : List ℕ) (head : Head) (before : List ℕ) : Type 0 where
  shown : Form
  units : List ℕ
  is : (more : List ℕ) → IsFormOf script ((before ++ units) ++ more) head shown
  put : IsPut (text_of shown) before (before ++ units)

-- nothing is put
stays : (before : List ℕ) → length (before ++ []) ≡ length before
stays before = ap length (append-nil before)

-- a literal that stands for these units, put behind others
record Text (before spelling : List ℕ) : Type 0 where
  literal : TextLiteral
  units : List ℕ
  is : (more : List ℕ) → IsText ((before ++ units) ++ more) spelling literal
  put : IsPut (Some literal) before (before ++ units)

text-made : (before spelling units : List ℕ) → StandsFor spelling units → Text before spelling
text-made before spelling units stands =
    let plain = bytes_eq (take (length spelling - 1) (drop 1 spelling)) (units ++ get_or spelling 0 0 ∷ []) in
    let long : 1 ≤ length spelling = omega (arith, ap length stands.reads.spelled) in
    record {
      literal = record { value = record { start = length before; count = length units }; is_plain = plain };
      units = units;
      is = λ more. text_read before units (before ++ units) more spelling (record { start = length before; count = length units }) plain refl refl stands (closed_by_first spelling units plain long refl);
      put = (refl, length-append before units);
    }

module _ (script : List ℕ) (tokens : List Token) (all : All (IsTokenOf script) tokens) where
  text-of : (t : Lexeme) (before : List ℕ) → IsListed tokens t → Text before (spelling_of script t)
  text-of t before listed =
      let stands = text_stands script tokens t (record { kind = K.Text; word = W.Text; start = 0; count = 0; line_before = false }) all listed in
      text-made before (spelling_of script t) stands.0 stands.1

  record Single-made (t : Lexeme) (w : Word) (before : List ℕ) : Type 0 where
    shown : Form
    units : List ℕ
    is : (more : List ℕ) → IsSingle script ((before ++ units) ++ more) t w shown
    put : IsPut (text_of shown) before (before ++ units)

  single-made : (t : Lexeme) (w : Word) (before : List ℕ) → is_single w ≡ true → IsReadable script tokens t w → Single-made t w before
  single-made t W.This before one reads = record { shown = F.This; units = []; is = λ more. refl; put = stays before }
  single-made t W.Name before one reads = record { shown = F.Name (piece_of t); units = []; is = λ more. refl; put = stays before }
  single-made t W.Null before one reads = record { shown = F.Null; units = []; is = λ more. refl; put = stays before }
  single-made t W.True before one reads = record { shown = F.Boolean true; units = []; is = λ more. refl; put = stays before }
  single-made t W.False before one reads = record { shown = F.Boolean false; units = []; is = λ more. refl; put = stays before }
  single-made t W.Numeral before one reads = record { shown = F.Number (pos (numeral_value (spelling_of script t))); units = []; is = λ more. refl; put = stays before }
  single-made t W.Text before one reads =
      let text = text-of t before reads in
      record { shown = F.Text text.literal; units = text.units; is = λ more. (text.literal, refl, text.is more); put = text.put }
  single-made t w before one reads = let no : ⊥ = cc in absurd no

  record Key-made (t : Lexeme) (w : Word) (before : List ℕ) : Type 0 where
    key : Key
    units : List ℕ
    is : (more : List ℕ) → IsKey script ((before ++ units) ++ more) t w key
    put : IsPut (text_of (F.Entry key)) before (before ++ units)

  key-made : (t : Lexeme) (w : Word) (before : List ℕ) → IsReadable script tokens t w → Key-made t w before
  key-made t W.Text before reads =
      let text = text-of t before reads in
      record { key = Y.Text text.literal; units = text.units; is = λ more. (text.literal, refl, text.is more); put = text.put }
  key-made t W.Numeral before reads = record { key = Y.Number (pos (numeral_value (spelling_of script t))); units = []; is = λ more. refl; put = stays before }
  key-made t w before reads = record { key = Y.Name (piece_of t); units = []; is = λ more. refl; put = stays before }

  plain-made : (head : Head) (shown : Form) (before : List ℕ) → plain_form head ≡ Some shown → Made script head before
  plain-made head shown before is = record {
    shown = shown;
    units = [];
    is = λ more. plain-told script ((before ++ []) ++ more) head shown is;
    put = subst (λ us. IsPut (text_of shown) before us) (sym (append-nil before)) (plain-put head shown before is);
  }

  made : (head : Head) (before : List ℕ) → HasForm script tokens head → Made script head before
  made (H.Single t) before has =
      let m = single-made t t.word before has.0 has.1 in
      record { shown = m.shown; units = m.units; is = m.is; put = m.put }
  made (H.Entry k) before has =
      let m = key-made k k.word before has in
      record { shown = F.Entry m.key; units = m.units; is = λ more. (m.key, m.is more, refl); put = m.put }
  made head before has = plain-made head has.0 before has.1

  -- the last of parts
  last-of : (ps : List Part) → 1 ≤ length ps → (front : List Part) × (part : Part) × (ps ≡ front ++ part ∷ [])
  last-of [] some = absurd (omega arith)
  last-of (p ∷ []) some = ([], p, refl)
  last-of (p ∷ q ∷ ps) some = let rest = last-of (q ∷ ps) (omega arith) in (p ∷ rest.0, rest.1, ap (λ xs. p ∷ xs) rest.2)

  takes-some : (event : Event) (s : State) → IsTakeable script tokens event s → (t : State) × Takes script event s t
  takes-some E.Absent s can = (record s { parts = s.parts ++ absent ∷ [] }, refl)
  takes-some (E.Parenthesized place) s can =
      let last = last-of s.parts can in
      (record s { parts = last.0 ++ wrapped place last.1 ∷ [] }, (last.0, last.1, last.2, refl))
  takes-some (E.Node place head count) s can =
      let m = made head s.growth.units can.1 in
      let below = last_parts count s.parts in (
        record {
          growth = with_branch (with_units s.growth m.units) (record { place = place_over place below; form = m.shown }) (numbers below);
          parts = other_parts count s.parts ++ part_of s.growth place head below ∷ [];
        },
        record { form = m.shown; units = m.units; enough = can.0; is_form = m.is; put = m.put; growth = refl; parts = refl },
      )

  -- what is told comes to something
  builds-some : (total : ℕ) (told : List Event) → (after : Option State) × Builds script tokens total told after
  builds-some total [] = (Some (beginning script total), refl)
  builds-some total (event ∷ told) = let b = builds-some total told in by b.0 b.1
    where
      one : (s : State) → Builds script tokens total told (Some s) → Known (IsTakeable script tokens event s) → (after : Option State) × Builds script tokens total (event ∷ told) after
      one s before (inl can) = let t = takes-some event s can in (Some t.0, (Some s, before, t.1))
      one s before (inr never) = (None, (Some s, before, never))

      by : (x : Option State) → Builds script tokens total told x → (after : Option State) × Builds script tokens total (event ∷ told) after
      by None before = (None, (None, before, refl))
      by (Some s) before = one s before (known-takeable script tokens event s)

-- ---- a script that is derived has a tree, or is too deep

-- all is told of the body, and the tree is made of it
record Grown (script : List ℕ) (tokens : List Token) (body : Phrase) : Type 0 where
  state : State
  builds : Builds script tokens (node_count (emit body []) + 1) (emit body []) (Some state)
  full : length state.growth.branches + 1 ≡ state.growth.total

grown : (script : List ℕ) (tokens : List Token) (body : Phrase) → IsTokens script tokens → IsBody script tokens body → Grown script tokens body
grown script tokens body are is = let b = builds-some script tokens (tokens_stand script tokens are) total (emit body []) in by b.0 b.1
  where
    total : ℕ
    total = node_count (emit body []) + 1

    by : (x : Option State) → Builds script tokens total (emit body []) x → Grown script tokens body
    by None builds = absurd (never-none script tokens total body are is builds)
    by (Some s) builds =
        let kept = builds-kept script tokens total (emit body []) s builds (omega arith) in
        let count = kept.count-is in
        let all = kept.total-is in
        record { state = s; builds = builds; full = omega arith }

-- two bodies of a script are told alike
alike : (lexemes : List Lexeme) (one other : Phrase) → IsScript lexemes one → IsScript lexemes other → emit one [] ≡ emit other []
alike lexemes one other is also = told-of-body lexemes [] (emit one []) other (told_of_script lexemes one is) also

-- each body of the script is as deep as this one, as far as it counts
as-deep : (script : List ℕ) (tokens : List Token) (body other : Phrase) → IsTokens script tokens → IsBody script tokens body → IsBody script tokens other → min (depth body) 201 ≡ min (depth other) 201
as-deep script tokens body other are is also =
    let g = grown script tokens body are is in
    let total = node_count (emit body []) + 1 in
    sym (is-deep script tokens total body are is g.state g.builds)
    ∙ is-deep script tokens total other are also g.state (subst (λ es. Builds script tokens total es (Some g.state)) (alike (lexemes_of script tokens) body other is also) g.builds)

-- what a script with these tokens comes to
abbrev Comes-to : List ℕ → Type 0
Comes-to script = ((tree : Plant) × IsTreeOf script tree) ⊎ ((place : ℕ) × (kind : ParseKind) × IsNoTree script place kind)

derived : (script : List ℕ) (tokens : List Token) (body : Phrase) → IsTokens script tokens → IsBody script tokens body → Comes-to script
derived script tokens body are is = by (ltb 200 (depth body)) refl
  where
    lexemes : List Lexeme
    lexemes = lexemes_of script tokens

    shallow-too : (other : Phrase) → IsBody script tokens other → depth body ≤ 200 → depth other ≤ 200
    shallow-too other also less = let same = as-deep script tokens body other are is also in omega arith

    deep-too : (other : Phrase) → IsBody script tokens other → 200 < depth body → 200 < depth other
    deep-too other also more = let same = as-deep script tokens body other are is also in omega arith

    by : (x : Bool) → ltb 200 (depth body) ≡ x → Comes-to script
    by true deep =
        let more : 200 < depth body = ltb-true 200 (depth body) deep in
        let place = found-there lexemes body is more in
        let told : unwrap_or (found (emit body [])) 0 ≡ unwrap_or (found (emit body [])) 0 = refl in
        let at = place-is lexemes body (emit body []) (found (emit body [])) (unwrap_or (found (emit body [])) 0) is more refl refl refl in
        inr (
          unwrap_or (found (emit body [])) 0,
          R.TooNested,
          record {
            tokens = tokens;
            are = are;
            refused = (body, is, at);
            deep = λ other also. place-is lexemes other (emit body []) (found (emit body [])) (unwrap_or (found (emit body [])) 0) also (deep-too other also more) (alike lexemes body other is also) refl refl;
          },
        )
    by false not_deep =
        let less : depth body ≤ 200 = ltb-false 200 (depth body) not_deep in
        let g = grown script tokens body are is in
        let total = node_count (emit body []) + 1 in
        inl (
          rooted g.state,
          record {
            tokens = tokens;
            are = are;
            found = (body, is, shows-script script tokens total body are is g.state g.builds g.full, less);
            shown = λ other also. shows-script script tokens total other are also g.state (subst (λ es. Builds script tokens total es (Some g.state)) (alike lexemes body other is also) g.builds) g.full;
            shallow = λ other also. shallow-too other also less;
          },
        )

-- ---- a script that is not derived is refused

-- the first lexeme that the machine refuses
first-refused : (front rest : List Lexeme) (mode : Mode) (st : List Frame) (out : List Event) → go begins front ≡ Some (At mode st out) → go (Some (At mode st out)) rest ≡ None → (place : ℕ) × IsUnexpected (front ++ rest) place
first-refused front [] mode st out been refused = let no : ⊥ = cc in absurd no
first-refused front (t ∷ rest) mode st out been refused =
    by (step mode st out t) refl (λ m u o taken. first-refused (front ++ t ∷ []) rest m u o (next ∙ taken) (ap (λ (x : Option Standing). go x rest) (sym taken) ∙ refused))
  where
    next : go begins (front ++ t ∷ []) ≡ step mode st out t
    next = go_front begins front (t ∷ []) ∙ ap (λ (s : Option Standing). go s (t ∷ [])) been

    by : (x : Option Standing) → step mode st out t ≡ x
        → ((m : Mode) (u : List Frame) (o : List Event) → step mode st out t ≡ Some (At m u o) → (place : ℕ) × IsUnexpected ((front ++ t ∷ []) ++ rest) place)
        → (place : ℕ) × IsUnexpected (front ++ t ∷ rest) place
    by None lost go-on = (
      t.start,
      record {
        front = front;
        lexeme = t;
        behind = rest;
        splits = refl;
        place-is = refl;
        begins = viable front mode st out been;
        ends = λ goes. refused_begins_none (front ++ t ∷ []) goes.0 goes.1 (next ∙ lost) goes.2;
      },
    )
    by (Some (At m u o)) taken go-on =
        let later = go-on m u o taken in
        (later.0, subst (λ (l : List Lexeme). IsUnexpected l later.0) (append_assoc front (t ∷ []) rest) later.1)

pub has_reading : HasReading
has_reading script tokens are = by (go begins lexemes) refl
  where
    lexemes : List Lexeme
    lexemes = lexemes_of script tokens

    by : (x : Option Standing) → go begins lexemes ≡ x → Comes-to script
    by None refused =
        let at = first-refused [] lexemes M.Statement _ [] refl refused in
        inr (at.0, R.Unexpected, record { tokens = tokens; are = are; refused = at.1; deep = λ body is. unexpected-none lexemes at.0 body at.1 is })
    by (Some (At mode st out)) been =
        let done : mode ≡ M.Done = done-at-end lexemes (record { mode = mode; stack = st; events = out }) (ends-in-end script tokens) been in
        let told = sound lexemes st out (been ∙ ap (λ m. Some (At m st out)) done) in
        derived script tokens told.0 are told.1
