-- The machine on the lexemes up to one of them.
use Rattle.std.proofs.Common.{◌≡◌, ℕ, suc, ◌+◌, ◌<◌, ◌≤◌, List, [], ◌∷◌, ◌++◌, length, take, drop, Option, Some, None, get_or, reverse, append_assoc, map, refl, sym, ap, ◌∙◌, subst, arith}
use Rattle.std.proofs.lemmas.List.{take_more, take-append-drop}
use Rattle.std.proofs.Math.Seq.{drop-cons, take-length}
use Rattle.rip_grammar.specs.declared.word.Lexeme.{Lexeme}
use Rattle.rip_grammar.specs.declared.event.Event.{Event}
use Rattle.rip_automaton.specs.declared.frame.Frame.{Frame}
use Rattle.rip_automaton.specs.declared.mode.Mode.TheVariants as M
use Rattle.rip_grammar.specs.Phrases.{Phrase}
use Rattle.rip_grammar.specs.Grammar.{IsScript}
use Rattle.rip_automaton.specs.States.{State, At}
use Rattle.rip_automaton.specs.Machine.{step, feed, go, begins}
use Rattle.rip_automaton.proofs.Folding.{go_front, refused_begins_none}
use Rattle.rip_automaton.proofs.Viable.{viable}
use Rattle.rip_automaton.proofs.Finished.{end_ends}
use Rattle.std.specs.Prelude.{min}
use Rattle.rip_lexer.specs.declared.token.Token.{Token}
use Rattle.rip_grammar.specs.Events.{emit}
use Rattle.rip_automaton.proofs.Complete.{script}
use Rattle.rip_automaton.proofs.Sound.{sound}
use Rattle.rip_parser.specs.Words.{lexeme_of, end_of, lexemes_of}
use Rattle.rip_parser.specs.declared.refusal.ParseKind.TheVariants as K
use Rattle.rip_parser.specs.declared.refusal.ParseRefusal.{ParseRefusal}
use Rattle.rip_parser.specs.declared.refusal.ParseRefusal.TheVariants as R
use Rattle.rip_parser.specs.Parsed.{IsUnexpected, IsUnexpectedBy, IsTooDeep, EndsInEnd}
use Rattle.rip_parser.specs.Running.{Course}

-- one lexeme more
go-more : (lexemes : List Lexeme) (i : ℕ) (d : Lexeme) (c : Course) → i < length lexemes → go begins (take i lexemes) ≡ Some (At c.mode c.stack c.events)
    → go begins (take (i + 1) lexemes) ≡ step c.mode c.stack c.events (get_or lexemes i d)
go-more lexemes i d c within been =
    ap (go begins) (take_more lexemes i d within) ∙ go_front begins (take i lexemes) (get_or lexemes i d ∷ []) ∙ ap (λ (s : Option State). feed s (get_or lexemes i d)) been

pub step-taken : (lexemes : List Lexeme) (i : ℕ) (d : Lexeme) (c e : Course) → i < length lexemes → go begins (take i lexemes) ≡ Some (At c.mode c.stack c.events)
    → step c.mode c.stack c.events (get_or lexemes i d) ≡ Some (At e.mode e.stack e.events) → go begins (take (i + 1) lexemes) ≡ Some (At e.mode e.stack e.events)
step-taken lexemes i d c e within been taken = go-more lexemes i d c within been ∙ taken

-- a lexeme that is refused is the first with which no script goes on
pub step-refused : (lexemes : List Lexeme) (i : ℕ) (d : Lexeme) (c : Course) → i < length lexemes → go begins (take i lexemes) ≡ Some (At c.mode c.stack c.events)
    → step c.mode c.stack c.events (get_or lexemes i d) ≡ None → IsUnexpected lexemes (get_or lexemes i d).start
step-refused lexemes i d c within been refused =
    let t = get_or lexemes i d in
    let lost : go begins (take i lexemes ++ t ∷ []) ≡ None = ap (go begins) (sym (take_more lexemes i d within)) ∙ go-more lexemes i d c within been ∙ refused in
    record {
      front = take i lexemes;
      lexeme = t;
      behind = drop (suc i) lexemes;
      splits = sym (take-append-drop i lexemes) ∙ ap (λ (l : List Lexeme). take i lexemes ++ l) (drop-cons lexemes i d within);
      place-is = refl;
      begins = viable (take i lexemes) c.mode c.stack c.events been;
      ends = λ goes. refused_begins_none (take i lexemes ++ t ∷ []) goes.0 goes.1 lost goes.2;
    }

-- behind the end the machine is done
pub done-at-end : (lexemes : List Lexeme) (c : Course) → EndsInEnd lexemes → go begins lexemes ≡ Some (At c.mode c.stack c.events) → c.mode ≡ M.Done
done-at-end lexemes c last been = end_ends last.0 last.1 c.mode c.stack c.events last.3 (ap (go begins) (sym last.2) ∙ been)

-- all lexemes were taken
pub all-taken : (lexemes : List Lexeme) (i : ℕ) (c : Course) → i ≤ length lexemes → length lexemes ≤ i → go begins (take i lexemes) ≡ Some (At c.mode c.stack c.events) → go begins lexemes ≡ Some (At c.mode c.stack c.events)
all-taken lexemes i c below past been =
    let end : i ≡ length lexemes = omega arith in
    ap (go begins) (sym (ap (λ k. take k lexemes) end ∙ take-length lexemes)) ∙ been

-- what was told is told of each body of the script
pub told-of-body : (lexemes : List Lexeme) (st : List Frame) (out : List Event) (body : Phrase) → go begins lexemes ≡ Some (At M.Done st out) → IsScript lexemes body → out ≡ emit body []
told-of-body lexemes st out body been is = let told = script lexemes body is in let both : Some (At M.Done st out) ≡ Some (At M.Done [] (emit body [])) = sym been ∙ told in cc

-- the first lexeme with which no script goes on is in no script
pub unexpected-none : (lexemes : List Lexeme) (place : ℕ) (body : Phrase) → IsUnexpected lexemes place → IsScript lexemes body → ⊥
unexpected-none lexemes place body at is =
    at.ends (at.behind, body, subst (λ (l : List Lexeme). IsScript l body) (at.splits ∙ sym (append_assoc at.front (at.lexeme ∷ []) at.behind)) is)

pub unexpected-deep : (lexemes : List Lexeme) (e : ParseRefusal) (body : Phrase) → IsUnexpectedBy lexemes e → IsScript lexemes body → IsTooDeep body e
unexpected-deep lexemes (R.At place K.Unexpected) body by is = unexpected-none lexemes place body by is
unexpected-deep lexemes (R.At place K.TooNested) body by is = absurd by
unexpected-deep lexemes R.Memory body by is = tt

-- the end stands behind the tokens
pub ends-in-end : (text : List ℕ) (tokens : List Token) → EndsInEnd (lexemes_of text tokens)
ends-in-end text tokens = (map lexeme_of tokens, end_of (length text), refl, refl)

-- depths, as they were counted
pub shallow-of : (count n : ℕ) → count ≡ min n 201 → count < 201 → n ≤ 200
shallow-of count n is less = omega arith

pub deep-of : (count n : ℕ) → count ≡ min n 201 → 201 ≤ count → 200 < n
deep-of count n is more = omega arith

-- what the machine ended with
abbrev pub IsTold : List Lexeme → List Event → Type 0
IsTold lexemes events = (st : List Frame) × (go begins lexemes ≡ Some (At M.Done st (reverse events)))

-- the same, of the lexemes of the text
pub ready : (text : List ℕ) (tokens : List Token) (a l : List Lexeme) (es v : List Event) → a ≡ l → l ≡ lexemes_of text tokens → v ≡ es → IsTold a es → IsTold (lexemes_of text tokens) v
ready text tokens a l es v first second third told = subst (λ (x : List Lexeme). IsTold x v) (first ∙ second) (subst (λ (x : List Event). IsTold a x) (sym third) told)

pub told-each : (lexemes : List Lexeme) (events : List Event) (body : Phrase) → IsTold lexemes events → IsScript lexemes body → reverse events ≡ emit body []
told-each lexemes events body told is = told-of-body lexemes told.0 (reverse events) body told.1 is

pub told-some : (lexemes : List Lexeme) (events : List Event) → IsTold lexemes events → (body : Phrase) × IsScript lexemes body × (reverse events ≡ emit body [])
told-some lexemes events told = sound lexemes told.0 (reverse events) told.1
