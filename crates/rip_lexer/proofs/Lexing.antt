-- The loop over the constructs of a script.
use Rattle.std.proofs.Common.{◌≡◌, ℕ, ◌+◌, ◌<◌, ◌≤◌, Bool, true, false, List, [], ◌∷◌, ◌++◌, length, take, drop, Some, None, All, refl, sym, ap, ◌∙◌, subst, arith, append_assoc, append-nil, length-append, length-drop, drop-drop, take_at, ltb-false}
use Rattle.std.proofs.lemmas.Bool.{false≢true}
use Rattle.std.specs.List.{AllByRecursion}
use Rattle.std.proofs.lemmas.List.{drop_at}
use Rattle.std.proofs.lemmas.List.Elements.{All-from_recursion}
use Rattle.std.proofs.lemmas.Option.{none-some}
use Rattle.rip_grammar.specs.declared.word.Word.{Word}
use Rattle.rip_lexer.specs.Fault.{fault}
use Rattle.rip_lexer.specs.Words.{word_in}
use Rattle.rip_lexer.specs.Numeral.{numeral_fault, numeral_value}
use Rattle.rip_lexer.specs.declared.token.TokenKind.TheVariants.{Name, Reserved, Numeral, Text, Punctuator}
use Rattle.rip_lexer.specs.declared.refusal.LexKind.TheVariants.{FractionLiteral, OctalLiteral, LiteralTooLarge}
use Rattle.rip_lexer.proofs.Choice.{not_first}
use Rattle.rip_lexer.specs.Gap.{Part, Blank, LineComment, BlockComment, gap_text, IsGap}
use Rattle.rip_lexer.specs.Tokens.{IsSpelling, fault_of, units_of, IsTokenOf, Refuses, Leads, Outcome, Whole, RefusedAt, IsEnd, Ends, Lexes, IsTokens, IsFirstRefusal}
use Rattle.rip_lexer.specs.View.{ReadsGap, IsConstruct}
use Rattle.rip_lexer.specs.declared.construct.Construct.TheVariants as C
use Rattle.rip_lexer.specs.declared.token.Token.{Token}
use Rattle.rip_lexer.specs.declared.token.TokenKind.{TokenKind}
use Rattle.rip_lexer.specs.declared.refusal.LexKind.{LexKind}
use Rattle.rip_lexer.proofs.Longest.{not_empty}
use Rattle.rip_lexer.proofs.Unique.{one_reading}

-- whatever tokens and end the rest has, the script has them behind those that were read
abbrev pub Goes : List ℕ → ℕ → List ℕ → List Token → Type 0
Goes text place rest tokens = (more : List Token) (outcome : Outcome) → Lexes place rest more outcome → Lexes 0 text (tokens ++ more) outcome

pub ends_at : (place count : ℕ) (rest behind : List ℕ) (line : Bool) (outcome : Outcome) → ReadsGap rest count line behind → IsEnd (place + count) behind outcome → Ends place rest outcome
ends_at place count rest behind line outcome gap end = record {
  gap = gap.gap;
  rest = behind;
  splits = gap.splits;
  is_gap = gap.is_gap;
  is_end = subst (λ n. IsEnd (place + n) behind outcome) gap.count-is end;
}

pub whole_script : (text rest : List ℕ) (place count : ℕ) (line : Bool) (behind : List ℕ) (tokens : List Token) → Goes text place rest tokens → ReadsGap rest count line behind → behind ≡ [] → IsTokens text tokens
whole_script text rest place count line behind tokens goes gap end =
    subst (λ ts. Lexes 0 text ts Whole) (append-nil tokens) (goes [] Whole (ends_at place count rest behind line Whole gap end))

pub refused_script : (text rest : List ℕ) (place count : ℕ) (line : Bool) (behind : List ℕ) (tokens : List Token) (offset : ℕ) (cause : LexKind) → Goes text place rest tokens → ReadsGap rest count line behind → Refuses behind offset cause → IsFirstRefusal text (place + count + offset) cause
refused_script text rest place count line behind tokens offset cause goes gap refused =
    (tokens ++ [], goes [] (RefusedAt (place + count + offset) cause) (ends_at place count rest behind line (RefusedAt (place + count + offset) cause) gap (offset, refused, refl)))

pub token_fits : (behind : List ℕ) (kind : TokenKind) (word : Word) (n : ℕ) → IsConstruct behind (C.Token kind word n) → (0 < n) × (n ≤ length behind)
token_fits behind kind word n it =
    let some = not_empty kind it.0 it.3.spelled in
    let long = ap length it.2 in
    (omega (arith, it.5), omega (arith, it.5, length-append it.0 it.1))

-- the token that was read, behind its gap
pub token_leads : (rest : List ℕ) (place count : ℕ) (line : Bool) (behind : List ℕ) (kind : TokenKind) (word : Word) (n : ℕ) → ReadsGap rest count line behind → (it : IsConstruct behind (C.Token kind word n)) → Leads place rest (record { kind = kind; word = word; start = place + count; count = n; line_before = line }) it.1
token_leads rest place count line behind kind word n gap it = record {
  gap = gap.gap;
  spelling = it.0;
  splits = gap.splits ∙ ap (λ u. gap_text gap.gap u) it.2;
  is_gap = subst (λ u. IsGap gap.gap u) it.2 gap.is_gap;
  begins_token = it.3;
  no_fault = it.4;
  word = it.6;
  start = ap (λ m. place + m) gap.count-is;
  count = it.5;
  line_before = gap.line-is;
}

pub token_read : (text rest : List ℕ) (place count : ℕ) (line : Bool) (behind : List ℕ) (tokens : List Token) (kind : TokenKind) (word : Word) (n : ℕ) → Goes text place rest tokens → ReadsGap rest count line behind → IsConstruct behind (C.Token kind word n) → Goes text (place + count + n) (drop n behind) (tokens ++ (record { kind = kind; word = word; start = place + count; count = n; line_before = line } ∷ []))
token_read text rest place count line behind tokens kind word n goes gap it more outcome lexes =
    let t : Token = record { kind = kind; word = word; start = place + count; count = n; line_before = line } in
    let spelling = it.0 in
    let after = it.1 in
    let tail : drop n behind ≡ after = ap (drop n) it.2 ∙ drop_at spelling after n (sym it.5) in
    subst (λ ts. Lexes 0 text ts outcome) (sym (append_assoc tokens (t ∷ []) more))
    (goes (t ∷ more) outcome (after, token_leads rest place count line behind kind word n gap it, subst (λ u. Lexes (place + count + n) u more outcome) tail lexes))

-- a turn of the loop over constructs
pub token_goes_on : (text rest : List ℕ) (place count : ℕ) (line : Bool) (behind after : List ℕ) (tokens next : List Token) (kind : TokenKind) (word : Word) (n : ℕ) → Goes text place rest tokens → ReadsGap rest count line behind → IsConstruct behind (C.Token kind word n) → after ≡ drop n behind → next ≡ tokens ++ (record { kind = kind; word = word; start = place + count; count = n; line_before = line } ∷ []) → Goes text (place + count + n) after next
token_goes_on text rest place count line behind after tokens next kind word n goes gap it after-is next-is =
    subst (λ u. Goes text (place + count + n) u next) (sym after-is)
    (subst (λ ts. Goes text (place + count + n) (drop n behind) ts) (sym next-is) (token_read text rest place count line behind tokens kind word n goes gap it))

pub same_tokens : (text : List ℕ) (ts us : List Token) → IsTokens text ts → IsTokens text us → ts ≡ us
same_tokens text ts us a b = (one_reading 0 text ts us Whole Whole a b).0

-- a test of outcomes
abbrev is_whole : Outcome → Bool
is_whole Whole = true
is_whole (RefusedAt place cause) = false

pub not_both_ways : (text : List ℕ) (ts : List Token) (place : ℕ) (cause : LexKind) → IsTokens text ts → IsFirstRefusal text place cause → ⊥
not_both_ways text ts place cause a b = false≢true (sym (ap is_whole (one_reading 0 text ts b.0 Whole (RefusedAt place cause) a b.1).1))

abbrev place_of : Outcome → ℕ
place_of Whole = 0
place_of (RefusedAt place cause) = place

abbrev cause_of : LexKind → Outcome → LexKind
cause_of other Whole = other
cause_of other (RefusedAt place cause) = cause

pub same_refusals : (text : List ℕ) (p q : ℕ) (k j : LexKind) → IsFirstRefusal text p k → IsFirstRefusal text q j → (p ≡ q) × (k ≡ j)
same_refusals text p q k j a b =
    let one = (one_reading 0 text a.0 b.0 (RefusedAt p k) (RefusedAt q j) a.1 b.1).1 in
    (ap place_of one, ap (cause_of k) one)

-- the tokens of a script can be read at their places

gap_text-append : (gap : List Part) (rest : List ℕ) → gap_text gap rest ≡ gap_text gap [] ++ rest
gap_text-append [] rest = refl
gap_text-append (Blank c ∷ gap) rest = ap (λ u. c ∷ u) (gap_text-append gap rest)
gap_text-append (LineComment body ∷ gap) rest = ap (λ u. 47 ∷ 47 ∷ (body ++ u)) (gap_text-append gap rest) ∙ ap (λ u. 47 ∷ 47 ∷ u) (sym (append_assoc body (gap_text gap []) rest))
gap_text-append (BlockComment body ∷ gap) rest = ap (λ u. 47 ∷ 42 ∷ (body ++ (42 ∷ 47 ∷ u))) (gap_text-append gap rest) ∙ ap (λ u. 47 ∷ 42 ∷ u) (sym (append_assoc body (42 ∷ 47 ∷ gap_text gap []) rest))

-- a numeral without a fault isn't too large
not_large : (s rest : List ℕ) → numeral_fault s rest ≡ None → numeral_value s ≤ 9007199254740991
unfolding numeral_fault
not_large s rest right =
    let a = not_first _ (Some (fault 0 FractionLiteral)) _ None right (λ e. none-some _ (sym e)) in
    let b = not_first _ (Some (fault 0 OctalLiteral)) _ None a.1 (λ e. none-some _ (sym e)) in
    let d = not_first _ (Some (fault 0 LiteralTooLarge)) _ None b.1 (λ e. none-some _ (sym e)) in
    ltb-false 9007199254740991 (numeral_value s) d.0

numeral_right : (kind : TokenKind) (s rest : List ℕ) → fault_of kind s rest ≡ None → kind ≡ Numeral → numeral_value s ≤ 9007199254740991
numeral_right Numeral s rest right is-numeral = not_large s rest right
numeral_right Name s rest right is-numeral = cc
numeral_right Reserved s rest right is-numeral = cc
numeral_right Text s rest right is-numeral = cc
numeral_right Punctuator s rest right is-numeral = cc

token_stands : (at : ℕ) (text script : List ℕ) (t : Token) (rest : List ℕ) → text ≡ drop at script → at ≤ length script → Leads at text t rest → IsTokenOf script t × (rest ≡ drop (t.start + t.count) script) × (t.start + t.count ≤ length script)
token_stands at text script t rest text-is within leads =
    let before = gap_text leads.gap [] in
    let splits : drop at script ≡ before ++ (leads.spelling ++ rest) = sym text-is ∙ leads.splits ∙ gap_text-append leads.gap (leads.spelling ++ rest) in
    let behind : drop t.start script ≡ leads.spelling ++ rest = ap (λ n. drop n script) leads.start ∙ sym (drop-drop (length before) at script) ∙ ap (drop (length before)) splits ∙ drop_at before (leads.spelling ++ rest) (length before) refl in
    let units : units_of script t ≡ leads.spelling = ap (take t.count) behind ∙ take_at leads.spelling rest t.count (sym leads.count) in
    let long : length (drop at script) ≡ length before + length (leads.spelling ++ rest) = ap length splits ∙ length-append before (leads.spelling ++ rest) in
    let inside : t.start + t.count ≤ length script = omega (arith, long, length-drop at script, length-append leads.spelling rest, leads.start, leads.count) in (
      record {
        inside = inside;
        not_empty = subst (λ n. 0 < n) (sym leads.count) (not_empty t.kind leads.spelling leads.begins_token.spelled);
        spelled = subst (λ u. IsSpelling t.kind u) (sym units) leads.begins_token.spelled;
        word = leads.word ∙ ap (word_in t.kind) (sym units);
        whole = λ is-numeral. subst (λ u. numeral_value u ≤ 9007199254740991) (sym units) (numeral_right t.kind leads.spelling rest leads.no_fault is-numeral);
      },
      sym (sym (drop-drop t.count t.start script) ∙ ap (drop t.count) behind ∙ drop_at leads.spelling rest t.count (sym leads.count)),
      inside,
    )

stand_from : (at : ℕ) (text script : List ℕ) (ts : List Token) (outcome : Outcome) → text ≡ drop at script → at ≤ length script → Lexes at text ts outcome → AllByRecursion (IsTokenOf script) ts
stand_from at text script [] outcome text-is within lexes = tt
stand_from at text script (t ∷ ts) outcome text-is within lexes =
    let here = token_stands at text script t lexes.0 text-is within lexes.1 in
    (here.0, stand_from (t.start + t.count) lexes.0 script ts outcome here.1 here.2 lexes.2)

pub tokens_stand : (script : List ℕ) (ts : List Token) → IsTokens script ts → All (IsTokenOf script) ts
tokens_stand script ts tokens = All-from_recursion (IsTokenOf script) ts (stand_from 0 script script ts Whole refl (omega arith) tokens)
