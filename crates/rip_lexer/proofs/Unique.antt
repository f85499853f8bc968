-- A script has one reading: one list of tokens, or one first refusal, and not both.
use Rattle.std.proofs.Common.{◌≡◌, ◌≢◌, ℕ, ◌+◌, Bool, true, false, ◌||◌, ◌&&◌, ◌==◌, cond, List, [], ◌∷◌, ◌++◌, length, take, drop, Some, None, option_map, refl, sym, ap, ◌∙◌, subst, arith, length-append, eq-eqb}
use Rattle.std.specs.List.{list_any}
use Rattle.std.proofs.lemmas.Bool.{or_parts, cond-true, cond-false, false≢true}
use Rattle.std.proofs.lemmas.List.{take_at, drop_at}
use Rattle.std.proofs.lemmas.Option.{none-some, same_Some}
use Rattle.rip_base.specs.Units.{begins}
use Rattle.rip_lexer.specs.Fault.{fault}
use Rattle.rip_lexer.specs.Units.{class_of, is_blank, is_blank_class, is_quote_class, is_mark_class}
use Rattle.rip_lexer.specs.Words.{word_in}
use Rattle.rip_lexer.specs.Text.{spell_all, ReadsText, text_fault}
use Rattle.rip_lexer.specs.Gap.{BlockComment, holds_close, begins_comment, line_in, gap_text}
use Rattle.rip_lexer.specs.Tokens.{IsSpelling, Begins, fault_of, Refuses, Spelling, InText, InComment, AtUnit, Leads, Outcome, Whole, RefusedAt, IsEnd, Ends, Lexes}
use Rattle.rip_lexer.specs.View.{before_close, comment_of, first_part}
use Rattle.rip_lexer.specs.declared.units.UnitClass.{UnitClass}
use Rattle.rip_lexer.specs.declared.units.UnitClass.TheVariants.{Quote, Mark, Other}
use Rattle.rip_lexer.specs.declared.character.Character.{Character}
use Rattle.rip_lexer.specs.declared.token.Token.{Token}
use Rattle.rip_lexer.specs.declared.token.TokenKind.{TokenKind}
use Rattle.rip_lexer.specs.declared.token.TokenKind.TheVariants.{Name, Reserved, Numeral, Text, Punctuator}
use Rattle.rip_lexer.specs.declared.refusal.Fault.{Fault}
use Rattle.rip_lexer.specs.declared.refusal.LexKind.{LexKind}
use Rattle.rip_lexer.proofs.Classes.{slash_class}
use Rattle.rip_lexer.proofs.Gaps.{slash_not_blank, one_gap}
use Rattle.rip_lexer.proofs.Longest.{class_for, starts, first_unit, not_empty, no_comment_at, reads_on, one_reading_of_text}

-- where no part of a gap begins

no_comment_part : (rest : List ℕ) → begins (λ d. (d == 47) || (d == 42)) rest ≡ false → comment_of rest ≡ None
no_comment_part [] none = refl
no_comment_part (d ∷ body) none =
    let parts = or_parts (d == 47) (d == 42) none in
    cond-false _ _ _ parts.0 ∙ cond-false _ _ _ parts.1

no_part : (c : ℕ) (rest : List ℕ) → is_blank c ≡ false → begins_comment (c ∷ rest) ≡ false → first_part (c ∷ rest) ≡ None
no_part c rest blank comment = cond-false _ _ _ blank ∙ by (c == 47) comment
  where
    by : (b : Bool) → (b && begins (λ d. (d == 47) || (d == 42)) rest) ≡ false → cond b (comment_of rest) None ≡ None
    by true none = no_comment_part rest none
    by false none = refl

kind_not_blank : (k : TokenKind) → is_blank_class (class_for k) ≡ false
kind_not_blank Name = refl
kind_not_blank Reserved = refl
kind_not_blank Numeral = refl
kind_not_blank Text = refl
kind_not_blank Punctuator = refl

pub alone : (kind : TokenKind) (s rest : List ℕ) → Begins kind s rest → first_part (s ++ rest) ≡ None
alone kind s rest it =
    let st = starts kind s it.spelled in
    let whole : s ++ rest ≡ st.first ∷ (st.rest ++ rest) = ap (λ u. u ++ rest) st.splits in
    ap first_part whole ∙ no_part st.first (st.rest ++ rest) (ap is_blank_class st.class-is ∙ kind_not_blank kind) (ap begins_comment (sym whole) ∙ it.no_comment)

no_close : (units : List ℕ) → holds_close units ≡ false → before_close units ≡ None
no_close [] none = refl
no_close (c ∷ rest) none =
    let parts = or_parts ((c == 42) && begins (λ d. d == 47) rest) (holds_close rest) none in
    cond-false _ _ _ parts.0 ∙ ap (λ o. option_map (λ b. c ∷ b) o) (no_close rest parts.1)

pub open_comment_alone : (body : List ℕ) → holds_close body ≡ false → first_part (47 ∷ 42 ∷ body) ≡ None
open_comment_alone body none = cond-false _ _ _ slash_not_blank ∙ ap (λ o. option_map (λ b. BlockComment b) o) (no_close body none)

other_alone : (c : ℕ) (rest : List ℕ) (k : UnitClass) → class_of c ≡ k → is_blank_class k ≡ false → k ≢ Mark → first_part (c ∷ rest) ≡ None
other_alone c rest k class blank not-mark = no_part c rest (ap is_blank_class class ∙ blank) (no_comment_at c rest (λ mark. not-mark (sym class ∙ mark)))

quote_not_mark : Quote ≢ Mark
quote_not_mark e = false≢true (ap is_mark_class e)

other_not_mark : Other ≢ Mark
other_not_mark e = false≢true (ap is_mark_class e)

pub refuses_alone : (units : List ℕ) (offset : ℕ) (cause : LexKind) → Refuses units offset cause → first_part units ≡ None
refuses_alone units offset cause (Spelling kind s rest splits it found) = ap first_part splits ∙ alone kind s rest it
refuses_alone units offset cause (InText quote cs rest reads found) = ap first_part reads.spelled ∙ other_alone quote (spell_all cs rest) Quote reads.is_quote refl quote_not_mark
refuses_alone units offset cause (InComment body splits none at why) = ap first_part splits ∙ open_comment_alone body none
refuses_alone units offset cause (AtUnit c rest splits class at why) = ap first_part splits ∙ other_alone c rest Other class refl other_not_mark

-- one spelling is the longest

split_same : (s r o m : List ℕ) → s ++ r ≡ o ++ m → length s ≡ length o → (s ≡ o) × (r ≡ m)
split_same s r o m e long = (
  sym (take_at s r (length s) refl) ∙ ap (take (length s)) e ∙ take_at o m (length s) (sym long),
  sym (drop_at s r (length s) refl) ∙ ap (drop (length s)) e ∙ drop_at o m (length s) (sym long),
)

one_kind : (k j : TokenKind) (s : List ℕ) → class_for k ≡ class_for j → IsSpelling k s → IsSpelling j s → k ≡ j
one_kind Name Name s same a b = refl
one_kind Name Reserved s same a b = absurd (false≢true (sym a.1 ∙ b))
one_kind Reserved Name s same a b = absurd (false≢true (sym b.1 ∙ a))
one_kind Reserved Reserved s same a b = refl
one_kind Numeral Numeral s same a b = refl
one_kind Text Text s same a b = refl
one_kind Punctuator Punctuator s same a b = refl
one_kind _ _ s same a b = cc

pub record Same (k j : TokenKind) (s o r m : List ℕ) : Type 0 where
  pub kind : k ≡ j
  pub spelling : s ≡ o
  pub rest : r ≡ m

pub one_spelling : (k j : TokenKind) (s r o m : List ℕ) → Begins k s r → Begins j o m → s ++ r ≡ o ++ m → Same k j s o r m
one_spelling k j s r o m a b e =
    let below = a.longest o m j e b.spelled in
    let above = b.longest s r k (sym e) a.spelled in
    let parts = split_same s r o m e (omega arith) in
    let st = starts k s a.spelled in
    let classes : class_for k ≡ class_for j = sym st.class-is ∙ first_unit j o m st.first (st.rest ++ r) b.spelled (ap (λ u. u ++ r) (sym st.splits) ∙ e) in
    record { kind = one_kind k j s classes a.spelled (subst (λ u. IsSpelling j u) (sym parts.0) b.spelled); spelling = parts.0; rest = parts.1 }

-- what is refused begins with a unit of one class

text_class : (units : List ℕ) (q : ℕ) (cs : List Character) (rest : List ℕ) (kind : TokenKind) (s r : List ℕ) → ReadsText units q cs rest → units ≡ s ++ r → IsSpelling kind s → Quote ≡ class_for kind
text_class units q cs rest kind s r reads splits spelled = sym reads.is_quote ∙ first_unit kind s r q _ spelled (sym reads.spelled ∙ splits)

no_text_fault : (kind : TokenKind) (s r : List ℕ) (f : Fault) → Quote ≡ class_for kind → fault_of kind s r ≡ Some f → ⊥
no_text_fault Text s r f class found = none-some f found
no_text_fault Name s r f class found = false≢true (sym (ap is_quote_class class))
no_text_fault Reserved s r f class found = false≢true (sym (ap is_quote_class class))
no_text_fault Numeral s r f class found = false≢true (sym (ap is_quote_class class))
no_text_fault Punctuator s r f class found = false≢true (sym (ap is_quote_class class))

kind_not_other : (k : TokenKind) → Other ≡ class_for k → ⊥
kind_not_other Name e = cc
kind_not_other Reserved e = cc
kind_not_other Numeral e = cc
kind_not_other Text e = cc
kind_not_other Punctuator e = cc

comment_begins : (body : List ℕ) → begins_comment (47 ∷ 42 ∷ body) ≡ true
comment_begins body = refl

spelling_no_comment : (kind : TokenKind) (units s r body : List ℕ) → units ≡ s ++ r → Begins kind s r → units ≡ 47 ∷ 42 ∷ body → ⊥
spelling_no_comment kind units s r body splits it comment = false≢true (sym it.no_comment ∙ ap begins_comment (sym splits ∙ comment))

spelling_no_unit : (kind : TokenKind) (units s r : List ℕ) (c : ℕ) (rest : List ℕ) → units ≡ s ++ r → IsSpelling kind s → units ≡ c ∷ rest → class_of c ≡ Other → ⊥
spelling_no_unit kind units s r c rest splits spelled unit class = kind_not_other kind (sym class ∙ first_unit kind s r c rest spelled (sym unit ∙ splits))

heads_same : (units : List ℕ) (c d : ℕ) (rest more : List ℕ) → units ≡ c ∷ rest → units ≡ d ∷ more → class_of c ≡ class_of d
heads_same units c d rest more a b = let both : c ∷ rest ≡ d ∷ more = sym a ∙ b in let same : c ≡ d = cc in ap class_of same

text_no_comment : (units : List ℕ) (q : ℕ) (rest body : List ℕ) → class_of q ≡ Quote → units ≡ q ∷ rest → units ≡ 47 ∷ 42 ∷ body → ⊥
text_no_comment units q rest body class a b = quote_not_mark (sym class ∙ heads_same units q 47 rest (42 ∷ body) a b ∙ slash_class)

text_no_unit : (units : List ℕ) (q : ℕ) (rest : List ℕ) (c : ℕ) (more : List ℕ) → class_of q ≡ Quote → units ≡ q ∷ rest → units ≡ c ∷ more → class_of c ≡ Other → ⊥
text_no_unit units q rest c more class a b other = false≢true (ap is_quote_class (sym other ∙ heads_same units c q more rest b a ∙ class))

comment_no_unit : (units body : List ℕ) (c : ℕ) (more : List ℕ) → units ≡ 47 ∷ 42 ∷ body → units ≡ c ∷ more → class_of c ≡ Other → ⊥
comment_no_unit units body c more a b other = other_not_mark (sym other ∙ heads_same units c 47 more (42 ∷ body) b a ∙ slash_class)

same_fault : (o p : ℕ) (k j : LexKind) → Some (fault o k) ≡ Some (fault p j) → (o ≡ p) × (k ≡ j)
same_fault o p k j e = let f = same_Some (fault o k) (fault p j) e in (ap (λ (x : Fault). x.offset) f, ap (λ (x : Fault). x.kind) f)

-- units begin with one refusal
pub one_refusal : (units : List ℕ) (o p : ℕ) (k j : LexKind) → Refuses units o k → Refuses units p j → (o ≡ p) × (k ≡ j)
one_refusal units o p k j (Spelling ka s r splits a found) (Spelling kb t m splits' b found') =
    let one = one_spelling ka kb s r t m a b (sym splits ∙ splits') in
    let kinds = one.kind in
    let spellings = one.spelling in
    let rests = one.rest in
    same_fault o p k j (sym found ∙ (λ i. fault_of (kinds i) (spellings i) (rests i)) ∙ found')
one_refusal units o p k j (Spelling ka s r splits a found) (InText q cs rest reads found') = absurd (no_text_fault ka s r (fault o k) (text_class units q cs rest ka s r reads splits a.spelled) found)
one_refusal units o p k j (Spelling ka s r splits a found) (InComment body splits' none at why) = absurd (spelling_no_comment ka units s r body splits a splits')
one_refusal units o p k j (Spelling ka s r splits a found) (AtUnit c rest splits' class at why) = absurd (spelling_no_unit ka units s r c rest splits a.spelled splits' class)
one_refusal units o p k j (InText q cs rest reads found) (Spelling kb t m splits' b found') = absurd (no_text_fault kb t m (fault p j) (text_class units q cs rest kb t m reads splits' b.spelled) found')
one_refusal units o p k j (InText q cs rest reads found) (InText r ds more reads' found') =
    let one = one_reading_of_text units q r cs ds rest more reads reads' in
    let quotes = one.0 in
    let characters = one.1 in
    let rests = one.2 in
    same_fault o p k j (sym found ∙ (λ i. text_fault (quotes i) (characters i) (rests i)) ∙ found')
one_refusal units o p k j (InText q cs rest reads found) (InComment body splits' none at why) = absurd (text_no_comment units q _ body reads.is_quote reads.spelled splits')
one_refusal units o p k j (InText q cs rest reads found) (AtUnit c more splits' class at why) = absurd (text_no_unit units q _ c more reads.is_quote reads.spelled splits' class)
one_refusal units o p k j (InComment body splits none at why) (Spelling kb t m splits' b found') = absurd (spelling_no_comment kb units t m body splits' b splits)
one_refusal units o p k j (InComment body splits none at why) (InText r ds more reads' found') = absurd (text_no_comment units r _ body reads'.is_quote reads'.spelled splits)
one_refusal units o p k j (InComment body splits none at why) (InComment body' splits' none' at' why') = (at ∙ sym at', why ∙ sym why')
one_refusal units o p k j (InComment body splits none at why) (AtUnit c rest splits' class at' why') = absurd (comment_no_unit units body c rest splits splits' class)
one_refusal units o p k j (AtUnit c rest splits class at why) (Spelling kb t m splits' b found') = absurd (spelling_no_unit kb units t m c rest splits' b.spelled splits class)
one_refusal units o p k j (AtUnit c rest splits class at why) (InText r ds more reads' found') = absurd (text_no_unit units r _ c rest reads'.is_quote reads'.spelled splits class)
one_refusal units o p k j (AtUnit c rest splits class at why) (InComment body' splits' none' at' why') = absurd (comment_no_unit units body' c rest splits' splits class)
one_refusal units o p k j (AtUnit c rest splits class at why) (AtUnit c' rest' splits' class' at' why') = (at ∙ sym at', why ∙ sym why')

-- a text without a fault isn't one with a fault
right_text : (units s r : List ℕ) (kind : TokenKind) (q : ℕ) (cs : List Character) (rest : List ℕ) (f : Fault) → units ≡ s ++ r → IsSpelling kind s → Quote ≡ class_for kind → ReadsText units q cs rest → text_fault q cs rest ≡ Some f → ⊥
right_text units s r Name q cs rest f splits spelled class reads found = false≢true (sym (ap is_quote_class class))
right_text units s r Reserved q cs rest f splits spelled class reads found = false≢true (sym (ap is_quote_class class))
right_text units s r Numeral q cs rest f splits spelled class reads found = false≢true (sym (ap is_quote_class class))
right_text units s r Punctuator q cs rest f splits spelled class reads found = false≢true (sym (ap is_quote_class class))
right_text units s r Text q cs rest f splits spelled class reads found =
    let stands = spelled.1 in
    let there = subst (λ u. ReadsText u stands.quote stands.characters (stands.quote ∷ r)) (sym splits) (reads_on s stands.quote stands.characters r stands.reads) in
    let one = one_reading_of_text units q stands.quote cs stands.characters rest (stands.quote ∷ r) reads there in
    let quotes = one.0 in
    let characters = one.1 in
    let rests = one.2 in
    let none : text_fault stands.quote stands.characters (stands.quote ∷ r) ≡ None = cond-true (stands.quote == stands.quote) _ _ (eq-eqb stands.quote stands.quote refl) ∙ stands.right in
    none-some f (sym none ∙ (λ i. text_fault (sym quotes i) (sym characters i) (sym rests i)) ∙ found)

-- units don't begin both with a token and with what is refused
pub not_both : (kind : TokenKind) (units s r : List ℕ) (o : ℕ) (k : LexKind) → units ≡ s ++ r → Begins kind s r → fault_of kind s r ≡ None → Refuses units o k → ⊥
not_both kind units s r o k splits it right (Spelling kb t m splits' b found) =
    let one = one_spelling kind kb s r t m it b (sym splits ∙ splits') in
    let kinds = one.kind in
    let spellings = one.spelling in
    let rests = one.rest in
    none-some (fault o k) (sym right ∙ (λ i. fault_of (kinds i) (spellings i) (rests i)) ∙ found)
not_both kind units s r o k splits it right (InText q cs rest reads found) = right_text units s r kind q cs rest (fault o k) splits it.spelled (text_class units q cs rest kind s r reads splits it.spelled) reads found
not_both kind units s r o k splits it right (InComment body splits' none at why) = spelling_no_comment kind units s r body splits it splits'
not_both kind units s r o k splits it right (AtUnit c rest splits' class at why) = spelling_no_unit kind units s r c rest splits it.spelled splits' class

refuses_some : (o : ℕ) (k : LexKind) → Refuses [] o k → ⊥
refuses_some o k (Spelling kind s r splits it found) = let n = not_empty kind s it.spelled in absurd (omega (arith, ap length splits, length-append s r))
refuses_some o k (InText q cs rest reads found) = absurd (let long = ap length reads.spelled in omega arith)
refuses_some o k (InComment body splits none at why) = absurd (let long = ap length splits in omega arith)
refuses_some o k (AtUnit c rest splits class at why) = absurd (let long = ap length splits in omega arith)

end_alone : (at : ℕ) (rest : List ℕ) (o : Outcome) → IsEnd at rest o → first_part rest ≡ None
end_alone at rest Whole e = ap first_part e
end_alone at rest (RefusedAt place cause) e = refuses_alone rest e.0 cause e.1

one_end_here : (at : ℕ) (rest : List ℕ) (o p : Outcome) → IsEnd at rest o → IsEnd at rest p → o ≡ p
one_end_here at rest Whole Whole a b = refl
one_end_here at rest Whole (RefusedAt place cause) a b = absurd (refuses_some b.0 cause (subst (λ u. Refuses u b.0 cause) a b.1))
one_end_here at rest (RefusedAt place cause) Whole a b = absurd (refuses_some a.0 cause (subst (λ u. Refuses u a.0 cause) b a.1))
one_end_here at rest (RefusedAt place cause) (RefusedAt place' cause') a b =
    let one = one_refusal rest a.0 b.0 cause cause' a.1 b.1 in
    let places : place ≡ place' = a.2 ∙ ap (λ n. at + n) one.0 ∙ sym b.2 in
    let causes = one.1 in
    (λ i. RefusedAt (places i) (causes i))

one_end : (at : ℕ) (text : List ℕ) (o p : Outcome) → Ends at text o → Ends at text p → o ≡ p
one_end at text o p a b =
    let one = one_gap a.gap b.gap a.rest b.rest (sym a.splits ∙ b.splits) a.is_gap b.is_gap (end_alone _ a.rest o a.is_end) (end_alone _ b.rest p b.is_end) in
    let gaps = one.0 in
    let rests = one.1 in
    one_end_here (at + length (gap_text a.gap [])) a.rest o p a.is_end
    (subst (λ u. IsEnd (at + length (gap_text a.gap [])) u p) (sym rests) (subst (λ g. IsEnd (at + length (gap_text g [])) b.rest p) (sym gaps) b.is_end))

no_end_at_token : (kind : TokenKind) (s r : List ℕ) (at : ℕ) (o : Outcome) → Begins kind s r → fault_of kind s r ≡ None → IsEnd at (s ++ r) o → ⊥
no_end_at_token kind s r at Whole it right e = let n = not_empty kind s it.spelled in absurd (omega (arith, ap length e, length-append s r))
no_end_at_token kind s r at (RefusedAt place cause) it right e = not_both kind (s ++ r) s r e.0 cause refl it right e.1

token_or_end : (at : ℕ) (text : List ℕ) (t : Token) (rest : List ℕ) (o : Outcome) → Leads at text t rest → Ends at text o → ⊥
token_or_end at text t rest o a b =
    let one = one_gap a.gap b.gap (a.spelling ++ rest) b.rest (sym a.splits ∙ b.splits) a.is_gap b.is_gap (alone t.kind a.spelling rest a.begins_token) (end_alone _ b.rest o b.is_end) in
    no_end_at_token t.kind a.spelling rest (at + length (gap_text b.gap [])) o a.begins_token a.no_fault (subst (λ u. IsEnd (at + length (gap_text b.gap [])) u o) (sym one.1) b.is_end)

one_token : (at : ℕ) (text : List ℕ) (t u : Token) (rest more : List ℕ) → Leads at text t rest → Leads at text u more → (t ≡ u) × (rest ≡ more)
one_token at text t u rest more a b =
    let one = one_gap a.gap b.gap (a.spelling ++ rest) (b.spelling ++ more) (sym a.splits ∙ b.splits) a.is_gap b.is_gap (alone t.kind a.spelling rest a.begins_token) (alone u.kind b.spelling more b.begins_token) in
    let same = one_spelling t.kind u.kind a.spelling rest b.spelling more a.begins_token b.begins_token one.1 in
    let kinds = same.kind in
    let spellings = same.spelling in
    let words : t.word ≡ u.word = a.word ∙ (λ i. word_in (kinds i) (spellings i)) ∙ sym b.word in
    let starts-same : t.start ≡ u.start = a.start ∙ ap (λ g. at + length (gap_text g [])) one.0 ∙ sym b.start in
    let counts : t.count ≡ u.count = a.count ∙ ap length same.spelling ∙ sym b.count in
    let lines : t.line_before ≡ u.line_before = a.line_before ∙ ap (λ g. list_any line_in g) one.0 ∙ sym b.line_before in
    ((λ i. record { kind = kinds i; word = words i; start = starts-same i; count = counts i; line_before = lines i }), same.rest)

-- a text has one reading
pub one_reading : (at : ℕ) (text : List ℕ) (ts us : List Token) (o p : Outcome) → Lexes at text ts o → Lexes at text us p → (ts ≡ us) × (o ≡ p)
one_reading at text [] [] o p a b = (refl, one_end at text o p a b)
one_reading at text [] (u ∷ us) o p a b = absurd (token_or_end at text u b.0 o b.1 a)
one_reading at text (t ∷ ts) [] o p a b = absurd (token_or_end at text t a.0 p a.1 b)
one_reading at text (t ∷ ts) (u ∷ us) o p a b =
    let one = one_token at text t u a.0 b.0 a.1 b.1 in
    let tokens = one.0 in
    let rests = one.1 in
    let below = one_reading (t.start + t.count) a.0 ts us o p a.2
    (subst (λ r. Lexes (t.start + t.count) r us p) (sym rests) (subst (λ (x : Token). Lexes (x.start + x.count) b.0 us p) (sym tokens) b.2)) in
    let tails = below.0 in
    ((λ i. tokens i ∷ tails i), below.1)
