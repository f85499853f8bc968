-- The lines of a file of gestures, told by their bytes.
use Rattle.std.proofs.Common.{◌≡◌, ◌≢◌, ℕ, ◌<◌, ◌≤◌, ◌^◌, ◌⊎◌, inl, inr, List, [], ◌∷◌, ◌++◌, get_or, cond, ◌==◌, codes, decimal, true, Option, Some, None, Result, Ok, Err, refl, sym, ap, subst, ◌∙◌, arith, append-nil}
use Rattle.std.specs.Char.{is_ascii_lowercase}
use Rattle.std.specs.List.{list_all}
use Rattle.std.specs.Prelude.{IfOk, IfSome}
use Rattle.std.proofs.lemmas.Fmt.{decimal_injective}
use Rattle.std.proofs.lemmas.List.{append_cancel_left}
use Rattle.rip_base.specs.Text.{IsSameText}
use Rattle.rip_base.specs.declared.report.EventKind.{EventKind}
use Rattle.rip_base.specs.declared.report.EventKind.TheVariants.{Click, Focus, Blur, Submit, Change, Input}
use Rattle.rip_base.specs.declared.report.Report.{Report}
use Rattle.rip_base.proofs.TextLemmas.{IsSameText-units}
use Rattle.rip_wire.specs.Items.{event_word, HasDetail}
use Rattle.rip_wire.specs.declared.gesture.Gesture.{Gesture}
use Rattle.rip_wire.specs.declared.gesture.Gesture.TheVariants.{Event, Flush}
use Rattle.rip_wire.specs.declared.error.LineError.{LineError}
use Rattle.rip_trace.specs.Spaces.{HasNoSpace}
use Rattle.rip_trace.specs.Gestures.{AreDetails, IsTarget, IsReported, IsGesture, IsGestureLine}
use Rattle.rip_trace.proofs.Spaces.{both_true, NoSpace, no_space, decimal_no_space, space_cut, space_within, numeral_same}

-- ---- which details a kind has

pub bare_has : (kind : EventKind) → (kind ≡ Input → ⊥) → HasDetail kind None None
bare_has Click h = tt
bare_has Focus h = tt
bare_has Blur h = tt
bare_has Submit h = tt
bare_has Change h = tt
bare_has Input h = absurd (h refl)

text_kind : (kind : EventKind) (text : List ℕ) (place : Option ℕ) → HasDetail kind (Some text) place → kind ≡ Input
text_kind Click text place h = absurd h
text_kind Focus text place h = absurd h
text_kind Blur text place h = absurd h
text_kind Submit text place h = absurd h
text_kind Change text place h = absurd h
text_kind Input text place h = refl

place_kind : (kind : EventKind) (text : Option (List ℕ)) (place : ℕ) → HasDetail kind text (Some place) → kind ≡ Change
place_kind Click None place h = absurd h
place_kind Click (Some text) place h = absurd h
place_kind Focus None place h = absurd h
place_kind Focus (Some text) place h = absurd h
place_kind Blur None place h = absurd h
place_kind Blur (Some text) place h = absurd h
place_kind Submit None place h = absurd h
place_kind Submit (Some text) place h = absurd h
place_kind Change None place h = refl
place_kind Change (Some text) place h = absurd h
place_kind Input None place h = absurd h
place_kind Input (Some text) place h = absurd h

place_small : (kind : EventKind) (place : ℕ) → HasDetail kind None (Some place) → place < 2 ^ 32
place_small Click place h = absurd h
place_small Focus place h = absurd h
place_small Blur place h = absurd h
place_small Submit place h = absurd h
place_small Change place h = h
place_small Input place h = absurd h

no_text : (kind : EventKind) (place : Option ℕ) → HasDetail kind None place → kind ≡ Input → ⊥
no_text Click place h e = cc
no_text Focus place h e = cc
no_text Blur place h e = cc
no_text Submit place h e = cc
no_text Change place h e = cc
no_text Input None h e = h
no_text Input (Some place) h e = h

other_kinds : Input ≡ Change → ⊥
other_kinds e = cc

small_long : (n : ℕ) → n < 2 ^ 32 → n < 2 ^ 64
small_long n h = omega (arith, h)

-- ---- targets, by what stands behind them

-- a target with nothing behind it
pub bare_spelled : (bytes : List ℕ) (kind : EventKind) (node : ℕ) → IsTarget bytes kind node None None → bytes ≡ decimal node
bare_spelled bytes kind node t = t.spelled ∙ ap (λ (x : List ℕ). decimal node ++ x) t.are ∙ append-nil (decimal node)

pub bare_target : (bytes : List ℕ) (kind : EventKind) (node : ℕ) → bytes ≡ decimal node → node < 2 ^ 32 → (kind ≡ Input → ⊥) → IsTarget bytes kind node None None
bare_target bytes kind node e small other = record { details = []; spelled = e ∙ sym (append-nil (decimal node)); small = small; are = refl; has = bare_has kind other }

-- a target with a text, or a place, behind it
pub record WithText (bytes : List ℕ) (node : ℕ) (text : List ℕ) : Type 0 where
  pub utf8 : List ℕ
  pub spelled : bytes ≡ decimal node ++ 32 ∷ utf8
  pub same : IsSameText utf8 text

text_spelled : (bytes : List ℕ) (kind : EventKind) (node : ℕ) (text : List ℕ) → IsTarget bytes kind node (Some text) None → WithText bytes node text
text_spelled bytes kind node text t = record { utf8 = t.are.0; spelled = t.spelled ∙ ap (λ (x : List ℕ). decimal node ++ x) t.are.1; same = t.are.2 }

pub text_target : (bytes utf8 : List ℕ) (node : ℕ) (text : List ℕ) → bytes ≡ decimal node ++ 32 ∷ utf8 → node < 2 ^ 32 → IsSameText utf8 text → IsTarget bytes Input node (Some text) None
text_target bytes utf8 node text e small same = record { details = 32 ∷ utf8; spelled = e; small = small; are = (utf8, refl, same); has = (same.characters, (same.are, same.in_units)) }

place_spelled : (bytes : List ℕ) (kind : EventKind) (node place : ℕ) → IsTarget bytes kind node None (Some place) → bytes ≡ decimal node ++ 32 ∷ decimal place
place_spelled bytes kind node place t = t.spelled ∙ ap (λ (x : List ℕ). decimal node ++ x) t.are

pub place_target : (bytes digits : List ℕ) (node place : ℕ) → bytes ≡ decimal node ++ 32 ∷ digits → node < 2 ^ 32 → digits ≡ decimal place → place < 2 ^ 32 → IsTarget bytes Change node None (Some place)
place_target bytes digits node place e small is low = record { details = 32 ∷ decimal place; spelled = e ∙ ap (λ (x : List ℕ). decimal node ++ 32 ∷ x) is; small = small; are = refl; has = low }

-- nothing behind a target, and something
bare_or_more : (bytes rest : List ℕ) (m n : ℕ) → m < 2 ^ 32 → bytes ≡ decimal m → bytes ≡ decimal n ++ 32 ∷ rest → ⊥
bare_or_more bytes rest m n small e f = space_within (decimal n) rest (subst NoSpace (sym e ∙ f) (decimal_no_space m (small_long m small)))

-- ---- what is no target

pub no_input : (bytes : List ℕ) → ((n : ℕ) (rest : List ℕ) → n < 2 ^ 64 → bytes ≡ decimal n ++ 32 ∷ rest → ⊥) → (node : ℕ) (text : Option (List ℕ)) (place : Option ℕ) → IsTarget bytes Input node text place → ⊥
no_input bytes none node None place t = no_text Input place t.has refl
no_input bytes none node (Some text) None t =
    let s = text_spelled bytes Input node text t in none node s.utf8 (small_long node t.small) s.spelled
no_input bytes none node (Some text) (Some place) t = t.are

pub late_input : (bytes utf8 : List ℕ) (number : ℕ) → bytes ≡ decimal number ++ 32 ∷ utf8 → number < 2 ^ 64 → 2 ^ 32 ≤ number → (node : ℕ) (text : Option (List ℕ)) (place : Option ℕ) → IsTarget bytes Input node text place → ⊥
late_input bytes utf8 number is low late node None place t = no_text Input place t.has refl
late_input bytes utf8 number is low late node (Some text) None t =
    let s = text_spelled bytes Input node text t in
    omega (arith, t.small, late, (numeral_same node number s.utf8 utf8 (small_long node t.small) low (sym s.spelled ∙ is)).0)
late_input bytes utf8 number is low late node (Some text) (Some place) t = t.are

pub other_input : (bytes utf8 : List ℕ) (number : ℕ) → bytes ≡ decimal number ++ 32 ∷ utf8 → number < 2 ^ 64 → ((text : List ℕ) → IsSameText utf8 text → ⊥) → (node : ℕ) (text : Option (List ℕ)) (place : Option ℕ) → IsTarget bytes Input node text place → ⊥
other_input bytes utf8 number is low none node None place t = no_text Input place t.has refl
other_input bytes utf8 number is low none node (Some text) None t =
    let s = text_spelled bytes Input node text t in
    none text (subst (λ (x : List ℕ). IsSameText x text) (numeral_same node number s.utf8 utf8 (small_long node t.small) low (sym s.spelled ∙ is)).1 s.same)
other_input bytes utf8 number is low none node (Some text) (Some place) t = t.are

pub no_change : (bytes : List ℕ) → ((n : ℕ) (rest : List ℕ) → n < 2 ^ 64 → bytes ≡ decimal n ++ 32 ∷ rest → ⊥) → ((n : ℕ) → IsTarget bytes Change n None None → ⊥) → (node : ℕ) (text : Option (List ℕ)) (place : Option ℕ) → IsTarget bytes Change node text place → ⊥
no_change bytes none bare node None None t = bare node t
no_change bytes none bare node None (Some place) t = none node (decimal place) (small_long node t.small) (place_spelled bytes Change node place t)
no_change bytes none bare node (Some text) place t = other_kinds (sym (text_kind Change text place t.has))

-- behind the space that follows the number, another number or none
pub other_change : (bytes digits : List ℕ) (number : ℕ) → bytes ≡ decimal number ++ 32 ∷ digits → number < 2 ^ 64 → (2 ^ 32 ≤ number) ⊎ ((n : ℕ) → n < 2 ^ 32 → digits ≡ decimal n → ⊥) → (node : ℕ) (text : Option (List ℕ)) (place : Option ℕ) → IsTarget bytes Change node text place → ⊥
other_change bytes digits number is low wrong node None None t = bare_or_more bytes digits node number t.small (bare_spelled bytes Change node t) is
other_change bytes digits number is low (inl late) node None (Some place) t =
    omega (arith, t.small, late, (numeral_same node number (decimal place) digits (small_long node t.small) low (sym (place_spelled bytes Change node place t) ∙ is)).0)
other_change bytes digits number is low (inr none) node None (Some place) t =
    none place (place_small Change place t.has) (sym (numeral_same node number (decimal place) digits (small_long node t.small) low (sym (place_spelled bytes Change node place t) ∙ is)).1)
other_change bytes digits number is low wrong node (Some text) place t = other_kinds (sym (text_kind Change text place t.has))

pub no_bare : (bytes : List ℕ) (kind : EventKind) → ((n : ℕ) → n < 2 ^ 32 → bytes ≡ decimal n → ⊥) → (node : ℕ) → IsTarget bytes kind node None None → ⊥
no_bare bytes kind none node t = none node t.small (bare_spelled bytes kind node t)

-- kinds that have no details
pub bare_only : (bytes : List ℕ) (kind : EventKind) → (kind ≡ Input → ⊥) → (kind ≡ Change → ⊥) → ((n : ℕ) → IsTarget bytes kind n None None → ⊥) → (node : ℕ) (text : Option (List ℕ)) (place : Option ℕ) → IsTarget bytes kind node text place → ⊥
bare_only bytes kind no_in no_ch none node None None t = none node t
bare_only bytes kind no_in no_ch none node None (Some place) t = no_ch (place_kind kind None place t.has)
bare_only bytes kind no_in no_ch none node (Some text) place t = no_in (text_kind kind text place t.has)

-- ---- numbers below 2^32

pub no_small : (bytes : List ℕ) → ((n : ℕ) → n < 2 ^ 64 → bytes ≡ decimal n → ⊥) → (n : ℕ) → n < 2 ^ 32 → bytes ≡ decimal n → ⊥
no_small bytes none n small e = none n (small_long n small) e

pub late_small : (bytes : List ℕ) (number : ℕ) → bytes ≡ decimal number → number < 2 ^ 64 → 2 ^ 32 ≤ number → (n : ℕ) → n < 2 ^ 32 → bytes ≡ decimal n → ⊥
late_small bytes number is low late n small e = omega (arith, small, late, decimal_injective n number (small_long n small) low (sym e ∙ is))

-- ---- words

letter_no_space : (b : ℕ) → is_ascii_lowercase b ≡ true → b ≢ 32
letter_no_space b h e = grind arith

letters_no_space : (bs : List ℕ) → list_all is_ascii_lowercase bs ≡ true → NoSpace bs
letters_no_space [] h = tt
letters_no_space (b ∷ bs) h =
    let parts = both_true (is_ascii_lowercase b) (list_all is_ascii_lowercase bs) h in
    (letter_no_space b parts.0, letters_no_space bs parts.1)

word_no_space : (kind : EventKind) → NoSpace (event_word kind)
word_no_space Click = letters_no_space (codes "click") refl
word_no_space Focus = letters_no_space (codes "focus") refl
word_no_space Blur = letters_no_space (codes "blur") refl
word_no_space Submit = letters_no_space (codes "submit") refl
word_no_space Change = letters_no_space (codes "change") refl
word_no_space Input = letters_no_space (codes "input") refl

pub no_word : (bytes : List ℕ) → HasNoSpace bytes → (r : Report) → IsReported bytes r → ⊥
no_word bytes h r is = space_within (event_word r.kind) is.target (subst NoSpace is.spelled (no_space bytes h))

pub word_same : (bytes word rest : List ℕ) → bytes ≡ word ++ 32 ∷ rest → HasNoSpace word → (r : Report) → (is : IsReported bytes r) → (word ≡ event_word r.kind) × (rest ≡ is.target)
word_same bytes word rest e h r is = space_cut word (event_word r.kind) rest is.target (no_space word h) (word_no_space r.kind) (sym e ∙ is.spelled)

pub other_word : (bytes word rest : List ℕ) → bytes ≡ word ++ 32 ∷ rest → HasNoSpace word → ((kind : EventKind) → word ≡ event_word kind → ⊥) → (r : Report) → IsReported bytes r → ⊥
other_word bytes word rest e h none r is = none r.kind (word_same bytes word rest e h r is).0

-- a number for each kind, told by its word
number_of : EventKind → ℕ
number_of Click = 0
number_of Focus = 1
number_of Blur = 2
number_of Submit = 3
number_of Change = 4
number_of Input = 5

word_number : List ℕ → ℕ
word_number word = cond (get_or word 0 0 == 102) 1 (cond (get_or word 0 0 == 98) 2 (cond (get_or word 0 0 == 115) 3 (cond (get_or word 0 0 == 105) 5 (cond (get_or word 1 0 == 104) 4 0))))

numbered : (kind : EventKind) → word_number (event_word kind) ≡ number_of kind
unfolding number_of word_number
numbered Click = refl
numbered Focus = refl
numbered Blur = refl
numbered Submit = refl
numbered Change = refl
numbered Input = refl

number_one : (k l : EventKind) → number_of k ≡ number_of l → k ≡ l
unfolding number_of
number_one Click Click e = refl
number_one Click Focus e = absurd (omega (arith, e))
number_one Click Blur e = absurd (omega (arith, e))
number_one Click Submit e = absurd (omega (arith, e))
number_one Click Change e = absurd (omega (arith, e))
number_one Click Input e = absurd (omega (arith, e))
number_one Focus Click e = absurd (omega (arith, e))
number_one Focus Focus e = refl
number_one Focus Blur e = absurd (omega (arith, e))
number_one Focus Submit e = absurd (omega (arith, e))
number_one Focus Change e = absurd (omega (arith, e))
number_one Focus Input e = absurd (omega (arith, e))
number_one Blur Click e = absurd (omega (arith, e))
number_one Blur Focus e = absurd (omega (arith, e))
number_one Blur Blur e = refl
number_one Blur Submit e = absurd (omega (arith, e))
number_one Blur Change e = absurd (omega (arith, e))
number_one Blur Input e = absurd (omega (arith, e))
number_one Submit Click e = absurd (omega (arith, e))
number_one Submit Focus e = absurd (omega (arith, e))
number_one Submit Blur e = absurd (omega (arith, e))
number_one Submit Submit e = refl
number_one Submit Change e = absurd (omega (arith, e))
number_one Submit Input e = absurd (omega (arith, e))
number_one Change Click e = absurd (omega (arith, e))
number_one Change Focus e = absurd (omega (arith, e))
number_one Change Blur e = absurd (omega (arith, e))
number_one Change Submit e = absurd (omega (arith, e))
number_one Change Change e = refl
number_one Change Input e = absurd (omega (arith, e))
number_one Input Click e = absurd (omega (arith, e))
number_one Input Focus e = absurd (omega (arith, e))
number_one Input Blur e = absurd (omega (arith, e))
number_one Input Submit e = absurd (omega (arith, e))
number_one Input Change e = absurd (omega (arith, e))
number_one Input Input e = refl

-- no two kinds have one word
word_one : (k l : EventKind) → event_word k ≡ event_word l → k ≡ l
word_one k l e = number_one k l (sym (numbered k) ∙ ap word_number e ∙ numbered l)

pub other_target : (bytes word rest : List ℕ) (kind : EventKind) → bytes ≡ word ++ 32 ∷ rest → HasNoSpace word → word ≡ event_word kind → ((node : ℕ) (text : Option (List ℕ)) (place : Option ℕ) → IsTarget rest kind node text place → ⊥) → (r : Report) → IsReported bytes r → ⊥
other_target bytes word rest kind e h w none r is =
    let same = word_same bytes word rest e h r is in
    let one : r.kind ≡ kind = word_one r.kind kind (sym same.0 ∙ w) in
    none r.node r.text r.place (subst (λ k. IsTarget rest k r.node r.text r.place) one (subst (λ (x : List ℕ). IsTarget x r.kind r.node r.text r.place) (sym same.1) is.is))

pub reported : (bytes word rest : List ℕ) (kind : EventKind) (r : Report) → bytes ≡ word ++ 32 ∷ rest → word ≡ event_word kind → r.kind ≡ kind → IsTarget rest r.kind r.node r.text r.place → IsReported bytes r
reported bytes word rest kind r e w k t = record { target = rest; spelled = e ∙ ap (λ (x : List ℕ). x ++ 32 ∷ rest) (w ∙ ap event_word (sym k)); is = t }

-- ---- lines

-- no event begins as a comment does
reported_first : (bytes : List ℕ) (kind : EventKind) (target : List ℕ) → bytes ≡ event_word kind ++ 32 ∷ target → get_or bytes 0 0 ≢ 35
reported_first bytes Click target e h = omega (arith, h, ap (λ (x : List ℕ). get_or x 0 0) e)
reported_first bytes Focus target e h = omega (arith, h, ap (λ (x : List ℕ). get_or x 0 0) e)
reported_first bytes Blur target e h = omega (arith, h, ap (λ (x : List ℕ). get_or x 0 0) e)
reported_first bytes Submit target e h = omega (arith, h, ap (λ (x : List ℕ). get_or x 0 0) e)
reported_first bytes Change target e h = omega (arith, h, ap (λ (x : List ℕ). get_or x 0 0) e)
reported_first bytes Input target e h = omega (arith, h, ap (λ (x : List ℕ). get_or x 0 0) e)

pub other_lines : (bytes : List ℕ) → ((text : List ℕ) → bytes ≡ codes "#" ++ text → ⊥) → bytes ≢ codes "flush" → ((r : Report) → IsReported bytes r → ⊥) → (l : Option Gesture) → IsGestureLine bytes l → ⊥
other_lines bytes no_comment no_flush none None h = no_comment h.0 h.1
other_lines bytes no_comment no_flush none (Some Flush) h = no_flush h
other_lines bytes no_comment no_flush none (Some (Event r)) h = none r h

-- ---- a line is read in one way

-- what a target says
record Same (m n : ℕ) (t u : Option (List ℕ)) (p q : Option ℕ) : Type 0 where
  node : m ≡ n
  text : t ≡ u
  place : p ≡ q

target_one : (bytes : List ℕ) (kind : EventKind) (m n : ℕ) (t u : Option (List ℕ)) (p q : Option ℕ) → IsTarget bytes kind m t p → IsTarget bytes kind n u q → Same m n t u p q
target_one bytes kind m n None None None None a b =
    record { node = decimal_injective m n (small_long m a.small) (small_long n b.small) (sym (bare_spelled bytes kind m a) ∙ bare_spelled bytes kind n b); text = refl; place = refl }
target_one bytes kind m n None None None (Some q) a b =
    absurd (bare_or_more bytes (decimal q) m n a.small (bare_spelled bytes kind m a) (place_spelled bytes kind n q b))
target_one bytes kind m n None None (Some p) None a b =
    absurd (bare_or_more bytes (decimal p) n m b.small (bare_spelled bytes kind n b) (place_spelled bytes kind m p a))
target_one bytes kind m n None None (Some p) (Some q) a b =
    let same = numeral_same m n (decimal p) (decimal q) (small_long m a.small) (small_long n b.small) (sym (place_spelled bytes kind m p a) ∙ place_spelled bytes kind n q b) in
    record { node = same.0; text = refl; place = ap Some (decimal_injective p q (small_long p (place_small kind p a.has)) (small_long q (place_small kind q b.has)) same.1) }
target_one bytes kind m n None (Some u) p q a b = absurd (no_text kind p a.has (text_kind kind u q b.has))
target_one bytes kind m n (Some t) None p q a b = absurd (no_text kind q b.has (text_kind kind t p a.has))
target_one bytes kind m n (Some t) (Some u) (Some p) q a b = absurd a.are
target_one bytes kind m n (Some t) (Some u) None (Some q) a b = absurd b.are
target_one bytes kind m n (Some t) (Some u) None None a b =
    let sa = text_spelled bytes kind m t a in
    let sb = text_spelled bytes kind n u b in
    let same = numeral_same m n sa.utf8 sb.utf8 (small_long m a.small) (small_long n b.small) (sym sa.spelled ∙ sb.spelled) in
    record { node = same.0; text = ap Some (IsSameText-units sb.utf8 u t sb.same (subst (λ (x : List ℕ). IsSameText x t) same.1 sa.same)); place = refl }

abbrev made : EventKind → ℕ → Option (List ℕ) → Option ℕ → Report
made k m t p = record { kind = k; node = m; text = t; place = p }

report_from : (k l : EventKind) (m n : ℕ) (t u : Option (List ℕ)) (p q : Option ℕ) → k ≡ l → m ≡ n → t ≡ u → p ≡ q → made k m t p ≡ made l n u q
report_from k l m n t u p q e f g h = cc

report_one : (bytes : List ℕ) (r s : Report) → IsReported bytes r → IsReported bytes s → r ≡ s
report_one bytes r s a b =
    let cut = space_cut (event_word r.kind) (event_word s.kind) a.target b.target (word_no_space r.kind) (word_no_space s.kind) (sym a.spelled ∙ b.spelled) in
    let kind = word_one r.kind s.kind cut.0 in
    let same = target_one b.target s.kind r.node s.node r.text s.text r.place s.place (subst (λ k. IsTarget b.target k r.node r.text r.place) kind (subst (λ (x : List ℕ). IsTarget x r.kind r.node r.text r.place) cut.1 a.is)) b.is in
    report_from r.kind s.kind r.node s.node r.text s.text r.place s.place kind same.node same.text same.place

flush_no_space : NoSpace (codes "flush")
flush_no_space = letters_no_space (codes "flush") refl

flush_or_event : (bytes : List ℕ) (r : Report) → bytes ≡ codes "flush" → IsReported bytes r → ⊥
flush_or_event bytes r e a = space_within (event_word r.kind) a.target (subst NoSpace (sym e ∙ a.spelled) flush_no_space)

comment_first : (bytes text : List ℕ) → bytes ≡ codes "#" ++ text → get_or bytes 0 0 ≡ 35
comment_first bytes text e = ap (λ (x : List ℕ). get_or x 0 0) e

comment_or_gesture : (bytes text : List ℕ) (g : Gesture) → bytes ≡ codes "#" ++ text → IsGesture bytes g → ⊥
comment_or_gesture bytes text Flush e h = omega (arith, comment_first bytes text e, ap (λ (x : List ℕ). get_or x 0 0) h)
comment_or_gesture bytes text (Event r) e h = reported_first bytes r.kind h.target h.spelled (comment_first bytes text e)

gesture_one : (bytes : List ℕ) (g h : Gesture) → IsGesture bytes g → IsGesture bytes h → g ≡ h
gesture_one bytes Flush Flush a b = refl
gesture_one bytes Flush (Event s) a b = absurd (flush_or_event bytes s a b)
gesture_one bytes (Event r) Flush a b = absurd (flush_or_event bytes r b a)
gesture_one bytes (Event r) (Event s) a b = ap Event (report_one bytes r s a b)

-- bytes are one line at most
pub line_one : (bytes : List ℕ) (l m : Option Gesture) → IsGestureLine bytes l → IsGestureLine bytes m → l ≡ m
line_one bytes None None a b = refl
line_one bytes None (Some g) a b = absurd (comment_or_gesture bytes a.0 g a.1 b)
line_one bytes (Some g) None a b = absurd (comment_or_gesture bytes b.0 g b.1 a)
line_one bytes (Some g) (Some h) a b = ap Some (gesture_one bytes g h a b)

-- the bytes are no target of this kind
abbrev pub NoTarget : List ℕ → EventKind → Type 0
NoTarget bytes kind = (node : ℕ) (text : Option (List ℕ)) (place : Option ℕ) → IsTarget bytes kind node text place → ⊥

pub bare_kind : (kind : EventKind) → (kind ≡ Click) ⊎ ((kind ≡ Focus) ⊎ ((kind ≡ Blur) ⊎ (kind ≡ Submit))) → (kind ≡ Input → ⊥) × (kind ≡ Change → ⊥)
bare_kind kind (inl e) = (λ h. cc, λ h. cc)
bare_kind kind (inr (inl e)) = (λ h. cc, λ h. cc)
bare_kind kind (inr (inr (inl e))) = (λ h. cc, λ h. cc)
bare_kind kind (inr (inr (inr e))) = (λ h. cc, λ h. cc)

-- what is known of an event, where there is one
pub passed_on : (P : Report → Type 0) (o : Option Report) (r : Result Report LineError) → IfOk r (λ x. o ≡ Some x) → IfSome o P → IfOk r P
passed_on P o (Ok x) e h = subst (λ (y : Option Report). IfSome y P) e h
passed_on P o (Err x) e h = tt
