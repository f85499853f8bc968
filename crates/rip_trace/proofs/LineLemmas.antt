-- The lines of a trace, told by their bytes.
use Rattle.std.proofs.Common.{◌≡◌, ◌≢◌, ℕ, ◌<◌, ◌≤◌, ◌^◌, ◌==◌, List, ◌∷◌, ◌++◌, cond, get_or, codes, decimal, Option, Some, None, Result, Ok, refl, sym, ap, subst, ◌∙◌, arith}
use Rattle.std.proofs.lemmas.Fmt.{decimal_injective}
use Rattle.std.proofs.lemmas.List.{append_cancel_left}
use Rattle.std.specs.Prelude.{IsNone}
use Rattle.std.specs.Int.{from_be_bytes, w64}
use Rattle.hex.specs.Hex.{decode_of, decode_sized}
use Rattle.hex.specs.declared.error.FromHexError.{FromHexError}
use Rattle.rip_trace.specs.Lines.{Asked, Line, comment, moment, word, opens, sends, goes, quiet, says}
use Rattle.rip_trace.specs.Spelling.{IsSpelled, IsWord, IsPiece, IsSession, IsAsked}
use Rattle.rip_trace.proofs.Spaces.{numeral_same}
use Rattle.rip_trace.proofs.SayLemmas.{asked_one}

-- which kind of line the first two bytes begin
class_of : List ℕ → ℕ
class_of bytes = cond (get_or bytes 0 0 == 35) 0 (cond (get_or bytes 0 0 == 116) 1 (cond (get_or bytes 0 0 == 119) 2 (cond (get_or bytes 0 0 == 111) 3 (cond (get_or bytes 0 0 == 103) 5 (cond (get_or bytes 0 0 == 113) 6 (cond (get_or bytes 1 0 == 101) 4 7))))))

class : Line → ℕ
class (comment text) = 0
class (moment m) = 1
class (word w) = 2
class (opens c) = 3
class (sends c piece) = 4
class (goes c) = 5
class quiet = 6
class (says c asked) = 7

class_same : (bytes : List ℕ) (l : Line) → IsSpelled bytes l → class_of bytes ≡ class l
unfolding class_of class
class_same bytes (comment text) h = ap class_of h
class_same bytes (moment m) h = ap class_of h.0
class_same bytes (word w) h = ap class_of h.1
class_same bytes (opens c) h = ap class_of h.0
class_same bytes (sends c piece) h = ap class_of h.1
class_same bytes (goes c) h = ap class_of h.0
class_same bytes quiet h = ap class_of h
class_same bytes (says c asked) h = ap class_of h.1

class_moment : (rest : List ℕ) → class_of (codes "time " ++ rest) ≡ 1
unfolding class_of
class_moment rest = refl

class_word : (rest : List ℕ) → class_of (codes "word " ++ rest) ≡ 2
unfolding class_of
class_word rest = refl

class_opens : (rest : List ℕ) → class_of (codes "open " ++ rest) ≡ 3
unfolding class_of
class_opens rest = refl

class_sends : (rest : List ℕ) → class_of (codes "send " ++ rest) ≡ 4
unfolding class_of
class_sends rest = refl

class_goes : (rest : List ℕ) → class_of (codes "gone " ++ rest) ≡ 5
unfolding class_of
class_goes rest = refl

class_says : (rest : List ℕ) → class_of (codes "say " ++ rest) ≡ 7
unfolding class_of
class_says rest = refl

pub only_moment : (bytes rest : List ℕ) → bytes ≡ codes "time " ++ rest → ((m : ℕ) → m < 2 ^ 53 → rest ≡ decimal m → ⊥) → (l : Line) → IsSpelled bytes l → ⊥
unfolding class
only_moment bytes rest is none (comment text) h = omega (arith, class_same bytes (comment text) h, ap class_of is, class_moment rest)
only_moment bytes rest is none (moment m) h = none m h.1 (append_cancel_left (codes "time ") rest (decimal m) (sym is ∙ h.0))
only_moment bytes rest is none (word w) h = omega (arith, class_same bytes (word w) h, ap class_of is, class_moment rest)
only_moment bytes rest is none (opens c) h = omega (arith, class_same bytes (opens c) h, ap class_of is, class_moment rest)
only_moment bytes rest is none (sends c piece) h = omega (arith, class_same bytes (sends c piece) h, ap class_of is, class_moment rest)
only_moment bytes rest is none (goes c) h = omega (arith, class_same bytes (goes c) h, ap class_of is, class_moment rest)
only_moment bytes rest is none quiet h = omega (arith, class_same bytes quiet h, ap class_of is, class_moment rest)
only_moment bytes rest is none (says c asked) h = omega (arith, class_same bytes (says c asked) h, ap class_of is, class_moment rest)

pub only_word : (bytes rest : List ℕ) → bytes ≡ codes "word " ++ rest → ((w : ℕ) → IsWord rest w → ⊥) → (l : Line) → IsSpelled bytes l → ⊥
unfolding class
only_word bytes rest is none (comment text) h = omega (arith, class_same bytes (comment text) h, ap class_of is, class_word rest)
only_word bytes rest is none (moment m) h = omega (arith, class_same bytes (moment m) h, ap class_of is, class_word rest)
only_word bytes rest is none (word w) h = none w (subst (λ ds. IsWord ds w) (sym (append_cancel_left (codes "word ") rest h.0 (sym is ∙ h.1))) h.2)
only_word bytes rest is none (opens c) h = omega (arith, class_same bytes (opens c) h, ap class_of is, class_word rest)
only_word bytes rest is none (sends c piece) h = omega (arith, class_same bytes (sends c piece) h, ap class_of is, class_word rest)
only_word bytes rest is none (goes c) h = omega (arith, class_same bytes (goes c) h, ap class_of is, class_word rest)
only_word bytes rest is none quiet h = omega (arith, class_same bytes quiet h, ap class_of is, class_word rest)
only_word bytes rest is none (says c asked) h = omega (arith, class_same bytes (says c asked) h, ap class_of is, class_word rest)

pub only_opens : (bytes rest : List ℕ) → bytes ≡ codes "open " ++ rest → ((c : ℕ) → c < 2 ^ 64 → rest ≡ decimal c → ⊥) → (l : Line) → IsSpelled bytes l → ⊥
unfolding class
only_opens bytes rest is none (comment text) h = omega (arith, class_same bytes (comment text) h, ap class_of is, class_opens rest)
only_opens bytes rest is none (moment m) h = omega (arith, class_same bytes (moment m) h, ap class_of is, class_opens rest)
only_opens bytes rest is none (word w) h = omega (arith, class_same bytes (word w) h, ap class_of is, class_opens rest)
only_opens bytes rest is none (opens c) h = none c h.1 (append_cancel_left (codes "open ") rest (decimal c) (sym is ∙ h.0))
only_opens bytes rest is none (sends c piece) h = omega (arith, class_same bytes (sends c piece) h, ap class_of is, class_opens rest)
only_opens bytes rest is none (goes c) h = omega (arith, class_same bytes (goes c) h, ap class_of is, class_opens rest)
only_opens bytes rest is none quiet h = omega (arith, class_same bytes quiet h, ap class_of is, class_opens rest)
only_opens bytes rest is none (says c asked) h = omega (arith, class_same bytes (says c asked) h, ap class_of is, class_opens rest)

pub only_sends : (bytes rest : List ℕ) → bytes ≡ codes "send " ++ rest → ((c : ℕ) (digits piece : List ℕ) → c < 2 ^ 64 → IsPiece digits piece → rest ≡ decimal c ++ 32 ∷ digits → ⊥) → (l : Line) → IsSpelled bytes l → ⊥
unfolding class
only_sends bytes rest is none (comment text) h = omega (arith, class_same bytes (comment text) h, ap class_of is, class_sends rest)
only_sends bytes rest is none (moment m) h = omega (arith, class_same bytes (moment m) h, ap class_of is, class_sends rest)
only_sends bytes rest is none (word w) h = omega (arith, class_same bytes (word w) h, ap class_of is, class_sends rest)
only_sends bytes rest is none (opens c) h = omega (arith, class_same bytes (opens c) h, ap class_of is, class_sends rest)
only_sends bytes rest is none (sends c piece) h = none c h.0 piece h.2 h.3 (append_cancel_left (codes "send ") rest (decimal c ++ 32 ∷ h.0) (sym is ∙ h.1))
only_sends bytes rest is none (goes c) h = omega (arith, class_same bytes (goes c) h, ap class_of is, class_sends rest)
only_sends bytes rest is none quiet h = omega (arith, class_same bytes quiet h, ap class_of is, class_sends rest)
only_sends bytes rest is none (says c asked) h = omega (arith, class_same bytes (says c asked) h, ap class_of is, class_sends rest)

pub only_goes : (bytes rest : List ℕ) → bytes ≡ codes "gone " ++ rest → ((c : ℕ) → c < 2 ^ 64 → rest ≡ decimal c → ⊥) → (l : Line) → IsSpelled bytes l → ⊥
unfolding class
only_goes bytes rest is none (comment text) h = omega (arith, class_same bytes (comment text) h, ap class_of is, class_goes rest)
only_goes bytes rest is none (moment m) h = omega (arith, class_same bytes (moment m) h, ap class_of is, class_goes rest)
only_goes bytes rest is none (word w) h = omega (arith, class_same bytes (word w) h, ap class_of is, class_goes rest)
only_goes bytes rest is none (opens c) h = omega (arith, class_same bytes (opens c) h, ap class_of is, class_goes rest)
only_goes bytes rest is none (sends c piece) h = omega (arith, class_same bytes (sends c piece) h, ap class_of is, class_goes rest)
only_goes bytes rest is none (goes c) h = none c h.1 (append_cancel_left (codes "gone ") rest (decimal c) (sym is ∙ h.0))
only_goes bytes rest is none quiet h = omega (arith, class_same bytes quiet h, ap class_of is, class_goes rest)
only_goes bytes rest is none (says c asked) h = omega (arith, class_same bytes (says c asked) h, ap class_of is, class_goes rest)

pub only_says : (bytes rest : List ℕ) → bytes ≡ codes "say " ++ rest → ((c : ℕ) (asks : List ℕ) (a : Asked) → c < 2 ^ 64 → IsAsked asks a → rest ≡ decimal c ++ 32 ∷ asks → ⊥) → (l : Line) → IsSpelled bytes l → ⊥
unfolding class
only_says bytes rest is none (comment text) h = omega (arith, class_same bytes (comment text) h, ap class_of is, class_says rest)
only_says bytes rest is none (moment m) h = omega (arith, class_same bytes (moment m) h, ap class_of is, class_says rest)
only_says bytes rest is none (word w) h = omega (arith, class_same bytes (word w) h, ap class_of is, class_says rest)
only_says bytes rest is none (opens c) h = omega (arith, class_same bytes (opens c) h, ap class_of is, class_says rest)
only_says bytes rest is none (sends c piece) h = omega (arith, class_same bytes (sends c piece) h, ap class_of is, class_says rest)
only_says bytes rest is none (goes c) h = omega (arith, class_same bytes (goes c) h, ap class_of is, class_says rest)
only_says bytes rest is none quiet h = omega (arith, class_same bytes quiet h, ap class_of is, class_says rest)
only_says bytes rest is none (says c asked) h = none c h.0 asked h.2 h.3 (append_cancel_left (codes "say ") rest (decimal c ++ 32 ∷ h.0) (sym is ∙ h.1))

pub no_line : (bytes : List ℕ) → ((rest : List ℕ) → bytes ≢ codes "#" ++ rest) → ((rest : List ℕ) → bytes ≢ codes "time " ++ rest) → ((rest : List ℕ) → bytes ≢ codes "word " ++ rest) → ((rest : List ℕ) → bytes ≢ codes "open " ++ rest) → ((rest : List ℕ) → bytes ≢ codes "send " ++ rest) → ((rest : List ℕ) → bytes ≢ codes "gone " ++ rest) → ((rest : List ℕ) → bytes ≢ codes "say " ++ rest) → bytes ≢ codes "quiet" → (l : Line) → IsSpelled bytes l → ⊥
no_line bytes no_comment no_moment no_word no_opens no_sends no_goes no_says no_quiet (comment text) h = no_comment text h
no_line bytes no_comment no_moment no_word no_opens no_sends no_goes no_says no_quiet (moment m) h = no_moment (decimal m) h.0
no_line bytes no_comment no_moment no_word no_opens no_sends no_goes no_says no_quiet (word w) h = no_word h.0 h.1
no_line bytes no_comment no_moment no_word no_opens no_sends no_goes no_says no_quiet (opens c) h = no_opens (decimal c) h.0
no_line bytes no_comment no_moment no_word no_opens no_sends no_goes no_says no_quiet (sends c piece) h = no_sends (decimal c ++ 32 ∷ h.0) h.1
no_line bytes no_comment no_moment no_word no_opens no_sends no_goes no_says no_quiet (goes c) h = no_goes (decimal c) h.0
no_line bytes no_comment no_moment no_word no_opens no_sends no_goes no_says no_quiet quiet h = no_quiet h
no_line bytes no_comment no_moment no_word no_opens no_sends no_goes no_says no_quiet (says c asked) h = no_says (decimal c ++ 32 ∷ h.0) h.1

pub other_bytes : (bytes : List ℕ) → ((rest : List ℕ) → bytes ≢ codes "word " ++ rest) → (w : ℕ) → IsSpelled bytes (word w) → ⊥
other_bytes bytes none w h = none h.0 h.1

pub other_digits : (bytes rest : List ℕ) → bytes ≡ codes "word " ++ rest → ((w : ℕ) → IsWord rest w → ⊥) → (w : ℕ) → IsSpelled bytes (word w) → ⊥
other_digits bytes rest is none w h = none w (subst (λ ds. IsWord ds w) (sym (append_cancel_left (codes "word ") rest h.0 (sym is ∙ h.1))) h.2)

-- ---- bytes spell one line at most

ok_same : (a b : List ℕ) (r : Result (List ℕ) FromHexError) → r ≡ Ok a → r ≡ Ok b → a ≡ b
ok_same a b r e f = cc

comment_from : (a b : List ℕ) → a ≡ b → comment a ≡ comment b
comment_from a b e = cc

moment_from : (m n : ℕ) → m ≡ n → moment m ≡ moment n
moment_from m n e = cc

word_from : (v w : ℕ) → v ≡ w → word v ≡ word w
word_from v w e = cc

opens_from : (c d : ℕ) → c ≡ d → opens c ≡ opens d
opens_from c d e = cc

goes_from : (c d : ℕ) → c ≡ d → goes c ≡ goes d
goes_from c d e = cc

sends_from : (c d : ℕ) (p q : List ℕ) → c ≡ d → p ≡ q → sends c p ≡ sends d q
sends_from c d p q e f = cc

says_from : (c d : ℕ) (a b : Asked) → c ≡ d → a ≡ b → says c a ≡ says d b
says_from c d a b e f = cc

long : (m : ℕ) → m < 2 ^ 53 → m < 2 ^ 64
long m h = omega arith

pub spelled_one : (bytes : List ℕ) (k l : Line) → IsSpelled bytes k → IsSpelled bytes l → k ≡ l
unfolding class
spelled_one bytes (comment xtext) (comment ytext) h g = comment_from xtext ytext (append_cancel_left (codes "#") xtext ytext (sym h ∙ g))
spelled_one bytes (comment xtext) (moment ym) h g = absurd (omega (arith, class_same bytes (comment xtext) h, class_same bytes (moment ym) g))
spelled_one bytes (comment xtext) (word yw) h g = absurd (omega (arith, class_same bytes (comment xtext) h, class_same bytes (word yw) g))
spelled_one bytes (comment xtext) (opens yc) h g = absurd (omega (arith, class_same bytes (comment xtext) h, class_same bytes (opens yc) g))
spelled_one bytes (comment xtext) (sends yc ypiece) h g = absurd (omega (arith, class_same bytes (comment xtext) h, class_same bytes (sends yc ypiece) g))
spelled_one bytes (comment xtext) (goes yc) h g = absurd (omega (arith, class_same bytes (comment xtext) h, class_same bytes (goes yc) g))
spelled_one bytes (comment xtext) quiet h g = absurd (omega (arith, class_same bytes (comment xtext) h, class_same bytes quiet g))
spelled_one bytes (comment xtext) (says yc yasked) h g = absurd (omega (arith, class_same bytes (comment xtext) h, class_same bytes (says yc yasked) g))
spelled_one bytes (moment xm) (comment ytext) h g = absurd (omega (arith, class_same bytes (moment xm) h, class_same bytes (comment ytext) g))
spelled_one bytes (moment xm) (moment ym) h g = moment_from xm ym (decimal_injective xm ym (long xm h.1) (long ym g.1) (append_cancel_left (codes "time ") (decimal xm) (decimal ym) (sym h.0 ∙ g.0)))
spelled_one bytes (moment xm) (word yw) h g = absurd (omega (arith, class_same bytes (moment xm) h, class_same bytes (word yw) g))
spelled_one bytes (moment xm) (opens yc) h g = absurd (omega (arith, class_same bytes (moment xm) h, class_same bytes (opens yc) g))
spelled_one bytes (moment xm) (sends yc ypiece) h g = absurd (omega (arith, class_same bytes (moment xm) h, class_same bytes (sends yc ypiece) g))
spelled_one bytes (moment xm) (goes yc) h g = absurd (omega (arith, class_same bytes (moment xm) h, class_same bytes (goes yc) g))
spelled_one bytes (moment xm) quiet h g = absurd (omega (arith, class_same bytes (moment xm) h, class_same bytes quiet g))
spelled_one bytes (moment xm) (says yc yasked) h g = absurd (omega (arith, class_same bytes (moment xm) h, class_same bytes (says yc yasked) g))
spelled_one bytes (word xw) (comment ytext) h g = absurd (omega (arith, class_same bytes (word xw) h, class_same bytes (comment ytext) g))
spelled_one bytes (word xw) (moment ym) h g = absurd (omega (arith, class_same bytes (word xw) h, class_same bytes (moment ym) g))
spelled_one bytes (word xw) (word yw) h g =
    let digits = append_cancel_left (codes "word ") h.0 g.0 (sym h.1 ∙ g.1) in
    let octets = ok_same h.2.octets g.2.octets (decode_sized g.0 8) (ap (λ ds. decode_sized ds 8) (sym digits) ∙ h.2.are) g.2.are in
    word_from xw yw (h.2.is ∙ ap (from_be_bytes w64) octets ∙ sym g.2.is)
spelled_one bytes (word xw) (opens yc) h g = absurd (omega (arith, class_same bytes (word xw) h, class_same bytes (opens yc) g))
spelled_one bytes (word xw) (sends yc ypiece) h g = absurd (omega (arith, class_same bytes (word xw) h, class_same bytes (sends yc ypiece) g))
spelled_one bytes (word xw) (goes yc) h g = absurd (omega (arith, class_same bytes (word xw) h, class_same bytes (goes yc) g))
spelled_one bytes (word xw) quiet h g = absurd (omega (arith, class_same bytes (word xw) h, class_same bytes quiet g))
spelled_one bytes (word xw) (says yc yasked) h g = absurd (omega (arith, class_same bytes (word xw) h, class_same bytes (says yc yasked) g))
spelled_one bytes (opens xc) (comment ytext) h g = absurd (omega (arith, class_same bytes (opens xc) h, class_same bytes (comment ytext) g))
spelled_one bytes (opens xc) (moment ym) h g = absurd (omega (arith, class_same bytes (opens xc) h, class_same bytes (moment ym) g))
spelled_one bytes (opens xc) (word yw) h g = absurd (omega (arith, class_same bytes (opens xc) h, class_same bytes (word yw) g))
spelled_one bytes (opens xc) (opens yc) h g = opens_from xc yc (decimal_injective xc yc h.1 g.1 (append_cancel_left (codes "open ") (decimal xc) (decimal yc) (sym h.0 ∙ g.0)))
spelled_one bytes (opens xc) (sends yc ypiece) h g = absurd (omega (arith, class_same bytes (opens xc) h, class_same bytes (sends yc ypiece) g))
spelled_one bytes (opens xc) (goes yc) h g = absurd (omega (arith, class_same bytes (opens xc) h, class_same bytes (goes yc) g))
spelled_one bytes (opens xc) quiet h g = absurd (omega (arith, class_same bytes (opens xc) h, class_same bytes quiet g))
spelled_one bytes (opens xc) (says yc yasked) h g = absurd (omega (arith, class_same bytes (opens xc) h, class_same bytes (says yc yasked) g))
spelled_one bytes (sends xc xpiece) (comment ytext) h g = absurd (omega (arith, class_same bytes (sends xc xpiece) h, class_same bytes (comment ytext) g))
spelled_one bytes (sends xc xpiece) (moment ym) h g = absurd (omega (arith, class_same bytes (sends xc xpiece) h, class_same bytes (moment ym) g))
spelled_one bytes (sends xc xpiece) (word yw) h g = absurd (omega (arith, class_same bytes (sends xc xpiece) h, class_same bytes (word yw) g))
spelled_one bytes (sends xc xpiece) (opens yc) h g = absurd (omega (arith, class_same bytes (sends xc xpiece) h, class_same bytes (opens yc) g))
spelled_one bytes (sends xc xpiece) (sends yc ypiece) h g =
    let same = numeral_same xc yc h.0 g.0 h.2 g.2 (append_cancel_left (codes "send ") (decimal xc ++ 32 ∷ h.0) (decimal yc ++ 32 ∷ g.0) (sym h.1 ∙ g.1)) in
    sends_from xc yc xpiece ypiece same.0 (ok_same xpiece ypiece (decode_of g.0) (ap decode_of (sym same.1) ∙ h.3.are) g.3.are)
spelled_one bytes (sends xc xpiece) (goes yc) h g = absurd (omega (arith, class_same bytes (sends xc xpiece) h, class_same bytes (goes yc) g))
spelled_one bytes (sends xc xpiece) quiet h g = absurd (omega (arith, class_same bytes (sends xc xpiece) h, class_same bytes quiet g))
spelled_one bytes (sends xc xpiece) (says yc yasked) h g = absurd (omega (arith, class_same bytes (sends xc xpiece) h, class_same bytes (says yc yasked) g))
spelled_one bytes (goes xc) (comment ytext) h g = absurd (omega (arith, class_same bytes (goes xc) h, class_same bytes (comment ytext) g))
spelled_one bytes (goes xc) (moment ym) h g = absurd (omega (arith, class_same bytes (goes xc) h, class_same bytes (moment ym) g))
spelled_one bytes (goes xc) (word yw) h g = absurd (omega (arith, class_same bytes (goes xc) h, class_same bytes (word yw) g))
spelled_one bytes (goes xc) (opens yc) h g = absurd (omega (arith, class_same bytes (goes xc) h, class_same bytes (opens yc) g))
spelled_one bytes (goes xc) (sends yc ypiece) h g = absurd (omega (arith, class_same bytes (goes xc) h, class_same bytes (sends yc ypiece) g))
spelled_one bytes (goes xc) (goes yc) h g = goes_from xc yc (decimal_injective xc yc h.1 g.1 (append_cancel_left (codes "gone ") (decimal xc) (decimal yc) (sym h.0 ∙ g.0)))
spelled_one bytes (goes xc) quiet h g = absurd (omega (arith, class_same bytes (goes xc) h, class_same bytes quiet g))
spelled_one bytes (goes xc) (says yc yasked) h g = absurd (omega (arith, class_same bytes (goes xc) h, class_same bytes (says yc yasked) g))
spelled_one bytes quiet (comment ytext) h g = absurd (omega (arith, class_same bytes quiet h, class_same bytes (comment ytext) g))
spelled_one bytes quiet (moment ym) h g = absurd (omega (arith, class_same bytes quiet h, class_same bytes (moment ym) g))
spelled_one bytes quiet (word yw) h g = absurd (omega (arith, class_same bytes quiet h, class_same bytes (word yw) g))
spelled_one bytes quiet (opens yc) h g = absurd (omega (arith, class_same bytes quiet h, class_same bytes (opens yc) g))
spelled_one bytes quiet (sends yc ypiece) h g = absurd (omega (arith, class_same bytes quiet h, class_same bytes (sends yc ypiece) g))
spelled_one bytes quiet (goes yc) h g = absurd (omega (arith, class_same bytes quiet h, class_same bytes (goes yc) g))
spelled_one bytes quiet quiet h g = refl
spelled_one bytes quiet (says yc yasked) h g = absurd (omega (arith, class_same bytes quiet h, class_same bytes (says yc yasked) g))
spelled_one bytes (says xc xasked) (comment ytext) h g = absurd (omega (arith, class_same bytes (says xc xasked) h, class_same bytes (comment ytext) g))
spelled_one bytes (says xc xasked) (moment ym) h g = absurd (omega (arith, class_same bytes (says xc xasked) h, class_same bytes (moment ym) g))
spelled_one bytes (says xc xasked) (word yw) h g = absurd (omega (arith, class_same bytes (says xc xasked) h, class_same bytes (word yw) g))
spelled_one bytes (says xc xasked) (opens yc) h g = absurd (omega (arith, class_same bytes (says xc xasked) h, class_same bytes (opens yc) g))
spelled_one bytes (says xc xasked) (sends yc ypiece) h g = absurd (omega (arith, class_same bytes (says xc xasked) h, class_same bytes (sends yc ypiece) g))
spelled_one bytes (says xc xasked) (goes yc) h g = absurd (omega (arith, class_same bytes (says xc xasked) h, class_same bytes (goes yc) g))
spelled_one bytes (says xc xasked) quiet h g = absurd (omega (arith, class_same bytes (says xc xasked) h, class_same bytes quiet g))
spelled_one bytes (says xc xasked) (says yc yasked) h g =
    let same = numeral_same xc yc h.0 g.0 h.2 g.2 (append_cancel_left (codes "say ") (decimal xc ++ 32 ∷ h.0) (decimal yc ++ 32 ∷ g.0) (sym h.1 ∙ g.1)) in
    says_from xc yc xasked yasked same.0 (asked_one g.0 xasked yasked (subst (λ (x : List ℕ). IsAsked x xasked) same.1 h.3) g.3)

-- ---- what the parts of a line are not

pub other_moment : (rest : List ℕ) (n : ℕ) → rest ≡ decimal n → n < 2 ^ 64 → 2 ^ 53 ≤ n → (m : ℕ) → m < 2 ^ 53 → rest ≡ decimal m → ⊥
other_moment rest n is hn late m hm e = omega (arith, decimal_injective n m hn (long m hm) (sym is ∙ e))

pub other_quit : (rest : List ℕ) (n : ℕ) → rest ≡ decimal n → n < 2 ^ 64 → (IsSession n → ⊥) → (s : ℕ) → IsSession s → rest ≡ decimal s → ⊥
other_quit rest n is hn none s h e =
    let small : s < 2 ^ 32 = h.small in
    let same : s ≡ n = decimal_injective s n (omega (arith, small)) hn (sym e ∙ is) in
    none (subst IsSession same h)

pub other_report : (rest : List ℕ) (n : ℕ) (body : List ℕ) → rest ≡ decimal n ++ 32 ∷ body → n < 2 ^ 64 → (IsSession n → ⊥) → (s : ℕ) (other : List ℕ) → IsSession s → rest ≡ decimal s ++ 32 ∷ other → ⊥
other_report rest n body is hn none s other h e =
    let small : s < 2 ^ 32 = h.small in
    none (subst IsSession (numeral_same s n other body (omega (arith, small)) hn (sym e ∙ is)).0 h)

pub other_say : (rest : List ℕ) (n : ℕ) (asks : List ℕ) → rest ≡ decimal n ++ 32 ∷ asks → n < 2 ^ 64 → ((a : Asked) → IsAsked asks a → ⊥) → (c : ℕ) (other : List ℕ) (a : Asked) → c < 2 ^ 64 → IsAsked other a → rest ≡ decimal c ++ 32 ∷ other → ⊥
other_say rest n asks is hn none c other a hc h e =
    none a (subst (λ (x : List ℕ). IsAsked x a) (numeral_same c n other asks hc hn (sym e ∙ is)).1 h)

pub other_piece : (rest : List ℕ) (n : ℕ) (digits : List ℕ) → rest ≡ decimal n ++ 32 ∷ digits → n < 2 ^ 64 → ((piece : List ℕ) → IsPiece digits piece → ⊥) → (c : ℕ) (other piece : List ℕ) → c < 2 ^ 64 → IsPiece other piece → rest ≡ decimal c ++ 32 ∷ other → ⊥
other_piece rest n digits is hn none c other piece hc h e =
    none piece (subst (λ (x : List ℕ). IsPiece x piece) (numeral_same c n other digits hc hn (sym e ∙ is)).1 h)

pub none_is : {A : Type 0} (o : Option A) → o ≡ None → IsNone o
none_is None e = refl
none_is (Some x) e = cc
