-- A head that stands whole at the front of bytes ends where the search finds its end.
use Rattle.std.proofs.Common.{◌≡◌, ◌≢◌, ◌==◌, ℕ, zero, suc, ◌+◌, ◌-◌, ◌≤◌, ◌<◌, Bool, true, false, cond, IsTrue, inr, All, List, [], ◌∷◌, ◌++◌, length, map, take, drop, slice_range, Option, Some, None, option_map, refl, sym, ap, ◌∙◌, subst, codes, arith}
use Rattle.std.specs.List.{flat_map}
use Rattle.std.proofs.Math.Seq.{take-append_seam}
use Rattle.std.proofs.lemmas.Bool.{cond-true, cond-false, ne_eqb, false≢true}
use Rattle.std.proofs.lemmas.List.{append-nil, length-append, length-take, length-map, drop-take, take-take}
use Rattle.std.proofs.lemmas.List.Concat.{flat_map-cons}
use Rattle.std.proofs.lemmas.List.Elements.{All-head, All-tail, All-weaker}
use Rattle.httparse.specs.Grammar.{LineEnd, crlf, lf, print_end, print_blank, print_version, Field, print_field, IsField, IsToken, print_section, is_token_byte, is_uri_byte, is_value_byte, RequestHead, IsRequestHead, print_request}
use Rattle.httparse.specs.Spans.{IsWithin, IsHeaderWithin, IsRequestWithin, IsRequestOf, span_bytes, header_bytes, name_and_value}
use Rattle.httparse.specs.declared.spans.Span.{Span}
use Rattle.httparse.specs.declared.spans.HeaderSpan.{HeaderSpan}
use Rattle.httparse.specs.declared.spans.RequestSpans.{RequestSpans}
use Rattle.httparse.proofs.GrammarLemmas.{print_request-append}
use Rattle.httparse.proofs.PieceLemmas.{token_is_no_newline, print_field-append}
use Rattle.rip_http.specs.Heads.{is_line_byte, blank, head_at, step, after, end_from, head_end, ended_or}
use Rattle.rip_http.specs.Fields.{pairs}
use Rattle.rip_http.specs.Verdicts.{Verdict, IsVerdict, verdict_of, parts_of}
use Rattle.rip_http.specs.declared.head.Scan.{Scan}
use Rattle.rip_http.specs.declared.head.Scan.TheVariants.{Before, Inside, AfterFeed, AfterReturn}
use Rattle.rip_http.proofs.HeadLemmas.{end-append, end-le}

-- ---- a search that goes on behind the first bytes

-- the state behind bytes and more bytes
after-append : (s t u : Scan) (xs ys : List ℕ) → after s xs ≡ Some t → after t ys ≡ Some u → after s (xs ++ ys) ≡ Some u
after-append s t u [] ys e f = let same : s ≡ t = cc in ap (λ (x : Scan). after x ys) same ∙ f
after-append s t u (b ∷ xs) ys e f = by_step (λ v h. after-append v t u xs ys h f) (step s b) e
  where
    by_step : ((v : Scan) → after v xs ≡ Some t → after v (xs ++ ys) ≡ Some u) → (o : Option Scan)
        → ended_or None o (λ v. after v xs) ≡ Some t → ended_or None o (λ v. after v (xs ++ ys)) ≡ Some u
    by_step later None h = cc
    by_step later (Some v) h = later v h

-- the end behind bytes in which there is none
end-behind : (s t : Scan) (xs ys : List ℕ) (n : ℕ) → after s xs ≡ Some t → end_from t ys ≡ Some n → end_from s (xs ++ ys) ≡ Some (length xs + n)
end-behind s t [] ys n e f =
    let same : s ≡ t = cc in
    let sum : n ≡ 0 + n = omega arith in
    ap (λ (x : Scan). end_from x ys) same ∙ f ∙ ap Some sum
end-behind s t (b ∷ xs) ys n e f = by_step (λ v h. end-behind v t xs ys n h f) (step s b) e
  where
    by_step : ((v : Scan) → after v xs ≡ Some t → end_from v (xs ++ ys) ≡ Some (length xs + n)) → (o : Option Scan)
        → ended_or None o (λ v. after v xs) ≡ Some t
        → ended_or (Some 1) o (λ v. option_map (λ k. suc k) (end_from v (xs ++ ys))) ≡ Some (suc (length xs) + n)
    by_step later None h = cc
    by_step later (Some v) h = ap (option_map (λ k. suc k)) (later v h) ∙ ap Some (omega arith)

-- a head ends with these bytes
abbrev Ends : Scan → List ℕ → Type 0
Ends s xs = end_from s xs ≡ Some (length xs)

ends_behind : (s t : Scan) (xs ys : List ℕ) → after s xs ≡ Some t → Ends t ys → Ends s (xs ++ ys)
ends_behind s t xs ys e f = end-behind s t xs ys (length ys) e f ∙ ap Some (sym (length-append xs ys))

-- ---- the parts of a head

no_feed : (b : ℕ) → is_line_byte b ≡ false → b ≢ 10
no_feed b e ten = false≢true (sym e ∙ ap is_line_byte ten)

no_return : (b : ℕ) → is_line_byte b ≡ false → b ≢ 13
no_return b e ten = false≢true (sym e ∙ ap is_line_byte ten)

one_inside : (b : ℕ) → b ≢ 10 → step Inside b ≡ Some Inside
one_inside b ne = cond-false (b == 10) (Some AfterFeed) (Some Inside) (ne_eqb b 10 ne)

inside : (xs : List ℕ) → All (λ b. b ≢ 10) xs → after Inside xs ≡ Some Inside
inside [] h = refl
inside (b ∷ xs) h =
    ap (λ o. ended_or None o (λ v. after v xs)) (one_inside b (All-head (λ v. v ≢ 10) b xs h)) ∙ inside xs (All-tail (λ v. v ≢ 10) b xs h)

-- the first byte of a head, and of a line
begins : (b : ℕ) → is_line_byte b ≡ false → step Before b ≡ Some Inside
begins b e = cond-false (is_line_byte b) (Some Before) (Some Inside) e

goes_on : (b : ℕ) → is_line_byte b ≡ false → step AfterFeed b ≡ Some Inside
goes_on b e =
    cond-false (b == 10) None (cond (b == 13) (Some AfterReturn) (Some Inside)) (ne_eqb b 10 (no_feed b e))
    ∙ cond-false (b == 13) (Some AfterReturn) (Some Inside) (ne_eqb b 13 (no_return b e))

word : (s : Scan) (xs : List ℕ) → ((b : ℕ) → is_line_byte b ≡ false → step s b ≡ Some Inside) → IsToken xs → after s xs ≡ Some Inside
word s [] first token = absurd (omega (arith, token.0))
word s (b ∷ xs) first token =
    let here = token_is_no_newline b (All-head (λ v. IsTrue (is_token_byte v)) b xs token.1) in
    let later : All (λ v. v ≢ 10) xs = All-weaker (λ v. IsTrue (is_token_byte v)) (λ v. v ≢ 10) (λ v t. no_feed v (token_is_no_newline v t)) xs (All-tail (λ v. IsTrue (is_token_byte v)) b xs token.1) in
    ap (λ o. ended_or None o (λ v. after v xs)) (first b here) ∙ inside xs later

uri_goes_on : (b : ℕ) → IsTrue (is_uri_byte b) → b ≢ 10
uri_goes_on b t e = false≢true (subst (λ (v : ℕ). is_uri_byte v ≡ true) e t)

value_goes_on : (b : ℕ) → IsTrue (is_value_byte b) → b ≢ 10
value_goes_on b t e = false≢true (subst (λ (v : ℕ). is_value_byte v ≡ true) e t)

target : (xs : List ℕ) → All (λ b. IsTrue (is_uri_byte b)) xs → after Inside xs ≡ Some Inside
target xs h = inside xs (All-weaker (λ b. IsTrue (is_uri_byte b)) (λ b. b ≢ 10) uri_goes_on xs h)

value : (xs : List ℕ) → All (λ b. IsTrue (is_value_byte b)) xs → after Inside xs ≡ Some Inside
value xs h = inside xs (All-weaker (λ b. IsTrue (is_value_byte b)) (λ b. b ≢ 10) value_goes_on xs h)

version : (minor : ℕ) → after Inside (print_version minor) ≡ Some Inside
version minor =
    let digit : 48 + minor ≢ 10 = (λ e. absurd (omega (arith, e))) in
    after-append Inside Inside Inside (codes "HTTP/1.") ((48 + minor) ∷ []) refl
    (ap (λ o. ended_or None o (λ v. after v [])) (one_inside (48 + minor) digit))

line_end : (e : LineEnd) → after Inside (print_end e) ≡ Some AfterFeed
line_end crlf = refl
line_end lf = refl

empty_line : (e : LineEnd) → after Before (print_end e) ≡ Some Before
empty_line crlf = refl
empty_line lf = refl

last_line : (e : LineEnd) → Ends AfterFeed (print_end e)
last_line crlf = refl
last_line lf = refl

blanks : (ends : List LineEnd) → after Before (print_blank ends) ≡ Some Before
blanks [] = refl
blanks (e ∷ ends) =
    ap (after Before) (flat_map-cons print_end e ends)
    ∙ after-append Before Before Before (print_end e) (flat_map print_end ends) (empty_line e) (blanks ends)

line_end_alone : (e : LineEnd) → after Inside (print_end e ++ []) ≡ Some AfterFeed
line_end_alone e = ap (after Inside) (append-nil (print_end e)) ∙ line_end e

field_line : (f : Field) → IsField f → after AfterFeed (print_field f) ≡ Some AfterFeed
field_line f is =
    ap (after AfterFeed) (sym (append-nil (print_field f)) ∙ print_field-append f [])
    ∙ after-append AfterFeed Inside AfterFeed f.name (58 ∷ (f.raw ++ (print_end f.end ++ []))) (word AfterFeed f.name goes_on is.name)
    (after-append Inside Inside AfterFeed f.raw (print_end f.end ++ []) (value f.raw is.raw) (line_end_alone f.end))

field_lines : (fs : List Field) → All IsField fs → after AfterFeed (flat_map print_field fs) ≡ Some AfterFeed
field_lines [] h = refl
field_lines (f ∷ fs) h =
    ap (after AfterFeed) (flat_map-cons print_field f fs)
    ∙ after-append AfterFeed AfterFeed AfterFeed (print_field f) (flat_map print_field fs) (field_line f (All-head IsField f fs h)) (field_lines fs (All-tail IsField f fs h))

-- a head of the grammar ends with its last byte
head_ends : (h : RequestHead) → IsRequestHead h → Ends Before (print_request h)
head_ends h is =
    let section = print_section h.fields h.last in
    let lines : Ends AfterFeed section = ends_behind AfterFeed AfterFeed (flat_map print_field h.fields) (print_end h.last) (field_lines h.fields is.fields) (last_line h.last) in
    let alone : Ends AfterFeed (section ++ []) = subst (Ends AfterFeed) (sym (append-nil section)) lines in
    let ended = ends_behind Inside AfterFeed (print_end h.line_end) (section ++ []) (line_end h.line_end) alone in
    let versioned = ends_behind Inside Inside (print_version h.minor) (print_end h.line_end ++ (section ++ [])) (version h.minor) ended in
    let spaced = ends_behind Inside Inside (32 ∷ []) (print_version h.minor ++ (print_end h.line_end ++ (section ++ []))) refl versioned in
    let aimed = ends_behind Inside Inside h.target (32 ∷ (print_version h.minor ++ (print_end h.line_end ++ (section ++ [])))) (target h.target is.target.1) spaced in
    let parted = ends_behind Inside Inside (32 ∷ []) (h.target ++ 32 ∷ (print_version h.minor ++ (print_end h.line_end ++ (section ++ [])))) refl aimed in
    let named = ends_behind Before Inside h.method (32 ∷ (h.target ++ 32 ∷ (print_version h.minor ++ (print_end h.line_end ++ (section ++ []))))) (word Before h.method begins is.method) parted in
    let all = ends_behind Before Before (print_blank h.blank) (h.method ++ 32 ∷ (h.target ++ 32 ∷ (print_version h.minor ++ (print_end h.line_end ++ (section ++ []))))) (blanks h.blank) named in
    subst (Ends Before) (sym (sym (append-nil (print_request h)) ∙ print_request-append h [])) all

-- ---- what is read at the front of bytes

-- the first bytes are the head
front_is : (bytes : List ℕ) (headers : List HeaderSpan) (r : RequestSpans) (h : RequestHead) → bytes ≡ print_request h ++ drop r.len bytes → r.len ≡ length (print_request h) → take r.len bytes ≡ print_request h
front_is bytes headers r h reads len =
    ap (λ k. take k bytes) len ∙ ap (take (length (print_request h))) reads ∙ take-append_seam (print_request h) (drop r.len bytes)

-- and the search ends behind them
pub front_ends : (bytes : List ℕ) (headers : List HeaderSpan) (r : RequestSpans) → IsRequestOf bytes headers r → head_end bytes ≡ Some r.len
front_ends bytes headers r (h, at) =
    ap head_end at.reads.1 ∙ end-append Before (print_request h) (drop r.len bytes) (length (print_request h)) (head_ends h at.reads.0) ∙ ap Some (sym at.len)

range_take : (n : ℕ) (bytes : List ℕ) (from to : ℕ) → from ≤ to → to ≤ n → slice_range (take n bytes) from to ≡ slice_range bytes from to
range_take n bytes from to low high =
    let parts : n ≡ from + (n - from) = omega (arith, low, high) in
    ap (λ k. take (to - from) (drop from (take k bytes))) parts
    ∙ ap (take (to - from)) (drop-take from (n - from) bytes)
    ∙ take-take (to - from) (n - from) (drop from bytes) (omega (arith, low, high))

-- a span within the first bytes covers the same there
span_take : (n : ℕ) (bytes : List ℕ) (s : Span) → IsWithin n s → span_bytes (take n bytes) s ≡ span_bytes bytes s
span_take n bytes s within = range_take n bytes s.start s.end within.0 within.1

pairs_take : (n : ℕ) (bytes : List ℕ) (spans : List HeaderSpan) → All (IsHeaderWithin n) spans → pairs (take n bytes) spans ≡ pairs bytes spans
pairs_take n bytes [] within = refl
pairs_take n bytes (s ∷ spans) within =
    let here = All-head (IsHeaderWithin n) s spans within in
    let rest = pairs_take n bytes spans (All-tail (IsHeaderWithin n) s spans within) in
    let name = span_take n bytes s.name here.0 in
    let value = span_take n bytes s.value here.1 in
    λ i. (name i, value i) ∷ rest i

target_is : (bytes head : List ℕ) (headers : List HeaderSpan) (r : RequestSpans) (h : RequestHead) → head ≡ take r.len bytes → IsWithin r.len r.path → span_bytes bytes r.path ≡ h.target → span_bytes head r.path ≡ h.target
target_is bytes head headers r h same within at =
    ap (λ xs. span_bytes xs r.path) same ∙ span_take r.len bytes r.path within ∙ at

-- what its parts decide is the verdict on the head
pub front_verdict : (bytes head : List ℕ) (headers : List HeaderSpan) (r : RequestSpans) (v : Verdict)
    → head ≡ take r.len bytes → IsRequestWithin bytes headers r → IsRequestOf bytes headers r → length headers ≤ 64
    → v ≡ verdict_of (record {
      method = span_bytes head r.method;
      target = span_bytes head r.path;
      minor = r.version;
      fields = pairs head (take r.headers headers);
    })
    → IsVerdict head v
front_verdict bytes head headers r v same within (h, at) few e =
    let spans = take r.headers headers in
    let printed = same ∙ front_is bytes headers r h at.reads.1 at.len in
    let method : span_bytes head r.method ≡ h.method = ap (λ xs. span_bytes xs r.method) same ∙ span_take r.len bytes r.method within.method ∙ at.method in
    let aimed = target_is bytes head headers r h same within.path at.path in
    let fields : pairs head spans ≡ map name_and_value h.fields = ap (λ xs. pairs xs spans) same ∙ pairs_take r.len bytes spans within.section.headers_fit ∙ at.fields in
    let count : length h.fields ≤ 64 = omega (arith, few, length-map h.fields name_and_value, ap length at.fields, length-map spans (header_bytes bytes), length-take r.headers headers) in
    let minor = at.version in
    inr (
      h,
      ((at.reads.0, printed ∙ sym (append-nil (print_request h))), count),
      e ∙ (λ i. verdict_of (record { method = method i; target = aimed i; minor = minor i; fields = fields i })),
    )

-- ---- behind CR and LF

take_nil : (n : ℕ) → take {A = ℕ} n [] ≡ []
take_nil zero = refl
take_nil (suc n) = refl

blank_front : (xs : List ℕ) (n : ℕ) → blank (take (blank xs + n) xs) ≡ blank xs
blank_front [] n = ap blank (take_nil (0 + n))
blank_front (b ∷ xs) n = by_byte n (blank_front xs n) (is_line_byte b) refl
  where
    by_byte : (n : ℕ) → blank (take (blank xs + n) xs) ≡ blank xs → (t : Bool) → is_line_byte b ≡ t
        → blank (take (cond t (suc (blank xs)) 0 + n) (b ∷ xs)) ≡ cond t (suc (blank xs)) 0
    by_byte n later true e =
        let sum : suc (blank xs) + n ≡ suc (blank xs + n) = omega arith in
        ap (λ k. blank (take k (b ∷ xs))) sum ∙ cond-true (is_line_byte b) (suc (blank (take (blank xs + n) xs))) 0 e ∙ ap (λ k. suc k) later
    by_byte zero later false e = refl
    by_byte (suc n) later false e =
        let sum : 0 + suc n ≡ suc n = omega arith in
        ap (λ k. blank (take k (b ∷ xs))) sum ∙ cond-false (is_line_byte b) (suc (blank (take n xs))) 0 e

blank_end : (xs : List ℕ) (n : ℕ) → head_end (drop (blank xs) xs) ≡ Some n → head_end xs ≡ Some (blank xs + n)
blank_end [] n e = cc
blank_end (b ∷ xs) n e = by_byte (λ h. blank_end xs n h) (is_line_byte b) refl e
  where
    by_byte : (head_end (drop (blank xs) xs) ≡ Some n → head_end xs ≡ Some (blank xs + n)) → (t : Bool) → is_line_byte b ≡ t
        → head_end (drop (cond t (suc (blank xs)) 0) (b ∷ xs)) ≡ Some n → head_end (b ∷ xs) ≡ Some (cond t (suc (blank xs)) 0 + n)
    by_byte later true is h =
        let sum : suc (blank xs + n) ≡ suc (blank xs) + n = omega arith in
        ap (λ o. ended_or (Some 1) o (λ v. option_map (λ k. suc k) (end_from v xs))) (cond-true (is_line_byte b) (Some Before) (Some Inside) is)
        ∙ ap (option_map (λ k. suc k)) (later h) ∙ ap Some sum
    by_byte later false is h =
        let sum : n ≡ 0 + n = omega arith in h ∙ ap Some sum

-- a head that ends behind CR and LF, in the bytes in which it is sought
pub whole_at : (bytes : List ℕ) (size : ℕ) → head_end (drop (blank (take 8192 bytes)) (take 8192 bytes)) ≡ Some size
    → (head_end (take 8192 bytes) ≡ Some (blank (take 8192 bytes) + size))
    × (head_at bytes (blank (take 8192 bytes) + size) ≡ take size (drop (blank (take 8192 bytes)) (take 8192 bytes)))
whole_at bytes size e =
    let window = take 8192 bytes in
    let k = blank window in
    let ends = blank_end window size e in
    let fits : k + size ≤ 8192 = omega (arith, end-le Before window (k + size) ends, length-take 8192 bytes) in
    let same : take (k + size) bytes ≡ take (k + size) window = sym (take-take (k + size) 8192 bytes fits) in
    (ends, ap (λ xs. drop (blank xs) xs) same ∙ ap (λ j. drop j (take (k + size) window)) (blank_front window size) ∙ drop-take k size window)
