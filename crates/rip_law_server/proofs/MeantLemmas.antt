-- The one request in the bytes that a line stands for.
use Rattle.std.proofs.Common.{◌≡◌, ◌≢◌, ℕ, zero, suc, ◌+◌, ◌/◌, ◌%◌, ◌<◌, ◌≤◌, ◌==◌, ◌&&◌, ◌||◌, not, nat_lt, nat_le, List, [], ◌∷◌, ◌++◌, Bool, true, false, cond, if◌then◌else◌, length, take, drop, get_or, slice_index, reverse, codes, decimal, Option, Some, None, bytes_eq, Result, Ok, Err, refl, sym, ap, ap₂, subst, ◌∙◌, inr, arith, append_assoc, append-nil, length-append, lt-ltb, le-leb}
use Rattle.std.specs.Char.{is_ascii_digit, is_ascii_alphanumeric}
use Rattle.std.specs.List.{list_all, list_any, prefix_len}
use Rattle.std.specs.Str.Parse.{digits_value}
use Rattle.std.proofs.lemmas.Bool.{ne_eqb, false≢true}
use Rattle.std.proofs.lemmas.List.Sums.{AllPass-from_list_all}
use Rattle.std.specs.Prelude.{All}
use Rattle.std.proofs.lemmas.Fmt.{decimal_is_IsNumeral, length-decimal-le, decimal_nonempty}
use Rattle.std.proofs.lemmas.List.Folds.{list_all-append}
use Rattle.rip_words.proofs.NumeralsLemmas.{decimal_passes}
use Rattle.std.specs.Option.{ok_or}
use Rattle.rip_http.specs.Routes.{path_of, segment_of, route_of, method_of, method_name}
use Rattle.rip_http.specs.declared.request.Method.TheVariants.{Post}
use Rattle.rip_http.specs.Fields.{values_of, has_host, length_in, body_length, closes}
use Rattle.rip_http.specs.declared.request.Refusal.{Refusal}
use Rattle.rip_http.specs.declared.request.Refusal.TheVariants.{Head, Path, WrongMethod, Coding, TooLarge}
use Rattle.std.proofs.lemmas.List.{take_all, drop_all, reverse-append}
use Rattle.std.proofs.lemmas.Str.{IsUtf8-from_ascii}
use Rattle.httparse.specs.Grammar.{crlf, Field, IsField, IsToken, is_token_byte, is_uri_byte, is_value_byte, is_ows, skip_ows, trim_ows, RequestHead, print_request}
use Rattle.httparse.proofs.TrimLemmas.{trim_ows_space}
use Rattle.uuid.specs.Text.{by_index, hyphenated_text, hex_digit, lower, nibble, digit_place, is_hyphen_place, hyphen}
use Rattle.rip_http.specs.Heads.{blank, head_at, step, after, ended_or, head_end}
use Rattle.rip_http.specs.Stream.{waits, takes, behind, IsNext, IsNextAt, Requests}
use Rattle.rip_http.specs.Verdicts.{Goes, IsHead, IsVerdict, verdict_of, verdict_by, parts_of, decide, check, size_of, has_no_coding, ◌>>=◌}
use Rattle.rip_http.specs.declared.head.Scan.{Scan}
use Rattle.rip_http.specs.declared.head.Scan.TheVariants.{Before, Inside, AfterFeed, AfterReturn}
use Rattle.rip_http.specs.declared.request.Going.{Going}
use Rattle.rip_http.specs.declared.request.Message.{Message}
use Rattle.rip_http.specs.declared.request.Route.{Route}
use Rattle.rip_http.specs.declared.request.Route.TheVariants.{Page, Events, Quit}
use Rattle.rip_http.proofs.HeadLemmas.{end-more}
use Rattle.rip_http.proofs.StreamLemmas.{head_end_stays, head_at_stays}
use Rattle.rip_trace.specs.Lines.{page, report, quit}
use Rattle.rip_trace.specs.Requests.{identifier_of, request, line}
use Rattle.rip_law_server.specs.Meant.{meant, RequestsAreMeant}

-- ---- the bytes of an identifier

-- a letter or a digit of ASCII, or `-`
is_plain : ℕ → Bool
is_plain b = is_ascii_alphanumeric b || (b == 45)

both_true : (a b : Bool) → a && b ≡ true → (a ≡ true) × (b ≡ true)
both_true true b h = (refl, h)
both_true false b h = cc

plain_facts : (b : ℕ) → is_plain b ≡ true → (32 < b) × (b < 127) × (b ≢ 47) × (b ≢ 63)
unfolding is_plain
plain_facts b h = (grind arith, grind arith, λ e. grind arith, λ e. grind arith)

nibble_small : (xs : List ℕ) (k : ℕ) → nibble xs k < 16
nibble_small xs k = by (k % 2 == 0)
  where
    by : (t : Bool) → (if t then slice_index xs (k / 2) / 16 % 16 else slice_index xs (k / 2) % 16) < 16
    by true = omega arith
    by false = omega arith

digit_plain : (d : ℕ) → d < 16 → is_plain (hex_digit lower d) ≡ true
unfolding is_plain
digit_plain d h = grind arith

dash : is_plain 45 ≡ true
unfolding is_plain
dash = refl

letter_plain : (k : ℕ) (xs : List ℕ) → is_plain (if is_hyphen_place k then hyphen else hex_digit lower (nibble xs (digit_place k))) ≡ true
letter_plain k xs = by (is_hyphen_place k)
  where
    by : (t : Bool) → is_plain (if t then hyphen else hex_digit lower (nibble xs (digit_place k))) ≡ true
    by true = dash
    by false = digit_plain (nibble xs (digit_place k)) (nibble_small xs (digit_place k))

index_plain : (n : ℕ) (f : ℕ → ℕ) → ((k : ℕ) → is_plain (f k) ≡ true) → list_all is_plain (by_index n f) ≡ true
unfolding by_index
index_plain zero f h = refl
index_plain (suc n) f h =
    list_all-append is_plain (by_index n f) (f n ∷ []) ∙ ap₂ (λ a b. a && b) (index_plain n f h) (ap (λ t. t && true) (h n))

identifier_plain : (xs : List ℕ) → list_all is_plain (hyphenated_text lower xs) ≡ true
identifier_plain xs = index_plain 36 _ (λ k. letter_plain k xs)

-- what a list of plain bytes is
record Plain (id : List ℕ) : Type 0 where
  inside : after Inside id ≡ Some Inside
  uri : list_all is_uri_byte id ≡ true
  no_query : prefix_len (λ b. not (b == 63)) id ≡ length id
  no_slash : list_any (λ b. b == 47) id ≡ false
  ascii : (i : ℕ) → get_or id i 0 < 128

plain : (id : List ℕ) → list_all is_plain id ≡ true → Plain id
plain [] h = record { inside = refl; uri = refl; no_query = refl; no_slash = refl; ascii = λ i. omega arith }
plain (b ∷ id) h =
    let parts = both_true (is_plain b) (list_all is_plain id) h in
    let facts = plain_facts b parts.0 in
    let others = plain id parts.1 in
    let low : b ≢ 127 = omega (arith, facts.1) in
    let feed : b ≢ 10 = omega (arith, facts.0) in
    record {
      inside = ap (λ t. ended_or None (if t then Some AfterFeed else Some Inside) (λ next. after next id)) (ne_eqb b 10 feed) ∙ others.inside;
      uri = ap₂ (λ x y. x && y) (ap₂ (λ x y. x && not y) (lt-ltb 32 b facts.0) (ne_eqb b 127 low)) others.uri;
      no_query = ap (λ t. cond (not t) (1 + prefix_len (λ c. not (c == 63)) id) 0) (ne_eqb b 63 facts.3) ∙ omega (arith, others.no_query);
      no_slash = ap (λ t. t || list_any (λ c. c == 47) id) (ne_eqb b 47 facts.2) ∙ others.no_slash;
      ascii = first_small b id (omega (arith, facts.1)) others.ascii;
    }
  where
    first_small : (b : ℕ) (id : List ℕ) → b < 128 → ((i : ℕ) → get_or id i 0 < 128) → (i : ℕ) → get_or (b ∷ id) i 0 < 128
    first_small b id h others zero = h
    first_small b id h others (suc i) = others i

-- ---- numerals

digit_inside : (ds : List ℕ) → list_all is_ascii_digit ds ≡ true → after Inside ds ≡ Some Inside
digit_inside [] h = refl
digit_inside (d ∷ ds) h =
    let parts = both_true (is_ascii_digit d) (list_all is_ascii_digit ds) h in
    let low : 48 ≤ d = grind (arith, parts.0) in
    let feed : d ≢ 10 = omega arith in
    ap (λ t. ended_or None (if t then Some AfterFeed else Some Inside) (λ next. after next ds)) (ne_eqb d 10 feed) ∙ digit_inside ds parts.1

digit_no_ows : (d : ℕ) → is_ascii_digit d ≡ true → is_ows d ≡ false
digit_no_ows d h = grind arith

digits_front : (ds : List ℕ) → list_all is_ascii_digit ds ≡ true → skip_ows ds ≡ ds
digits_front [] h = refl
digits_front (d ∷ ds) h =
    let parts = both_true (is_ascii_digit d) (list_all is_ascii_digit ds) h in
    ap (λ t. if t then skip_ows ds else d ∷ ds) (digit_no_ows d parts.0)

digits_back : (ds : List ℕ) → list_all is_ascii_digit ds ≡ true → list_all is_ascii_digit (reverse ds) ≡ true
digits_back [] h = refl
digits_back (d ∷ ds) h =
    let parts = both_true (is_ascii_digit d) (list_all is_ascii_digit ds) h in
    ap (list_all is_ascii_digit) (reverse-append (d ∷ []) ds) ∙ list_all-append is_ascii_digit (reverse ds) (d ∷ []) ∙ ap₂ (λ a b. a && b) (digits_back ds parts.1) (ap (λ t. t && true) parts.0)

digits_trimmed : (ds : List ℕ) → list_all is_ascii_digit ds ≡ true → trim_ows (32 ∷ ds) ≡ ds
digits_trimmed ds h = trim_ows_space ds (digits_front ds h) (digits_front (reverse ds) (digits_back ds h))

digit_value_byte : (ds : List ℕ) → list_all is_ascii_digit ds ≡ true → list_all is_value_byte (32 ∷ ds) ≡ true
digit_value_byte [] h = refl
digit_value_byte (d ∷ ds) h =
    let parts = both_true (is_ascii_digit d) (list_all is_ascii_digit ds) h in
    let here : is_value_byte d ≡ true = grind (arith, parts.0) in
    ap₂ (λ x y. x && y) here (digit_value_byte ds parts.1)

length_is : (n : ℕ) → n ≤ 65536 → length_in (decimal n) ≡ Some n
length_is n h =
    let digits : list_all is_ascii_digit (decimal n) ≡ true = decimal_passes n (omega arith) in
    let some : 1 ≤ length (decimal n) = decimal_nonempty n (omega arith) in
    let few : length (decimal n) ≤ 19 = omega (arith, length-decimal-le 5 n (omega arith) (omega arith) (omega arith)) in
    let value : digits_value 10 (decimal n) ≡ n = (decimal_is_IsNumeral n (omega arith)).1 in
    ap (λ t. if t then Some (digits_value 10 (decimal n)) else None) (ap₂ (λ a b. a && b) (le-leb 1 _ some) (ap₂ (λ a b. a && b) (le-leb _ 19 few) digits)) ∙ ap Some value

-- ---- where a head ends

after-append : (s t : Scan) (a b : List ℕ) → after s a ≡ Some t → after s (a ++ b) ≡ after t b
after-append s t [] b e = ap (λ (u : Scan). after u b) (same s t e)
  where
    same : (s t : Scan) → Some s ≡ Some t → s ≡ t
    same s t e = cc
after-append s t (x ∷ a) b e = by (step s x) e (λ u. after-append u t a b)
  where
    by : (o : Option Scan) → ended_or None o (λ u. after u a) ≡ Some t → ((u : Scan) → after u a ≡ Some t → after u (a ++ b) ≡ after t b) → ended_or None o (λ u. after u (a ++ b)) ≡ after t b
    by None h again = cc
    by (Some u) h again = again u h

drop_front : (a b : List ℕ) → drop (length a) (a ++ b) ≡ b
drop_front [] b = refl
drop_front (x ∷ a) b = drop_front a b

-- nothing more stands in no bytes
no_more : IsNext [] waits
no_more = refl

-- a request whose head is these bytes and whose body is those
one_request : (front body : List ℕ) (h : RequestHead) (going : Going) (segment : List ℕ) → after Before front ≡ Some AfterReturn → length front ≤ 8000 → blank (front ++ 10 ∷ []) ≡ 0
    → IsHead (front ++ 10 ∷ []) h → verdict_of (parts_of h) ≡ Goes going segment → going.size ≡ length body
    → Requests (front ++ 10 ∷ body) (record { message = record { route = going.route; segment = segment; body = body; close = going.close }; size = length (front ++ 10 ∷ body) } ∷ []) waits
one_request front body h going segment scan short starts is verdict size =
    let head : List ℕ = front ++ 10 ∷ [] in
    let k = length front + 1 in
    let long : length head ≡ k = omega (arith, length-append front (10 ∷ [])) in
    let bytes : head ++ body ≡ front ++ 10 ∷ body = append_assoc front (10 ∷ []) body in
    let found : head_end (take 8192 head) ≡ Some k = ap head_end (take_all 8192 head (omega (arith, long))) ∙ end-more Before AfterReturn front [] 10 scan refl in
    let end : head_end (take 8192 (head ++ body)) ≡ Some k = head_end_stays 8192 k head body found in
    let whole : take k head ≡ head = take_all k head (omega (arith, long)) in
    let at : head_at (head ++ body) k ≡ head = head_at_stays head body k (omega (arith, long)) ∙ ap (λ x. drop (blank x) x) whole ∙ ap (λ n. drop n head) starts in
    let judged : IsVerdict (head_at (head ++ body) k) (Goes going segment) = subst (λ x. IsVerdict x (Goes going segment)) (sym at) (inr (h, is, sym verdict)) in
    let total : length (front ++ 10 ∷ body) ≡ k + length body = omega (arith, length-append front (10 ∷ body)) in
    let rest : drop k (head ++ body) ≡ body = ap (λ n. drop n (head ++ body)) (sym long) ∙ drop_front head body in
    let m : Message = record { route = going.route; segment = segment; body = body; close = going.close } in
    let fits : nat_le (k + going.size) (length (head ++ body)) ≡ true = le-leb _ _ (omega (arith, size, length-append head body, long)) in
    let taken : take going.size (drop k (head ++ body)) ≡ body = ap₂ (λ n xs. take n xs) size rest ∙ take_all (length body) body (omega arith) in
    let next : behind (head ++ body) k (Goes going segment) ≡ takes (length (front ++ 10 ∷ body)) m =
    taken_as (k + going.size) (length (front ++ 10 ∷ body)) (nat_le (k + going.size) (length (head ++ body))) fits (omega (arith, total, size)) going.route segment (take going.size (drop k (head ++ body))) body going.close taken in
    let first : IsNext (head ++ body) (takes (length (front ++ 10 ∷ body)) m) = subst (λ o. IsNextAt o (head ++ body) (takes (length (front ++ 10 ∷ body)) m)) (sym end) (Goes going segment, judged, sym next) in
    record {
      rest = [];
      splits = (subst (λ x. IsNext x (takes (length (front ++ 10 ∷ body)) m)) bytes first, drop_all (length (front ++ 10 ∷ body)) (front ++ 10 ∷ body) (omega arith));
      next = no_more;
      is_last = tt;
    }
  where
    taken_as : (a b : ℕ) (t : Bool) → t ≡ true → a ≡ b → (route : Route) (segment xs ys : List ℕ) (close : Bool) → xs ≡ ys
        → (if t then takes a (record { route = route; segment = segment; body = xs; close = close }) else waits) ≡ takes b (record { route = route; segment = segment; body = ys; close = close })
    taken_as a b true holds same route segment xs ys close e = ap₂ (λ n bs. takes n (record { route = route; segment = segment; body = bs; close = close })) same e
    taken_as a b false holds same route segment xs ys close e = absurd (false≢true holds)

-- ---- the fields

host_field : Field
host_field = record { name = codes "Host"; raw = codes " a"; end = crlf }

length_field : ℕ → Field
length_field n = record { name = codes "Content-Length"; raw = 32 ∷ decimal n; end = crlf }

token : (bytes : List ℕ) → 0 < length bytes → list_all is_token_byte bytes ≡ true → IsToken bytes
token bytes some h = (some, AllPass-from_list_all is_token_byte bytes h)

host_is_field : IsField host_field
unfolding host_field is_token_byte
host_is_field = record { name = token (codes "Host") (omega arith) refl; raw = AllPass-from_list_all is_value_byte (codes " a") refl }

length_is_field : (n : ℕ) → n ≤ 65536 → IsField (length_field n)
unfolding length_field is_token_byte
length_is_field n h = record {
  name = token (codes "Content-Length") (omega arith) refl;
  raw = AllPass-from_list_all is_value_byte (32 ∷ decimal n) (digit_value_byte (decimal n) (decimal_passes n (omega arith)));
}

one_field : (f : Field) → IsField f → All IsField (f ∷ [])
one_field f h zero d low = h
one_field f h (suc k) d low = absurd (omega arith)

two_fields : (f g : Field) → IsField f → IsField g → All IsField (f ∷ g ∷ [])
two_fields f g h i zero d low = h
two_fields f g h i (suc zero) d low = i
two_fields f g h i (suc (suc k)) d low = absurd (omega arith)

-- ---- the page

page_front : List ℕ
page_front = codes "GET / HTTP/1.1" ++ 13 ∷ 10 ∷ codes "Host: a" ++ 13 ∷ 10 ∷ 13 ∷ []

page_head : RequestHead
page_head = record { blank = []; method = codes "GET"; target = codes "/"; minor = 1; line_end = crlf; fields = host_field ∷ []; last = crlf }

page_printed : page_front ++ 10 ∷ [] ≡ print_request page_head ++ []
unfolding page_front page_head host_field print_request
page_printed = refl

page_is_head : IsHead (page_front ++ 10 ∷ []) page_head
unfolding page_head is_token_byte
page_is_head = (
  (
    record {
      method = token (codes "GET") (omega arith) refl;
      target = (omega arith, AllPass-from_list_all is_uri_byte (codes "/") refl);
      target_text = IsUtf8-from_ascii (codes "/") slash;
      minor = omega arith;
      fields = one_field host_field host_is_field;
    },
    page_printed,
  ),
  omega arith,
)
  where
    slash : (i : ℕ) → get_or (codes "/") i 0 < 128
    slash zero = omega arith
    slash (suc i) = omega arith

page_goes : verdict_of (parts_of page_head) ≡ Goes (record { route = Page; size = 0; close = false }) []
unfolding page_head host_field trim_ows
page_goes = refl

page_scanned : after Before page_front ≡ Some AfterReturn
unfolding page_front
page_scanned = refl

page_starts : blank (page_front ++ 10 ∷ []) ≡ 0
unfolding page_front
page_starts = refl

page_short : length page_front ≤ 8000
unfolding page_front
page_short = omega arith

page_bytes : (words : List ℕ) → request words page ≡ page_front ++ 10 ∷ []
unfolding request page_front
page_bytes words = refl

-- ---- the others

-- `POST /`, the letter of the route, `/`
post_opens : ℕ → List ℕ
post_opens x = codes "POST /" ++ x ∷ 47 ∷ []

post_middle : List ℕ
post_middle = codes " HTTP/1.1" ++ 13 ∷ 10 ∷ codes "Host: a" ++ 13 ∷ 10 ∷ codes "Content-Length: "

post_front : ℕ → List ℕ → ℕ → List ℕ
post_front x id n = post_opens x ++ (id ++ (post_middle ++ (decimal n ++ 13 ∷ 10 ∷ 13 ∷ [])))

post_head : ℕ → List ℕ → ℕ → RequestHead
post_head x id n = record { blank = []; method = codes "POST"; target = 47 ∷ x ∷ 47 ∷ id; minor = 1; line_end = crlf; fields = host_field ∷ length_field n ∷ []; last = crlf }

empty_line_printed : (n : List ℕ) → (n ++ 13 ∷ 10 ∷ 13 ∷ []) ++ 10 ∷ [] ≡ ((n ++ 13 ∷ 10 ∷ []) ++ []) ++ 13 ∷ 10 ∷ []
empty_line_printed n =
    append_assoc n (13 ∷ 10 ∷ 13 ∷ []) (10 ∷ []) ∙ sym (ap (λ t. t ++ 13 ∷ 10 ∷ []) (append-nil (n ++ 13 ∷ 10 ∷ [])) ∙ append_assoc n (13 ∷ 10 ∷ []) (13 ∷ 10 ∷ []))

empty_line_sent : (n body : List ℕ) → ((n ++ 13 ∷ 10 ∷ []) ++ 13 ∷ 10 ∷ []) ++ body ≡ (n ++ 13 ∷ 10 ∷ 13 ∷ []) ++ 10 ∷ body
empty_line_sent n body =
    append_assoc (n ++ 13 ∷ 10 ∷ []) (13 ∷ 10 ∷ []) body ∙ append_assoc n (13 ∷ 10 ∷ []) (13 ∷ 10 ∷ body) ∙ sym (append_assoc n (13 ∷ 10 ∷ 13 ∷ []) (10 ∷ body))

head_printed : (id version end section : List ℕ) → (((id ++ version) ++ end) ++ section) ++ [] ≡ id ++ (version ++ (end ++ section))
head_printed id version end section =
    append-nil (((id ++ version) ++ end) ++ section) ∙ ap (λ t. t ++ section) (append_assoc id version end) ∙ append_assoc id (version ++ end) section ∙ ap (λ t. id ++ t) (append_assoc version end section)

post_printed : (x : ℕ) (id : List ℕ) (n : ℕ) → post_front x id n ++ 10 ∷ [] ≡ print_request (post_head x id n) ++ []
unfolding post_front post_opens post_middle post_head host_field length_field print_request
post_printed x id n =
    let lengths : List ℕ = ((decimal n ++ 13 ∷ 10 ∷ []) ++ []) ++ 13 ∷ 10 ∷ [] in
    let printed = head_printed id (codes " HTTP/1.1") (13 ∷ 10 ∷ []) (codes "Host: a" ++ 13 ∷ 10 ∷ (codes "Content-Length: " ++ lengths)) in
    ap (λ t. codes "POST /" ++ x ∷ 47 ∷ t) (append_assoc id (post_middle ++ (decimal n ++ 13 ∷ 10 ∷ 13 ∷ [])) (10 ∷ []) ∙ ap (λ t. id ++ (post_middle ++ t)) (empty_line_printed (decimal n)) ∙ sym printed)

-- the letter of a route
record Letter (x : ℕ) (route : Route) : Type 0 where
  scan : after Before (post_opens x) ≡ Some Inside
  uri : is_uri_byte x ≡ true
  small : x < 128
  no_query : (x == 63) ≡ false
  method : method_of route ≡ Post
  goes : (id : List ℕ) → nat_lt 3 (suc (suc (suc (length id)))) ≡ true → list_any (λ b. b == 47) id ≡ false → route_of (47 ∷ x ∷ 47 ∷ id) ≡ Some route

events : Letter 101 Events
unfolding post_opens
events = record { scan = refl; uri = refl; small = omega arith; no_query = refl; method = refl; goes = λ id long none. rw (long, none) refl }

quits : Letter 113 Quit
unfolding post_opens
quits = record { scan = refl; uri = refl; small = omega arith; no_query = refl; method = refl; goes = λ id long none. rw (long, none) refl }

post_scanned : (x : ℕ) (route : Route) (id : List ℕ) (n : ℕ) → Letter x route → Plain id → n ≤ 65536 → after Before (post_front x id n) ≡ Some AfterReturn
unfolding post_front post_middle
post_scanned x route id n l p h =
    after-append Before Inside (post_opens x) _ l.scan ∙ after-append Inside Inside id _ p.inside
    ∙ after-append Inside Inside (decimal n) (13 ∷ 10 ∷ 13 ∷ []) (digit_inside (decimal n) (decimal_passes n (omega arith)))

post_short : (x : ℕ) (id : List ℕ) (n : ℕ) → length id ≤ 100 → n ≤ 65536 → length (post_front x id n) ≤ 8000
unfolding post_front post_opens post_middle
post_short x id n few h =
    let digits : length (decimal n) ≤ 5 = length-decimal-le 5 n (omega arith) (omega arith) (omega arith) in
    omega (arith, length-append id (post_middle ++ (decimal n ++ 13 ∷ 10 ∷ 13 ∷ [])), length-append (decimal n) (13 ∷ 10 ∷ 13 ∷ []))

post_is_head : (x : ℕ) (route : Route) (id : List ℕ) (n : ℕ) → Letter x route → Plain id → n ≤ 65536 → IsHead (post_front x id n ++ 10 ∷ []) (post_head x id n)
unfolding post_head is_token_byte
post_is_head x route id n l p h = (
  (
    record {
      method = token (codes "POST") (omega arith) refl;
      target = (omega arith, AllPass-from_list_all is_uri_byte (47 ∷ x ∷ 47 ∷ id) (ap₂ (λ a b. a && b) l.uri p.uri));
      target_text = IsUtf8-from_ascii (47 ∷ x ∷ 47 ∷ id) (ascii x id l.small p.ascii);
      minor = omega arith;
      fields = two_fields host_field (length_field n) host_is_field (length_is_field n h);
    },
    post_printed x id n,
  ),
  omega arith,
)
  where
    ascii : (x : ℕ) (id : List ℕ) → x < 128 → ((i : ℕ) → get_or id i 0 < 128) → (i : ℕ) → get_or (47 ∷ x ∷ 47 ∷ id) i 0 < 128
    ascii x id h others zero = omega arith
    ascii x id h others (suc zero) = h
    ascii x id h others (suc (suc zero)) = omega arith
    ascii x id h others (suc (suc (suc i))) = others i

post_path : (x : ℕ) (route : Route) (id : List ℕ) → Letter x route → Plain id → path_of (47 ∷ x ∷ 47 ∷ id) ≡ 47 ∷ x ∷ 47 ∷ id
post_path x route id l p =
    let count : prefix_len (λ b. not (b == 63)) (47 ∷ x ∷ 47 ∷ id) ≡ 3 + length id = ap (λ t. 1 + cond (not t) (1 + (1 + prefix_len (λ b. not (b == 63)) id)) 0) l.no_query ∙ omega (arith, p.no_query) in
    take_all (prefix_len (λ b. not (b == 63)) (47 ∷ x ∷ 47 ∷ id)) (47 ∷ x ∷ 47 ∷ id) (omega (arith, count))

-- what is decided, step by step
abbrev run : Bool → Result (Option ℕ) Refusal → Option Route → (Route → Bool) → Bool → Bool → Result Going Refusal
run host len to named free close = do
  _ ← check host Head
  length ← len
  route ← ok_or to Path
  _ ← check (named route) (WrongMethod (method_of route))
  _ ← check free Coding
  size ← size_of route length
  _ ← check (nat_le size 65536) TooLarge
  Ok (record { route = route; size = size; close = close })

sized : (route : Route) (n : ℕ) → size_of route (Some n) ≡ Ok n
sized Page n = refl
sized Events n = refl
sized Quit n = refl

-- what is decided where each step goes on
ran : (host : Bool) (len : Result (Option ℕ) Refusal) (to : Option Route) (named : Route → Bool) (free : Bool) (close : Bool) (route : Route) (n : ℕ)
    → host ≡ true → len ≡ Ok (Some n) → to ≡ Some route → named route ≡ true → free ≡ true → nat_le n 65536 ≡ true → close ≡ false
    → run host len to named free close ≡ Ok (record { route = route; size = n; close = false })
ran host len to named free close route n host_is len_is to_is named_is free_is fits close_is =
    ap₂ (λ h l. run h l to named free close) host_is len_is
    ∙ ap₂ (λ t c. run true (Ok (Some n)) t named free c) to_is close_is
    ∙ ap₂ (λ m f. check m (WrongMethod (method_of route)) >>= (λ u. check f Coding >>= (λ v. size_of route (Some n) >>= (λ size. check (nat_le size 65536) TooLarge >>= (λ w. Ok (record { route = route; size = size; close = false })))))) named_is free_is
    ∙ ap (λ r. r >>= (λ size. check (nat_le size 65536) TooLarge >>= (λ w. Ok (record { route = route; size = size; close = false })))) (sized route n)
    ∙ ap (λ b. check b TooLarge >>= (λ w. Ok (record { route = route; size = n; close = false }))) fits

-- what the parts of the head decide
post_decides : (x : ℕ) (route : Route) (id : List ℕ) (n : ℕ) → Letter x route → Plain id → 0 < length id → n ≤ 65536 → decide (parts_of (post_head x id n)) ≡ Ok (record { route = route; size = n; close = false })
unfolding post_head host_field length_field
post_decides x route id n l p some h =
    let fields = (parts_of (post_head x id n)).fields in
    let digits : list_all is_ascii_digit (decimal n) ≡ true = decimal_passes n (omega arith) in
    let long : nat_lt 3 (suc (suc (suc (length id)))) ≡ true = lt-ltb 3 _ (omega (arith, some)) in
    let goes : route_of (path_of (47 ∷ x ∷ 47 ∷ id)) ≡ Some route = ap route_of (post_path x route id l p) ∙ l.goes id long p.no_slash in
    let named : bytes_eq (codes "POST") (method_name (method_of route)) ≡ true = ap (λ m. bytes_eq (codes "POST") (method_name m)) l.method in
    let size : body_length (values_of (codes "content-length") fields) ≡ Ok (Some n) = ap (λ v. body_length (v ∷ [])) (digits_trimmed (decimal n) digits) ∙ ap (λ o. elim o [ None ↦ Err Head | Some m ↦ Ok (Some m) ]) (length_is n h) in
    ran (has_host 1 (values_of (codes "host") fields)) (body_length (values_of (codes "content-length") fields)) (route_of (path_of (47 ∷ x ∷ 47 ∷ id))) (λ r. bytes_eq (codes "POST") (method_name (method_of r))) (has_no_coding (values_of (codes "transfer-encoding") fields)) (closes 1 fields) route n
    refl size goes named refl (le-leb n 65536 h) refl

to_segment : (x : ℕ) (route : Route) (id : List ℕ) (n : ℕ) → Letter x route → Plain id → Goes (record { route = route; size = n; close = false }) (segment_of (post_head x id n).target) ≡ Goes (record { route = route; size = n; close = false }) id
unfolding post_head
to_segment x route id n l p = ap (λ t. Goes (record { route = route; size = n; close = false }) (drop 3 t)) (post_path x route id l p)

post_goes : (x : ℕ) (route : Route) (id : List ℕ) (n : ℕ) → Letter x route → Plain id → 0 < length id → n ≤ 65536 → verdict_of (parts_of (post_head x id n)) ≡ Goes (record { route = route; size = n; close = false }) id
post_goes x route id n l p some h =
    ap (verdict_by (parts_of (post_head x id n))) (post_decides x route id n l p some h) ∙ to_segment x route id n l p

post_starts : (x : ℕ) (id : List ℕ) (n : ℕ) → blank (post_front x id n ++ 10 ∷ []) ≡ 0
unfolding post_front post_opens
post_starts x id n = refl

-- the request that a body is sent with
post_one : (x : ℕ) (route : Route) (id body : List ℕ) → Letter x route → Plain id → length id ≡ 36 → length body ≤ 65536
    → Requests (post_front x id (length body) ++ 10 ∷ body) (record { message = record { route = route; segment = id; body = body; close = false }; size = length (post_front x id (length body) ++ 10 ∷ body) } ∷ []) waits
post_one x route id body l p count h =
    one_request (post_front x id (length body)) body (post_head x id (length body)) (record { route = route; size = length body; close = false }) id
    (post_scanned x route id (length body) l p h) (post_short x id (length body) (omega (arith, count)) h) (post_starts x id (length body)) (post_is_head x route id (length body) l p h) (post_goes x route id (length body) l p (omega (arith, count)) h) refl

index_length : (n : ℕ) (f : ℕ → ℕ) → length (by_index n f) ≡ n
unfolding by_index
index_length zero f = refl
index_length (suc n) f = length-append (by_index n f) (f n ∷ []) ∙ omega (arith, index_length n f)

identifier_length : (xs : List ℕ) → length (hyphenated_text lower xs) ≡ 36
identifier_length xs = index_length 36 _

-- the bytes behind a path, where they begin with the text of an identifier
sent : (id n body : List ℕ)
    → id ++ ((line (codes " HTTP/1.1") ++ (line (codes "Host: a") ++ (line (codes "Content-Length: " ++ n) ++ line []))) ++ body)
    ≡ (id ++ (post_middle ++ (n ++ 13 ∷ 10 ∷ 13 ∷ []))) ++ 10 ∷ body
unfolding post_middle
sent id n body =
    ap (λ t. id ++ (post_middle ++ t)) (empty_line_sent n body) ∙ sym (append_assoc id (post_middle ++ (n ++ 13 ∷ 10 ∷ 13 ∷ [])) (10 ∷ body))

report_bytes : (words : List ℕ) (s : ℕ) (body : List ℕ) → request words (report s body) ≡ post_front 101 (hyphenated_text lower (identifier_of words s)) (length body) ++ 10 ∷ body
unfolding request post_front post_opens
report_bytes words s body = ap (λ t. codes "POST /e/" ++ t) (sent (hyphenated_text lower (identifier_of words s)) (decimal (length body)) body)

quit_bytes : (words : List ℕ) (s : ℕ) → request words (quit s) ≡ post_front 113 (hyphenated_text lower (identifier_of words s)) 0 ++ 10 ∷ []
unfolding request post_front post_opens
quit_bytes words s = ap (λ t. codes "POST /q/" ++ t) (sent (hyphenated_text lower (identifier_of words s)) (decimal 0) [])

pub are_meant : RequestsAreMeant
are_meant words page h =
    subst (λ bytes. Requests bytes (record { message = meant words page; size = length bytes } ∷ []) waits) (sym (page_bytes words))
    (one_request page_front [] page_head (record { route = Page; size = 0; close = false }) [] page_scanned page_short page_starts page_is_head page_goes refl)
are_meant words (report s body) h =
    let id = hyphenated_text lower (identifier_of words s) in
    subst (λ bytes. Requests bytes (record { message = meant words (report s body); size = length bytes } ∷ []) waits) (sym (report_bytes words s body))
    (post_one 101 Events id body events (plain id (identifier_plain (identifier_of words s))) (identifier_length (identifier_of words s)) h)
are_meant words (quit s) h =
    let id = hyphenated_text lower (identifier_of words s) in
    subst (λ bytes. Requests bytes (record { message = meant words (quit s); size = length bytes } ∷ []) waits) (sym (quit_bytes words s))
    (post_one 113 Quit id [] quits (plain id (identifier_plain (identifier_of words s))) (identifier_length (identifier_of words s)) (omega arith))
