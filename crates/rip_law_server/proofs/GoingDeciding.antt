-- Whether bytes are a head can be decided, so something stands at the front of any bytes.
use Rattle.std.proofs.Common.{◌≡◌, ◌⊎◌, inl, inr, ℕ, zero, suc, ◌+◌, ◌≤◌, ◌<◌, Bool, true, false, eqb, List, [], ◌∷◌, ◌++◌, length, drop, take, Option, Some, None, refl, sym, ap, ◌∙◌, subst, arith, append-nil, append_assoc}
use Rattle.std.specs.Prelude.{All, IsUtf8}
use Rattle.std.specs.Str.{is_utf8}
use Rattle.std.specs.List.{flat_map, list_all}
use Rattle.std.proofs.lemmas.Bool.{false≢true, eqb-true, eqb-false}
use Rattle.std.proofs.lemmas.List.Elements.{All-cons, All-head, All-nil, All-tail}
use Rattle.std.proofs.lemmas.List.Sums.{AllPass-from_list_all, list_all-from_AllPass}
use Rattle.std.proofs.lemmas.Str.{IsUtf8-from_is_utf8, is_utf8-from_IsUtf8}
use Rattle.httparse.specs.Ascii.{colon, space}
use Rattle.httparse.specs.Grammar.{AllPass, Field, IsField, IsToken, LineEnd, RequestHead, crlf, is_token_byte, is_uri_byte, is_value_byte, lf, print_blank, print_end, print_field, print_request, print_section, print_version}
use Rattle.rip_http.specs.Heads.{head_at, head_end}
use Rattle.rip_http.specs.Stream.{IsNext, IsNextAt, Next, behind}
use Rattle.rip_http.specs.Verdicts.{IsHead, IsVerdict, Verdict, parts_of, verdict_of}

-- it is so, or not
abbrev Known : Type 0 → Type 0
Known A = A ⊎ (A → ⊥)

known-as : {A B : Type 0} → (A → B) → (B → A) → Known A → Known B
known-as f g (inl a) = inl (f a)
known-as f g (inr never) = inr (λ b. never (g b))

known-both : {A B : Type 0} → Known A → Known B → Known (A × B)
known-both (inl a) (inl b) = inl (a, b)
known-both (inl a) (inr never) = inr (λ c. never c.1)
known-both (inr never) k = inr (λ c. never c.0)

known-either : {A B : Type 0} → Known A → Known B → Known (A ⊎ B)
known-either (inl a) k = inl (inl a)
known-either (inr never) (inl b) = inl (inr b)
known-either {A} {B} (inr never) (inr none) = inr by
  where
    by : A ⊎ B → ⊥
    by (inl a) = never a
    by (inr b) = none b

known-bool : (b : Bool) → Known (b ≡ true)
known-bool true = inl refl
known-bool false = inr (λ e. false≢true e)

abbrev first-or : ℕ → List ℕ → ℕ
first-or d [] = d
first-or d (x ∷ xs) = x

no-cons : (x : ℕ) (xs : List ℕ) → x ∷ xs ≡ [] → ⊥
no-cons x xs e = subst IsCons e tt
  where
    IsCons : List ℕ → Type 0
    IsCons [] = ⊥
    IsCons (y ∷ ys) = Unit {0}

known-list : (xs ys : List ℕ) → Known (xs ≡ ys)
known-list [] [] = inl refl
known-list [] (y ∷ ys) = inr (λ e. no-cons y ys (sym e))
known-list (x ∷ xs) [] = inr (λ e. no-cons x xs e)
known-list (x ∷ xs) (y ∷ ys) = by (eqb x y) refl (known-list xs ys)
  where
    by : (b : Bool) → eqb x y ≡ b → Known (xs ≡ ys) → Known (x ∷ xs ≡ y ∷ ys)
    by true e (inl same) = inl (λ i. eqb-true x y e i ∷ same i)
    by true e (inr never) = inr (λ same. never (ap (λ (t : List ℕ). drop 1 t) same))
    by false e k = inr (λ same. eqb-false x y e (ap (λ (t : List ℕ). first-or x t) same))

-- ---- bytes in two parts

abbrev Split : (List ℕ → Type 0) → (List ℕ → Type 0) → List ℕ → Type 0
Split P Q bytes = (xs : List ℕ) × (ys : List ℕ) × (bytes ≡ xs ++ ys) × P xs × Q ys

known-split : (P Q : List ℕ → Type 0) → ((xs : List ℕ) → Known (P xs)) → ((ys : List ℕ) → Known (Q ys)) → (bytes : List ℕ) → Known (Split P Q bytes)
known-split P Q p q [] = known-as there back (known-both (p []) (q []))
  where
    there : P [] × Q [] → Split P Q []
    there (a, b) = ([], [], refl, a, b)

    back : Split P Q [] → P [] × Q []
    back ([], ys, e, a, b) = (a, subst Q (sym e) b)
    back (x ∷ xs, ys, e, a, b) = absurd (no-cons x (xs ++ ys) (sym e))
known-split P Q p q (b ∷ bytes) =
    known-as there back (known-either (known-both (p []) (q (b ∷ bytes))) (known-split (λ xs. P (b ∷ xs)) Q (λ xs. p (b ∷ xs)) q bytes))
  where
    there : (P [] × Q (b ∷ bytes)) ⊎ Split (λ xs. P (b ∷ xs)) Q bytes → Split P Q (b ∷ bytes)
    there (inl (a, c)) = ([], b ∷ bytes, refl, a, c)
    there (inr (xs, ys, e, a, c)) = (b ∷ xs, ys, ap (λ (t : List ℕ). b ∷ t) e, a, c)

    back : Split P Q (b ∷ bytes) → (P [] × Q (b ∷ bytes)) ⊎ Split (λ xs. P (b ∷ xs)) Q bytes
    back ([], ys, e, a, c) = inl (a, subst Q (sym e) c)
    back (x ∷ xs, ys, e, a, c) =
        inr (xs, ys, ap (λ (t : List ℕ). drop 1 t) e, subst (λ (y : ℕ). P (y ∷ xs)) (ap (λ (t : List ℕ). first-or x t) (sym e)) a, c)

-- this byte, and behind it
abbrev Lead : ℕ → (List ℕ → Type 0) → List ℕ → Type 0
Lead b Q bytes = (ys : List ℕ) × (bytes ≡ b ∷ ys) × Q ys

known-lead : (b : ℕ) (Q : List ℕ → Type 0) → ((ys : List ℕ) → Known (Q ys)) → (bytes : List ℕ) → Known (Lead b Q bytes)
known-lead b Q q [] = inr (λ l. no-cons b l.0 (sym l.1))
known-lead b Q q (x ∷ bytes) = by (eqb x b) refl (q bytes)
  where
    by : (t : Bool) → eqb x b ≡ t → Known (Q bytes) → Known (Lead b Q (x ∷ bytes))
    by true e (inl a) = inl (bytes, ap (λ (y : ℕ). y ∷ bytes) (eqb-true x b e), a)
    by true e (inr never) = inr (λ l. never (subst Q (sym (ap (λ (t : List ℕ). drop 1 t) l.1)) l.2))
    by false e k = inr (λ l. eqb-false x b e (ap (λ (t : List ℕ). first-or x t) l.1))

-- ---- the parts of a head

known-pass : (test : ℕ → Bool) (xs : List ℕ) → Known (AllPass test xs)
known-pass test xs = known-as (λ e. AllPass-from_list_all test xs e) (λ a. list_all-from_AllPass test xs a) (known-bool (list_all test xs))

known-some : (xs : List ℕ) → Known (0 < length xs)
known-some [] = inr (λ lt. absurd (omega (arith, lt)))
known-some (x ∷ xs) = inl (omega arith)

known-token : (xs : List ℕ) → Known (IsToken xs)
known-token xs = known-both (known-some xs) (known-pass is_token_byte xs)

abbrev IsTarget : List ℕ → Type 0
IsTarget xs = ((0 < length xs) × AllPass is_uri_byte xs) × IsUtf8 xs

known-target : (xs : List ℕ) → Known (IsTarget xs)
known-target xs =
    known-both (known-both (known-some xs) (known-pass is_uri_byte xs))
    (known-as (λ e. IsUtf8-from_is_utf8 xs e) (λ u. is_utf8-from_IsUtf8 xs u) (known-bool (is_utf8 xs)))

abbrev IsEnd : List ℕ → Type 0
IsEnd xs = (e : LineEnd) × (xs ≡ print_end e)

known-end : (xs : List ℕ) → Known (IsEnd xs)
known-end xs = known-as there back (known-either (known-list xs (print_end crlf)) (known-list xs (print_end lf)))
  where
    there : (xs ≡ print_end crlf) ⊎ (xs ≡ print_end lf) → IsEnd xs
    there (inl e) = (crlf, e)
    there (inr e) = (lf, e)

    back : IsEnd xs → (xs ≡ print_end crlf) ⊎ (xs ≡ print_end lf)
    back (crlf, e) = inl e
    back (lf, e) = inr e

abbrev IsVersion : List ℕ → Type 0
IsVersion xs = (minor : ℕ) × (xs ≡ print_version minor) × (minor ≤ 1)

known-version : (xs : List ℕ) → Known (IsVersion xs)
known-version xs = known-as there back (known-either (known-list xs (print_version 0)) (known-list xs (print_version 1)))
  where
    there : (xs ≡ print_version 0) ⊎ (xs ≡ print_version 1) → IsVersion xs
    there (inl e) = (0, e, omega arith)
    there (inr e) = (1, e, omega arith)

    back : IsVersion xs → (xs ≡ print_version 0) ⊎ (xs ≡ print_version 1)
    back (zero, e, le) = inl e
    back (suc zero, e, le) = inr e
    back (suc (suc n), e, le) = absurd (omega (arith, le))

abbrev IsBlank : List ℕ → Type 0
IsBlank xs = (ends : List LineEnd) × (xs ≡ print_blank ends)

known-blank : (xs : List ℕ) → Known (IsBlank xs)
known-blank [] = inl ([], refl)
known-blank (b ∷ []) = known-as there back (known-list (b ∷ []) (print_end lf))
  where
    there : b ∷ [] ≡ print_end lf → IsBlank (b ∷ [])
    there e = (lf ∷ [], e)

    back : IsBlank (b ∷ []) → b ∷ [] ≡ print_end lf
    back ([], e) = absurd (no-cons b [] e)
    back (crlf ∷ ends, e) = absurd (no-cons 10 (print_blank ends) (ap (λ (t : List ℕ). drop 1 t) (sym e)))
    back (lf ∷ ends, e) = (λ i. first-or b (e i) ∷ [])
known-blank (b ∷ c ∷ bytes) =
    known-as there back (known-either (known-both (known-list (b ∷ []) (10 ∷ [])) (known-blank (c ∷ bytes)))
    (known-both (known-list (b ∷ c ∷ []) (13 ∷ 10 ∷ [])) (known-blank bytes)))
  where
    there : ((b ∷ [] ≡ 10 ∷ []) × IsBlank (c ∷ bytes)) ⊎ ((b ∷ c ∷ [] ≡ 13 ∷ 10 ∷ []) × IsBlank bytes) → IsBlank (b ∷ c ∷ bytes)
    there (inl (e, (ends, is))) = (lf ∷ ends, λ i. first-or b (e i) ∷ is i)
    there (inr (e, (ends, is))) = (crlf ∷ ends, λ i. first-or b (e i) ∷ first-or c (drop 1 (e i)) ∷ is i)

    back : IsBlank (b ∷ c ∷ bytes) → ((b ∷ [] ≡ 10 ∷ []) × IsBlank (c ∷ bytes)) ⊎ ((b ∷ c ∷ [] ≡ 13 ∷ 10 ∷ []) × IsBlank bytes)
    back ([], e) = absurd (no-cons b (c ∷ bytes) e)
    back (lf ∷ ends, e) = inl (λ i. first-or b (e i) ∷ [], (ends, ap (λ (t : List ℕ). drop 1 t) e))
    back (crlf ∷ ends, e) = inr (λ i. first-or b (e i) ∷ first-or c (drop 1 (e i)) ∷ [], (ends, ap (λ (t : List ℕ). drop 2 t) e))

-- ---- fields

abbrev IsLine : List ℕ → Type 0
IsLine xs = (f : Field) × IsField f × (xs ≡ print_field f)

known-line : (xs : List ℕ) → Known (IsLine xs)
known-line xs =
    known-as there back
    (known-split IsToken (Lead colon (Split (AllPass is_value_byte) IsEnd)) known-token
    (known-lead colon (Split (AllPass is_value_byte) IsEnd) (known-split (AllPass is_value_byte) IsEnd (known-pass is_value_byte) known-end)) xs)
  where
    there : Split IsToken (Lead colon (Split (AllPass is_value_byte) IsEnd)) xs → IsLine xs
    there (name, rest, e, token, (more, colons, (raw, last, split, pass, (end, is)))) = (
      record { name = name; raw = raw; end = end },
      record { name = token; raw = pass },
      e ∙ ap (λ (t : List ℕ). name ++ t) (colons ∙ ap (λ (t : List ℕ). colon ∷ t) (split ∙ ap (λ (t : List ℕ). raw ++ t) is))
          ∙ sym (append_assoc name (colon ∷ raw) (print_end end)),
    )

    back : IsLine xs → Split IsToken (Lead colon (Split (AllPass is_value_byte) IsEnd)) xs
    back (f, is, e) = (
      f.name,
      colon ∷ f.raw ++ print_end f.end,
      e ∙ append_assoc f.name (colon ∷ f.raw) (print_end f.end),
      is.name,
      (f.raw ++ print_end f.end, refl, (f.raw, print_end f.end, refl, is.raw, (f.end, refl))),
    )

-- at most so many fields, and the empty line behind them
abbrev IsSection : ℕ → List ℕ → Type 0
IsSection k xs = (fields : List Field) × (last : LineEnd) × All IsField fields × (length fields ≤ k) × (xs ≡ print_section fields last)

known-section : (k : ℕ) (xs : List ℕ) → Known (IsSection k xs)
known-section zero xs = known-as there back (known-end xs)
  where
    there : IsEnd xs → IsSection zero xs
    there (end, e) = ([], end, All-nil IsField, omega arith, e)

    back : IsSection zero xs → IsEnd xs
    back ([], last, are, few, e) = (last, e)
    back (f ∷ fields, last, are, few, e) = absurd (omega (arith, few))
known-section (suc k) xs = known-as there back (known-either (known-end xs) (known-split IsLine (IsSection k) known-line (known-section k) xs))
  where
    there : IsEnd xs ⊎ Split IsLine (IsSection k) xs → IsSection (suc k) xs
    there (inl (end, e)) = ([], end, All-nil IsField, omega arith, e)
    there (inr (line, rest, e, (f, is, same), (fields, last, are, few, section))) = (
      f ∷ fields,
      last,
      All-cons IsField f fields is are,
      omega (arith, few),
      e ∙ (λ i. same i ++ section i) ∙ sym (append_assoc (print_field f) (flat_map print_field fields) (print_end last)),
    )

    back : IsSection (suc k) xs → IsEnd xs ⊎ Split IsLine (IsSection k) xs
    back ([], last, are, few, e) = inl (last, e)
    back (f ∷ fields, last, are, few, e) = inr (
      print_field f,
      print_section fields last,
      e ∙ append_assoc (print_field f) (flat_map print_field fields) (print_end last),
      (f, All-head IsField f fields are, refl),
      (fields, last, All-tail IsField f fields are, omega (arith, few), refl),
    )

-- ---- a head

abbrev Line : List ℕ → Type 0
Line = Split IsVersion (Split IsEnd (IsSection 64))

abbrev Aim : List ℕ → Type 0
Aim = Split IsTarget (Lead space Line)

abbrev Form : List ℕ → Type 0
Form = Split IsBlank (Split IsToken (Lead space Aim))

known-form : (bytes : List ℕ) → Known (Form bytes)
known-form bytes =
    known-split IsBlank (Split IsToken (Lead space Aim)) known-blank
    (known-split IsToken (Lead space Aim) known-token
    (known-lead space Aim
    (known-split IsTarget (Lead space Line) known-target
    (known-lead space Line
    (known-split IsVersion (Split IsEnd (IsSection 64)) known-version
    (known-split IsEnd (IsSection 64) known-end (known-section 64))))))) bytes

-- the parts of a head, the first behind the last
grouped : (b m t v e s : List ℕ) → ((((b ++ m) ++ space ∷ t) ++ space ∷ v) ++ e) ++ s ≡ b ++ (m ++ space ∷ (t ++ space ∷ (v ++ (e ++ s))))
grouped b m t v e s =
    append_assoc (((b ++ m) ++ space ∷ t) ++ space ∷ v) e s
    ∙ append_assoc ((b ++ m) ++ space ∷ t) (space ∷ v) (e ++ s)
    ∙ append_assoc (b ++ m) (space ∷ t) (space ∷ (v ++ (e ++ s)))
    ∙ append_assoc b m (space ∷ (t ++ space ∷ (v ++ (e ++ s))))

head-of : (bytes : List ℕ) → Form bytes → (h : RequestHead) × IsHead bytes h
unfolding print_request
head-of bytes (b, r1, e1, (ends, eb), (m, r2, e2, token, (r3, e3, (t, r4, e4, target, (r5, e5, (v, r6, e6, (minor, ev, le), (l, r7, e7, (end, el), (fields, last, are, few, e8)))))))) = (
  record { blank = ends; method = m; target = t; minor = minor; line_end = end; fields = fields; last = last },
  (
    (
      record { method = token; target = target.0; target_text = target.1; minor = le; fields = are },
      all ∙ sym (grouped (print_blank ends) m t (print_version minor) (print_end end) (print_section fields last)) ∙ sym (append-nil _),
    ),
    few,
  ),
)
  where
    five : r5 ≡ print_version minor ++ (print_end end ++ print_section fields last)
    five = e6 ∙ (λ i. ev i ++ (e7 ∙ (λ j. el j ++ e8 j)) i)

    three : r3 ≡ t ++ space ∷ (print_version minor ++ (print_end end ++ print_section fields last))
    three = e4 ∙ ap (λ (x : List ℕ). t ++ x) (e5 ∙ ap (λ (x : List ℕ). space ∷ x) five)

    all : bytes ≡ print_blank ends ++ (m ++ space ∷ (t ++ space ∷ (print_version minor ++ (print_end end ++ print_section fields last))))
    all = e1 ∙ (λ i. eb i ++ (e2 ∙ ap (λ (x : List ℕ). m ++ x) (e3 ∙ ap (λ (x : List ℕ). space ∷ x) three)) i)

form-of : (bytes : List ℕ) (h : RequestHead) → IsHead bytes h → Form bytes
unfolding print_request
form-of bytes h ((is, e), few) =
    let s = print_section h.fields h.last in
    let l = print_end h.line_end ++ s in
    let v = print_version h.minor ++ l in
    let t = h.target ++ space ∷ v in (
      print_blank h.blank,
      h.method ++ space ∷ t,
      e ∙ append-nil _ ∙ grouped (print_blank h.blank) h.method h.target (print_version h.minor) (print_end h.line_end) s,
      (h.blank, refl),
      (
        h.method,
        space ∷ t,
        refl,
        is.method,
        (
          t,
          refl,
          (
            h.target,
            space ∷ v,
            refl,
            (is.target, is.target_text),
            (
              v,
              refl,
              (
                print_version h.minor,
                l,
                refl,
                (h.minor, refl, is.minor),
                (
                  print_end h.line_end,
                  s,
                  refl,
                  (h.line_end, refl),
                  (h.fields, h.last, is.fields, few, refl),
                ),
              ),
            ),
          ),
        ),
      ),
    )

-- ---- what stands at the front

verdict-of : (bytes : List ℕ) → Known (Form bytes) → (v : Verdict) × IsVerdict bytes v
verdict-of bytes (inl form) = let h = head-of bytes form in (verdict_of (parts_of h.0), inr (h.0, h.1, refl))
verdict-of bytes (inr never) = (_, inl ((λ h is. never (form-of bytes h is)), refl))

next-at : (o : Option ℕ) (bytes : List ℕ) → (next : Next) × IsNextAt o bytes next
next-at None bytes = (_, refl)
next-at (Some n) bytes = let v = verdict-of (head_at bytes n) (known-form (head_at bytes n)) in (behind bytes n v.0, (v.0, v.1, refl))

pub next_of : (bytes : List ℕ) → (next : Next) × IsNext bytes next
next_of bytes = next-at (head_end (take 8192 bytes)) bytes
