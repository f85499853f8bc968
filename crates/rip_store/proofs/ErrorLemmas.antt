-- When the errors `unknown` and `arguments` come.
use Rattle.std.proofs.Common.{◌≡◌, ◌≢◌, ◌↔◌, ℕ, ℤ, List, [], ◌∷◌, ◌++◌, map, length, pos, Bool, true, false, cond, nat_eq, Option, Some, None, Result, Ok, Err, refl, sym, ap, ◌∙◌, true≢false, arith}
use Rattle.std.specs.Prelude.{option_map, option_and_then, nat_le, ⊤}
use Rattle.std.specs.Option.{ok_or}
use Rattle.std.specs.Cmp.Lexicographic.{pointwise, bytes_decides}
use Rattle.std.proofs.lemmas.Bool.Decides.{nat_tests}
use Rattle.rip_data.specs.Datum.{Tree, Elements, elements_of, null, boolean, number, text, array, object, utf8_of}
use Rattle.rip_manifest.specs.declared.function.Function.{Function}
use Rattle.rip_manifest.specs.declared.function.Operation.{Operation}
use Rattle.rip_manifest.specs.declared.function.Operation.TheVariants.{Get, Put, Add, Take, Push, List as ListKeys}
use Rattle.rip_store.specs.declared.refusal.Refusal.{Refusal}
use Rattle.rip_store.specs.declared.refusal.Refusal.TheVariants.{Unknown, Arguments, Range, Full}
use Rattle.rip_store.specs.Places.{Place, Stored, value_at, Change, nothing, keep, remove}
use Rattle.rip_store.specs.Args.{place_of, number_of, one_key, key_and_value, key_and_number, no_key}
use Rattle.rip_store.specs.Operations.{Outcome, ◌>>=◌, or_null, count, keys_under, text_of, kept, is_full, operate, number_or_zero, whole_sum, list_or_empty, short_list, with_last}
use Rattle.rip_store.specs.Apply.{function_named, answer}
use Rattle.rip_store.specs.Laws.{IsKey, AreKey, AreKeyAnd, HaveForm, HasNoFunction, UnknownIsNoFunction, ArgumentsAreNotOfTheForm}

-- ---- a refusal that does not come

abbrev Avoids : {A : Type 0} → Refusal → Result A Refusal → Type 0
Avoids e r = r ≡ Err e → ⊥

avoids_step : {A B : Type 0} (x e : Refusal) (o : Option A) (f : A → Result B Refusal) → (e ≢ x) → ((a : A) → Avoids x (f a)) → Avoids x (ok_or o e >>= f)
avoids_step x e None f apart each = λ h. apart (cc)
avoids_step x e (Some a) f apart each = each a

avoids_kept : (x : Refusal) (s : Stored) (p : Place) (d reply : Tree) → (Full ≢ x) → Avoids x (kept s p d reply)
avoids_kept x s p d reply apart = by (is_full s p)
  where
    by : (b : Bool) → Avoids {A = Outcome} x (cond b (Err Full) (Ok (keep p d, reply)))
    by true = λ h. apart (cc)
    by false = λ h. cc

-- ---- what follows the args in each operation

abbrev after_one : Stored → (Place → Change) → Place → Result Outcome Refusal
after_one s c p = Ok (c p, or_null (value_at s p))

avoids_one : (x : Refusal) (s : Stored) (c : Place → Change) (p : Place) → Avoids x (after_one s c p)
avoids_one x s c p h = cc

abbrev after_put : Stored → Place × Tree → Result Outcome Refusal
after_put s a = kept s a.0 a.1 (boolean true)

abbrev after_sum : Stored → Place → ℤ → Result Outcome Refusal
after_sum s p n = kept s p (number n) (number n)

abbrev after_number : Stored → Place × ℤ → ℤ → Result Outcome Refusal
after_number s a m = ok_or (whole_sum m a.1) Range >>= after_sum s a.0

abbrev after_add : Stored → Place × ℤ → Result Outcome Refusal
after_add s a = ok_or (number_or_zero (value_at s a.0)) Range >>= after_number s a

avoids_add : (x : Refusal) → (Range ≢ x) → (Full ≢ x) → (s : Stored) (a : Place × ℤ) → Avoids x (after_add s a)
avoids_add x range full s a =
    avoids_step x Range (number_or_zero (value_at s a.0)) (after_number s a) range
    (λ m. avoids_step x Range (whole_sum m a.1) (after_sum s a.0) range (λ n. avoids_kept x s a.0 (number n) (number n) full))

abbrev after_list : Stored → Place → Elements → Tree → Result Outcome Refusal
after_list s p es d = kept s p d (number (pos (count es)))

abbrev after_elements : Stored → Place × Tree → Elements → Result Outcome Refusal
after_elements s a es = ok_or (short_list (with_last es a.1)) Full >>= after_list s a.0 (with_last es a.1)

abbrev after_push : Stored → Place × Tree → Result Outcome Refusal
after_push s a = ok_or (list_or_empty (value_at s a.0)) Range >>= after_elements s a

avoids_push : (x : Refusal) → (Range ≢ x) → (Full ≢ x) → (s : Stored) (a : Place × Tree) → Avoids x (after_push s a)
avoids_push x range full s a =
    avoids_step x Range (list_or_empty (value_at s a.0)) (after_elements s a) range
    (λ es. avoids_step x Full (short_list (with_last es a.1)) (after_list s a.0 (with_last es a.1)) full (λ d. avoids_kept x s a.0 d (number (pos (count (with_last es a.1)))) full))

abbrev replied : Tree → Result Outcome Refusal
replied d = Ok (nothing, d)

avoids_replied : (x : Refusal) (d : Tree) → Avoids x (replied d)
avoids_replied x d h = cc

abbrev after_keys : Stored → Place → Result Outcome Refusal
after_keys s p = ok_or (short_list (elements_of (map text_of (keys_under p s)))) Range >>= replied

avoids_keys : (x : Refusal) → (Range ≢ x) → (s : Stored) (p : Place) → Avoids x (after_keys s p)
avoids_keys x range s p = avoids_step x Range (short_list (elements_of (map text_of (keys_under p s)))) replied range (avoids_replied x)

-- ---- names

no_function : (fs : List Function) (name : List ℕ) → function_named fs name ≡ None → HasNoFunction fs name
no_function [] name h = tt
no_function (f ∷ fs) name h = by (pointwise nat_eq f.name name) refl h (no_function fs name)
  where
    by : (b : Bool) → pointwise nat_eq f.name name ≡ b → cond b (Some f) (function_named fs name) ≡ None → (function_named fs name ≡ None → HasNoFunction fs name) → HasNoFunction (f ∷ fs) name
    by true e g more = cc
    by false e g more = (λ same. true≢false (sym ((bytes_decides f.name name).1 same) ∙ e), more g)

named_none : (fs : List Function) (name : List ℕ) → HasNoFunction fs name → function_named fs name ≡ None
named_none [] name h = refl
named_none (f ∷ fs) name h = by (pointwise nat_eq f.name name) refl (named_none fs name h.1)
  where
    by : (b : Bool) → pointwise nat_eq f.name name ≡ b → function_named fs name ≡ None → cond b (Some f) (function_named fs name) ≡ None
    by true e more = absurd (h.0 ((bytes_decides f.name name).0 e))
    by false e more = more

-- ---- keys

key_read : (prefix : Place) (t : Tree) (p : Place) → place_of prefix t ≡ Some p → IsKey t
key_read prefix null p h = cc
key_read prefix (boolean b) p h = cc
key_read prefix (number z) p h = cc
key_read prefix (text u) p h = by (nat_le (length (utf8_of u)) 64) refl h
  where
    by : (b : Bool) → nat_le (length (utf8_of u)) 64 ≡ b → cond b (Some (prefix ++ utf8_of u)) None ≡ Some p → IsKey (text u)
    by true e g = (u, (refl, grind (arith, nat_tests)))
    by false e g = cc
key_read prefix (array es) p h = cc
key_read prefix (object fs) p h = cc

key_there : (prefix : Place) (t : Tree) → IsKey t → (p : Place) × (place_of prefix t ≡ Some p)
key_there prefix t h =
    let short : nat_le (length (utf8_of h.0)) 64 ≡ true = grind (arith, nat_tests, h.1.1) in
    (prefix ++ utf8_of h.0, ap (place_of prefix) h.1.0 ∙ ap (λ b. cond b (Some (prefix ++ utf8_of h.0)) None) short)

-- ---- args

one_key_read : (prefix : Place) (args : List Tree) (p : Place) → one_key prefix args ≡ Some p → AreKey args
one_key_read prefix [] p h = cc
one_key_read prefix (k ∷ []) p h = (k, (refl, key_read prefix k p h))
one_key_read prefix (k ∷ v ∷ ts) p h = cc

one_key_there : (prefix : Place) (args : List Tree) → AreKey args → (p : Place) × (one_key prefix args ≡ Some p)
one_key_there prefix args h =
    let w = key_there prefix h.0 h.1.1 in
    (w.0, ap (one_key prefix) h.1.0 ∙ w.1)

abbrev pair_with : Tree → Place → Place × Tree
pair_with d p = (p, d)

key_and_value_read : (prefix : Place) (args : List Tree) (a : Place × Tree) → key_and_value prefix args ≡ Some a → AreKeyAnd (λ v. v ≡ a.1) args
key_and_value_read prefix [] a h = cc
key_and_value_read prefix (k ∷ []) a h = cc
key_and_value_read prefix (k ∷ v ∷ []) a h = by (place_of prefix k) refl h
  where
    by : (o : Option Place) → place_of prefix k ≡ o → option_map (pair_with v) o ≡ Some a → AreKeyAnd (λ w. w ≡ a.1) (k ∷ v ∷ [])
    by None e g = cc
    by (Some p) e g = (k, (v, (refl, (key_read prefix k p e, cc))))
key_and_value_read prefix (k ∷ v ∷ t ∷ ts) a h = cc

key_and_value_there : (prefix : Place) (args : List Tree) (k v : Tree) → args ≡ k ∷ v ∷ [] → IsKey k → (p : Place) × (key_and_value prefix args ≡ Some (p, v))
key_and_value_there prefix args k v is key =
    let w = key_there prefix k key in
    (w.0, ap (key_and_value prefix) is ∙ ap (option_map (pair_with v)) w.1)

number_read : (t : Tree) (n : ℤ) → number_of t ≡ Some n → t ≡ number n
number_read null n h = cc
number_read (boolean b) n h = cc
number_read (number z) n h = cc
number_read (text u) n h = cc
number_read (array es) n h = cc
number_read (object fs) n h = cc

-- ---- the two errors

-- an error that comes exactly where a form is missed
exactly : {A B : Type 0} (o : Option A) (F : Type 0) (f : A → Result B Refusal) → ((a : A) → o ≡ Some a → F) → (F → (a : A) × (o ≡ Some a)) → ((a : A) → Avoids Arguments (f a)) → ((ok_or o Arguments >>= f) ≡ Err Arguments) ↔ (¬ F)
exactly None F f read there each = (λ h form. let w = there form in let none = w.1 in cc, λ not. refl)
exactly (Some a) F f read there each = (λ h. absurd (each a h), λ not. absurd (not (read a refl)))

range_not_arguments : Range ≢ Arguments
range_not_arguments h = cc

full_not_arguments : Full ≢ Arguments
full_not_arguments h = cc

range_not_unknown : Range ≢ Unknown
range_not_unknown h = cc

full_not_unknown : Full ≢ Unknown
full_not_unknown h = cc

arguments_not_unknown : Arguments ≢ Unknown
arguments_not_unknown h = cc

weaker : (args : List Tree) (d : Tree) → AreKeyAnd (λ v. v ≡ d) args → AreKeyAnd (λ v. ⊤) args
weaker args d h = (h.0, (h.1.0, (h.1.1.0, (h.1.1.1.0, tt))))

value_there : (prefix : Place) (args : List Tree) → AreKeyAnd (λ v. ⊤) args → (a : Place × Tree) × (key_and_value prefix args ≡ Some a)
value_there prefix args h =
    let w = key_and_value_there prefix args h.0 h.1.0 h.1.1.0 h.1.1.1.0 in
    ((w.0, h.1.0), w.1)

abbrev pair_number : Place → ℤ → Place × ℤ
pair_number p n = (p, n)

abbrev with_number : Place × Tree → Option (Place × ℤ)
with_number a = option_map (pair_number a.0) (number_of a.1)

number_form : (prefix : Place) (args : List Tree) (a : Place × ℤ) → key_and_number prefix args ≡ Some a → HaveForm Add args
number_form prefix args a h = by (key_and_value prefix args) refl h
  where
    at : (b : Place × Tree) → key_and_value prefix args ≡ Some b → (o : Option ℤ) → number_of b.1 ≡ o → option_map (pair_number b.0) o ≡ Some a → HaveForm Add args
    at b e None f g = cc
    at b e (Some n) f g =
        let r = key_and_value_read prefix args b e in
        (r.0, (r.1.0, (r.1.1.0, (r.1.1.1.0, (n, r.1.1.1.1 ∙ number_read b.1 n f)))))

    by : (o : Option (Place × Tree)) → key_and_value prefix args ≡ o → option_and_then with_number o ≡ Some a → HaveForm Add args
    by None e g = cc
    by (Some b) e g = at b e (number_of b.1) refl g

number_there : (prefix : Place) (args : List Tree) → HaveForm Add args → (a : Place × ℤ) × (key_and_number prefix args ≡ Some a)
number_there prefix args h =
    let n = h.1.1.1.1.0 in
    let w = key_and_value_there prefix args h.0 h.1.0 h.1.1.0 h.1.1.1.0 in
    ((w.0, n), ap (option_and_then with_number) w.1 ∙ ap (λ t. option_map (pair_number w.0) (number_of t)) h.1.1.1.1.1)

nothing_read : (prefix : Place) (args : List Tree) (p : Place) → no_key prefix args ≡ Some p → args ≡ []
nothing_read prefix [] p h = refl
nothing_read prefix (t ∷ ts) p h = cc

operate_form : (op : Operation) (s : Stored) (prefix : Place) (args : List Tree) → (operate op s prefix args ≡ Err Arguments) ↔ (¬ (HaveForm op args))
operate_form Get s prefix args = exactly (one_key prefix args) (AreKey args) (after_one s (λ p. nothing)) (one_key_read prefix args) (one_key_there prefix args) (avoids_one Arguments s (λ p. nothing))
operate_form Put s prefix args = exactly (key_and_value prefix args) (AreKeyAnd (λ v. ⊤) args) (after_put s) (λ a h. weaker args a.1 (key_and_value_read prefix args a h)) (value_there prefix args) (λ a. avoids_kept Arguments s a.0 a.1 (boolean true) full_not_arguments)
operate_form Add s prefix args = exactly (key_and_number prefix args) (HaveForm Add args) (after_add s) (number_form prefix args) (number_there prefix args) (avoids_add Arguments range_not_arguments full_not_arguments s)
operate_form Take s prefix args = exactly (one_key prefix args) (AreKey args) (after_one s remove) (one_key_read prefix args) (one_key_there prefix args) (avoids_one Arguments s remove)
operate_form Push s prefix args = exactly (key_and_value prefix args) (AreKeyAnd (λ v. ⊤) args) (after_push s) (λ a h. weaker args a.1 (key_and_value_read prefix args a h)) (value_there prefix args) (avoids_push Arguments range_not_arguments full_not_arguments s)
operate_form ListKeys s prefix args = exactly (no_key prefix args) (args ≡ []) (after_keys s) (nothing_read prefix args) (λ h. (prefix, ap (no_key prefix) h)) (avoids_keys Arguments range_not_arguments s)

operate_known : (op : Operation) (s : Stored) (prefix : Place) (args : List Tree) → Avoids Unknown (operate op s prefix args)
operate_known Get s prefix args = avoids_step Unknown Arguments (one_key prefix args) (after_one s (λ p. nothing)) arguments_not_unknown (avoids_one Unknown s (λ p. nothing))
operate_known Put s prefix args = avoids_step Unknown Arguments (key_and_value prefix args) (after_put s) arguments_not_unknown (λ a. avoids_kept Unknown s a.0 a.1 (boolean true) full_not_unknown)
operate_known Add s prefix args = avoids_step Unknown Arguments (key_and_number prefix args) (after_add s) arguments_not_unknown (avoids_add Unknown range_not_unknown full_not_unknown s)
operate_known Take s prefix args = avoids_step Unknown Arguments (one_key prefix args) (after_one s remove) arguments_not_unknown (avoids_one Unknown s remove)
operate_known Push s prefix args = avoids_step Unknown Arguments (key_and_value prefix args) (after_push s) arguments_not_unknown (avoids_push Unknown range_not_unknown full_not_unknown s)
operate_known ListKeys s prefix args = avoids_step Unknown Arguments (no_key prefix args) (after_keys s) arguments_not_unknown (avoids_keys Unknown range_not_unknown s)

-- a call of the function that is found, or of none
abbrev called : Stored → List Tree → Option Function → Result Outcome Refusal
called s args o = ok_or o Unknown >>= (λ f. operate f.op s (utf8_of f.prefix) args)

pub unknown_is_no_function : UnknownIsNoFunction
unknown_is_no_function fs s name args = by (function_named fs name) refl
  where
    by : (o : Option Function) → function_named fs name ≡ o → (called s args o ≡ Err Unknown) ↔ HasNoFunction fs name
    by None e = (λ h. no_function fs name e, λ h. refl)
    by (Some f) e = (λ h. absurd (operate_known f.op s (utf8_of f.prefix) args h), λ h. let none : None ≡ Some f = sym (named_none fs name h) ∙ e in cc)

pub arguments_are_not_of_the_form : ArgumentsAreNotOfTheForm
arguments_are_not_of_the_form fs s name args f e =
    let same : answer fs s name args ≡ operate f.op s (utf8_of f.prefix) args = ap (called s args) e in
    let form = operate_form f.op s (utf8_of f.prefix) args in
    (λ h. form.0 (sym same ∙ h), λ h. same ∙ form.1 h)
