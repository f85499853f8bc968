-- The text of a call, from the judging and the data of its arguments.
use Rattle.std.specs.Prelude.{IsTrue, IsSome, unwrap_or}
use Rattle.rip_convert.proofs.Chars.{utf8_nil}
use Rattle.std.proofs.Common.{rules, ◌≡◌, ◌≢◌, ◌↔◌, ℕ, ◌≤◌, nat_le, Bool, true, false, cond, Option, None, Some, Result, Ok, Err, List, [], ◌∷◌, ◌++◌, All, length, refl, sym, ap, subst, ◌∙◌, arith, append_assoc}
use Rattle.std.proofs.lemmas.Bool.{le-leb, leb-true}
use Rattle.json.specs.Print.{quoted}
use Rattle.serde_json.specs.Data.{Data, Items, depth}
use Rattle.serde_json.specs.Data as json
use Rattle.serde_json.specs.Written.{compact_text}
use Rattle.rip_base.specs.declared.value.Span.{Span}
use Rattle.rip_base.specs.declared.value.Value.{Value}
use Rattle.rip_base.specs.declared.value.Fault.{Fault}
use Rattle.rip_base.specs.declared.value.Fault.TheVariants.{BadArgument}
use Rattle.rip_values.specs.Pool.{text_at}
use Rattle.rip_base.specs.declared.value.Value.TheVariants.{Object}
use Rattle.rip_heap.specs.Arrays.{elements_at}
use Rattle.rip_heap.specs.World.{World}
use Rattle.rip_data.specs.Datum.{Tree, Elements, no_elements, element, elements_of, data_of, canonical_text, utf8_of}
use Rattle.rip_data.specs.Datum as datum
use Rattle.rip_convert.specs.Arguments.{text_judged, line_judged, call_line, call_text, arguments_text, fault_of, unless_faulty}
use Rattle.rip_convert.specs.Told.{IsArgument, IsCallOf, CallsAreTold, ListsAreTold}
use Rattle.rip_convert.specs.Written.{added, elements_data, left_after, parts_data, value_data}
use Rattle.rip_convert.proofs.FirstFault.{no_fault}
use Rattle.rip_convert.proofs.Judged.{with_data, walked-same}
use Rattle.rip_convert.proofs.ToldData.{data-told, data-deep}
use Rattle.rip_convert.proofs.Lines.{canonical_line, call_is_line, some_text, call_has_six}

-- the judging, behind the first fault
judged_same : (w : World) (v : Value) (m : Result ℕ Fault) → left_after 8 w v 16384 ≡ m
    → arguments_text w v ≡ unless_faulty (fault_of 8 w v) (text_judged (with_data (value_data 8 w v) m))
judged_same w v m e = ap (λ m. unless_faulty (fault_of 8 w v) (text_judged m)) (walked-same 8 w v 16384 ∙ ap (with_data (value_data 8 w v)) e)

-- where the judging ends at a fault, the first one counts, and that of the judging where there is none
pub judged_err : (w : World) (v : Value) (spent : Fault) → left_after 8 w v 16384 ≡ Err spent → arguments_text w v ≡ Err (unwrap_or (fault_of 8 w v) spent)
judged_err w v spent e = judged_same w v (Err spent) e ∙ by (fault_of 8 w v)
  where
    by : (o : Option Fault) → ◌≡◌ {A = Result (List ℕ) Fault} (unless_faulty o (Err spent)) (Err (unwrap_or o spent))
    by None = refl
    by (Some fault) = refl

pub call_err : (w : World) (name : Span) (v : Value) (fault : Fault) → arguments_text w v ≡ Err fault → call_text w name v ≡ Err fault
call_err w name v fault e = ap (line_judged (utf8_of (text_at w.pool name))) e

call_ok : (w : World) (name : Span) (v : Value) (rest : ℕ) → left_after 8 w v 16384 ≡ Ok rest → call_text w name v ≡ line_judged (utf8_of (text_at w.pool name)) (text_judged (Ok (value_data 8 w v, rest)))
call_ok w name v rest e =
    ap (line_judged (utf8_of (text_at w.pool name)))
    (judged_same w v (Ok rest) e ∙ ap (λ o. unless_faulty {A = List ℕ} o (text_judged (Ok (value_data 8 w v, rest)))) (no_fault w v rest e))

pub call_long : (w : World) (name : Span) (v : Value) (rest : ℕ) → left_after 8 w v 16384 ≡ Ok rest → added (Some []) (compact_text (value_data 8 w v)) ≡ None → call_text w name v ≡ Err BadArgument
call_long w name v rest e long = call_ok w name v rest e ∙ by (nat_le (length (compact_text (value_data 8 w v))) 16384) long
  where
    by : (b : Bool) → ◌≡◌ {A = Option (List ℕ)} (cond b (Some (compact_text (value_data 8 w v))) None) None
        → line_judged (utf8_of (text_at w.pool name)) (cond b (Ok (compact_text (value_data 8 w v))) (Err BadArgument)) ≡ Err BadArgument
    by true h = absurd (cc)
    by false h = refl

pub call_short : (w : World) (name : Span) (v : Value) (rest : ℕ) (text : List ℕ) → left_after 8 w v 16384 ≡ Ok rest → added (Some []) (compact_text (value_data 8 w v)) ≡ Some text → call_text w name v ≡ Ok (call_line (utf8_of (text_at w.pool name)) text)
call_short w name v rest text e short = call_ok w name v rest e ∙ by (nat_le (length (compact_text (value_data 8 w v))) 16384) short
  where
    by : (b : Bool) → ◌≡◌ {A = Option (List ℕ)} (cond b (Some (compact_text (value_data 8 w v))) None) (Some text)
        → line_judged (utf8_of (text_at w.pool name)) (cond b (Ok (compact_text (value_data 8 w v))) (Err BadArgument)) ≡ Ok (call_line (utf8_of (text_at w.pool name)) text)
    by true h = (let same : compact_text (value_data 8 w v) ≡ text = cc in ap (λ t. Ok (call_line (utf8_of (text_at w.pool name)) t)) same)
    by false h = absurd (cc)

pub name_part : (name : List ℕ) → length (quoted name) ≤ 73 → added (Some []) (quoted name) ≡ Some (quoted name)
name_part name h = ap (λ b. cond b (Some (quoted name)) None) (le-leb (length (quoted name)) 16384 (omega (arith, h)))

pub joined : (q t : List ℕ) → ((((91 ∷ []) ++ q) ++ 44 ∷ []) ++ t) ++ 93 ∷ [] ≡ 91 ∷ (q ++ 44 ∷ (t ++ 93 ∷ []))
joined q t = ap (λ l. 91 ∷ l) (append_assoc (q ++ 44 ∷ []) t (93 ∷ []) ∙ append_assoc q (44 ∷ []) (t ++ 93 ∷ []))

-- WHAT IS TOLD

-- the text of a call is that of a datum, which is the data of the arguments
call-told : (w : World) (name : Span) (v : Value) (text : List ℕ) → call_text w name v ≡ Ok text
    → (t : Tree) × (IsArgument t × (data_of t ≡ value_data 8 w v) × (call_line (utf8_of (text_at w.pool name)) (canonical_text t) ≡ text))
call-told w name v text h = by (left_after 8 w v 16384) refl
  where
    spelt : List ℕ
    spelt = utf8_of (text_at w.pool name)

    d : Data
    d = value_data 8 w v

    fits : (rest : ℕ) → left_after 8 w v 16384 ≡ Ok rest → (b : Bool) → nat_le (length (compact_text d)) 16384 ≡ b
        → ◌≡◌ {A = Result (List ℕ) Fault} (line_judged spelt (cond b (Ok (compact_text d)) (Err BadArgument))) (Ok text)
        → (t : Tree) × (IsArgument t × (data_of t ≡ d) × (call_line spelt (canonical_text t) ≡ text))
    fits rest left true short e =
        let t = data-told 8 w v 16384 rest left in
        let few : length (compact_text d) ≤ 16384 = leb-true (length (compact_text d)) 16384 short in
        let line : call_line spelt (compact_text d) ≡ text = cc in (
          t.0,
          (
            record {
              made = t.1.0;
              shallow = subst (λ x. depth x ≤ 8) (sym t.1.1) (data-deep 8 w v);
              short = subst (λ x. length (compact_text x) ≤ 16384) (sym t.1.1) few;
            },
            t.1.1,
            ap (λ x. call_line spelt (compact_text x)) t.1.1 ∙ line,
          ),
        )
    fits rest left false short e = absurd (cc)

    by : (m : Result ℕ Fault) → left_after 8 w v 16384 ≡ m → (t : Tree) × (IsArgument t × (data_of t ≡ d) × (call_line spelt (canonical_text t) ≡ text))
    by (Ok rest) is = fits rest is (nat_le (length (compact_text d)) 16384) refl (sym (call_ok w name v rest is) ∙ h)
    by (Err fault) is = absurd (let e = sym (ap (line_judged spelt) (judged_err w v fault is)) ∙ h in cc)

pub calls_are_told : CallsAreTold
calls_are_told w name v text h = let t = call-told w name v text h in (canonical_text t.0, ((t.0, (t.1.0, refl)), t.1.2))

list_of : (ts : Elements) → (args : List Tree) × (elements_of args ≡ ts)
list_of no_elements = ([], refl)
list_of (element t ts) = let rest = list_of ts in (t ∷ rest.0, ap (element t) rest.1)

-- what has the data of an array is one
array_of : (t : Tree) (ds : Items) → data_of t ≡ json.array ds → (args : List Tree) × (datum.array (elements_of args) ≡ t)
array_of datum.null ds h = absurd (cc)
array_of (datum.boolean b) ds h = absurd (cc)
array_of (datum.number z) ds h = absurd (cc)
array_of (datum.text u) ds h = absurd (cc)
array_of (datum.array ts) ds h = let list = list_of ts in (list.0, ap datum.array list.1)
array_of (datum.object fs) ds h = absurd (cc)

pub lists_are_told : ListsAreTold
lists_are_told w name n text is h =
    let t = call-told w name (Object n) text h in
    let d : value_data 8 w (Object n) ≡ json.array (elements_data (value_data 7 w) (elements_at w n)) = ap (λ holder. parts_data holder (value_data 7 w) w n) is in
    let a = array_of t.0 (elements_data (value_data 7 w) (elements_at w n)) (t.1.1 ∙ d) in
    (a.0, (subst IsArgument (sym a.1) t.1.0, ap (λ x. call_line (utf8_of (text_at w.pool name)) (canonical_text x)) a.1 ∙ t.1.2))

pub line_of_call : (name text : List ℕ) → IsCallOf name text → All (λ byte. byte ≢ 10) text
line_of_call name text h =
    let canonical = h.1.0 in
    let args : All (λ byte. byte ≢ 10) h.0 = subst (All (λ byte. byte ≢ 10)) canonical.1.1 (canonical_line canonical.0 canonical.1.0.made) in
    subst (All (λ byte. byte ≢ 10)) h.1.1 (call_is_line name h.0 args)

pub least_of_call : (name text : List ℕ) → IsCallOf name text → 6 ≤ length text
least_of_call name text h =
    let canonical = h.1.0 in
    let some : 1 ≤ length h.0 = subst (λ l. 1 ≤ length l) canonical.1.1 (some_text canonical.0 canonical.1.0.made) in
    subst (λ l. 6 ≤ length l) h.1.1 (call_has_six name h.0 some)

pub none_of : (o : Option (List ℕ)) (b : Bool) → (IsTrue b ↔ IsSome o) → b ≡ false → o ≡ None
none_of None b h e = refl
none_of (Some t) b h e = absurd (let yes : b ≡ true = h.1 (search rules) in cc)

pub some_of : (o : Option (List ℕ)) (b : Bool) → (IsTrue b ↔ IsSome o) → b ≡ true → o ≡ Some (unwrap_or o [])
some_of None b h e = absurd (let no : false ≡ true = h.0 e in cc)
some_of (Some t) b h e = refl

-- a name that is empty
pub no_name : (w : World) → length (quoted (utf8_of (text_at w.pool (record { start = 0; count = 0 })))) ≤ 73
no_name w = let e : quoted (utf8_of []) ≡ 34 ∷ 34 ∷ [] = ap quoted utf8_nil in omega (arith, ap length e)
