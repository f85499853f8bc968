-- Where all calls that were made have the text of a call in range, they have after each answer too.
use Rattle.std.proofs.Common.{◌≡◌, inl, inr, ℕ, Bool, true, false, cond, List, [], ◌∷◌, ◌++◌, Option, None, Some, Result, Ok, Err, length, refl, sym, subst}
use Rattle.std.specs.Prelude.{◌+◌, ◌&&◌, nat_le, if◌then◌else◌}
use Rattle.std.specs.List.{AllByRecursion, list_all}
use Rattle.std.proofs.lemmas.Bool.{leb-true}
use Rattle.rip_base.specs.declared.value.Fault.{Fault}
use Rattle.rip_base.specs.declared.value.Limit.TheVariants.{Cells, Queue}
use Rattle.rip_base.specs.declared.value.Span.{Span}
use Rattle.rip_base.specs.declared.value.Value.{Value}
use Rattle.rip_base.specs.declared.value.Value.TheVariants.{Undefined, Null, Bool as Boolean, Num, NaN, Text, Object}
use Rattle.rip_values.specs.Pool.{text_at}
use Rattle.rip_heap.specs.declared.holder.Holder.{Holder}
use Rattle.rip_heap.specs.declared.holder.Holder.TheVariants.{PlainObject, ArrayObject, OtherObject}
use Rattle.rip_heap.specs.declared.host.HostDone.{HostDone}
use Rattle.rip_heap.specs.declared.host.HostDone.TheVariants as host
use Rattle.rip_heap.specs.Holders.{holder_of}
use Rattle.rip_heap.specs.World.{World, object_at, paid}
use Rattle.rip_calls.specs.Calls.{Calls, MadeCall, used, with_call}
use Rattle.rip_data.specs.Datum.{utf8_of}
use Rattle.rip_wire.specs.Calls.{IsCallText}
use Rattle.rip_wire.specs.Names.{IsName, is_name_letter}
use Rattle.rip_convert.specs.Arguments.{call_text}
use Rattle.rip_convert.specs.Told.{IsListCall}
use Rattle.rip_convert.proofs.Calling.{lists_are_told}
use Rattle.rip_host.specs.declared.browser.Browser.{Browser}
use Rattle.rip_host.specs.Listening.{is_spent}
use Rattle.rip_host.specs.Ripley.{call_callback, call_judged, call_name, call_with, is_array, is_array_holder, is_call_name}
use Rattle.rip_law_browser.specs.Laws.{AreMadeInRange, CallsStayInRange}
use Rattle.rip_law_browser.proofs.KeepsAnswers.{calls_stay}

-- ---- the name and the arguments

named : (text : List ℕ) → is_call_name text ≡ true → IsName text
named text h = by (nat_le 1 (length text)) (nat_le (length text) 64) (list_all is_name_letter text) refl refl refl h
  where
    by : (a b c : Bool) → nat_le 1 (length text) ≡ a → nat_le (length text) 64 ≡ b → list_all is_name_letter text ≡ c → a && b && c ≡ true → IsName text
    by true true true some few letters h = record { not_empty = leb-true 1 (length text) some; short = leb-true (length text) 64 few; letters = letters }
    by true true false some few letters h = absurd (cc)
    by true false c some few letters h = absurd (cc)
    by false b c some few letters h = absurd (cc)

name_of : (w : World) (v : Value) (span : Span) → call_name w v ≡ Some span → IsName (text_at w.pool span)
name_of w (Text t) span h = by (is_call_name (text_at w.pool t)) refl h
  where
    by : (b : Bool) → is_call_name (text_at w.pool t) ≡ b → ◌≡◌ {A = Option Span} (cond b (Some t) None) (Some span) → IsName (text_at w.pool span)
    by true is e = let same : t ≡ span = cc in subst (λ (s : Span). IsName (text_at w.pool s)) same (named (text_at w.pool t) is)
    by false is e = absurd (cc)
name_of w Undefined span h = absurd (cc)
name_of w Null span h = absurd (cc)
name_of w (Boolean b) span h = absurd (cc)
name_of w (Num z) span h = absurd (cc)
name_of w NaN span h = absurd (cc)
name_of w (Object n) span h = absurd (cc)

holder_is : (holder : Holder) → is_array_holder holder ≡ true → holder ≡ ArrayObject
holder_is ArrayObject h = refl
holder_is PlainObject h = absurd (cc)
holder_is OtherObject h = absurd (cc)

list_call : (w : World) (name : Span) (v : Value) (text : List ℕ) → is_array w v ≡ true → call_text w name v ≡ Ok text → IsListCall (utf8_of (text_at w.pool name)) text
list_call w name (Object n) text is h = lists_are_told w name n text (holder_is (holder_of (object_at w n)) is) h
list_call w name Undefined text is h = absurd (cc)
list_call w name Null text is h = absurd (cc)
list_call w name (Boolean b) text is h = absurd (cc)
list_call w name (Num z) text is h = absurd (cc)
list_call w name NaN text is h = absurd (cc)
list_call w name (Text span) text is h = absurd (cc)

-- a call of a name with a list of arguments is in range
in_range : (w : World) (name : Span) (text : List ℕ) → IsName (text_at w.pool name) → IsListCall (utf8_of (text_at w.pool name)) text → IsCallText text
in_range w name text is call = record {
  name = text_at w.pool name;
  args = call.0;
  is_name = is;
  are_args = record { are = call.1.0.made; shallow = call.1.0.shallow; short = call.1.0.short };
  is = sym call.1.1;
}

-- ---- the calls

-- the calls of an answer
abbrev calls_of : HostDone × World × Browser → Calls
calls_of a = (let t = a.2 in t.calls)

with_more : (ms : List MadeCall) (m : MadeCall) → AllByRecursion (λ (m : MadeCall). IsCallText m.text) ms → IsCallText m.text → AllByRecursion (λ (m : MadeCall). IsCallText m.text) (ms ++ m ∷ [])
with_more [] m all one = (one, tt)
with_more (x ∷ ms) m all one = (all.0, with_more ms m all.1 one)

judged_range : (w : World) (s : Browser) (callback : Option ℕ) (r : Result (List ℕ) Fault) → ((text : List ℕ) → r ≡ Ok text → IsCallText text) → AreMadeInRange s.calls → AreMadeInRange (calls_of (call_judged w s callback r))
judged_range w s callback (Ok text) told all = by (is_spent w) (nat_le (used s.calls + (length text + 1)) (let c = s.calls in c.limit))
  where
    by : (spent room : Bool)
        → AreMadeInRange (let put : HostDone × World × Calls = if spent then (host.Limit Cells, w, s.calls)
        else if room then (host.Value Undefined, paid 1 w, with_call s.calls text callback) else (host.Limit Queue, w, s.calls) in put.2)
    by true room = all
    by false true = with_more (let c = s.calls in c.made) (record { text = text; callback = callback }) all (told text refl)
    by false false = all
judged_range w s callback (Err fault) told all = all

with_range : (w : World) (s : Browser) (name : Option Span) (array : Bool) (callback : Option (Option ℕ)) (v : Value) → ((span : Span) → name ≡ Some span → IsName (text_at w.pool span)) → is_array w v ≡ array
    → AreMadeInRange s.calls → AreMadeInRange (calls_of (call_with w s name array callback v))
with_range w s None array callback v is list all = all
with_range w s (Some name) false callback v is list all = all
with_range w s (Some name) true None v is list all = all
with_range w s (Some name) true (Some callback) v is list all =
    judged_range w s callback (call_text w name v) (λ text told. in_range w name text (is name refl) (list_call w name v text list told)) all

pub calls_stay_in_range : CallsStayInRange
calls_stay_in_range s w r all = elim (calls_stay s w r) [
  | inl same ↦ subst AreMadeInRange (sym same) all
  | inr is ↦
      subst (λ (a : HostDone × World × Browser). AreMadeInRange (calls_of a)) (sym is.3)
      (with_range w s (call_name w is.0) (is_array w is.1) (call_callback w is.2) is.1 (name_of w is.0) refl all)
]
