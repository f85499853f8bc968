-- A call that is reported as the next is served, or stopped.
use Rattle.std.proofs.Common.{◌≡◌, ℕ, zero, suc, ◌+◌, ◌<◌, Bool, true, false, List, [], ◌∷◌, drop, Option, refl, sym, ap, subst, ◌∙◌, arith}
use Rattle.std.specs.Prelude.{Some, None, option_map, slice_get, nat_lt, is_some, if◌then◌else◌}
use Rattle.std.proofs.lemmas.Bool.{ltb-true}
use Rattle.std.proofs.lemmas.Option.{slice_get-map}
use Rattle.rip_app.specs.App.{Loaded}
use Rattle.rip_calls.specs.Calls.{Calls, front_callback, front_text, number_at}
use Rattle.rip_heap.specs.World.{World}
use Rattle.rip_host.specs.declared.browser.Browser.{Browser}
use Rattle.rip_replica.specs.Items.{call_plan}
use Rattle.rip_replica.specs.Rules.{IsNextCall, StandsSo}
use Rattle.rip_replica.specs.declared.items.page_host.Position.{Position}
use Rattle.rip_replica.specs.declared.items.page_host.Position.TheVariants as position
use Rattle.rip_eval_rows.specs.declared.close.Close.{Close}
use Rattle.rip_eval_rows.specs.declared.close.Close.TheVariants.{Fine, Stopped}
use Rattle.rip_eval_rows.specs.declared.completion.Stop.TheVariants.{Limit as AtLimit}
use Rattle.rip_base.specs.declared.value.Limit.TheVariants.{Replies}
use Rattle.rip_eval_rows.specs.Evaluation.{Reached}
use Rattle.rip_eval_rows.specs.Started.{Started}
use Rattle.rip_replica.specs.Play.{Played, Closes, play}
use Rattle.rip_browser.specs.Calls.{has_callback, made_texts, position_of}
use Rattle.rip_browser.specs.Positions.{tells}
use Rattle.rip_wire.specs.Calls.{call_text}
use Rattle.rip_session.specs.Tasks.{reports}
use Rattle.rip_session.specs.Application.{doing_of}
use Rattle.rip_client.specs.Truth.{Waiting}
use Rattle.rip_law_replica.specs.Truthful.{IsFineOrStopped, ServesNext}
use Rattle.rip_law_served.specs.Honest.{next_in}

-- ---- where the call stands

get_drop : {A : Type 0} (xs : List A) (k : ℕ) → slice_get (drop k xs) 0 ≡ slice_get xs k
get_drop xs zero = refl
get_drop [] (suc k) = refl
get_drop (x ∷ xs) (suc k) = get_drop xs k

next_text : (c : Calls) → front_text c ≡ slice_get (made_texts c) c.taken
next_text c = ap (option_map (λ m. m.text)) (get_drop c.made c.taken) ∙ sym (slice_get-map (λ m. m.text) c.made c.taken)

-- the call at hand
abbrev IsAtHand : Position → Type 0
IsAtHand position.NotNext = ⊥
IsAtHand position.Other = ⊥
IsAtHand position.TooMany = Unit {0}
IsAtHand position.Served = Unit {0}

at_hand_by : (p : Position) (made : List (List ℕ)) (calls_back : ℕ → Bool) (taken undelivered most number : ℕ) (text : List ℕ) → StandsSo made calls_back taken undelivered most number text p → number ≡ taken + 1 → IsNextCall made taken text → IsAtHand p
at_hand_by position.NotNext made calls_back taken undelivered most number text h is next = h is
at_hand_by position.Other made calls_back taken undelivered most number text h is next = h.1 next
at_hand_by position.TooMany made calls_back taken undelivered most number text h is next = tt
at_hand_by position.Served made calls_back taken undelivered most number text h is next = tt

at_hand : (s : Browser) (number : ℕ) (text : List ℕ) → number ≡ s.calls.taken + 1 → front_text s.calls ≡ Some text → IsAtHand (position_of s number text)
at_hand s number text is front =
    at_hand_by (position_of s number text) (made_texts s.calls) (has_callback s.calls) s.calls.taken _ _ number text (tells s number text) is (sym (next_text s.calls) ∙ front)

-- ---- how it closes

same_close : {S : Type 0} (a b : Close) (gs hs : List (S → S)) (f u g v : ℕ) (w x : World) (s r : S) → ◌≡◌ {A = Played S} (Closes a gs f u w s) (Closes b hs g v x r) → a ≡ b
same_close a b gs hs f u g v w x s r e = cc

call_closes : {S : Type 0} (run : Started → World → S → ℕ → ℕ → Reached S) (full n : ℕ) (p : Position) (w x : World) (s r : S) (change : S → S) (close : Close) (more : List (S → S)) (fuel left : ℕ) → IsAtHand p → play run full (call_plan n p w s) (change ∷ []) full full ≡ Closes close more fuel left x r → IsFineOrStopped close
call_closes run full n position.NotNext w x s r change close more fuel left at is = absurd at
call_closes run full n position.Other w x s r change close more fuel left at is = absurd at
call_closes run full n position.TooMany w x s r change close more fuel left at is = subst IsFineOrStopped (same_close (Stopped n (AtLimit Replies)) close (change ∷ []) more full full fuel left w x s r is) tt
call_closes run full n position.Served w x s r change close more fuel left at is = subst IsFineOrStopped (same_close Fine close [] more full full fuel left w x (change s) r is) tt

-- ---- the call that is read off a page

-- it is the front of the queue, and has the number behind those taken
abbrev IsFront : Calls → Waiting → Type 0
IsFront c next = (c.taken < 18446744073709551615) × (next.number ≡ c.taken + 1) × (front_text c ≡ Some next.text)

front_by : (c : Calls) (low : Bool) (text : Option (List ℕ)) (back : Bool) (next : Waiting) → nat_lt c.taken 18446744073709551615 ≡ low → front_text c ≡ text
    → (if low then option_map (λ t. record { number = c.taken + 1; text = t; calls_back = back }) text else None) ≡ Some next → IsFront c next
front_by c false text back next low_is text_is e = absurd (none e)
  where
    none : ◌≡◌ {A = Option Waiting} None (Some next) → ⊥
    none e = cc
front_by c true None back next low_is text_is e = absurd (none e)
  where
    none : ◌≡◌ {A = Option Waiting} None (Some next) → ⊥
    none e = cc
front_by c true (Some t) back next low_is text_is e = (ltb-true c.taken 18446744073709551615 low_is, sym (ap (λ (w : Waiting). w.number) same), text_is ∙ ap (λ (w : Waiting). Some w.text) same)
  where
    same : ◌≡◌ {A = Waiting} (record { number = c.taken + 1; text = t; calls_back = back }) next
    same = cc

front_of : (s : Browser) (next : Waiting) → next_in s ≡ Some next → IsFront s.calls next
front_of s next e = front_by s.calls (nat_lt s.calls.taken 18446744073709551615) (front_text s.calls) (is_some (front_callback s.calls)) next refl refl e

pub serves_next : (app : Loaded) (seed time : ℕ) → ServesNext (doing_of app seed time) reports next_in
serves_next app seed time batch n w s g c item close more fuel left x r next told is =
    let front = front_of s c next in
    let number : number_at c.number ≡ s.calls.taken + 1 = omega (arith, front.0, front.1) in
    let d = doing_of app seed time in
    call_closes d.run d.full n (position_of s (number_at c.number) (call_text told.name told.args)) w x s r (d.serve batch g) close more fuel left
    (at_hand s (number_at c.number) (call_text told.name told.args) number (front.2 ∙ ap Some told.text))
    (ap (λ i. play d.run d.full (d.plan batch (reports i) n w s) (d.serve batch g ∷ []) d.full d.full) (sym told.is) ∙ is)
