-- Each reported call is told as it stands to the calls that the script made.
use Rattle.std.specs.Prelude.{◌≡◌, ℕ, zero, suc, ◌+◌, ◌==◌, ◌&&◌, ◌≤◌, Bool, true, false, not, is_some, nat_eq, if◌then◌else◌, Option, None, Some, List, [], ◌∷◌, drop, length, option_and_then, option_map, slice_get}
use Rattle.std.proofs.Common.{refl, sym, ap, ◌∙◌, true≢false}
use Rattle.std.proofs.lemmas.Bool.{eq-eqb, eqb-true, le-leb, leb-true}
use Rattle.std.proofs.lemmas.Option.{none-some, same_Some, slice_get-map}
use lib.Pointwise.{pointwise, bytes_decides}
use Rattle.rip_calls.specs.Calls.{Calls, front_callback, front_text}
use Rattle.rip_host.specs.declared.browser.Browser.{Browser}
use Rattle.rip_host.specs.Waiting.{is_full}
use Rattle.rip_replica.specs.declared.items.page_host.Position.TheVariants as position
use Rattle.rip_replica.specs.Rules.{IsNextCall, StandsSo, TellsPositions}
use Rattle.rip_browser.specs.Calls.{has_callback, is_text, made_texts}
use Rattle.rip_browser.specs.Visits.{browser_rules}

-- the first that waits is the one at the place of those taken
get-drop : {A : Type 0} (xs : List A) (k : ℕ) → slice_get (drop k xs) 0 ≡ slice_get xs k
get-drop xs zero = refl
get-drop [] (suc k) = refl
get-drop (x ∷ xs) (suc k) = get-drop xs k

next-text : (c : Calls) → front_text c ≡ slice_get (made_texts c) c.taken
next-text c = ap (option_map (λ m. m.text)) (get-drop c.made c.taken) ∙ sym (slice_get-map (λ m. m.text) c.made c.taken)

callback-there : (c : Calls) → is_some (front_callback c) ≡ has_callback c c.taken
callback-there c = ap (λ o. is_some (option_and_then (λ m. m.callback) o)) (get-drop c.made c.taken)

text-is : (o : Option (List ℕ)) (text : List ℕ) → is_text o text ≡ true → o ≡ Some text
text-is None text e = absurd (true≢false (sym e))
text-is (Some made) text e = ap Some ((bytes_decides made text).0 e)

is-text : (o : Option (List ℕ)) (text : List ℕ) → o ≡ Some text → is_text o text ≡ true
is-text None text e = absurd (none-some text e)
is-text (Some made) text e = (bytes_decides made text).1 (same_Some made text e)

-- by what each of the tests comes to: of the number, the text, the callback and the replies that wait
stands-by : (a b c d : Bool) (made : List (List ℕ)) (calls_back : ℕ → Bool) (taken undelivered most number : ℕ) (text : List ℕ)
    → (a ≡ true → number ≡ taken + 1) → (number ≡ taken + 1 → a ≡ true)
    → (b ≡ true → IsNextCall made taken text) → (IsNextCall made taken text → b ≡ true)
    → c ≡ calls_back taken → (d ≡ true → most ≤ undelivered) → (most ≤ undelivered → d ≡ true)
    → StandsSo made calls_back taken undelivered most number text
    (if not a then position.NotNext else if b then (if c && d then position.TooMany else position.Served) else position.Other)
stands-by false b c d made calls_back taken undelivered most number text next last is reads back full fills = λ e. true≢false (sym (last e))
stands-by true false c d made calls_back taken undelivered most number text next last is reads back full fills = (next refl, λ e. true≢false (sym (reads e)))
stands-by true true true true made calls_back taken undelivered most number text next last is reads back full fills = (next refl, is refl, (sym back, full refl))
stands-by true true true false made calls_back taken undelivered most number text next last is reads back full fills =
    (next refl, is refl, λ r. true≢false (sym (fills r.1)))
stands-by true true false d made calls_back taken undelivered most number text next last is reads back full fills =
    (next refl, is refl, λ r. true≢false (sym (back ∙ r.0)))

pub tells : (s : Browser) → TellsPositions browser_rules s
tells s number text =
    stands-by (number == s.calls.taken + 1) (is_text (front_text s.calls) text) (is_some (front_callback s.calls)) (is_full s.undelivered)
    (made_texts s.calls) (has_callback s.calls) s.calls.taken (length s.undelivered.replies) s.undelivered.most number text
    (eqb-true number (s.calls.taken + 1)) (eq-eqb number (s.calls.taken + 1))
    (λ e. sym (next-text s.calls) ∙ text-is (front_text s.calls) text e)
    (λ e. is-text (front_text s.calls) text (next-text s.calls ∙ e))
    (callback-there s.calls)
    (leb-true s.undelivered.most (length s.undelivered.replies)) (le-leb s.undelivered.most (length s.undelivered.replies))
