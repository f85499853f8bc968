-- Standings, entry by entry.
use Rattle.std.proofs.Common.{◌≡◌, ℕ, Bool, true, false, cond, List, [], ◌∷◌, ◌++◌, Option, Some, None, refl, ap, ◌∙◌, eqb}
use Rattle.std.specs.Prelude.{option_map}
use Rattle.std.proofs.lemmas.Bool.{cond-false}
use Rattle.rip_wire.specs.Reasons.{reason_of}
use Rattle.rip_log.specs.Entries.{Recorded, opened, admitted, served, done, closed, ended}
use Rattle.rip_history.specs.Standings.{when_opened, when_admitted, when_done, when_closed, after_entry, standing_from, standing_of, is_of, entries_of}
use Rattle.rip_history.specs.declared.standing.Standing.{Standing}

from-push : (n : ℕ) (s : Option Standing) (h : List Recorded) (e : Recorded) → standing_from n s (h ++ e ∷ []) ≡ after_entry n (standing_from n s h) e
from-push n s [] e = refl
from-push n s (d ∷ h) e = from-push n (after_entry n s d) h e

pub standings_follow : (n : ℕ) (h : List Recorded) (e : Recorded) → standing_of n (h ++ e ∷ []) ≡ after_entry n (standing_of n h) e
standings_follow n h e = from-push n None h e

-- an entry of another session changes nothing
others-stay : (n : ℕ) (s : Option Standing) (e : Recorded) → is_of n e ≡ false → after_entry n s e ≡ s
others-stay n s (opened turn session id seed time) h = cond-false (eqb session n) (Some when_opened) s h
others-stay n s (admitted turn session b) h = cond-false (eqb session n) (option_map (when_admitted b.number) s) s h
others-stay n s (served turn session number k name args time reply) h = refl
others-stay n s (done turn session number how) h = cond-false (eqb session n) (option_map (when_done number (option_map reason_of how)) s) s h
others-stay n s (closed turn session) h = cond-false (eqb session n) (option_map when_closed s) s h
others-stay n s (ended turn status) h = refl

own-step : (n : ℕ) (s : Option Standing) (e : Recorded) (h : List Recorded) (b : Bool) → is_of n e ≡ b
    → ((t : Option Standing) → standing_from n t h ≡ standing_from n t (entries_of n h))
    → standing_from n (after_entry n s e) h ≡ standing_from n s (cond b (e ∷ entries_of n h) (entries_of n h))
own-step n s e h true is rest = rest (after_entry n s e)
own-step n s e h false is rest = ap (λ (t : Option Standing). standing_from n t h) (others-stay n s e is) ∙ rest s

own-from : (n : ℕ) (h : List Recorded) (s : Option Standing) → standing_from n s h ≡ standing_from n s (entries_of n h)
own-from n [] s = refl
own-from n (e ∷ h) s = own-step n s e h (is_of n e) refl (own-from n h)

pub standings_are_own : (n : ℕ) (h : List Recorded) → standing_of n h ≡ standing_of n (entries_of n h)
standings_are_own n h = own-from n h None
