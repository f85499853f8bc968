-- What a session leaves that its batch ended, and that one lives that leaves nothing.
use Rattle.std.proofs.Common.{◌≡◌, ℕ, Bool, true, false, cond, List, map, Option, Some, None, refl, sym, ap, subst, ◌∙◌}
use Rattle.std.specs.Prelude.{is_none, is_some, option_map, Result, IfOk}
use Rattle.std.proofs.lemmas.Bool.{false≢true, eq-eqb, ne_eqb}
use Rattle.std.proofs.lemmas.Option.{same_Some}
use Rattle.rip_log.specs.Entries.{Recorded}
use Rattle.rip_http.specs.declared.answer.HttpAnswer.{HttpAnswer}
use Rattle.rip_base.specs.declared.memory.NoMemory.{NoMemory}
use Rattle.rip_wire.specs.Answers.{said, served_of, answer_text}
use Rattle.rip_wire.specs.declared.answer.ServedCall.{ServedCall}
use Rattle.rip_wire.specs.Reasons.{reason_of}
use Rattle.rip_wire.specs.declared.ending.Ending.{Ending}
use Rattle.rip_wire.specs.declared.ending.Reason.{Reason}
use Rattle.rip_history.specs.Answering.{opening_told, json_answer, batch_body, opening_answer, batch_answer}
use Rattle.rip_history.specs.Requests.{served_in}
use Rattle.rip_history.specs.Standings.{is_live}
use Rattle.rip_history.specs.declared.sessions.Progress.TheVariants.{Finished}
use Rattle.rip_table.specs.Seats.{Leaves}
use Rattle.rip_table.specs.declared.roll.seat.Legacy.{Legacy}
use Rattle.rip_server.specs.Advancing.{IsDoneSo}

some-none : {A : Type 0} (x : A) (o : Option A) → o ≡ Some x → o ≡ None → ⊥
some-none x o e f = false≢true (sym (ap (λ (p : Option _). is_some p) f) ∙ ap (λ (p : Option _). is_some p) e)

left-is : (how : Option Ending) (legacy : Option Legacy) (x : Legacy) (n number : ℕ) (h : List Recorded) → legacy ≡ Some x → Leaves (Finished how) legacy n number h
    → (opening_told n h ≡ Some x.opening) × (map served_of x.told.items ≡ served_in n number h)
left-is None legacy x n number h e leaves = absurd (some-none x legacy e leaves)
left-is (Some ending) legacy x n number h e leaves =
    let same : leaves.left ≡ x = same_Some leaves.left x (sym leaves.some ∙ e) in
    (leaves.opening ∙ ap (λ (y : Legacy). Some y.opening) same, sym (ap (λ (y : Legacy). map served_of y.told.items) same) ∙ leaves.told)

-- the opening, and the calls, as it left them
pub opening_left : (how : Option Ending) (legacy : Option Legacy) (x : Legacy) (n number : ℕ) (h : List Recorded) → legacy ≡ Some x
    → IsDoneSo how legacy n number h → Some x.opening ≡ opening_told n h
opening_left how legacy x n number h e so = sym (left-is how legacy x n number h e so.leaves).0

pub served_left : (how : Option Ending) (legacy : Option Legacy) (x : Legacy) (n number : ℕ) (h : List Recorded) → legacy ≡ Some x
    → IsDoneSo how legacy n number h → map served_of x.told.items ≡ served_in n number h
served_left how legacy x n number h e so = (left-is how legacy x n number h e so.leaves).1

no-ending : (how : Option Ending) (legacy : Option Legacy) (n number : ℕ) (h : List Recorded) → legacy ≡ None → Leaves (Finished how) legacy n number h
    → how ≡ None
no-ending None legacy n number h e leaves = refl
no-ending (Some ending) legacy n number h e leaves = absurd (some-none leaves.left legacy leaves.some e)

-- one that left nothing lives
pub lives_still : (how : Option Ending) (legacy : Option Legacy) (n number : ℕ) (h : List Recorded) → legacy ≡ None
    → (so : IsDoneSo how legacy n number h) → is_live so.standing ≡ true
lives_still how legacy n number h e so =
    ap (λ (o : Option Reason). is_none o) (so.ended ∙ ap (option_map reason_of) (no-ending how legacy n number h e so.leaves))

-- ---- the answer to a batch

-- the opening is batch 0
pub answered_opening : (page : List ℕ) (n number : ℕ) (how : Option Ending) (h : List Recorded) (r : Result HttpAnswer NoMemory) → number ≡ 0
    → IfOk r (λ (a : HttpAnswer). a ≡ opening_answer page n how h false) → IfOk r (λ (a : HttpAnswer). a ≡ batch_answer page n number how h false)
answered_opening page n number how h r zero k =
    subst (λ (t : Bool). IfOk r (λ (a : HttpAnswer). a ≡ cond t (opening_answer page n how h false) (json_answer 200 (batch_body n number how h) false)))
    (sym (eq-eqb number 0 zero)) k

pub answered_batch : (page : List ℕ) (n number : ℕ) (how : Option Ending) (h : List Recorded) (ended : Option Reason) (calls : List ServedCall)
    (body : List ℕ) (a : HttpAnswer) → (number ≡ 0 → ⊥) → ended ≡ option_map reason_of how → map served_of calls ≡ served_in n number h
    → body ≡ answer_text (said number ended calls) → a ≡ json_answer 200 body false → a ≡ batch_answer page n number how h false
answered_batch page n number how h ended calls body a some same told is made =
    made
    ∙ ap (λ (b : List ℕ). json_answer 200 b false) (is ∙ (λ i. answer_text (record { number = number; ended = same i; served = told i })))
    ∙ ap (λ (t : Bool). cond t (opening_answer page n how h false) (json_answer 200 (batch_body n number how h) false)) (sym (ne_eqb number 0 some))
