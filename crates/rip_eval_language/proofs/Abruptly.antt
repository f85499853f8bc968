-- What a row does where an operation has no value is what its outcome says.
use Rattle.std.proofs.Common.{◌≡◌, Ok, Err, ap, sym, ◌∙◌, subst}
use Rattle.rip_base.specs.declared.value.Value.{Value}
use Rattle.rip_heap.specs.declared.class.Class.TheVariants.{ThrownTypeError}
use Rattle.rip_heap.specs.declared.keys.Key.{Key}
use Rattle.rip_heap.specs.declared.outcome.Abrupt.{Abrupt}
use Rattle.rip_heap.specs.declared.outcome.Abrupt.TheVariants.{TypeError, Fault, Limit, Memory}
use Rattle.rip_heap.specs.Outcome.{Answers, Outcome}
use Rattle.rip_heap.specs.World.{World}
use Rattle.rip_ops.specs.Deleting.{IsDeleting}
use Rattle.rip_ops.specs.Keys.{IsKeying, Keying}
use Rattle.rip_ops.specs.Writing.{IsWriting, Writing}
use Rattle.rip_eval_rows.specs.declared.completion.Stop.TheVariants.{Fault as AtFault, Limit as AtLimit}
use Rattle.rip_eval_rows.specs.declared.next.Next.{Next}
use Rattle.rip_eval_rows.specs.declared.part.Part.{Part}
use Rattle.rip_eval_rows.specs.Row.{Halts, Row}
use Rattle.rip_eval_rows.specs.Run.{Calling}
use Rattle.rip_eval_rows.specs.Settle.{settle}
use Rattle.rip_eval_rows.proofs.Settles.{settled}
use Rattle.rip_eval_language.specs.Does.{Does, DoesAnywhere, DoesWithHost, GivesWorld}
use Rattle.rip_eval_language.specs.Reading.{Loaded}
use Rattle.rip_eval_language.specs.Rows.Expressions.{abruptly, with_outcome}
use Rattle.rip_eval_language.specs.Rows.Members.{with_deletion, with_key, with_writing}
use Rattle.rip_eval_language.specs.Rows.Names.{throws}
use Rattle.rip_eval_language.specs.Table.{table}

-- what is done anywhere is done here, as any row that is the same
pub does_here : (p : Loaded) (at : Part) (next : Next) (x : World) (row other : Row) → DoesAnywhere next x row → row ≡ other → Does p at next x other
does_here p at next x row other d e = λ values. d (table p) at values ∙ e

pub does_as : (next : Next) (x : World) (row other : Row) → DoesAnywhere next x row → row ≡ other → DoesAnywhere next x other
does_as next x row other d e = λ t at values. d t at values ∙ e

-- the same where the host is asked for nothing
pub does_with_host : {S : Type 0} (h : Calling S) (p : Loaded) (at : Part) (next : Next) (x : World) (s : S) (row other : Row)
    → DoesAnywhere next x row → row ≡ other → DoesWithHost h p at (Ok next) x s other s
does_with_host h p at next x s row other d e =
    λ values. sym (settled h (table p) at next values x s) ∙ ap (λ r. settle h r s) (d (table p) at values ∙ e)

-- OPERATORS AND BUILT-IN FUNCTIONS

pub outcome_abruptly : (outcome : Outcome) (w x : World) (cause : Abrupt) (go : Value → World → Row) → Answers outcome w (Err cause) x → abruptly cause x ≡ with_outcome outcome w go
outcome_abruptly outcome w x TypeError go h = ap (throws ThrownTypeError) h.1 ∙ ap (λ o. with_outcome o w go) (sym h.0)
outcome_abruptly outcome w x (Fault fault) go h = ap (Halts (AtFault fault)) h.1 ∙ ap (λ o. with_outcome o w go) (sym h.0)
outcome_abruptly outcome w x (Limit limit) go h = ap (Halts (AtLimit limit)) h.1 ∙ ap (λ o. with_outcome o w go) (sym h.0)
outcome_abruptly outcome w x Memory go h = absurd h

pub answers_want_none : (outcome : Outcome) (w x : World) (cause : Abrupt) → Answers outcome w (Err cause) x → cause ≡ Memory → ⊥
answers_want_none outcome w x cause h e = subst (λ cause. Answers outcome w (Err cause) x) e h

pub answered_abruptly : (outcome : Outcome) (w x y : World) (cause : Abrupt) (go : Value → World → Row) (next : Next)
    → Answers outcome w (Err cause) x → DoesAnywhere next y (abruptly cause x) → DoesAnywhere next y (with_outcome outcome w go)
answered_abruptly outcome w x y cause go next h d = does_as next y (abruptly cause x) (with_outcome outcome w go) d (outcome_abruptly outcome w x cause go h)

-- MEMBERS

pub keying_abruptly : (keying : Keying) (w x : World) (cause : Abrupt) (go : Key → World → Row) → IsKeying keying w (Err cause) x → abruptly cause x ≡ with_key keying w go
keying_abruptly keying w x TypeError go h = ap (throws ThrownTypeError) h.1 ∙ ap (λ k. with_key k w go) (sym h.0)
keying_abruptly keying w x (Fault fault) go h = ap (Halts (AtFault fault)) h.1 ∙ ap (λ k. with_key k w go) (sym h.0)
keying_abruptly keying w x (Limit limit) go h = ap (Halts (AtLimit limit)) h.1 ∙ ap (λ k. with_key k w go) (sym h.0)
keying_abruptly keying w x Memory go h = absurd h

pub deletion_abruptly : (writing : Writing) (w x : World) (cause : Abrupt) → IsDeleting writing w (Err cause) x → abruptly cause x ≡ with_deletion writing w
deletion_abruptly writing w x TypeError h = ap (throws ThrownTypeError) h.1 ∙ ap (λ d. with_deletion d w) (sym h.0)
deletion_abruptly writing w x (Fault fault) h = ap (Halts (AtFault fault)) h.1 ∙ ap (λ d. with_deletion d w) (sym h.0)
deletion_abruptly writing w x (Limit limit) h = absurd h
deletion_abruptly writing w x Memory h = absurd h

pub keying_wants_none : (keying : Keying) (w x : World) (cause : Abrupt) → IsKeying keying w (Err cause) x → cause ≡ Memory → ⊥
keying_wants_none keying w x cause h e = subst (λ cause. IsKeying keying w (Err cause) x) e h

pub deletion_wants_none : (writing : Writing) (w x : World) (cause : Abrupt) → IsDeleting writing w (Err cause) x → cause ≡ Memory → ⊥
deletion_wants_none writing w x cause h e = subst (λ cause. IsDeleting writing w (Err cause) x) e h

pub writing_wants_none : (writing : Writing) (w x : World) (cause : Abrupt) → IsWriting writing w (Err cause) x → cause ≡ Memory → ⊥
writing_wants_none writing w x cause h e = subst (λ cause. IsWriting writing w (Err cause) x) e h

writing_row : (writing : Writing) (v : Value) (w x : World) (cause : Abrupt) → IsWriting writing w (Err cause) x → (go : World → Row) → abruptly cause x ≡ with_writing writing v w go
writing_row writing v w x TypeError is go = ap (throws ThrownTypeError) is.1 ∙ ap (λ r. with_writing r v w go) (sym is.0)
writing_row writing v w x (Fault fault) is go = ap (Halts (AtFault fault)) is.1 ∙ ap (λ r. with_writing r v w go) (sym is.0)
writing_row writing v w x (Limit limit) is go = ap (Halts (AtLimit limit)) is.1 ∙ ap (λ r. with_writing r v w go) (sym is.0)
writing_row writing v w x Memory is go = absurd is

-- what a row does instead of going on where a member is not written
pub writing_abruptly : {S : Type 0} (h : Calling S) (writing : Writing) (v : Value) (w x y : World) (s : S) (cause : Abrupt) (next : Next)
    → IsWriting writing w (Err cause) x → DoesAnywhere next y (abruptly cause x) → GivesWorld h (Err next) y s (with_writing writing v w) s
writing_abruptly h writing v w x y s cause next is d =
    λ go t at values. ap (λ r. settle h r s) (sym (d t at values ∙ writing_row writing v w x cause is go)) ∙ settled h t at next values y s
