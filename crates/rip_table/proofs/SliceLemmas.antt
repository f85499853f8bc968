-- A session that lives goes on for a slice.
use Rattle.std.proofs.Common.{◌≡◌, List, [], ◌++◌, map, Vec, Global, Option, Some, None, sym, ap, subst, ◌∙◌}
use Rattle.rip_wire.specs.Answers.{served_of, Served}
use Rattle.rip_wire.specs.declared.answer.ServedCall.{ServedCall}
use Rattle.rip_log.specs.Entries.{recorded_of}
use Rattle.rip_log.specs.declared.entry.Entry.{Entry}
use Rattle.rip_history.specs.Parts.{Meaning}
use Rattle.rip_history.specs.Services.{Called, Service, answered_calls, served_entries}
use Rattle.rip_history.specs.Stages.{Stage, Resumed}
use Rattle.rip_history.specs.Standings.{when_done}
use Rattle.rip_history.specs.declared.standing.Standing.{Standing}
use Rattle.rip_history.specs.declared.sessions.Made.{Made}
use Rattle.rip_history.specs.declared.sessions.Progress.{Progress}
use Rattle.rip_history.specs.declared.sessions.Progress.TheVariants.{Busy, Finished}
use Rattle.rip_history.specs.declared.sessions.Slice.{Slice}
use Rattle.rip_table.specs.Seats.{IsSettled, IsAfter, IsGivenUp, LivingSlice, SeatSlice, SliceOf}
use Rattle.rip_table.specs.declared.roll.seat.Advanced.{Advanced}
use Rattle.rip_table.specs.declared.roll.seat.Legacy.{Legacy}
use Rattle.rip_table.specs.declared.roll.seat.Living.{Living}
use Rattle.rip_table.specs.declared.roll.seat.Seat.{Seat}

-- a list that was left is empty where it is this one
pub emptied : {A : Type 0} (v w : Vec A Global) → v ≡ w → w.items ≡ [] → v.items ≡ []
emptied v w same none = (λ i. (same i).items) ∙ none

module _ {T : Type 0} where
  -- what was served is noted behind what was noted before, or handed on
  pub settled_after : (p : Progress) (old mid new : Living T) (kept : List ServedCall) (calls : List Served) (legacy : Option Legacy)
      → mid.standing ≡ old.standing → mid.notes.opening ≡ old.notes.opening → mid.notes.told ≡ old.notes.told → mid.notes.making.items ≡ []
      → map served_of kept ≡ map served_of old.notes.making.items ++ calls → IsSettled p kept mid new legacy
      → IsAfter p calls legacy old new
  settled_after Busy old mid new kept calls legacy standing opening told none served (nothing, same, is, of, had, has) = (
    nothing,
    is ∙ standing,
    record {
      opening = of ∙ opening;
      told = (λ i. ((had ∙ told) i).items);
      making = ap (map served_of) has ∙ served;
    },
  )
  settled_after (Finished None) old mid new kept calls legacy standing opening told none served (nothing, same, is, of, has, had) = (
    nothing,
    is ∙ ap (λ (s : Standing). when_done s.last None s) standing,
    record {
      opening = of ∙ opening;
      told = ap (map served_of) has ∙ served;
      making = (λ i. (had i).items) ∙ none;
    },
  )
  settled_after (Finished (Some ending)) old mid new kept calls legacy standing opening told none served (same, (left, some, of, has)) = record {
    left = left;
    some = some;
    opening = of ∙ opening;
    told = ap (map served_of) has ∙ served;
  }

  settled-session : (p : Progress) (kept : List ServedCall) (mid new : Living T) (legacy : Option Legacy) → IsSettled p kept mid new legacy
      → new.session ≡ mid.session
  settled-session Busy kept mid new legacy s = s.1
  settled-session (Finished None) kept mid new legacy s = s.1
  settled-session (Finished (Some ending)) kept mid new legacy s = s.0

  -- what a slice makes of a session that lives
  pub living_slice : (stands : T → Stage → Type 0) (m : Meaning) (st : Stage) (meant : Service) (calls : List Called) (slice : Slice)
      (old mid new : Living T) (before after : Made) (advanced : Advanced) (Replies : List Called → Type 0)
      → mid.standing ≡ old.standing → mid.notes.opening ≡ old.notes.opening → mid.notes.told ≡ old.notes.told → mid.notes.making.items ≡ []
      → before.entries.items ≡ [] → before.served.items ≡ old.notes.making.items
      → advanced.batch ≡ old.standing.last → advanced.entries.items ≡ after.entries.items
      → Resumed m st meant calls slice before after advanced.progress (stands mid.session) Replies
      → IsSettled advanced.progress after.served.items mid new advanced.legacy
      → LivingSlice m st meant calls slice old new advanced stands Replies
  living_slice stands m st meant calls slice old mid new before after advanced Replies standing opening told none no_entries making batch entries r s = record {
    parts = r.parts;
    given = r.given;
    next = r.next;
    goes_on = r.goes_on;
    replied = r.replied;
    how_far = r.how_far;
    at_stage =
        subst (λ (x : T). stands x r.next) (sym (settled-session advanced.progress after.served.items mid new advanced.legacy s)) r.stands;
    replies = r.replies;
    batch = batch;
    entries =
        ap (map recorded_of) entries ∙ r.entries
        ∙ ap (λ (t : List Entry). map recorded_of t ++ served_entries slice.turn slice.session r.parts r.given) no_entries;
    after =
        settled_after advanced.progress old mid new after.served.items (answered_calls r.parts r.given) advanced.legacy standing opening told none
        (r.served ∙ ap (λ (t : List ServedCall). map served_of t ++ answered_calls r.parts r.given) making) s;
  }

  -- and of its seat, where that is given up if it ended
  pub slice_of : (stands : T → Stage → Type 0) (m : Meaning) (st : Stage) (meant : Service) (calls : List Called) (slice : Slice)
      (old mid new : Seat T) (advanced : Advanced) (Replies : List Called → Type 0) → SeatSlice m st meant calls slice old mid advanced stands Replies
      → IsGivenUp advanced.progress advanced.batch mid new → SliceOf m st meant calls slice old new advanced stands Replies
  slice_of stands m st meant calls slice old mid new advanced Replies s left = record {
    before = s.before;
    was = s.was;
    held = s.held;
    went_on = s.went_on;
    left = subst (λ (x : Seat T). IsGivenUp advanced.progress advanced.batch x new) s.is left;
  }
