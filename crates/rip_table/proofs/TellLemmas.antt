-- What a roll answers of its sessions.
use Rattle.std.proofs.Common.{◌≡◌, ℕ, zero, suc, ◌+◌, ◌<◌, ◌≤◌, Bool, true, false, cond, nat_eq, leb, List, [], length, map, Option, Some, None, refl, sym, ap, ◌∙◌, subst, arith}
use Rattle.std.specs.Prelude.{slice_get, option_and_then, option_map, unwrap_or, position, is_none, is_some, IfSome}
use Rattle.std.proofs.lemmas.Bool.{false≢true, le-leb, lt-leb}
use Rattle.std.proofs.lemmas.List.{nil_from_length}
use Rattle.std.proofs.lemmas.Option.{same_Some}
use Rattle.rip_http.specs.declared.answer.Opening.{Opening}
use Rattle.rip_wire.specs.Answers.{served_of}
use Rattle.rip_wire.specs.declared.answer.ServedCall.{ServedCall}
use Rattle.rip_log.specs.Entries.{Recorded}
use Rattle.rip_table.specs.Table.{IsTable, ids, ended, most_live, place_of, at_ordinal, live_count as counted_live}
use Rattle.rip_history.specs.Answering.{opening_told}
use Rattle.rip_history.specs.Requests.{identifiers_in, session_named, was_opened, served_in, live_count}
use Rattle.rip_history.specs.Parts.{Meaning}
use Rattle.rip_history.specs.Run.{stage_of}
use Rattle.rip_history.specs.Stages.{Stage}
use Rattle.rip_history.specs.Standings.{is_live, standing_of}
use Rattle.rip_history.specs.declared.standing.Standing.{Standing}
use Rattle.rip_table.specs.Ordinals.{get_at}
use Rattle.rip_table.specs.Rolls.{seats, room_in, lives_at, IsAtStage, IsKept, IsLiveAt, IsRollOf}
use Rattle.rip_table.specs.Seats.{standing_in, notes_in, session_in, IsSeat, IsKeptAt, has_ended}
use Rattle.rip_table.specs.Walks.{all_in}
use Rattle.rip_table.specs.declared.roll.roll.Roll.{Roll}
use Rattle.rip_table.specs.declared.roll.roll.Room.TheVariants.{Free, Full, Spent}
use Rattle.rip_table.specs.declared.roll.seat.Notes.{Notes}
use Rattle.rip_table.specs.declared.roll.seat.Seat.{Seat}
use Rattle.rip_table.specs.declared.roll.seat.Seat.TheVariants.{Live, Ended}
use Rattle.rip_wire.specs.declared.ending.Reason.{Reason}
use Rattle.rip_table.proofs.HeldLemmas.{lent_stands}
use Rattle.rip_table.proofs.ListLemmas.{none_some}
use Rattle.rip_table.proofs.NameLemmas.{named_place, opened_place}
use Rattle.rip_table.proofs.RollLemmas.{ordinal_is, no_standing, kept_live}

none-ended : (o : Option Reason) → true ≡ is_none o → o ≡ None
none-ended None e = refl
none-ended (Some reason) e = absurd (false≢true (sym e))

module _ {T : Type 0} where
  -- ---- by identifier

  pub named_told : (limit : ℕ) (roll : Roll T) (h : List Recorded) (id : ℕ) → IsKept limit roll h
      → option_map (λ (p : ℕ). p + 1) (place_of roll.table id) ≡ session_named id h
  named_told limit roll h id k =
      ap (λ (xs : List ℕ). option_map (λ (p : ℕ). p + 1) (position (nat_eq id) xs)) k.identifiers ∙ sym (named_place id h k.ordinals)

  pub opened_told : (limit : ℕ) (roll : Roll T) (h : List Recorded) (id : ℕ) → IsKept limit roll h
      → is_some (option_map (λ (p : ℕ). p + 1) (place_of roll.table id)) ≡ was_opened id h
  opened_told limit roll h id k =
      ap (λ (xs : List ℕ). is_some (option_map (λ (p : ℕ). p + 1) (position (nat_eq id) xs))) k.identifiers ∙ sym (opened_place id h)

  -- ---- by ordinal

  kept-here : (limit : ℕ) (roll : Roll T) (h : List Recorded) (n : ℕ) (o : Option (Seat T)) → IsKept limit roll h
      → o ≡ at_ordinal (slice_get (seats roll)) n → IsKeptAt h n o
  kept-here limit roll h n o k e = subst (λ (x : Option (Seat T)). IsKeptAt h n x) (sym (e ∙ ordinal_is (seats roll) n)) (k.each n)

  standing-by : (h : List Recorded) (n : ℕ) (o : Option (Seat T)) → IsKeptAt h n o → option_map standing_in o ≡ standing_of n h
  standing-by h n None k = sym (no_standing n h k)
  standing-by h n (Some seat) k = sym k.standing

  pub standing_told : (limit : ℕ) (roll : Roll T) (h : List Recorded) (n : ℕ) (o : Option (Seat T)) → o ≡ at_ordinal (slice_get (seats roll)) n
      → IsKept limit roll h → option_map standing_in o ≡ standing_of n h
  standing_told limit roll h n o e k = standing-by h n o (kept-here limit roll h n o k e)

  -- one that lives has notes
  noted : (h : List Recorded) (n : ℕ) (seat : Seat T) (s : Standing) → IsSeat h n seat → standing_of n h ≡ Some s → is_live s ≡ true
      → (notes : Notes) × (notes_in seat ≡ Some notes) × (standing_in seat ≡ s)
  noted h n seat s kept stands live = by (notes_in seat) refl
    where
      same : standing_in seat ≡ s
      same = same_Some (standing_in seat) s (sym kept.standing ∙ stands)

      by : (o : Option Notes) → notes_in seat ≡ o → (notes : Notes) × (notes_in seat ≡ Some notes) × (standing_in seat ≡ s)
      by None e = absurd (false≢true (sym (ap (λ (x : Option Notes). is_some x) e) ∙ kept.lives ∙ ap is_live same ∙ live))
      by (Some notes) e = (notes, e, same)

  pub opening_is_told : (limit : ℕ) (roll : Roll T) (h : List Recorded) (n : ℕ) (seat : Seat T) (s : Standing) (o : Option Opening)
      → Some seat ≡ at_ordinal (slice_get (seats roll)) n → o ≡ option_map (λ (x : Notes). x.opening) (notes_in seat)
      → IsKept limit roll h → standing_of n h ≡ Some s → is_live s ≡ true → o ≡ opening_told n h
  opening_is_told limit roll h n seat s o e is k stands live =
      let kept : IsSeat h n seat = kept-here limit roll h n (Some seat) k e in
      let (notes, has, same) = noted h n seat s kept stands live in
      is ∙ ap (option_map (λ (x : Notes). x.opening)) has ∙ sym (let a = kept.notes notes has in a.opening)

  pub served_told : (limit number : ℕ) (roll : Roll T) (h : List Recorded) (n : ℕ) (seat : Seat T) (s : Standing) (told : List ServedCall)
      → Some seat ≡ at_ordinal (slice_get (seats roll)) n → IfSome (notes_in seat) (λ (x : Notes). told ≡ x.told.items)
      → IsKept limit roll h → standing_of n h ≡ Some s → is_live s ≡ true → s.done ≡ Some number
      → map served_of told ≡ served_in n number h
  served_told limit number roll h n seat s told e is k stands live done =
      let kept : IsSeat h n seat = kept-here limit roll h n (Some seat) k e in
      let (notes, has, same) = noted h n seat s kept stands live in
      ap (map served_of) (subst (λ (o : Option Notes). IfSome o (λ (x : Notes). told ≡ x.told.items)) has is)
      ∙ (let a = kept.notes notes has in a.told number (ap (λ (x : Standing). x.done) same ∙ done))

  pub served_none : (limit : ℕ) (roll : Roll T) (h : List Recorded) (n : ℕ) (s : Standing)
      → None ≡ at_ordinal (slice_get (seats roll)) n → IsKept limit roll h → standing_of n h ≡ Some s → ⊥
  served_none limit roll h n s e k stands = none_some s (sym (no_standing n h (kept-here limit roll h n None k e)) ∙ stands)

  -- ---- a session that lives

  same-lives : (seat : Seat T) → is_some (session_in seat) ≡ is_some (notes_in seat)
  same-lives (Live held) = refl
  same-lives (Ended last reason) = refl

  lives-by : (h : List Recorded) (n : ℕ) (o : Option (Seat T)) → IsKeptAt h n o → is_some (option_and_then session_in o) ≡ lives_at n h
  lives-by h n None k = ap (λ (o : Option Standing). unwrap_or (option_map is_live o) false) (sym (no_standing n h k))
  lives-by h n (Some seat) k = same-lives seat ∙ k.lives ∙ ap (λ (o : Option Standing). unwrap_or (option_map is_live o) false) (sym k.standing)

  pub lives_told : (limit : ℕ) (roll : Roll T) (h : List Recorded) (n : ℕ) (o : Option (Seat T)) → o ≡ at_ordinal (slice_get (seats roll)) n
      → IsKept limit roll h → is_some (option_and_then session_in o) ≡ lives_at n h
  lives_told limit roll h n o e k = lives-by h n o (kept-here limit roll h n o k e)

  live-there : (stands : T → Stage → Type 0) (m : Meaning) (h : List Recorded) (stages : List Stage) (n : ℕ) (o : Option (Seat T)) (x : Option Stage)
      → stage_of n stages ≡ x → IsKeptAt h n o → IsAtStage stands m o x → IfSome (option_and_then session_in o) (IsLiveAt stands m n stages)
  live-there stands m h stages n None x is kept at = tt
  live-there stands m h stages n (Some (Live held)) None is kept at = absurd at
  live-there stands m h stages n (Some (Live held)) (Some st) is kept at =
      let lives = at.lives (none-ended held.value.standing.ended kept.lives) in
      record { stage = st; is = is; there = lent_stands stands (Live held) held held.value st refl refl lives.there; lives = lives.open_yet }
  live-there stands m h stages n (Some (Ended last reason)) x is kept at = tt

  pub session_stands : (stands : T → Stage → Type 0) (m : Meaning) (limit : ℕ) (roll : Roll T) (h : List Recorded) (stages : List Stage) (n : ℕ) (o : Option (Seat T))
      → o ≡ at_ordinal (slice_get (seats roll)) n → IsRollOf stands m limit roll h stages → IfSome (option_and_then session_in o) (IsLiveAt stands m n stages)
  session_stands stands m limit roll h stages n o e is =
      live-there stands m h stages n o (stage_of n stages) refl (kept-here limit roll h n o is.kept e)
      (subst (λ (x : Option (Seat T)). IsAtStage stands m x (stage_of n stages)) (sym (e ∙ ordinal_is (seats roll) n)) (is.each n))

  -- ---- room

  pub room_full : (limit live : ℕ) (roll : Roll T) (h : List Recorded) → IsTable roll.table → live ≡ counted_live roll.table → roll.limit ≤ live
      → IsKept limit roll h → Full ≡ room_in limit h
  room_full limit live roll h table is le k =
      let counted : live_count h ≡ live = kept_live limit roll h table k ∙ table.live ∙ sym is in
      sym (ap (λ (b : Bool). cond b Full (cond (leb 1000000 (length (identifiers_in h))) Spent Free))
      (le-leb limit (live_count h) (omega (arith, counted, le, k.bound))))

  less : (limit live : ℕ) (roll : Roll T) (h : List Recorded) → IsTable roll.table → live ≡ counted_live roll.table → live < roll.limit
      → IsKept limit roll h → leb limit (live_count h) ≡ false
  less limit live roll h table is lt k =
      let counted : live_count h ≡ live = kept_live limit roll h table k ∙ table.live ∙ sym is in
      lt-leb limit (live_count h) (omega (arith, counted, lt, k.bound))

  pub room_spent : (limit live count : ℕ) (roll : Roll T) (h : List Recorded) → IsTable roll.table → live ≡ counted_live roll.table → live < roll.limit
      → count ≡ length (ids roll.table) → 1000000 ≤ count → IsKept limit roll h → Spent ≡ room_in limit h
  room_spent limit live count roll h table is lt size le k =
      let all : count ≡ length (identifiers_in h) = size ∙ ap length k.identifiers in
      sym (ap (λ (b : Bool). cond b Full (cond (leb 1000000 (length (identifiers_in h))) Spent Free)) (less limit live roll h table is lt k)
      ∙ ap (λ (b : Bool). cond b Spent Free) (le-leb 1000000 (length (identifiers_in h)) (omega (arith, all, le))))

  pub room_free : (limit live count : ℕ) (roll : Roll T) (h : List Recorded) → IsTable roll.table → live ≡ counted_live roll.table → live < roll.limit
      → count ≡ length (ids roll.table) → count < 1000000 → IsKept limit roll h → Free ≡ room_in limit h
  room_free limit live count roll h table is lt size few k =
      let all : count ≡ length (identifiers_in h) = size ∙ ap length k.identifiers in
      sym (ap (λ (b : Bool). cond b Full (cond (leb 1000000 (length (identifiers_in h))) Spent Free)) (less limit live roll h table is lt k)
      ∙ ap (λ (b : Bool). cond b Spent Free) (lt-leb 1000000 (length (identifiers_in h)) (omega (arith, all, few))))

  -- ---- no session yet

  nothing-at : (n : ℕ) (xs : List (Seat T)) → xs ≡ [] → get_at n xs ≡ None
  nothing-at zero xs e = refl
  nothing-at (suc i) xs e = ap (λ (ys : List (Seat T)). slice_get ys i) e

  pub new_kept : (limit : ℕ) (roll : Roll T) → IsTable roll.table → ids roll.table ≡ [] → most_live roll.table ≡ limit → roll.limit ≡ limit
      → all_in roll.busy ≡ [] → IsKept limit roll []
  new_kept limit roll table none most bound idle =
      let size : length (ids roll.table) ≡ 0 = ap length none in
      let no_values : seats roll ≡ [] = nil_from_length (seats roll) (table.values_each ∙ size) in
      record {
        bound = bound;
        most = most;
        identifiers = none;
        ordinals = refl;
        each = λ n. subst (λ (o : Option (Seat T)). IsKeptAt [] n o) (sym (nothing-at n (seats roll) no_values)) refl;
        ended = nil_from_length (ended roll.table) (table.ended_each ∙ size) ∙ ap (map has_ended) (sym no_values);
        busy = idle;
      }
