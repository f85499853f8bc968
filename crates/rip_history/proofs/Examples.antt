-- The definitions at small cases, by computing.
use Rattle.std.proofs.Common.{◌≡◌, List, [], ◌∷◌, Some, None, refl}
use Rattle.std.specs.Prelude.{codes}
use Rattle.rip_wire.specs.Answers.{answer_text}
use Rattle.rip_wire.specs.Batches.{Contents}
use Rattle.rip_wire.specs.declared.ending.Ending.TheVariants.{Mismatch}
use Rattle.rip_wire.specs.declared.ending.Reason.TheVariants as reason
use Rattle.rip_log.specs.Entries.{Recorded, opened, admitted, done, closed}
use Rattle.rip_history.specs.Handlings.{at_once, when_done, never, handled_turns}
use Rattle.rip_history.specs.Requests.{page, batch, quit, no_lack, Drawn, drawn_of, answers, opens, admits, closes, fails, decide}
use Rattle.rip_history.specs.Turns.{turn_at}

-- a cost of 20 is spent in the turn of the admission, one of 100,002 a hundred turns later
soon : turn_at 2 20 ≡ 2
soon = refl

at_its_end : turn_at 5 1000 ≡ 5
at_its_end = refl

next_turn : turn_at 5 1001 ≡ 6
next_turn = refl

much_later : turn_at 5 100002 ≡ 105
much_later = refl

-- the words 1, 2, 3 give the identifier 00000000-0000-4001-8000-000000000002 and the seed 3
first_words : drawn_of 1 2 3 ≡ record { id = 302259125019767858003970; seed = 3 }
first_words = refl

-- a session that was opened, and what is asked after that
abbrev opening : List Recorded
opening = opened 2 1 7 3 0 ∷ []

abbrev ready : List Recorded
ready = opened 2 1 7 3 0 ∷ done 2 1 0 None ∷ []

abbrev drawn : Drawn
drawn = record { id = 8; seed = 6 }

abbrev numbered : Contents
numbered = record { number = 1; items = [] }

-- one session may live: another is not opened, until that is closed
full : decide 1 ready page drawn no_lack ≡ fails 503 (codes "full")
full = refl

room : decide 1 (opened 2 1 7 3 0 ∷ done 2 1 0 None ∷ closed 3 1 ∷ []) page drawn no_lack ≡ opens 2 8 6
room = refl

clash : decide 2 ready page (record { id = 7; seed = 6 }) no_lack ≡ fails 503 (codes "clash")
clash = refl

-- batch 1 waits for the opening, is admitted after it, and is busy with itself
waiting : decide 2 opening (batch (Some 7) (Some numbered)) drawn no_lack ≡ fails 409 (codes "busy")
waiting = refl

next : decide 2 ready (batch (Some 7) (Some numbered)) drawn no_lack ≡ admits 1 numbered
next = refl

repeated : decide 2 (opened 2 1 7 3 0 ∷ done 2 1 0 None ∷ admitted 3 1 numbered ∷ done 3 1 1 None ∷ []) (batch (Some 7) (Some numbered)) drawn no_lack
    ≡ answers 200 (answer_text (record { number = 1; ended = None; served = [] }))
repeated = refl

-- after a mismatch the session is gone
gone : decide 2 (opened 2 1 7 3 0 ∷ done 2 1 0 None ∷ admitted 3 1 numbered ∷ done 3 1 1 (Some (Mismatch 2 2 [] None)) ∷ []) (quit (Some 7)) drawn no_lack
    ≡ answers 410 (answer_text (record { number = 1; ended = Some reason.Mismatch; served = [] }))
gone = refl

-- no session, and no batch in the body
nobody : decide 2 ready (batch (Some 9) (Some numbered)) drawn no_lack ≡ fails 404 (codes "session")
nobody = refl

no_batch : decide 2 ready (batch (Some 7) None) drawn no_lack ≡ fails 400 (codes "body")
no_batch = refl

-- the end of a session is answered with its last number
quits : decide 2 ready (quit (Some 7)) drawn no_lack ≡ closes 1 (answer_text (record { number = 0; ended = Some reason.Closed; served = [] }))
quits = refl

-- two requests in one turn, one that waits for the end of turn 9, and one behind it
turns : handled_turns (Some 0)
    (record { came = 3; answered = at_once } ∷ record { came = 3; answered = when_done 9 } ∷ record { came = 4; answered = never } ∷ record { came = 4; answered = at_once } ∷ [])
    ≡ 3 ∷ 3 ∷ 10 ∷ []
turns = refl
