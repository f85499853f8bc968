-- What serving put is the text of a legal course, or a front of one.
use Rattle.std.specs.Prelude.{◌≡◌, ◌⊎◌, ℕ, ◌<◌, ◌≤◌, List, [], ◌∷◌, ◌++◌, length, Option}
use Rattle.rip_outer.specs.Outside.{Front, also, before}
use Rattle.rip_outer.specs.declared.connections.TraceKnock.{TraceKnock}
use Rattle.rip_log.specs.Histories.{history_text}
use Rattle.rip_history.specs.Connections.{sent_in}
use Rattle.rip_history.specs.Parts.{IsLawful}
use Rattle.rip_history.specs.Run.{Coming, Site, first_state}
use Rattle.rip_history.specs.Runs.{turns_acts}
use Rattle.rip_law_history.specs.Legal.{history_of}
use Rattle.rip_server.specs.Turning.{ClosedSo, Gives, Outer, knocks_of}
use Rattle.rip_serve.specs.Serving.{Serves}
use Rattle.rip_serve.specs.declared.serving.Stop.{Stop}
use Rattle.rip_serve.specs.declared.serving.Stop.TheVariants.{Idle, Memory, Outside, TurnsSpent}
use Rattle.rip_law_server.specs.Legal.{AreGiven, AreLegal, AreSent, IsCutRun, IsLegalRun}
use Rattle.rip_law_server.specs.Rising.{PartsRise}

-- the sink holds the text of the legal course of whole turns behind what it held
pub record IsBetweenTurns (site : Site) (most : ℕ) (old new : Outer) : Type 0 where
  pub turns : List Coming
  pub few : length turns ≤ most
  pub given : AreGiven site turns old new
  pub sent : AreSent site turns old new
  pub legal : AreLegal site turns
  pub put : new.seen.held ≡ also (history_text (history_of site turns)) old.seen.held

-- a turn that broke off was given its knock, the first that was left, or none where the door was closed; its words; and its
-- moment, if it came to that
pub record IsGivenTo (t : Coming) (old new : Outer) : Type 0 where
  pub left : Option (List TraceKnock)
  pub knock : old.seen.telling.left ≡ before (knocks_of t.knock) left
  pub closed : ClosedSo t.knock left
  pub moments : List ℕ
  pub at : (moments ≡ []) ⊎ (moments ≡ t.moment ∷ [])
  pub moment : Gives moments old.clock new.clock
  pub words : Gives t.words old.words new.words

-- or a front of the text of the legal course of whole turns, the last of which is the one that broke off, but that more is handled in
-- it and more sessions go on; and on each connection a front of what these turns send
pub record IsWithinTurn (site : Site) (most : ℕ) (old new : Outer) : Type 0 where
  pub turns : List Coming
  pub few : length turns < most
  pub between : Outer
  pub given : AreGiven site turns old between
  pub last : Coming
  pub given_last : IsGivenTo last between new
  pub sent : (c : ℕ) → Front (sent_in c (turns_acts site 1 first_state (turns ++ last ∷ []))) (old.seen.sent c) (new.seen.sent c)
  pub legal : AreLegal site (turns ++ last ∷ [])
  pub put : Front (history_text (history_of site (turns ++ last ∷ []))) old.seen.held new.seen.held

-- what is put is the text of a legal course and its status; or, where serving breaks off, a front of such a text: between two turns,
-- within one, or in its last line
abbrev pub BeginsLegal : Site → ℕ → Stop → Outer → Outer → Type 0
BeginsLegal site most Idle old new = IsLegalRun site most 0 old new
BeginsLegal site most TurnsSpent old new = IsLegalRun site most 3 old new
BeginsLegal site most Outside old new = IsBetweenTurns site most old new ⊎ IsWithinTurn site most old new ⊎ IsCutRun site most old new
BeginsLegal site most Memory old new = IsBetweenTurns site most old new ⊎ IsWithinTurn site most old new ⊎ IsCutRun site most old new

-- so it is of all serving of a meaning whose parts rise
abbrev pub ServedBeginsLegal : Type 0
ServedBeginsLegal =
    (site : Site) (most : ℕ) (stop : Stop) (old new : Outer) → IsLawful site.meaning → PartsRise site.meaning → Serves site most stop old new
    → BeginsLegal site most stop old new
