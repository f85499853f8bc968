-- Work as code has it.
use Rattle.std.specs.Prelude.{◌≡◌, ℕ, Bool, List, ◌++◌, map, Option, Some, None, option_map, slice_get}
use Rattle.rip_eval_rows.specs.declared.close.Close.{Close}
use Rattle.rip_wire.specs.declared.gesture.Gesture.{Gesture}
use Rattle.rip_client.specs.Sizes.{ToldSo}
use Rattle.rip_client.specs.Truth.{Playing}
use Rattle.rip_client.specs.declared.client.Client.{Client}
use Rattle.rip_client.specs.declared.client.HowTold.{HowTold}
use Rattle.rip_gen.specs.Plans.{Plan}
use Rattle.rip_gen.specs.Work.{Opened, Played, Plays, Sessions, Stage, Stand, is_fine}
use Rattle.rip_gen.specs.declared.generate.work.Work.{Work}

-- sessions that all go so
abbrev pub sessions_by : {A G : Type 0} → Playing A G → (ℕ → G → Close → A → G → Type 0) → (G → Type 0) → Sessions A G
sessions_by x opens gives = record { goes = λ place. x; opens = opens; gives = gives }

-- where the session of a client stands
abbrev pub stand_of : {A : Type 0} → Client A → Stand A
stand_of c = record { session = c.actor; number = c.list.number; waiting = c.waiting.items }

-- where all stand
abbrev pub stage_of : {O A G : Type 0} → Work O A G → Stage A G
stage_of w = record { stands = map (option_map stand_of) w.clients.items; giver = w.giver; lied = w.lied }

-- no client is at its end
abbrev pub AreOn : {A : Type 0} → List (Option (Client A)) → Type 0
AreOn clients = (place : ℕ) (c : Client _) → slice_get clients place ≡ Some (Some c) → c.over ≡ None

-- so many sessions were opened
abbrev pub OpensTo : {O A G : Type 0} → Sessions A G → ℕ → Work O A G → Type 0
OpensTo x place w = Opened x place (stage_of w) w.text × AreOn w.clients.items

-- so many rounds of a plan were played, and of the next so many sessions told their gesture
abbrev pub PlaysTo : {O A G : Type 0} → Sessions A G → Plan → ℕ → ℕ → Work O A G → Type 0
PlaysTo x plan round place w = Played x plan round place (stage_of w) w.text × AreOn w.clients.items

-- the session at a place told a gesture
pub record TellsSo {O A G : Type 0} (x : Sessions A G) (place : ℕ) (gesture : Gesture) (lies : Bool) (w n : Work O A G) : Type 0 where
  pub lines : List ℕ
  pub plays : Plays x place gesture (stage_of w) lies (stage_of n) lines
  pub text : n.text ≡ w.text ++ lines
  pub on : AreOn n.clients.items

-- what is taken out of a place
abbrev pub taken : {A : Type 0} → Option (Option A) → Option A
taken None = None
taken (Some here) = here

-- a gesture was told so, and the session goes on or has ended
pub record GoesOn (how : HowTold) (goes : Bool) : Type 0 where
  pub close : Close
  pub told : ToldSo how close
  pub is : goes ≡ is_fine close
