-- What is read of a trace, line by line; for private clauses.
use Rattle.std.specs.Prelude.{◌≡◌, ℕ, List, [], ◌∷◌, ◌++◌, ◌⊎◌, map, ⊤}
use Rattle.rip_outer.specs.Connections.{knocked, IsLive}
use Rattle.rip_outer.specs.KnockLists.{MayFollow}
use Rattle.rip_outer.specs.declared.connections.TraceKnock.{TraceKnock}
use Rattle.rip_outer.specs.declared.connections.TraceKnock.TheVariants.{Opened, Bytes, Gone}
use Rattle.rip_trace.specs.Lines.{Line, comment, moment, word, opens, sends, goes, quiet, says}
use Rattle.rip_trace.specs.Spelling.{IsSpelled}
use Rattle.rip_trace.specs.Traces.{knocks_of, moment_behind}

-- what was read so far: the knocks with their moments, and the moment of those that follow
pub record Sofar : Type 0 where
  pub knocks : List TraceKnock
  pub moments : List ℕ
  pub now : ℕ

-- some knocks more, each at this moment
abbrev pub also : Sofar → List TraceKnock → Sofar
also s ks = record { knocks = s.knocks ++ ks; moments = s.moments ++ map (λ k. s.now) ks; now = s.now }

-- a line more, where the trace gives these words
abbrev pub with_line : List ℕ → Sofar → Line → Sofar
with_line words s l = record {
  knocks = s.knocks ++ knocks_of words l;
  moments = s.moments ++ map (λ k. s.now) (knocks_of words l);
  now = moment_behind s.now l;
}

-- the knocks of a line may follow those so far
abbrev pub MayFollowKnocks : List TraceKnock → Line → Type 0
MayFollowKnocks ks (opens c) = MayFollow (map knocked ks) (Opened c)
MayFollowKnocks ks (sends c piece) = MayFollow (map knocked ks) (Bytes c piece)
MayFollowKnocks ks (goes c) = MayFollow (map knocked ks) (Gone c)
MayFollowKnocks ks (says c asked) = IsLive (map knocked ks) [] c
MayFollowKnocks ks (comment text) = ⊤
MayFollowKnocks ks (moment m) = ⊤
MayFollowKnocks ks (word w) = ⊤
MayFollowKnocks ks quiet = ⊤

-- a line was added that these bytes spell and that may follow
pub record IsAdded (words bytes : List ℕ) (old new : Sofar) : Type 0 where
  pub line : Line
  pub spelled : IsSpelled bytes line
  pub allowed : MayFollowKnocks old.knocks line
  pub is : new ≡ with_line words old line

-- the words that pieces give, of which some spell none
abbrev pub AreWords : List (List ℕ) → List ℕ → Type 0
AreWords [] ws = ws ≡ []
AreWords (p ∷ ps) ws =
    ((w : ℕ) × (more : List ℕ) × IsSpelled p (word w) × (ws ≡ w ∷ more) × AreWords ps more)
    ⊎ (((w : ℕ) → ¬ IsSpelled p (word w)) × AreWords ps ws)
