-- What a trace stands for.
use Rattle.std.specs.Prelude.{◌≡◌, ℕ, ◌+◌, Bool, true, false, List, [], ◌∷◌, ◌++◌, length, map, count_by, Contains, ⊤}
use Rattle.std.specs.List.{flat_map}
use Rattle.rip_outer.specs.Pieces.{pieces}
use Rattle.rip_outer.specs.declared.connections.TraceKnock.{TraceKnock}
use Rattle.rip_outer.specs.declared.connections.TraceKnock.TheVariants.{Opened, Bytes, Gone, Quiet}
use Rattle.rip_trace.specs.Lines.{Line, comment, moment, word, opens, sends, goes, quiet, says}
use Rattle.rip_trace.specs.Requests.{request, in_pieces}
use Rattle.rip_trace.specs.Spelling.{IsSpelled}
use Rattle.rip_trace.specs.declared.trace.TraceRefusal.{TraceRefusal}
use Rattle.rip_trace.specs.declared.trace.TraceRefusal.TheVariants as refusal

-- ---- which lines may follow others

-- the line opens a connection
abbrev pub is_opening : Line → Bool
is_opening (opens c) = true
is_opening (comment text) = false
is_opening (moment m) = false
is_opening (word w) = false
is_opening (sends c piece) = false
is_opening (goes c) = false
is_opening quiet = false
is_opening (says c asked) = false

-- a connection was opened, and isn't gone
pub record IsHere (before : List Line) (c : ℕ) : Type 0 where
  pub opened : Contains before (opens c)
  pub not_gone : ¬ Contains before (goes c)

-- connections are numbered 0, 1, 2 in the order of their opening; a piece, a request or a going is of one that is here
abbrev pub MayCome : List Line → Line → Type 0
MayCome before (opens c) = c ≡ count_by is_opening before
MayCome before (sends c piece) = IsHere before c
MayCome before (goes c) = IsHere before c
MayCome before (says c asked) = IsHere before c
MayCome before (comment text) = ⊤
MayCome before (moment m) = ⊤
MayCome before (word w) = ⊤
MayCome before quiet = ⊤

-- each of the lines may follow those before it, and the first of them these
abbrev pub EachMayCome : List Line → List Line → Type 0
EachMayCome before [] = ⊤
EachMayCome before (l ∷ lines) = MayCome before l × EachMayCome (before ++ l ∷ []) lines

-- ---- what they stand for

-- the words that the lines give
abbrev pub words_of : Line → List ℕ
words_of (word w) = w ∷ []
words_of (comment text) = []
words_of (moment m) = []
words_of (opens c) = []
words_of (sends c piece) = []
words_of (goes c) = []
words_of quiet = []
words_of (says c asked) = []

abbrev pub words_in : List Line → List ℕ
words_in = flat_map words_of

-- the knocks that a line stands for, where the trace gives these words: a request comes in pieces of 4,096 bytes
abbrev pub knocks_of : List ℕ → Line → List TraceKnock
knocks_of words (opens c) = Opened c ∷ []
knocks_of words (sends c piece) = Bytes c piece ∷ []
knocks_of words (goes c) = Gone c ∷ []
knocks_of words quiet = Quiet ∷ []
knocks_of words (says c asked) = map (Bytes c) (in_pieces (request words asked))
knocks_of words (comment text) = []
knocks_of words (moment m) = []
knocks_of words (word w) = []

abbrev pub knocks_in : List ℕ → List Line → List TraceKnock
knocks_in words = flat_map (knocks_of words)

-- the moment behind a line, where it was this before
abbrev pub moment_behind : ℕ → Line → ℕ
moment_behind now (moment m) = m
moment_behind now (comment text) = now
moment_behind now (word w) = now
moment_behind now (opens c) = now
moment_behind now (sends c piece) = now
moment_behind now (goes c) = now
moment_behind now quiet = now
moment_behind now (says c asked) = now

-- the moment behind lines
abbrev pub moment_after : ℕ → List Line → ℕ
moment_after now [] = now
moment_after now (l ∷ lines) = moment_after (moment_behind now l) lines

-- the moments of the knocks, where it is this before them
abbrev pub knock_moments : List ℕ → ℕ → List Line → List ℕ
knock_moments words now [] = []
knock_moments words now (l ∷ lines) = map (λ k. now) (knocks_of words l) ++ knock_moments words (moment_behind now l) lines

-- ---- which texts are traces

-- each piece is spelled by the line at its place
abbrev pub AreSpelled : List (List ℕ) → List Line → Type 0
AreSpelled [] [] = ⊤
AreSpelled (p ∷ ps) (l ∷ lines) = IsSpelled p l × AreSpelled ps lines
AreSpelled ps lines = ⊥

-- what a trace gives: knocks, moments and words
pub record Given : Type 0 where
  pub knocks : List TraceKnock
  pub moments : List ℕ
  pub words : List ℕ

-- what the lines give: one moment for each knock, and one for the turns behind them
abbrev pub given_by : List Line → Given
given_by lines = record {
  knocks = knocks_in (words_in lines) lines;
  moments = knock_moments (words_in lines) 0 lines ++ moment_after 0 lines ∷ [];
  words = words_in lines;
}

-- the text is a trace that gives this
pub record IsTrace (text : List ℕ) (given : Given) : Type 0 where
  pub lines : List Line
  pub spelled : AreSpelled (pieces text) lines
  pub allowed : EachMayCome [] lines
  pub is : given ≡ given_by lines

-- the first line that is none: so many lines before it are spelled and may follow one another, and it, counted from 1,
-- spells no line that may follow them
pub record IsRefusedAt (text : List ℕ) (number : ℕ) : Type 0 where
  pub before : List Line
  pub fronts : List (List ℕ)
  pub here : List ℕ
  pub behind : List (List ℕ)
  pub is : pieces text ≡ fronts ++ here ∷ behind
  pub spelled : AreSpelled fronts before
  pub allowed : EachMayCome [] before
  pub count : number ≡ length before + 1
  pub none : (l : Line) → MayCome before l → ¬ IsSpelled here l

-- why a text was refused: at its first line that is none, or for want of memory, which may come at any text
abbrev pub IsRefusal : List ℕ → TraceRefusal → Type 0
IsRefusal text (refusal.Line n) = IsRefusedAt text n
IsRefusal text refusal.Memory = ⊤

-- a text is a trace in one way at most
abbrev pub TraceIsOne : Type 0
TraceIsOne = (text : List ℕ) (g h : Given) → IsTrace text g → IsTrace text h → g ≡ h

-- a text is refused at one line at most, and a trace at none
pub record RefusalIsOne : Type 0 where
  pub number : (text : List ℕ) (m n : ℕ) → IsRefusedAt text m → IsRefusedAt text n → m ≡ n
  pub no_trace : (text : List ℕ) (n : ℕ) (given : Given) → IsTrace text given → ¬ IsRefusedAt text n
