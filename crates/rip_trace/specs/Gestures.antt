-- Files of gestures: what a user does, line by line.
use Rattle.std.specs.Prelude.{◌≡◌, ℕ, ◌+◌, ◌<◌, ◌^◌, List, [], ◌∷◌, ◌++◌, length, codes, decimal, Option, Some, None, ⊤}
use Rattle.rip_base.specs.Text.{IsSameText}
use Rattle.rip_base.specs.declared.report.EventKind.{EventKind}
use Rattle.rip_base.specs.declared.report.Report.{Report}
use Rattle.rip_wire.specs.Items.{event_word, HasDetail}
use Rattle.rip_wire.specs.declared.gesture.Gesture.{Gesture}
use Rattle.rip_wire.specs.declared.gesture.Gesture.TheVariants.{Event, Flush}
use Rattle.rip_outer.specs.Pieces.{pieces}
use Rattle.rip_trace.specs.declared.gestures.LinedGesture.{LinedGesture}
use Rattle.rip_trace.specs.declared.trace.TraceRefusal.{TraceRefusal}
use Rattle.rip_trace.specs.declared.trace.TraceRefusal.TheVariants as refusal

-- ---- how a line is spelled

-- what a line has behind the target of an event: nothing; a space and the text of the control, in UTF-8 (RFC 3629); a
-- space and the place of the chosen option
abbrev pub AreDetails : List ℕ → Option (List ℕ) → Option ℕ → Type 0
AreDetails bytes None None = bytes ≡ []
AreDetails bytes (Some text) None = (utf8 : List ℕ) × (bytes ≡ 32 ∷ utf8) × IsSameText utf8 text
AreDetails bytes None (Some place) = bytes ≡ 32 ∷ decimal place
AreDetails bytes (Some text) (Some place) = ⊥

-- `N`, `N TEXT` or `N K`, which stands behind the word of this kind: the target is below 2^32, an input alone has a text,
-- and a change alone may have a place, which is below 2^32 too
pub record IsTarget (bytes : List ℕ) (kind : EventKind) (node : ℕ) (text : Option (List ℕ)) (place : Option ℕ) : Type 0 where
  pub details : List ℕ
  pub spelled : bytes ≡ decimal node ++ details
  pub small : node < 2 ^ 32
  pub are : AreDetails details text place
  pub has : HasDetail kind text place

-- `click N`, `focus N`, `blur N`, `submit N`, `change N`, `change N K`, `input N TEXT`
pub record IsReported (bytes : List ℕ) (r : Report) : Type 0 where
  pub target : List ℕ
  pub spelled : bytes ≡ event_word r.kind ++ 32 ∷ target
  pub is : IsTarget target r.kind r.node r.text r.place

-- the bytes spell an event, or `flush`
abbrev pub IsGesture : List ℕ → Gesture → Type 0
IsGesture bytes (Event r) = IsReported bytes r
IsGesture bytes Flush = bytes ≡ codes "flush"

-- the bytes are a line: a gesture, or none, a comment, which begins with `#`
abbrev pub IsGestureLine : List ℕ → Option Gesture → Type 0
IsGestureLine bytes (Some g) = IsGesture bytes g
IsGestureLine bytes None = (text : List ℕ) × (bytes ≡ codes "#" ++ text)

-- ---- which texts are files of gestures

-- each piece is the line at its place
abbrev pub AreGestureLines : List (List ℕ) → List (Option Gesture) → Type 0
AreGestureLines [] [] = ⊤
AreGestureLines (p ∷ ps) (l ∷ lines) = IsGestureLine p l × AreGestureLines ps lines
AreGestureLines ps lines = ⊥

-- the gesture of a line of this number, if it has one
abbrev pub lined : ℕ → Option Gesture → List LinedGesture
lined number None = []
lined number (Some g) = record { line = number; gesture = g } ∷ []

-- the gestures of lines, of which the first has this number
abbrev pub lined_from : ℕ → List (Option Gesture) → List LinedGesture
lined_from number [] = []
lined_from number (l ∷ lines) = lined number l ++ lined_from (number + 1) lines

-- the text is a file of these gestures, each with the number of its line, counted from 1
pub record AreGestures (text : List ℕ) (gestures : List LinedGesture) : Type 0 where
  pub lines : List (Option Gesture)
  pub spelled : AreGestureLines (pieces text) lines
  pub are : gestures ≡ lined_from 1 lines

-- the first line that is none: each before it is one, and it, counted from 1, is a line in no way
pub record HasNoLineAt (text : List ℕ) (number : ℕ) : Type 0 where
  pub before : List (Option Gesture)
  pub fronts : List (List ℕ)
  pub here : List ℕ
  pub behind : List (List ℕ)
  pub is : pieces text ≡ fronts ++ here ∷ behind
  pub spelled : AreGestureLines fronts before
  pub count : number ≡ length before + 1
  pub none : (l : Option Gesture) → ¬ IsGestureLine here l

-- why a text was refused: at its first line that is none, or for want of memory, which may come at any text
abbrev pub IsGestureRefusal : List ℕ → TraceRefusal → Type 0
IsGestureRefusal text (refusal.Line n) = HasNoLineAt text n
IsGestureRefusal text refusal.Memory = ⊤

-- a text is a file of one list of gestures at most, or is refused, at one line
pub record GesturesAreOne : Type 0 where
  pub gestures : (text : List ℕ) (g h : List LinedGesture) → AreGestures text g → AreGestures text h → g ≡ h
  pub number : (text : List ℕ) (m n : ℕ) → HasNoLineAt text m → HasNoLineAt text n → m ≡ n
  pub either : (text : List ℕ) (n : ℕ) (g : List LinedGesture) → AreGestures text g → ¬ HasNoLineAt text n
