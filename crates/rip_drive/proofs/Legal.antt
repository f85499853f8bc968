-- The gestures that are read from a file may be told.
use Rattle.std.proofs.Common.{ℕ, ◌+◌, List, [], ◌∷◌, sym, subst, arith}
use Rattle.std.specs.Prelude.{All, Option, Some, None}
use Rattle.std.proofs.lemmas.Grind.{common_steps}
use Rattle.std.proofs.lemmas.List.Elements.{All-append}
use Rattle.rip_wire.specs.declared.gesture.Gesture.{Gesture}
use Rattle.rip_wire.specs.declared.gesture.Gesture.TheVariants.{Event, Flush}
use Rattle.rip_client.specs.Sizes.{IsGesture}
use Rattle.rip_trace.specs.Gestures.{AreGestureLines, AreGestures, IsGestureLine, lined, lined_from}
use Rattle.rip_trace.specs.Gestures as trace
use Rattle.rip_trace.specs.declared.gestures.LinedGesture.{LinedGesture}

gesture_legal : (bytes : List ℕ) (g : Gesture) → trace.IsGesture bytes g → IsGesture g
gesture_legal bytes (Event r) is = is.is.has
gesture_legal bytes Flush is = tt

abbrev Legal : List LinedGesture → Type 0
Legal gestures = All (λ (l : LinedGesture). IsGesture l.gesture) gestures

all_none : {X : Type 0} (P : X → Type 0) → All P []
all_none P = grind (arith, common_steps)

all_one : {X : Type 0} (P : X → Type 0) (x : X) → P x → All P (x ∷ [])
all_one P x h = grind (arith, common_steps)

line_legal : (bytes : List ℕ) (n : ℕ) (g : Option Gesture) → IsGestureLine bytes g → Legal (lined n g)
line_legal bytes n None is = all_none (λ (l : LinedGesture). IsGesture l.gesture)
line_legal bytes n (Some g) is = all_one (λ (l : LinedGesture). IsGesture l.gesture) (record { line = n; gesture = g }) (gesture_legal bytes g is)

lines_legal : (ps : List (List ℕ)) (n : ℕ) (lines : List (Option Gesture)) → AreGestureLines ps lines → Legal (lined_from n lines)
lines_legal ps n [] are = all_none (λ (l : LinedGesture). IsGesture l.gesture)
lines_legal [] n (g ∷ lines) are = absurd are
lines_legal (p ∷ ps) n (g ∷ lines) are =
    All-append (λ (l : LinedGesture). IsGesture l.gesture) (lined n g) (lined_from (n + 1) lines) (line_legal p n g are.0) (lines_legal ps (n + 1) lines are.1)

-- what `drive` requires of gestures that `read_gestures` made
pub gestures_legal : (text : List ℕ) (gestures : List LinedGesture) → AreGestures text gestures → All (λ (l : LinedGesture). IsGesture l.gesture) gestures
gestures_legal text gestures are = subst Legal (sym are.are) (lines_legal _ 1 are.lines are.spelled)
