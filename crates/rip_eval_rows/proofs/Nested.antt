-- What is done next keeps a run inside the frames that have room.
use Rattle.std.proofs.Common.{◌≡◌, ℕ, ◌-◌, ◌<◌, ◌≤◌, ◌==◌, if◌then◌else◌, Bool, true, false, refl, List, [], ◌∷◌, ◌++◌, length, ap, ap₂, ◌∙◌, arith, append-nil}
use Rattle.std.proofs.lemmas.Bool.{eqb-false}
use Rattle.std.proofs.lemmas.List.{length_push}
use Rattle.rip_base.specs.declared.value.Value.{Value}
use Rattle.rip_base.specs.declared.value.Limit.TheVariants.{Depth}
use Rattle.rip_eval_rows.specs.declared.completion.Stop.TheVariants.{Limit as AtLimit}
use Rattle.rip_eval_rows.specs.declared.frame.Frame.{Frame}
use Rattle.rip_eval_rows.specs.declared.next.Control.{Control}
use Rattle.rip_eval_rows.specs.declared.next.Control.TheVariants.{Enter, Give, Halted}
use Rattle.rip_eval_rows.specs.declared.next.Next.{Next}
use Rattle.rip_eval_rows.specs.declared.next.Next.TheVariants.{End, Halt, Ask, Keep, Turn, Call}
use Rattle.rip_eval_rows.specs.declared.part.Part.{Part}
use Rattle.rip_eval_rows.specs.Frame.{inner, inside, waiting}
use Rattle.rip_eval_rows.specs.Rest.{control_of, frame_of}
use Rattle.rip_eval_rows.specs.Stack.{Frames, Open, framed, last_values, without_last}
use Rattle.rip_eval_rows.proofs.Joined.{last_values-push, without_last-push}
use Rattle.rip_eval_rows.specs.Nesting.{AreNested, IsInside}

-- one more frame
pub nested_push : (room : ℕ) (os : List Open) (o : Open) → AreNested room os → 0 < o.frame.at.room → o.frame.at.room ≤ room - length os → AreNested room (os ++ o ∷ [])
nested_push room [] o h some le = (some, omega arith, tt)
nested_push room (p ∷ os) o h some le = (h.0, h.1, nested_push (room - 1) os o h.2 some (omega arith))

-- the frames but for the last, and the last
pub nested_split : (room : ℕ) (os : List Open) (o : Open) → AreNested room (os ++ o ∷ []) → AreNested room os × (o.frame.at.room ≤ room - length os) × (0 < o.frame.at.room)
nested_split room [] o h = (tt, omega (arith, h.1), h.0)
nested_split room (p ∷ os) o h =
    let rest = nested_split (room - 1) os o h.2 in
    ((h.0, h.1, rest.0), omega (arith, rest.1), rest.2)

pub at_last : (room : ℕ) (os below : List Open) (o : Open) → os ≡ below ++ o ∷ [] → AreNested room os → AreNested room below × (o.frame.at.room ≤ room - length below) × (0 < o.frame.at.room)
at_last room os below o is h = nested_split room below o (rw is at h)

-- the frames of a run that goes on are nested
pub inside_nested : (most : ℕ) (control : Control) (os : List Open) → IsInside most control os → AreNested most os
inside_nested most (Enter part) os h = h.0
inside_nested most (Give c) os h = h
inside_nested most (Halted stop room) os h = h

-- a run of which all frames are taken away
pub inside_cleared : (most : ℕ) (control : Control) (os : List Open) → IsInside most control os → IsInside most control []
inside_cleared most (Enter part) os h = (tt, omega (arith, h.1))
inside_cleared most (Give c) os h = tt
inside_cleared most (Halted stop room) os h = tt

-- a part that is called, behind nested frames
called_inside : (most room : ℕ) (part : Part) (o : Open) (os : List Open) (full : Bool) → AreNested most os → o.frame.at.room ≡ room → room ≤ most - length os → part.room ≡ room - 1 → (full ≡ false → 0 < room)
    → IsInside most (if full then Halted (AtLimit Depth) room else Enter part) (os ++ (if full then [] else o ∷ []))
called_inside most room part o os true h at le inside some = rw append-nil h
called_inside most room part o os false h at le inside some =
    (nested_push most os o h (omega (arith, some refl)) (omega arith), omega (arith, length_push os o))

-- what an open part does next, behind nested frames
pub next_inside : (most : ℕ) (at : Part) (next : Next) (values : List Value) (os : List Open) → AreNested most os → 0 < at.room → at.room ≤ most - length os
    → IsInside most (control_of at next) (os ++ frame_of at next values)
next_inside most at (End c) values os h some le = rw append-nil h
next_inside most at (Halt stop) values os h some le = rw append-nil h
next_inside most at (Ask part wait) values os h some le =
    (nested_push most os (framed (waiting at wait) []) h some le, omega (arith, length_push os (framed (waiting at wait) [])))
next_inside most at (Keep part wait v) values os h some le =
    (nested_push most os (framed (waiting at wait) (values ++ v ∷ [])) h some le, omega (arith, length_push os (framed (waiting at wait) (values ++ v ∷ []))))
next_inside most at (Turn part wait) values os h some le =
    (nested_push most os (framed (waiting at wait) []) h some le, omega (arith, length_push os (framed (waiting at wait) [])))
next_inside most at (Call part node wait) values os h some le =
    let a : Part = inside at part in
    called_inside most a.room (inside a (inner a node)) (framed (waiting a wait) []) os (a.room == 0) h refl (omega arith) refl (λ e. let ne : a.room ≡ 0 → ⊥ = eqb-false a.room 0 e in omega (arith, ne))

-- a run that went on with what an open part does next
pub went_inside : (m n : Frames) (at : Part) (next : Next) (values : List Value) (os : List Open) (control : Control) → AreNested m.most os → 0 < at.room → at.room ≤ m.most - length os
    → control ≡ control_of at next → n ≡ record m { frames = os ++ frame_of at next values } → IsInside n.most control n.frames
went_inside m n at next values os control h some le c f = rw (c, f) (next_inside m.most at next values os h some le)

-- a frame put behind the others, and then a value beside it
pub kept_behind : (m p q : Frames) (frame : Frame) (v : Value) → p ≡ record m { frames = m.frames ++ framed frame [] ∷ [] }
    → q ≡ record p { frames = without_last p.frames ++ framed frame (last_values p.frames ++ v ∷ []) ∷ [] } → q ≡ record m { frames = m.frames ++ framed frame (v ∷ []) ∷ [] }
kept_behind m p q frame v pushed kept =
    kept ∙ ap (λ (p : Frames). record p { frames = without_last p.frames ++ framed frame (last_values p.frames ++ v ∷ []) ∷ [] }) pushed
    ∙ ap₂ (λ os vs. record m { frames = os ++ framed frame (vs ++ v ∷ []) ∷ [] }) (without_last-push m.frames (framed frame [])) (last_values-push m.frames (framed frame []))
