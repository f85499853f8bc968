-- The moments of a trace are below 2^53.
use Rattle.std.proofs.Common.{◌<◌, ◌^◌, ℕ, List, [], ◌∷◌, map, sym, subst, lit<}
use Rattle.std.specs.List.{All}
use Rattle.std.proofs.lemmas.List.Elements.{All-nil, All-cons, All-append}
use Rattle.rip_outer.specs.Pieces.{pieces}
use Rattle.rip_outer.specs.declared.connections.TraceKnock.{TraceKnock}
use Rattle.rip_trace.specs.Lines.{Line, comment, moment, word, opens, sends, goes, quiet, says}
use Rattle.rip_trace.specs.Spelling.{IsSpelled}
use Rattle.rip_trace.specs.Traces.{AreSpelled, Given, given_by, IsTrace, knocks_of, knock_moments, moment_behind, moment_after, words_in}

-- a moment may be told
abbrev Fits : ℕ → Type 0
Fits m = m < 2 ^ 53

behind_fits : (p : List ℕ) (l : Line) (now : ℕ) → IsSpelled p l → Fits now → Fits (moment_behind now l)
behind_fits p (comment text) now is low = low
behind_fits p (moment m) now is low = is.1
behind_fits p (word w) now is low = low
behind_fits p (opens c) now is low = low
behind_fits p (sends c piece) now is low = low
behind_fits p (goes c) now is low = low
behind_fits p quiet now is low = low
behind_fits p (says c asked) now is low = low

all_same : (ks : List TraceKnock) (now : ℕ) → Fits now → All (λ m. m < 2 ^ 53) (map (λ k. now) ks)
all_same [] now low = All-nil (λ m. m < 2 ^ 53)
all_same (k ∷ ks) now low = All-cons (λ m. m < 2 ^ 53) now (map (λ k. now) ks) low (all_same ks now low)

moments_fit : (ps : List (List ℕ)) (lines : List Line) (words : List ℕ) (now : ℕ) → AreSpelled ps lines → Fits now
    → All (λ m. m < 2 ^ 53) (knock_moments words now lines) × Fits (moment_after now lines)
moments_fit [] [] words now is low = (All-nil (λ m. m < 2 ^ 53), low)
moments_fit [] (l ∷ lines) words now is low = absurd is
moments_fit (p ∷ ps) [] words now is low = absurd is
moments_fit (p ∷ ps) (l ∷ lines) words now is low =
    let rest = moments_fit ps lines words (moment_behind now l) is.1 (behind_fits p l now is.0 low) in
    (All-append (λ m. m < 2 ^ 53) (map (λ k. now) (knocks_of words l)) (knock_moments words (moment_behind now l) lines) (all_same (knocks_of words l) now low) rest.0, rest.1)

lines_fit : (text : List ℕ) (lines : List Line) → AreSpelled (pieces text) lines → All (λ m. m < 2 ^ 53) (given_by lines).moments
lines_fit text lines is =
    let both = moments_fit (pieces text) lines (words_in lines) 0 is (lit< tt) in
    All-append (λ m. m < 2 ^ 53) (knock_moments (words_in lines) 0 lines) (moment_after 0 lines ∷ []) both.0
    (All-cons (λ m. m < 2 ^ 53) (moment_after 0 lines) [] both.1 (All-nil (λ m. m < 2 ^ 53)))

pub moments_below : (text : List ℕ) (given : Given) → IsTrace text given → All (λ m. m < 2 ^ 53) given.moments
moments_below text given is =
    let P : Given → Type 0 = λ g. All (λ m. m < 2 ^ 53) g.moments in
    subst P (sym is.is) (lines_fit text is.lines is.spelled)
