-- What is told of the body of a script makes its tree.
use Rattle.std.proofs.Common.{◌≡◌, ℕ, ◌+◌, ◌-◌, ◌<◌, ◌≤◌, List, [], ◌∷◌, ◌++◌, length, take, reverse, drop, Option, Some, None, get_or, refl, sym, ap, ◌∙◌, subst, arith, append-nil}
use Rattle.std.specs.Prelude.{min, Result, Ok, Err, IfOk}
use Rattle.rip_parser.specs.declared.error.BuildError.{BuildError}
use Rattle.rip_parser.specs.declared.error.BuildError.TheVariants as B
use Rattle.std.proofs.Math.Seq.{take-append_seam, take-length}
use Rattle.rip_lexer.specs.declared.token.Token.{Token}
use Rattle.rip_lexer.specs.Tokens.{IsTokens}
use Rattle.rip_grammar.specs.declared.event.Event.{Event}
use Rattle.rip_grammar.specs.Phrases.{Phrase}
use Rattle.rip_grammar.specs.Events.{emit, width}
use Rattle.rip_grammar.specs.Depths.{levels, depth}
use Rattle.rip_grammar.specs.Grammar.{is_element}
use Rattle.rip_parser.specs.Parsed.{IsBody}
use Rattle.rip_parser.specs.Shows.{Shows, ShowsScript}
use Rattle.rip_parser.specs.Building.{State, Fits, HasRoom, numbers as numbers_of, greatest, deeper, beginning, IsTakeable, node_count, rooted}
use Rattle.rip_parser.proofs.Courses.{Builds, capped}
use Rattle.rip_parser.proofs.Made.{After, Extends, left}
use Rattle.rip_parser.proofs.Told.{Comes-after}
use Rattle.rip_parser.proofs.Following.{Each}
use Rattle.rip_parser.proofs.Readings.{readable}
use Rattle.rip_parser.proofs.Shapes.{list-flat, element-one}
use Rattle.rip_parser.proofs.Numbers.{Begins, Numbered, Reads, numbers}
use Rattle.rip_parser.proofs.Kept.{told-more, told-all, count-within, builds-kept, builds-laid, has-room}

module _ (script : List ℕ) (tokens : List Token) (total : ℕ) (body : Phrase) (are : IsTokens script tokens) (is : IsBody script tokens body) where
  told-of : (after : Option State) → Builds script tokens total (emit body []) after → Numbered script tokens total body (width body) [] after
  told-of after builds =
      numbers script tokens total body (is.end ∷ []) [] after (list-flat is_element element-one body is.list) is.made
      (subst (λ ls. Each (Reads script tokens) ls) is.whole (readable script tokens are)) builds

  -- what is told of a body is never refused
  pub never-none : Builds script tokens total (emit body []) None → ⊥
  never-none builds =
      let t = told-of None builds in
      subst (λ b. Comes-after (λ tree. Shows script tree body) (width body) (levels body) (Begins body) b None) t.1 t.2

  pub whole-after : (s : State) → Builds script tokens total (emit body []) (Some s) → After (λ tree. Shows script tree body) (width body) (levels body) (Begins body) (beginning script total) s
  whole-after s builds =
      let t = told-of (Some s) builds in
      subst (λ b. Comes-after (λ tree. Shows script tree body) (width body) (levels body) (Begins body) b (Some s)) t.1 t.2

  -- its tree, once the root is made
  pub shows-script : (s : State) → Builds script tokens total (emit body []) (Some s) → length s.growth.branches + 1 ≡ s.growth.total → ShowsScript script (rooted s) body
  shows-script s builds full =
      let a = whole-after s builds in
      let extends : Extends s.growth (rooted s) = record {
        front = record { node = _; children = numbers_of s.parts } ∷ [];
        branches-is = refl;
        long = omega arith;
        more = [];
        units-is = sym (append-nil s.growth.units);
      } in
      let below = a.back (rooted s) extends in
      let high : total - 0 ≡ length (rooted s).branches = omega (arith, below.long) in
      let low : left s ≡ 1 = omega (arith, full) in
      let shows : Shows script (rooted s) body (numbers_of a.parts) (length (rooted s).branches) 1 =
      subst (λ k. Shows script (rooted s) body (numbers_of a.parts) k 1) high
      (subst (λ k. Shows script (rooted s) body (numbers_of a.parts) (total - 0) k) low (a.shows (rooted s) extends)) in
      let laid = builds-laid script tokens total (emit body []) s builds in
      record {
        root = (numbers_of s.parts, refl, refl, subst (λ ns. Shows script (rooted s) body ns (length (rooted s).branches) 1) (sym (ap numbers_of a.parts-is)) shows);
        spelled = ap (λ us. take (length script) us) below.units-is ∙ take-append_seam script below.more;
        laid = (tt, laid.0);
        full = laid.1 ∙ omega arith;
      }

  pub is-deep : (s : State) → Builds script tokens total (emit body []) (Some s) → deeper (greatest s.parts) ≡ min (depth body) 201
  is-deep s builds =
      let a = whole-after s builds in
      ap (λ ps. deeper (greatest ps)) a.parts-is ∙ ap deeper a.depth-is ∙ cap (levels body)
    where
      cap : (n : ℕ) → deeper (capped n) ≡ min (1 + n) 201
      cap n = omega arith

-- where one event is refused, all are
builds-none : (script : List ℕ) (tokens : List Token) (total : ℕ) (more told : List Event) → Builds script tokens total told None → Builds script tokens total (more ++ told) None
builds-none script tokens total [] told builds = builds
builds-none script tokens total (event ∷ more) told builds = (None, builds-none script tokens total more told builds, refl)

pub refused-all : (script : List ℕ) (tokens : List Token) (total : ℕ) (events : List Event) (i : ℕ) (d : Event) (s : State) → i < length events → Builds script tokens total (reverse (take i events)) (Some s)
    → (IsTakeable script tokens (get_or events i d) s → ⊥) → Builds script tokens total (reverse events) None
refused-all script tokens total events i d s within builds stuck =
    subst (λ es. Builds script tokens total es None) (sym (told-all events (i + 1)))
    (builds-none script tokens total (reverse (drop (i + 1) events)) (reverse (take (i + 1) events))
    (subst (λ es. Builds script tokens total es None) (sym (told-more events i d within)) (Some s, builds, stuck)))

-- at each event the parts fit, and a node is left to make
pub loop-kept : (script : List ℕ) (tokens : List Token) (total : ℕ) (events : List Event) (i : ℕ) (d : Event) (s : State) → total ≡ node_count (reverse events) + 1 → i < length events
    → Builds script tokens total (reverse (take i events)) (Some s) → Fits s × HasRoom (get_or events i d) s
loop-kept script tokens total events i d s total-is within builds =
    let before = count-within events i in
    let here = count-within events (i + 1) in
    let more = ap node_count (told-more events i d within) in
    let kept = builds-kept script tokens total (reverse (take i events)) s builds (omega arith) in
    (kept.fits, has-room (get_or events i d) s (reverse (take i events)) total kept (omega arith))

-- after the last event all are told
pub all-told : (script : List ℕ) (tokens : List Token) (total : ℕ) (events : List Event) (i : ℕ) (s : State) → i ≤ length events → length events ≤ i
    → Builds script tokens total (reverse (take i events)) (Some s) → Builds script tokens total (reverse events) (Some s)
all-told script tokens total events i s below past builds =
    let end : i ≡ length events = omega arith in
    subst (λ es. Builds script tokens total (reverse es) (Some s)) (ap (λ k. take k events) end ∙ take-length events) builds

pub end-kept : (script : List ℕ) (tokens : List Token) (total : ℕ) (events : List Event) (s : State) → total ≡ node_count (reverse events) + 1
    → Builds script tokens total (reverse events) (Some s) → Fits s × (length s.growth.branches + 1 ≡ s.growth.total)
end-kept script tokens total events s total-is builds =
    let kept = builds-kept script tokens total (reverse events) s builds (omega arith) in
    let count = kept.count-is in
    let all = kept.total-is in
    (kept.fits, omega arith)

-- what holds of an answer, if there is one
pub IfOk-map : {T X : Type 0} (r : Result T X) (P Q : T → Type 0) → ((x : T) → P x → Q x) → IfOk r P → IfOk r Q
IfOk-map (Ok x) P Q more p = more x p
IfOk-map (Err e) P Q more p = tt

-- what is not for want of a phrase is for want of memory
pub for-memory : (e : BuildError) → (e ≡ B.NoPhrase → ⊥) → e ≡ B.Memory
for-memory B.Memory other = refl
for-memory B.NoPhrase other = absurd (other refl)
