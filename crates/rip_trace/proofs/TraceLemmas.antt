-- Traces, line by line.
use Rattle.std.proofs.Common.{◌≡◌, ℕ, suc, ◌+◌, ◌<◌, ◌^◌, inl, inr, List, [], ◌∷◌, ◌++◌, length, map, refl, sym, ap, ap₂, subst, ◌∙◌, arith, append_assoc, append-nil, length-append}
use Rattle.rip_outer.specs.Pieces.{pieces}
use Rattle.rip_outer.specs.declared.connections.TraceKnock.{TraceKnock}
use Rattle.rip_trace.specs.Lines.{Line, comment, moment, word, opens, sends, goes, quiet, says}
use Rattle.rip_trace.specs.Spelling.{IsSpelled}
use Rattle.rip_trace.specs.Steps.{Sofar, with_line, MayFollowKnocks, IsAdded, AreWords}
use Rattle.rip_trace.specs.Traces.{MayCome, EachMayCome, words_of, words_in, knocks_of, knocks_in, moment_behind, moment_after, knock_moments, AreSpelled, Given, given_by, IsTrace, IsRefusedAt, TraceIsOne, RefusalIsOne}
use Rattle.rip_trace.proofs.LineLemmas.{spelled_one}
use Rattle.rip_trace.proofs.KnockLemmas.{may_come, may_follow}

first_piece : (p q : List ℕ) (a b : List (List ℕ)) → p ∷ a ≡ q ∷ b → p ≡ q
first_piece p q a b e = cc

rest_pieces : (p q : List ℕ) (a b : List (List ℕ)) → p ∷ a ≡ q ∷ b → a ≡ b
rest_pieces p q a b e = cc

some_pieces : (p : List ℕ) (a : List (List ℕ)) → [] ≡ p ∷ a → ⊥
some_pieces p a e = cc

more_lines : (k l : Line) (a b : List Line) → k ≡ l → a ≡ b → k ∷ a ≡ l ∷ b
more_lines k l a b e f = cc

-- ---- spelled lines

-- pieces are spelled by one list of lines at most
lines_one : (ps : List (List ℕ)) (ks ls : List Line) → AreSpelled ps ks → AreSpelled ps ls → ks ≡ ls
lines_one [] [] [] h g = refl
lines_one [] [] (l ∷ ls) h g = absurd g
lines_one [] (k ∷ ks) ls h g = absurd h
lines_one (p ∷ ps) [] ls h g = absurd h
lines_one (p ∷ ps) (k ∷ ks) [] h g = absurd g
lines_one (p ∷ ps) (k ∷ ks) (l ∷ ls) h g = more_lines k l ks ls (spelled_one p k l h.0 g.0) (lines_one ps ks ls h.1 g.1)

spelled_push : (ps : List (List ℕ)) (ls : List Line) (p : List ℕ) (l : Line) → AreSpelled ps ls → IsSpelled p l → AreSpelled (ps ++ p ∷ []) (ls ++ l ∷ [])
spelled_push [] [] p l h g = (g, tt)
spelled_push [] (k ∷ ls) p l h g = absurd h
spelled_push (q ∷ ps) [] p l h g = absurd h
spelled_push (q ∷ ps) (k ∷ ls) p l h g = (h.0, spelled_push ps ls p l h.1 g)

come_push : (before ls : List Line) (l : Line) → EachMayCome before ls → MayCome (before ++ ls) l → EachMayCome before (ls ++ l ∷ [])
come_push before [] l h g = (subst (λ ks. MayCome ks l) (append-nil before) g, tt)
come_push before (k ∷ ls) l h g =
    (h.0, come_push (before ++ k ∷ []) ls l h.1 (subst (λ ks. MayCome ks l) (sym (append_assoc before (k ∷ []) ls)) g))

-- ---- words

word_of : (l : Line) (w : ℕ) → l ≡ word w → words_of l ≡ w ∷ []
word_of l w e = ap words_of e

no_word_of : (p : List ℕ) (l : Line) → IsSpelled p l → ((w : ℕ) → IsSpelled p (word w) → ⊥) → words_of l ≡ []
no_word_of p (comment text) h none = refl
no_word_of p (moment m) h none = refl
no_word_of p (word w) h none = absurd (none w h)
no_word_of p (opens c) h none = refl
no_word_of p (sends c piece) h none = refl
no_word_of p (goes c) h none = refl
no_word_of p quiet h none = refl
no_word_of p (says c asked) h none = refl

-- the words of spelled lines are those of their pieces
pub words_are : (ps : List (List ℕ)) (ls : List Line) (ws : List ℕ) → AreSpelled ps ls → AreWords ps ws → ws ≡ words_in ls
words_are [] [] ws h g = g
words_are [] (l ∷ ls) ws h g = absurd h
words_are (p ∷ ps) [] ws h g = absurd h
words_are (p ∷ ps) (l ∷ ls) ws h (inl (w, more, spelled, is, rest)) =
    is ∙ ap₂ (λ (a b : List ℕ). a ++ b) (sym (word_of l w (spelled_one p l (word w) h.0 spelled))) (words_are ps ls more h.1 rest)
words_are (p ∷ ps) (l ∷ ls) ws h (inr (none, rest)) =
    words_are ps ls ws h.1 rest ∙ ap (λ (a : List ℕ). a ++ words_in ls) (sym (no_word_of p l h.0 none))

words_push_some : (ps : List (List ℕ)) (ws : List ℕ) (p : List ℕ) (w : ℕ) → AreWords ps ws → IsSpelled p (word w) → AreWords (ps ++ p ∷ []) (ws ++ w ∷ [])
words_push_some [] ws p w h g = inl (w, [], g, ap (λ (vs : List ℕ). vs ++ w ∷ []) h, refl)
words_push_some (q ∷ ps) ws p w (inl (v, more, spelled, is, rest)) g =
    inl (v, more ++ w ∷ [], spelled, ap (λ (vs : List ℕ). vs ++ w ∷ []) is, words_push_some ps more p w rest g)
words_push_some (q ∷ ps) ws p w (inr (none, rest)) g = inr (none, words_push_some ps ws p w rest g)

words_push_none : (ps : List (List ℕ)) (ws : List ℕ) (p : List ℕ) → AreWords ps ws → ((w : ℕ) → IsSpelled p (word w) → ⊥) → AreWords (ps ++ p ∷ []) ws
words_push_none [] ws p h none = inr (none, h)
words_push_none (q ∷ ps) ws p (inl (v, more, spelled, is, rest)) none = inl (v, more, spelled, is, words_push_none ps more p rest none)
words_push_none (q ∷ ps) ws p (inr (other, rest)) none = inr (other, words_push_none ps ws p rest none)

-- the words that were found in the pieces that were passed
pub record Finding (all left : List (List ℕ)) (ws : List ℕ) : Type 0 where
  pub fronts : List (List ℕ)
  pub is : all ≡ fronts ++ left
  pub words : AreWords fronts ws

pub finding_none : (all : List (List ℕ)) → Finding all all []
finding_none all = record { fronts = []; is = refl; words = refl }

passed : (all fronts left : List (List ℕ)) (p : List ℕ) (behind : List (List ℕ)) → all ≡ fronts ++ left → left ≡ p ∷ behind → all ≡ (fronts ++ p ∷ []) ++ behind
passed all fronts left p behind is e = is ∙ ap (λ ps. fronts ++ ps) e ∙ sym (append_assoc fronts (p ∷ []) behind)

pub finding_some : (all left : List (List ℕ)) (ws : List ℕ) (p : List ℕ) (behind : List (List ℕ)) (w : ℕ) → Finding all left ws → left ≡ p ∷ behind → IsSpelled p (word w) → Finding all behind (ws ++ w ∷ [])
finding_some all left ws p behind w f e h = record { fronts = f.fronts ++ p ∷ []; is = passed all f.fronts left p behind f.is e; words = words_push_some f.fronts ws p w f.words h }

pub finding_pass : (all left : List (List ℕ)) (ws : List ℕ) (p : List ℕ) (behind : List (List ℕ)) → Finding all left ws → left ≡ p ∷ behind → ((w : ℕ) → IsSpelled p (word w) → ⊥) → Finding all behind ws
finding_pass all left ws p behind f e none = record { fronts = f.fronts ++ p ∷ []; is = passed all f.fronts left p behind f.is e; words = words_push_none f.fronts ws p f.words none }

pub finding_all : (all left : List (List ℕ)) (ws : List ℕ) → Finding all left ws → left ≡ [] → AreWords all ws
finding_all all left ws f none = subst (λ ps. AreWords ps ws) (sym (f.is ∙ ap (λ ps. f.fronts ++ ps) none ∙ append-nil f.fronts)) f.words

-- ---- what is read so far

abbrev pub state_of : List ℕ → List Line → Sofar
state_of words lines = record { knocks = knocks_in words lines; moments = knock_moments words 0 lines; now = moment_after 0 lines }

knocks_push : (words : List ℕ) (ls : List Line) (l : Line) → knocks_in words (ls ++ l ∷ []) ≡ knocks_in words ls ++ knocks_of words l
knocks_push words [] l = append-nil (knocks_of words l)
knocks_push words (k ∷ ls) l =
    ap (λ ks. knocks_of words k ++ ks) (knocks_push words ls l) ∙ sym (append_assoc (knocks_of words k) (knocks_in words ls) (knocks_of words l))

after_push : (now : ℕ) (ls : List Line) (l : Line) → moment_after now (ls ++ l ∷ []) ≡ moment_behind (moment_after now ls) l
after_push now [] l = refl
after_push now (k ∷ ls) l = after_push (moment_behind now k) ls l

moments_push : (words : List ℕ) (now : ℕ) (ls : List Line) (l : Line) → knock_moments words now (ls ++ l ∷ []) ≡ knock_moments words now ls ++ map (λ k. moment_after now ls) (knocks_of words l)
moments_push words now [] l = append-nil (map (λ k. now) (knocks_of words l))
moments_push words now (k ∷ ls) l =
    ap (λ ms. map (λ x. now) (knocks_of words k) ++ ms) (moments_push words (moment_behind now k) ls l)
    ∙ sym (append_assoc (map (λ x. now) (knocks_of words k)) (knock_moments words (moment_behind now k) ls) (map (λ x. moment_after (moment_behind now k) ls) (knocks_of words l)))

abbrev made : List TraceKnock → List ℕ → ℕ → Sofar
made knocks moments now = record { knocks = knocks; moments = moments; now = now }

sofar_from : (k l : List TraceKnock) (m n : List ℕ) (s t : ℕ) → k ≡ l → m ≡ n → s ≡ t → made k m s ≡ made l n t
sofar_from k l m n s t ek em es = ap₂ (λ a b. made a b s) ek em ∙ ap (made l n) es

state_push : (words : List ℕ) (ls : List Line) (l : Line) → with_line words (state_of words ls) l ≡ state_of words (ls ++ l ∷ [])
state_push words ls l =
    sofar_from _ _ _ _ _ _ (sym (knocks_push words ls l)) (sym (moments_push words 0 ls l)) (sym (after_push 0 ls l))

-- ---- reading

-- the lines that were read of the pieces that were passed
pub record Progress (all : List (List ℕ)) (words : List ℕ) (number : ℕ) (s : Sofar) (left : List (List ℕ)) : Type 0 where
  pub lines : List Line
  pub fronts : List (List ℕ)
  pub is : all ≡ fronts ++ left
  pub spelled : AreSpelled fronts lines
  pub allowed : EachMayCome [] lines
  pub count : number ≡ length lines
  pub state : s ≡ state_of words lines
  pub passed_by : number + length left ≡ length all

pub progress_none : (all : List (List ℕ)) (words : List ℕ) (s : Sofar) → s ≡ state_of words [] → Progress all words 0 s all
progress_none all words s e = record { lines = []; fronts = []; is = refl; spelled = tt; allowed = tt; count = refl; state = e; passed_by = omega arith }

pub progress_more : (all : List (List ℕ)) (words : List ℕ) (number : ℕ) (s : Sofar) (left : List (List ℕ)) (p : List ℕ) (behind : List (List ℕ)) (next : ℕ) (new : Sofar)
    → Progress all words number s left → left ≡ p ∷ behind → next ≡ number + 1 → IsAdded words p s new → Progress all words next new behind
progress_more all words number s left p behind next new f e count a =
    let may = may_come words f.lines a.line (subst (λ (x : Sofar). MayFollowKnocks x.knocks a.line) f.state a.allowed) in
    record {
      lines = f.lines ++ a.line ∷ [];
      fronts = f.fronts ++ p ∷ [];
      is = passed all f.fronts left p behind f.is e;
      spelled = spelled_push f.fronts f.lines p a.line f.spelled a.spelled;
      allowed = come_push [] f.lines a.line f.allowed may;
      count = omega (arith, count, f.count, length-append f.lines (a.line ∷ []));
      state = a.is ∙ ap (λ x. with_line words x a.line) f.state ∙ state_push words f.lines a.line;
      passed_by = omega (arith, count, f.passed_by, ap length e);
    }

pub progress_bound : (all : List (List ℕ)) (words : List ℕ) (number : ℕ) (s : Sofar) (left : List (List ℕ)) (p : List ℕ) (behind : List (List ℕ)) → Progress all words number s left → left ≡ p ∷ behind → length all < 2 ^ 64 → number + 1 < 2 ^ 64
progress_bound all words number s left p behind f e bound = omega (arith, f.passed_by, ap length e)

pub progress_refused : (text : List ℕ) (words : List ℕ) (number : ℕ) (s : Sofar) (left : List (List ℕ)) (p : List ℕ) (behind : List (List ℕ)) (next : ℕ)
    → Progress (pieces text) words number s left → left ≡ p ∷ behind → next ≡ number + 1 → ((l : Line) → MayFollowKnocks s.knocks l → IsSpelled p l → ⊥) → IsRefusedAt text next
progress_refused text words number s left p behind next f e count none = record {
  before = f.lines;
  fronts = f.fronts;
  here = p;
  behind = behind;
  is = f.is ∙ ap (λ ps. f.fronts ++ ps) e;
  spelled = f.spelled;
  allowed = f.allowed;
  count = omega (arith, count, f.count);
  none = λ l may spelled. none l (subst (λ (x : Sofar). MayFollowKnocks x.knocks l) (sym f.state) (may_follow words f.lines p l spelled may)) spelled;
}

pub progress_all : (text : List ℕ) (words : List ℕ) (number : ℕ) (s : Sofar) (left : List (List ℕ)) (given : Given)
    → Progress (pieces text) words number s left → left ≡ [] → AreWords (pieces text) words → given ≡ record { knocks = s.knocks; moments = s.moments ++ s.now ∷ []; words = words } → IsTrace text given
progress_all text words number s left given f none found is =
    let whole : pieces text ≡ f.fronts = f.is ∙ ap (λ ps. f.fronts ++ ps) none ∙ append-nil f.fronts in
    let spelled = subst (λ ps. AreSpelled ps f.lines) (sym whole) f.spelled in
    let same = words_are (pieces text) f.lines words spelled found in
    let given_so : Sofar → Given = λ x. record { knocks = x.knocks; moments = x.moments ++ x.now ∷ []; words = words } in
    let given_with : List ℕ → Given = λ ws. record { knocks = knocks_in ws f.lines; moments = knock_moments ws 0 f.lines ++ moment_after 0 f.lines ∷ []; words = ws } in
    record {
      lines = f.lines;
      spelled = spelled;
      allowed = f.allowed;
      is = is ∙ ap given_so f.state ∙ ap given_with same;
    }

-- ---- laws

pub traces : TraceIsOne
traces text g h s t = s.is ∙ ap given_by (lines_one (pieces text) s.lines t.lines s.spelled t.spelled) ∙ sym t.is

-- no line of these may follow and is spelled so
abbrev NoneSpells : List Line → List ℕ → Type 0
NoneSpells lines p = (l : Line) → MayCome lines l → ¬ IsSpelled p l

stops_same : (pre xs ys v w : List Line) (f g a b : List (List ℕ)) (p q : List ℕ) → AreSpelled f xs → AreSpelled g ys → EachMayCome pre xs → EachMayCome pre ys
    → NoneSpells v p → NoneSpells w q → v ≡ pre ++ xs → w ≡ pre ++ ys → f ++ p ∷ a ≡ g ++ q ∷ b → length xs ≡ length ys
stops_same pre [] [] v w f g a b p q sf sg cf cg np nq ev ew e = refl
stops_same pre [] (y ∷ ys) v w [] [] a b p q sf sg cf cg np nq ev ew e = absurd sg
stops_same pre [] (y ∷ ys) v w [] (g0 ∷ g) a b p q sf sg cf cg np nq ev ew e =
    absurd (np y (subst (λ ks. MayCome ks y) (sym (ev ∙ append-nil pre)) cg.0) (subst (λ r. IsSpelled r y) (sym (first_piece p g0 a (g ++ q ∷ b) e)) sg.0))
stops_same pre [] (y ∷ ys) v w (f0 ∷ f) g a b p q sf sg cf cg np nq ev ew e = absurd sf
stops_same pre (x ∷ xs) [] v w [] g a b p q sf sg cf cg np nq ev ew e = absurd sf
stops_same pre (x ∷ xs) [] v w (f0 ∷ f) [] a b p q sf sg cf cg np nq ev ew e =
    absurd (nq x (subst (λ ks. MayCome ks x) (sym (ew ∙ append-nil pre)) cf.0) (subst (λ r. IsSpelled r x) (first_piece f0 q (f ++ p ∷ a) b e) sf.0))
stops_same pre (x ∷ xs) [] v w (f0 ∷ f) (g0 ∷ g) a b p q sf sg cf cg np nq ev ew e = absurd sg
stops_same pre (x ∷ xs) (y ∷ ys) v w [] g a b p q sf sg cf cg np nq ev ew e = absurd sf
stops_same pre (x ∷ xs) (y ∷ ys) v w (f0 ∷ f) [] a b p q sf sg cf cg np nq ev ew e = absurd sg
stops_same pre (x ∷ xs) (y ∷ ys) v w (f0 ∷ f) (g0 ∷ g) a b p q sf sg cf cg np nq ev ew e =
    let same : x ≡ y = spelled_one g0 x y (subst (λ r. IsSpelled r x) (first_piece f0 g0 (f ++ p ∷ a) (g ++ q ∷ b) e) sf.0) sg.0 in
    ap suc (stops_same (pre ++ x ∷ []) xs ys v w f g a b p q sf.1 sg.1 cf.1 (subst (λ z. EachMayCome (pre ++ z ∷ []) ys) (sym same) cg.1) np nq (ev ∙ sym (append_assoc pre (x ∷ []) xs)) (ew ∙ ap (λ z. pre ++ z ∷ ys) (sym same) ∙ sym (append_assoc pre (x ∷ []) ys)) (rest_pieces f0 g0 (f ++ p ∷ a) (g ++ q ∷ b) e))

one_number : (text : List ℕ) (m n : ℕ) → IsRefusedAt text m → IsRefusedAt text n → m ≡ n
one_number text m n r s =
    r.count ∙ ap (λ k. k + 1) (stops_same [] r.before s.before r.before s.before r.fronts s.fronts r.behind s.behind r.here s.here r.spelled s.spelled r.allowed s.allowed r.none s.none refl refl (sym r.is ∙ s.is)) ∙ sym s.count

no_stop : (pre xs ys v : List Line) (f ps a : List (List ℕ)) (p : List ℕ) → AreSpelled f xs → AreSpelled ps ys → EachMayCome pre ys → NoneSpells v p → v ≡ pre ++ xs → ps ≡ f ++ p ∷ a → ⊥
no_stop pre [] [] v [] [] a p sf sp cp none ev e = some_pieces p a e
no_stop pre [] [] v [] (p0 ∷ ps) a p sf sp cp none ev e = sp
no_stop pre [] (y ∷ ys) v [] [] a p sf sp cp none ev e = sp
no_stop pre [] (y ∷ ys) v [] (p0 ∷ ps) a p sf sp cp none ev e =
    none y (subst (λ ks. MayCome ks y) (sym (ev ∙ append-nil pre)) cp.0) (subst (λ r. IsSpelled r y) (first_piece p0 p ps a e) sp.0)
no_stop pre [] ys v (f0 ∷ f) ps a p sf sp cp none ev e = sf
no_stop pre (x ∷ xs) ys v [] ps a p sf sp cp none ev e = sf
no_stop pre (x ∷ xs) [] v (f0 ∷ f) [] a p sf sp cp none ev e = some_pieces f0 (f ++ p ∷ a) e
no_stop pre (x ∷ xs) [] v (f0 ∷ f) (p0 ∷ ps) a p sf sp cp none ev e = sp
no_stop pre (x ∷ xs) (y ∷ ys) v (f0 ∷ f) [] a p sf sp cp none ev e = sp
no_stop pre (x ∷ xs) (y ∷ ys) v (f0 ∷ f) (p0 ∷ ps) a p sf sp cp none ev e =
    let same : y ≡ x = spelled_one f0 y x (subst (λ r. IsSpelled r y) (first_piece p0 f0 ps (f ++ p ∷ a) e) sp.0) sf.0 in
    no_stop (pre ++ x ∷ []) xs ys v f ps a p sf.1 sp.1 (subst (λ z. EachMayCome (pre ++ z ∷ []) ys) same cp.1) none (ev ∙ sym (append_assoc pre (x ∷ []) xs)) (rest_pieces p0 f0 ps (f ++ p ∷ a) e)

pub refusals : RefusalIsOne
refusals = record {
  number = one_number;
  no_trace = λ text n given t r. no_stop [] r.before t.lines r.before r.fronts (pieces text) r.behind r.here r.spelled t.spelled t.allowed r.none refl r.is;
}
