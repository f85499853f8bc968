-- Files of gestures, line by line.
use Rattle.std.proofs.Common.{◌≡◌, ℕ, suc, ◌+◌, ◌<◌, ◌^◌, List, [], ◌∷◌, ◌++◌, length, Option, Some, None, refl, sym, ap, subst, ◌∙◌, arith, append_assoc, append-nil, length-append, add-zero}
use Rattle.rip_wire.specs.declared.gesture.Gesture.{Gesture}
use Rattle.rip_outer.specs.Pieces.{pieces}
use Rattle.rip_trace.specs.declared.gestures.LinedGesture.{LinedGesture}
use Rattle.rip_trace.specs.Gestures.{IsGestureLine, AreGestureLines, lined, lined_from, AreGestures, HasNoLineAt, GesturesAreOne}
use Rattle.rip_trace.proofs.GestureLemmas.{line_one}

first_piece : (p q : List ℕ) (a b : List (List ℕ)) → p ∷ a ≡ q ∷ b → p ≡ q
first_piece p q a b e = cc

rest_pieces : (p q : List ℕ) (a b : List (List ℕ)) → p ∷ a ≡ q ∷ b → a ≡ b
rest_pieces p q a b e = cc

some_pieces : (p : List ℕ) (a : List (List ℕ)) → [] ≡ p ∷ a → ⊥
some_pieces p a e = cc

more_lines : (k l : Option Gesture) (a b : List (Option Gesture)) → k ≡ l → a ≡ b → k ∷ a ≡ l ∷ b
more_lines k l a b e f = cc

lines_one : (ps : List (List ℕ)) (ks ls : List (Option Gesture)) → AreGestureLines ps ks → AreGestureLines ps ls → ks ≡ ls
lines_one [] [] [] h g = refl
lines_one [] [] (l ∷ ls) h g = absurd g
lines_one [] (k ∷ ks) ls h g = absurd h
lines_one (p ∷ ps) [] ls h g = absurd h
lines_one (p ∷ ps) (k ∷ ks) [] h g = absurd g
lines_one (p ∷ ps) (k ∷ ks) (l ∷ ls) h g = more_lines k l ks ls (line_one p k l h.0 g.0) (lines_one ps ks ls h.1 g.1)

lines_push : (ps : List (List ℕ)) (ls : List (Option Gesture)) (p : List ℕ) (l : Option Gesture) → AreGestureLines ps ls → IsGestureLine p l → AreGestureLines (ps ++ p ∷ []) (ls ++ l ∷ [])
lines_push [] [] p l h g = (g, tt)
lines_push [] (k ∷ ls) p l h g = absurd h
lines_push (q ∷ ps) [] p l h g = absurd h
lines_push (q ∷ ps) (k ∷ ls) p l h g = (h.0, lines_push ps ls p l h.1 g)

lined_push : (n : ℕ) (ls : List (Option Gesture)) (l : Option Gesture) → lined_from n (ls ++ l ∷ []) ≡ lined_from n ls ++ lined (n + length ls) l
lined_push n [] l = append-nil (lined n l) ∙ ap (λ m. lined m l) (sym (add-zero n))
lined_push n (k ∷ ls) l =
    ap (λ gs. lined n k ++ gs) (lined_push (n + 1) ls l)
    ∙ ap (λ m. lined n k ++ (lined_from (n + 1) ls ++ lined m l)) (behind n ls)
    ∙ sym (append_assoc (lined n k) (lined_from (n + 1) ls) (lined (n + length (k ∷ ls)) l))
  where
    behind : (n : ℕ) (ls : List (Option Gesture)) → n + 1 + length ls ≡ n + suc (length ls)
    behind n ls = omega arith

-- the gestures of the pieces that were passed
pub record Progress (all : List (List ℕ)) (number : ℕ) (gestures : List LinedGesture) (left : List (List ℕ)) : Type 0 where
  pub lines : List (Option Gesture)
  pub fronts : List (List ℕ)
  pub is : all ≡ fronts ++ left
  pub spelled : AreGestureLines fronts lines
  pub count : number ≡ length lines
  pub are : gestures ≡ lined_from 1 lines
  pub passed_by : number + length left ≡ length all

pub progress_none : (all : List (List ℕ)) (gestures : List LinedGesture) → gestures ≡ [] → Progress all 0 gestures all
progress_none all gestures e = record { lines = []; fronts = []; is = refl; spelled = tt; count = refl; are = e; passed_by = omega arith }

passed : (all fronts left : List (List ℕ)) (p : List ℕ) (behind : List (List ℕ)) → all ≡ fronts ++ left → left ≡ p ∷ behind → all ≡ (fronts ++ p ∷ []) ++ behind
passed all fronts left p behind is e = is ∙ ap (λ ps. fronts ++ ps) e ∙ sym (append_assoc fronts (p ∷ []) behind)

pub progress_more : (all : List (List ℕ)) (number : ℕ) (gestures : List LinedGesture) (left : List (List ℕ)) (p : List ℕ) (behind : List (List ℕ)) (next : ℕ) (new : List LinedGesture) (l : Option Gesture)
    → Progress all number gestures left → left ≡ p ∷ behind → next ≡ number + 1 → IsGestureLine p l → new ≡ gestures ++ lined next l → Progress all next new behind
progress_more all number gestures left p behind next new l f e count h is =
    let place : next ≡ 1 + length f.lines = omega (arith, count, f.count) in
    record {
      lines = f.lines ++ l ∷ [];
      fronts = f.fronts ++ p ∷ [];
      is = passed all f.fronts left p behind f.is e;
      spelled = lines_push f.fronts f.lines p l f.spelled h;
      count = omega (arith, count, f.count, length-append f.lines (l ∷ []));
      are = is ∙ ap (λ gs. gs ++ lined next l) f.are ∙ ap (λ n. lined_from 1 f.lines ++ lined n l) place ∙ sym (lined_push 1 f.lines l);
      passed_by = omega (arith, count, f.passed_by, ap length e);
    }

pub progress_bound : (all : List (List ℕ)) (number : ℕ) (gestures : List LinedGesture) (left : List (List ℕ)) (p : List ℕ) (behind : List (List ℕ)) → Progress all number gestures left → left ≡ p ∷ behind → length all < 2 ^ 64 → number + 1 < 2 ^ 64
progress_bound all number gestures left p behind f e bound = omega (arith, f.passed_by, ap length e)

pub progress_refused : (text : List ℕ) (number : ℕ) (gestures : List LinedGesture) (left : List (List ℕ)) (p : List ℕ) (behind : List (List ℕ)) (next : ℕ)
    → Progress (pieces text) number gestures left → left ≡ p ∷ behind → next ≡ number + 1 → ((l : Option Gesture) → IsGestureLine p l → ⊥) → HasNoLineAt text next
progress_refused text number gestures left p behind next f e count none = record {
  before = f.lines;
  fronts = f.fronts;
  here = p;
  behind = behind;
  is = f.is ∙ ap (λ ps. f.fronts ++ ps) e;
  spelled = f.spelled;
  count = omega (arith, count, f.count);
  none = none;
}

pub progress_all : (text : List ℕ) (number : ℕ) (gestures : List LinedGesture) (left : List (List ℕ)) → Progress (pieces text) number gestures left → left ≡ [] → AreGestures text gestures
progress_all text number gestures left f none =
    let whole : pieces text ≡ f.fronts = f.is ∙ ap (λ ps. f.fronts ++ ps) none ∙ append-nil f.fronts in
    record { lines = f.lines; spelled = subst (λ ps. AreGestureLines ps f.lines) (sym whole) f.spelled; are = f.are }

-- ---- laws

stops_same : (xs ys : List (Option Gesture)) (f g a b : List (List ℕ)) (p q : List ℕ) → AreGestureLines f xs → AreGestureLines g ys
    → ((l : Option Gesture) → ¬ IsGestureLine p l) → ((l : Option Gesture) → ¬ IsGestureLine q l) → f ++ p ∷ a ≡ g ++ q ∷ b → length xs ≡ length ys
stops_same [] [] f g a b p q sf sg np nq e = refl
stops_same [] (y ∷ ys) [] [] a b p q sf sg np nq e = absurd sg
stops_same [] (y ∷ ys) [] (g0 ∷ g) a b p q sf sg np nq e = absurd (np y (subst (λ r. IsGestureLine r y) (sym (first_piece p g0 a (g ++ q ∷ b) e)) sg.0))
stops_same [] (y ∷ ys) (f0 ∷ f) g a b p q sf sg np nq e = absurd sf
stops_same (x ∷ xs) [] [] g a b p q sf sg np nq e = absurd sf
stops_same (x ∷ xs) [] (f0 ∷ f) [] a b p q sf sg np nq e = absurd (nq x (subst (λ r. IsGestureLine r x) (first_piece f0 q (f ++ p ∷ a) b e) sf.0))
stops_same (x ∷ xs) [] (f0 ∷ f) (g0 ∷ g) a b p q sf sg np nq e = absurd sg
stops_same (x ∷ xs) (y ∷ ys) [] g a b p q sf sg np nq e = absurd sf
stops_same (x ∷ xs) (y ∷ ys) (f0 ∷ f) [] a b p q sf sg np nq e = absurd sg
stops_same (x ∷ xs) (y ∷ ys) (f0 ∷ f) (g0 ∷ g) a b p q sf sg np nq e =
    ap suc (stops_same xs ys f g a b p q sf.1 sg.1 np nq (rest_pieces f0 g0 (f ++ p ∷ a) (g ++ q ∷ b) e))

no_stop : (xs ys : List (Option Gesture)) (f ps a : List (List ℕ)) (p : List ℕ) → AreGestureLines f xs → AreGestureLines ps ys → ((l : Option Gesture) → ¬ IsGestureLine p l) → ps ≡ f ++ p ∷ a → ⊥
no_stop [] [] [] [] a p sf sp none e = some_pieces p a e
no_stop [] [] [] (p0 ∷ ps) a p sf sp none e = sp
no_stop [] (y ∷ ys) [] [] a p sf sp none e = sp
no_stop [] (y ∷ ys) [] (p0 ∷ ps) a p sf sp none e = none y (subst (λ r. IsGestureLine r y) (first_piece p0 p ps a e) sp.0)
no_stop [] ys (f0 ∷ f) ps a p sf sp none e = sf
no_stop (x ∷ xs) ys [] ps a p sf sp none e = sf
no_stop (x ∷ xs) [] (f0 ∷ f) [] a p sf sp none e = some_pieces f0 (f ++ p ∷ a) e
no_stop (x ∷ xs) [] (f0 ∷ f) (p0 ∷ ps) a p sf sp none e = sp
no_stop (x ∷ xs) (y ∷ ys) (f0 ∷ f) [] a p sf sp none e = sp
no_stop (x ∷ xs) (y ∷ ys) (f0 ∷ f) (p0 ∷ ps) a p sf sp none e = no_stop xs ys f ps a p sf.1 sp.1 none (rest_pieces p0 f0 ps (f ++ p ∷ a) e)

pub gestures_one : GesturesAreOne
gestures_one = record {
  gestures = λ text g h s t. s.are ∙ ap (lined_from 1) (lines_one (pieces text) s.lines t.lines s.spelled t.spelled) ∙ sym t.are;
  number = λ text m n r s. r.count ∙ ap (λ k. k + 1) (stops_same r.before s.before r.fronts s.fronts r.behind s.behind r.here s.here r.spelled s.spelled r.none s.none (sym r.is ∙ s.is)) ∙ sym s.count;
  either = λ text n g t r. no_stop r.before t.lines r.fronts (pieces text) r.behind r.here r.spelled t.spelled r.none r.is;
}
