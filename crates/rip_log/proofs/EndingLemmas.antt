-- How a batch ended, told by the words.
use Rattle.std.proofs.Common.{◌≡◌, ◌≢◌, ℕ, ◌<◌, ◌^◌, List, [], ◌∷◌, cond, bytes_eq, codes, decimal, Option, Some, None, refl, sym, ap, subst, ◌∙◌, arith}
use Rattle.rip_base.specs.declared.report.BadReport.{BadReport}
use Rattle.rip_base.specs.declared.value.Limit.{Limit}
use Rattle.rip_base.specs.declared.value.Limit.TheVariants as L
use Rattle.rip_base.specs.declared.value.Fault.{Fault}
use Rattle.rip_base.specs.declared.value.Fault.TheVariants as F
use Rattle.rip_wire.specs.Calls.{IsCallText}
use Rattle.rip_wire.specs.Reasons.{limit_reason, fault_reason, reason_word}
use Rattle.rip_wire.specs.declared.ending.Ending.{Ending}
use Rattle.rip_wire.specs.declared.ending.Ending.TheVariants as E
use Rattle.rip_log.specs.Endings.{report_word, made_word, ending_words, IsCause}
use Rattle.rip_log.specs.Parts.{IsNoneOrCallText}
use Rattle.rip_log.specs.Ranges.{IsEnding, IsNoneOrEnding}

pub first_same : (v w : List ℕ) (a b : List (List ℕ)) → v ∷ a ≡ w ∷ b → v ≡ w
first_same v w a b e = cc

pub rest_same : (v w : List ℕ) (a b : List (List ℕ)) → v ∷ a ≡ w ∷ b → a ≡ b
rest_same v w a b e = cc

pub no_words : (w : List ℕ) (ws : List (List ℕ)) → [] ≡ w ∷ ws → ⊥
no_words w ws e = cc

-- which of the forms a first word begins: 0 for `ok`, 1 for a mismatch, 2 for a report, 3 for any other
unfoldable pub form_of : List ℕ → ℕ
form_of w = cond (bytes_eq w (codes "ok")) 0 (cond (bytes_eq w (codes "mismatch")) 1 (cond (bytes_eq w (codes "report")) 2 3))

form_limit : (l : Limit) → form_of (reason_word (limit_reason l)) ≡ 3
unfolding form_of
form_limit L.Fuel = refl
form_limit L.Cells = refl
form_limit L.Units = refl
form_limit L.Nodes = refl
form_limit L.Depth = refl
form_limit L.Queue = refl
form_limit L.Replies = refl

form_fault : (f : Fault) → form_of (reason_word (fault_reason f)) ≡ 3
unfolding form_of
form_fault F.NotWhole = refl
form_fault F.Infinite = refl
form_fault F.OutOfRange = refl
form_fault F.Hole = refl
form_fault F.NotInProfile = refl
form_fault F.ObjectToPrimitive = refl
form_fault F.BadArgument = refl
form_fault F.LoneSurrogate = refl
form_fault F.TextTooLong = refl

unfoldable pub form : Option Ending → ℕ
form None = 0
form (Some (E.Mismatch item number reported made)) = 1
form (Some (E.BadReport item kind)) = 2
form (Some (E.Limit item limit)) = 3
form (Some (E.Fault item fault)) = 3
form (Some (E.Memory item)) = 3
form (Some E.Closed) = 3

pub form_same : (ended : Option Ending) (w : List ℕ) (rest : List (List ℕ)) → w ∷ rest ≡ ending_words ended → form_of w ≡ form ended
unfolding form_of form
form_same None w rest e = ap form_of (first_same w (codes "ok") rest [] e)
form_same (Some (E.Mismatch item number reported made)) w rest e = ap form_of (first_same w (codes "mismatch") rest _ e)
form_same (Some (E.BadReport item kind)) w rest e = ap form_of (first_same w (codes "report") rest _ e)
form_same (Some (E.Limit item limit)) w rest e = ap form_of (first_same w (reason_word (limit_reason limit)) rest _ e) ∙ form_limit limit
form_same (Some (E.Fault item fault)) w rest e = ap form_of (first_same w (reason_word (fault_reason fault)) rest _ e) ∙ form_fault fault
form_same (Some (E.Memory item)) w rest e = ap form_of (first_same w (codes "memory") rest _ e)
form_same (Some E.Closed) w rest e = ap form_of (first_same w (codes "closed") rest _ e)

form_ok : form_of (codes "ok") ≡ 0
unfolding form_of
form_ok = refl

form_mismatch : form_of (codes "mismatch") ≡ 1
unfolding form_of
form_mismatch = refl

form_report : form_of (codes "report") ≡ 2
unfolding form_of
form_report = refl

pub some_words : (ws : List (List ℕ)) → ws ≡ [] → (ended : Option Ending) → IsNoneOrEnding ended → ws ≡ ending_words ended → ⊥
some_words ws none None h e = no_words _ _ (sym none ∙ e)
some_words ws none (Some (E.Mismatch item number reported made)) h e = no_words _ _ (sym none ∙ e)
some_words ws none (Some (E.BadReport item kind)) h e = no_words _ _ (sym none ∙ e)
some_words ws none (Some (E.Limit item limit)) h e = no_words _ _ (sym none ∙ e)
some_words ws none (Some (E.Fault item fault)) h e = no_words _ _ (sym none ∙ e)
some_words ws none (Some (E.Memory item)) h e = no_words _ _ (sym none ∙ e)
some_words ws none (Some E.Closed) h e = no_words _ _ (sym none ∙ e)

pub only_ok : (ws : List (List ℕ)) (w : List ℕ) (rest : List (List ℕ)) → ws ≡ w ∷ rest → w ≡ codes "ok" → rest ≢ [] → (ended : Option Ending) → IsNoneOrEnding ended → ws ≡ ending_words ended → ⊥
unfolding form
only_ok ws w rest is ok more None h e = more (rest_same w (codes "ok") rest [] (sym is ∙ e))
only_ok ws w rest is ok more (Some (E.Mismatch item number reported made)) h e =
    omega (arith, form_same (Some (E.Mismatch item number reported made)) w rest (sym is ∙ e), ap form_of ok, form_ok)
only_ok ws w rest is ok more (Some (E.BadReport item kind)) h e =
    omega (arith, form_same (Some (E.BadReport item kind)) w rest (sym is ∙ e), ap form_of ok, form_ok)
only_ok ws w rest is ok more (Some (E.Limit item limit)) h e =
    omega (arith, form_same (Some (E.Limit item limit)) w rest (sym is ∙ e), ap form_of ok, form_ok)
only_ok ws w rest is ok more (Some (E.Fault item fault)) h e =
    omega (arith, form_same (Some (E.Fault item fault)) w rest (sym is ∙ e), ap form_of ok, form_ok)
only_ok ws w rest is ok more (Some (E.Memory item)) h e =
    omega (arith, form_same (Some (E.Memory item)) w rest (sym is ∙ e), ap form_of ok, form_ok)
only_ok ws w rest is ok more (Some E.Closed) h e = absurd h

pub only_mismatch : (ws : List (List ℕ)) (w : List ℕ) (rest : List (List ℕ)) → ws ≡ w ∷ rest → w ≡ codes "mismatch"
    → ((item number : ℕ) (reported : List ℕ) (made : Option (List ℕ)) → item < 2 ^ 32 → number < 2 ^ 32 → IsCallText reported → IsNoneOrCallText made → rest ≡ decimal item ∷ decimal number ∷ reported ∷ made_word made ∷ [] → ⊥)
    → (ended : Option Ending) → IsNoneOrEnding ended → ws ≡ ending_words ended → ⊥
unfolding form
only_mismatch ws w rest is word none None h e =
    omega (arith, form_same None w rest (sym is ∙ e), ap form_of word, form_mismatch)
only_mismatch ws w rest is word none (Some (E.Mismatch item number reported made)) h e =
    none item number reported made h.0 h.1 h.2 h.3 (rest_same w (codes "mismatch") rest _ (sym is ∙ e))
only_mismatch ws w rest is word none (Some (E.BadReport item kind)) h e =
    omega (arith, form_same (Some (E.BadReport item kind)) w rest (sym is ∙ e), ap form_of word, form_mismatch)
only_mismatch ws w rest is word none (Some (E.Limit item limit)) h e =
    omega (arith, form_same (Some (E.Limit item limit)) w rest (sym is ∙ e), ap form_of word, form_mismatch)
only_mismatch ws w rest is word none (Some (E.Fault item fault)) h e =
    omega (arith, form_same (Some (E.Fault item fault)) w rest (sym is ∙ e), ap form_of word, form_mismatch)
only_mismatch ws w rest is word none (Some (E.Memory item)) h e =
    omega (arith, form_same (Some (E.Memory item)) w rest (sym is ∙ e), ap form_of word, form_mismatch)
only_mismatch ws w rest is word none (Some E.Closed) h e = absurd h

pub only_report : (ws : List (List ℕ)) (w : List ℕ) (rest : List (List ℕ)) → ws ≡ w ∷ rest → w ≡ codes "report"
    → ((item : ℕ) (kind : BadReport) → item < 2 ^ 32 → rest ≡ decimal item ∷ report_word kind ∷ [] → ⊥)
    → (ended : Option Ending) → IsNoneOrEnding ended → ws ≡ ending_words ended → ⊥
unfolding form
only_report ws w rest is word none None h e =
    omega (arith, form_same None w rest (sym is ∙ e), ap form_of word, form_report)
only_report ws w rest is word none (Some (E.Mismatch item number reported made)) h e =
    omega (arith, form_same (Some (E.Mismatch item number reported made)) w rest (sym is ∙ e), ap form_of word, form_report)
only_report ws w rest is word none (Some (E.BadReport item kind)) h e =
    none item kind h (rest_same w (codes "report") rest _ (sym is ∙ e))
only_report ws w rest is word none (Some (E.Limit item limit)) h e =
    omega (arith, form_same (Some (E.Limit item limit)) w rest (sym is ∙ e), ap form_of word, form_report)
only_report ws w rest is word none (Some (E.Fault item fault)) h e =
    omega (arith, form_same (Some (E.Fault item fault)) w rest (sym is ∙ e), ap form_of word, form_report)
only_report ws w rest is word none (Some (E.Memory item)) h e =
    omega (arith, form_same (Some (E.Memory item)) w rest (sym is ∙ e), ap form_of word, form_report)
only_report ws w rest is word none (Some E.Closed) h e = absurd h

pub only_cause : (ws : List (List ℕ)) (w : List ℕ) (rest : List (List ℕ)) → ws ≡ w ∷ rest → w ≢ codes "ok" → w ≢ codes "mismatch" → w ≢ codes "report"
    → ((e : Ending) → IsCause e → IsEnding e → w ∷ rest ≡ ending_words (Some e) → ⊥)
    → (ended : Option Ending) → IsNoneOrEnding ended → ws ≡ ending_words ended → ⊥
only_cause ws w rest is no_ok no_mismatch no_report none None h e = no_ok (first_same w (codes "ok") rest [] (sym is ∙ e))
only_cause ws w rest is no_ok no_mismatch no_report none (Some (E.Mismatch item number reported made)) h e =
    no_mismatch (first_same w (codes "mismatch") rest _ (sym is ∙ e))
only_cause ws w rest is no_ok no_mismatch no_report none (Some (E.BadReport item kind)) h e =
    no_report (first_same w (codes "report") rest _ (sym is ∙ e))
only_cause ws w rest is no_ok no_mismatch no_report none (Some (E.Limit item limit)) h e = none (E.Limit item limit) tt h (sym is ∙ e)
only_cause ws w rest is no_ok no_mismatch no_report none (Some (E.Fault item fault)) h e = none (E.Fault item fault) tt h (sym is ∙ e)
only_cause ws w rest is no_ok no_mismatch no_report none (Some (E.Memory item)) h e = none (E.Memory item) tt h (sym is ∙ e)
only_cause ws w rest is no_ok no_mismatch no_report none (Some E.Closed) h e = absurd h

pub not_made : (word : List ℕ) → word ≢ codes "none" → (IsCallText word → ⊥) → (made : Option (List ℕ)) → IsNoneOrCallText made → word ≡ made_word made → ⊥
not_made word other none None h e = other e
not_made word other none (Some text) h e = none (subst IsCallText (sym e) h)

-- ---- limits, faults and want of memory

-- a cause has its word and its item, and no more
pub no_item : (w : List ℕ) (ws : List (List ℕ)) → ((n : ℕ) (rest : List (List ℕ)) → n < 2 ^ 32 → ws ≡ decimal n ∷ rest → ⊥) → (e : Ending) → IsCause e → IsEnding e → w ∷ ws ≡ ending_words (Some e) → ⊥
no_item w ws none (E.Mismatch item number reported made) cause h e = absurd cause
no_item w ws none (E.BadReport item kind) cause h e = absurd cause
no_item w ws none (E.Limit item limit) cause h e = none item [] h (rest_same w _ ws _ e)
no_item w ws none (E.Fault item fault) cause h e = none item [] h (rest_same w _ ws _ e)
no_item w ws none (E.Memory item) cause h e = none item [] h (rest_same w _ ws _ e)
no_item w ws none E.Closed cause h e = absurd cause

pub more_words : (w : List ℕ) (ws : List (List ℕ)) (n : ℕ) (rest : List (List ℕ)) → ws ≡ decimal n ∷ rest → rest ≢ [] → (e : Ending) → IsCause e → IsEnding e → w ∷ ws ≡ ending_words (Some e) → ⊥
more_words w ws n rest is more (E.Mismatch item number reported made) cause h e = absurd cause
more_words w ws n rest is more (E.BadReport item kind) cause h e = absurd cause
more_words w ws n rest is more (E.Limit item limit) cause h e = more (rest_same (decimal n) (decimal item) rest [] (sym is ∙ rest_same w _ ws _ e))
more_words w ws n rest is more (E.Fault item fault) cause h e = more (rest_same (decimal n) (decimal item) rest [] (sym is ∙ rest_same w _ ws _ e))
more_words w ws n rest is more (E.Memory item) cause h e = more (rest_same (decimal n) (decimal item) rest [] (sym is ∙ rest_same w _ ws _ e))
more_words w ws n rest is more E.Closed cause h e = absurd cause

pub no_cause : (w : List ℕ) (ws : List (List ℕ)) → ((l : Limit) → w ≡ reason_word (limit_reason l) → ⊥) → ((f : Fault) → w ≡ reason_word (fault_reason f) → ⊥) → w ≢ codes "memory" → (e : Ending) → IsCause e → IsEnding e → w ∷ ws ≡ ending_words (Some e) → ⊥
no_cause w ws no_limit no_fault no_memory (E.Mismatch item number reported made) cause h e = absurd cause
no_cause w ws no_limit no_fault no_memory (E.BadReport item kind) cause h e = absurd cause
no_cause w ws no_limit no_fault no_memory (E.Limit item limit) cause h e = no_limit limit (first_same w _ ws _ e)
no_cause w ws no_limit no_fault no_memory (E.Fault item fault) cause h e = no_fault fault (first_same w _ ws _ e)
no_cause w ws no_limit no_fault no_memory (E.Memory item) cause h e = no_memory (first_same w _ ws _ e)
no_cause w ws no_limit no_fault no_memory E.Closed cause h e = absurd cause

-- the numbers of a mismatch, and then no calls
pub no_calls : (ws : List (List ℕ)) (i : ℕ) (a : List (List ℕ)) (k : ℕ) (b : List (List ℕ)) → ws ≡ decimal i ∷ a → a ≡ decimal k ∷ b
    → ((reported : List ℕ) (made : Option (List ℕ)) → IsCallText reported → IsNoneOrCallText made → b ≡ reported ∷ made_word made ∷ [] → ⊥)
    → (item number : ℕ) (reported : List ℕ) (made : Option (List ℕ)) → item < 2 ^ 32 → number < 2 ^ 32 → IsCallText reported → IsNoneOrCallText made → ws ≡ decimal item ∷ decimal number ∷ reported ∷ made_word made ∷ [] → ⊥
no_calls ws i a k b first second none item number reported made hi hk hr hm e =
    let behind = rest_same (decimal i) (decimal item) a (decimal number ∷ reported ∷ made_word made ∷ []) (sym first ∙ e) in
    none reported made hr hm (rest_same (decimal k) (decimal number) b (reported ∷ made_word made ∷ []) (sym second ∙ behind))
