-- Two entries with the same words are equal.
use Rattle.std.proofs.Common.{◌≡◌, ℕ, ◌<◌, ◌^◌, List, [], ◌∷◌, cond, bytes_eq, codes, decimal, get_or, Option, Some, None, refl, sym, ap, ◌∙◌, arith}
use Rattle.rip_base.specs.declared.report.BadReport.{BadReport}
use Rattle.rip_base.specs.declared.report.BadReport.TheVariants as B
use Rattle.rip_base.specs.declared.value.Limit.{Limit}
use Rattle.rip_base.specs.declared.value.Limit.TheVariants as L
use Rattle.rip_base.specs.declared.value.Fault.{Fault}
use Rattle.rip_base.specs.declared.value.Fault.TheVariants as F
use Rattle.rip_data.specs.Datum.{Tree, data_of}
use Rattle.rip_data.specs.Datum as tree
use Rattle.rip_data.proofs.TextLaws.{canonical_text-one}
use Rattle.rip_wire.specs.Batches.{Contents}
use Rattle.rip_wire.specs.Calls.{IsCallText}
use Rattle.rip_wire.specs.Items.{Reported, args_tree}
use Rattle.rip_wire.specs.Reasons.{limit_reason, fault_reason, reason_word}
use Rattle.rip_wire.specs.declared.ending.Ending.{Ending}
use Rattle.rip_wire.specs.declared.ending.Ending.TheVariants as E
use Rattle.rip_wire.specs.declared.ending.Reason.{Reason}
use Rattle.rip_wire.specs.declared.ending.Reason.TheVariants as R
use Rattle.rip_wire.proofs.PartLemmas.{items_text-one}
use Rattle.rip_wire.proofs.SameLemmas.{args_same, same_reason}
use Rattle.rip_wire.proofs.TextLemmas.{IsUtf16-IsName}
use Rattle.rip_log.specs.Endings.{report_word, made_word, ending_words}
use Rattle.rip_log.specs.Entries.{Recorded, opened, admitted, served, done, closed, ended, entry_words}
use Rattle.rip_log.specs.Parts.{IsNoneOrCallText}
use Rattle.rip_log.specs.Ranges.{IsRecorded, IsNoneOrEnding}
use Rattle.rip_log.proofs.EndingLemmas.{first_same, rest_same, form, form_same}
use Rattle.rip_log.proofs.Identifiers.{identifier_text-one}
use Rattle.rip_log.proofs.KindLemmas.{batch_items, kind, kind_same, status_small}
use Rattle.rip_log.proofs.Numbers.{number_same}

short : (n : ℕ) → n < 2 ^ 32 → n < 2 ^ 64
short n h = omega arith

long : (n : ℕ) → n < 2 ^ 53 → n < 2 ^ 64
long n h = omega arith

-- ---- what is wrong with a report

bad_of : List ℕ → BadReport
bad_of w = cond (bytes_eq w (codes "node")) B.Node (cond (bytes_eq w (codes "control")) B.Control (cond (bytes_eq w (codes "disabled")) B.Disabled (cond (bytes_eq w (codes "long")) B.Long (cond (bytes_eq w (codes "option")) B.Option (cond (bytes_eq w (codes "number")) B.Number (B.Due))))))

bad_back : (k : BadReport) → bad_of (report_word k) ≡ k
unfolding bad_of
bad_back B.Node = refl
bad_back B.Control = refl
bad_back B.Disabled = refl
bad_back B.Long = refl
bad_back B.Option = refl
bad_back B.Number = refl
bad_back B.Due = refl

bad_same : (k l : BadReport) → report_word k ≡ report_word l → k ≡ l
bad_same k l e = sym (bad_back k) ∙ ap bad_of e ∙ bad_back l

-- ---- limits, faults and want of memory

-- 0 for a limit, 1 for a fault, 2 for want of memory
class : Reason → ℕ
class R.Mismatch = 3
class R.Report = 3
class R.Fuel = 0
class R.Cells = 0
class R.Units = 0
class R.Nodes = 0
class R.Depth = 0
class R.Queue = 0
class R.Replies = 0
class R.NotWhole = 1
class R.Infinite = 1
class R.OutOfRange = 1
class R.Hole = 1
class R.NotInProfile = 1
class R.ObjectToPrimitive = 1
class R.BadArgument = 1
class R.LoneSurrogate = 1
class R.TextTooLong = 1
class R.Memory = 2
class R.Closed = 3

limit_of : Reason → Limit
limit_of R.Mismatch = L.Fuel
limit_of R.Report = L.Fuel
limit_of R.Fuel = L.Fuel
limit_of R.Cells = L.Cells
limit_of R.Units = L.Units
limit_of R.Nodes = L.Nodes
limit_of R.Depth = L.Depth
limit_of R.Queue = L.Queue
limit_of R.Replies = L.Replies
limit_of R.NotWhole = L.Fuel
limit_of R.Infinite = L.Fuel
limit_of R.OutOfRange = L.Fuel
limit_of R.Hole = L.Fuel
limit_of R.NotInProfile = L.Fuel
limit_of R.ObjectToPrimitive = L.Fuel
limit_of R.BadArgument = L.Fuel
limit_of R.LoneSurrogate = L.Fuel
limit_of R.TextTooLong = L.Fuel
limit_of R.Memory = L.Fuel
limit_of R.Closed = L.Fuel

fault_of : Reason → Fault
fault_of R.Mismatch = F.Hole
fault_of R.Report = F.Hole
fault_of R.Fuel = F.Hole
fault_of R.Cells = F.Hole
fault_of R.Units = F.Hole
fault_of R.Nodes = F.Hole
fault_of R.Depth = F.Hole
fault_of R.Queue = F.Hole
fault_of R.Replies = F.Hole
fault_of R.Memory = F.Hole
fault_of R.Closed = F.Hole
fault_of R.NotWhole = F.NotWhole
fault_of R.Infinite = F.Infinite
fault_of R.OutOfRange = F.OutOfRange
fault_of R.Hole = F.Hole
fault_of R.NotInProfile = F.NotInProfile
fault_of R.ObjectToPrimitive = F.ObjectToPrimitive
fault_of R.BadArgument = F.BadArgument
fault_of R.LoneSurrogate = F.LoneSurrogate
fault_of R.TextTooLong = F.TextTooLong

limit_back : (l : Limit) → limit_of (limit_reason l) ≡ l
unfolding limit_of
limit_back L.Fuel = refl
limit_back L.Cells = refl
limit_back L.Units = refl
limit_back L.Nodes = refl
limit_back L.Depth = refl
limit_back L.Queue = refl
limit_back L.Replies = refl

fault_back : (f : Fault) → fault_of (fault_reason f) ≡ f
unfolding fault_of
fault_back F.NotWhole = refl
fault_back F.Infinite = refl
fault_back F.OutOfRange = refl
fault_back F.Hole = refl
fault_back F.NotInProfile = refl
fault_back F.ObjectToPrimitive = refl
fault_back F.BadArgument = refl
fault_back F.LoneSurrogate = refl
fault_back F.TextTooLong = refl

limit_class : (l : Limit) → class (limit_reason l) ≡ 0
unfolding class
limit_class L.Fuel = refl
limit_class L.Cells = refl
limit_class L.Units = refl
limit_class L.Nodes = refl
limit_class L.Depth = refl
limit_class L.Queue = refl
limit_class L.Replies = refl

fault_class : (f : Fault) → class (fault_reason f) ≡ 1
unfolding class
fault_class F.NotWhole = refl
fault_class F.Infinite = refl
fault_class F.OutOfRange = refl
fault_class F.Hole = refl
fault_class F.NotInProfile = refl
fault_class F.ObjectToPrimitive = refl
fault_class F.BadArgument = refl
fault_class F.LoneSurrogate = refl
fault_class F.TextTooLong = refl

memory_class : class R.Memory ≡ 2
unfolding class
memory_class = refl

limit_same : (k l : Limit) → limit_reason k ≡ limit_reason l → k ≡ l
limit_same k l e = sym (limit_back k) ∙ ap limit_of e ∙ limit_back l

fault_same : (f g : Fault) → fault_reason f ≡ fault_reason g → f ≡ g
fault_same f g e = sym (fault_back f) ∙ ap fault_of e ∙ fault_back g

-- a reason and an item
cause_same : (r s : Reason) (i j : ℕ) → i < 2 ^ 32 → j < 2 ^ 32 → reason_word r ∷ decimal i ∷ [] ≡ reason_word s ∷ decimal j ∷ [] → (r ≡ s) × (i ≡ j)
cause_same r s i j hi hj e = (
  same_reason r s (first_same (reason_word r) (reason_word s) (decimal i ∷ []) (decimal j ∷ []) e),
  (number_same i j [] [] (short i hi) (short j hj) (rest_same (reason_word r) (reason_word s) (decimal i ∷ []) (decimal j ∷ []) e)).0,
)

class_same : (r s : Reason) (i j : ℕ) → reason_word r ∷ decimal i ∷ [] ≡ reason_word s ∷ decimal j ∷ [] → class r ≡ class s
class_same r s i j e = ap class (same_reason r s (first_same (reason_word r) (reason_word s) (decimal i ∷ []) (decimal j ∷ []) e))

-- ---- the calls of a mismatch

bracket : (text : List ℕ) → IsCallText text → get_or text 0 0 ≡ 91
bracket text h = ap (λ (t : List ℕ). get_or t 0 0) h.is

made_same : (a b : Option (List ℕ)) → IsNoneOrCallText a → IsNoneOrCallText b → made_word a ≡ made_word b → a ≡ b
made_same None None h g e = refl
made_same None (Some text) h g e = absurd (omega (arith, ap (λ (t : List ℕ). get_or t 0 0) e, bracket text g))
made_same (Some text) None h g e = absurd (omega (arith, ap (λ (t : List ℕ). get_or t 0 0) e, bracket text h))
made_same (Some text) (Some other) h g e = ap Some e

mismatch_from : (i j k l : ℕ) (a b : List ℕ) (o p : Option (List ℕ)) → i ≡ j → k ≡ l → a ≡ b → o ≡ p → Some (E.Mismatch i k a o) ≡ Some (E.Mismatch j l b p)
mismatch_from i j k l a b o p ei ek ea eo = cc

report_from : (i j : ℕ) (k l : BadReport) → i ≡ j → k ≡ l → Some (E.BadReport i k) ≡ Some (E.BadReport j l)
report_from i j k l ei ek = cc

limit_from : (i j : ℕ) (k l : Limit) → i ≡ j → k ≡ l → Some (E.Limit i k) ≡ Some (E.Limit j l)
limit_from i j k l ei ek = cc

fault_from : (i j : ℕ) (k l : Fault) → i ≡ j → k ≡ l → Some (E.Fault i k) ≡ Some (E.Fault j l)
fault_from i j k l ei ek = cc

memory_from : (i j : ℕ) → i ≡ j → Some (E.Memory i) ≡ Some (E.Memory j)
memory_from i j ei = cc

-- ---- endings

pub ending_same : (a b : Option Ending) → IsNoneOrEnding a → IsNoneOrEnding b → ending_words a ≡ ending_words b → a ≡ b
unfolding form
ending_same None None h g e = refl
ending_same None (Some (E.Mismatch yi yk ya yo)) h g e = absurd (omega (arith, form_same (Some (E.Mismatch yi yk ya yo)) (codes "ok") _ e, form_same None (codes "ok") _ refl))
ending_same None (Some (E.BadReport yi yk)) h g e = absurd (omega (arith, form_same (Some (E.BadReport yi yk)) (codes "ok") _ e, form_same None (codes "ok") _ refl))
ending_same None (Some (E.Limit yi yl)) h g e = absurd (omega (arith, form_same (Some (E.Limit yi yl)) (codes "ok") _ e, form_same None (codes "ok") _ refl))
ending_same None (Some (E.Fault yi yf)) h g e = absurd (omega (arith, form_same (Some (E.Fault yi yf)) (codes "ok") _ e, form_same None (codes "ok") _ refl))
ending_same None (Some (E.Memory yi)) h g e = absurd (omega (arith, form_same (Some (E.Memory yi)) (codes "ok") _ e, form_same None (codes "ok") _ refl))
ending_same (Some (E.Mismatch xi xk xa xo)) None h g e = absurd (omega (arith, form_same None (codes "mismatch") _ e, form_same (Some (E.Mismatch xi xk xa xo)) (codes "mismatch") _ refl))
ending_same (Some (E.Mismatch xi xk xa xo)) (Some (E.Mismatch yi yk ya yo)) h g e =
    let e1 = rest_same (codes "mismatch") (codes "mismatch") (decimal xi ∷ decimal xk ∷ xa ∷ made_word xo ∷ []) (decimal yi ∷ decimal yk ∷ ya ∷ made_word yo ∷ []) e in
    let item = number_same xi yi (decimal xk ∷ xa ∷ made_word xo ∷ []) (decimal yk ∷ ya ∷ made_word yo ∷ []) (short xi h.0) (short yi g.0) e1 in
    let number = number_same xk yk (xa ∷ made_word xo ∷ []) (ya ∷ made_word yo ∷ []) (short xk h.1) (short yk g.1) item.1 in
    let made = rest_same xa ya (made_word xo ∷ []) (made_word yo ∷ []) number.1 in
    mismatch_from xi yi xk yk xa ya xo yo item.0 number.0 (first_same xa ya (made_word xo ∷ []) (made_word yo ∷ []) number.1) (made_same xo yo h.3 g.3 (first_same (made_word xo) (made_word yo) [] [] made))
ending_same (Some (E.Mismatch xi xk xa xo)) (Some (E.BadReport yi yk)) h g e = absurd (omega (arith, form_same (Some (E.BadReport yi yk)) (codes "mismatch") _ e, form_same (Some (E.Mismatch xi xk xa xo)) (codes "mismatch") _ refl))
ending_same (Some (E.Mismatch xi xk xa xo)) (Some (E.Limit yi yl)) h g e = absurd (omega (arith, form_same (Some (E.Limit yi yl)) (codes "mismatch") _ e, form_same (Some (E.Mismatch xi xk xa xo)) (codes "mismatch") _ refl))
ending_same (Some (E.Mismatch xi xk xa xo)) (Some (E.Fault yi yf)) h g e = absurd (omega (arith, form_same (Some (E.Fault yi yf)) (codes "mismatch") _ e, form_same (Some (E.Mismatch xi xk xa xo)) (codes "mismatch") _ refl))
ending_same (Some (E.Mismatch xi xk xa xo)) (Some (E.Memory yi)) h g e = absurd (omega (arith, form_same (Some (E.Memory yi)) (codes "mismatch") _ e, form_same (Some (E.Mismatch xi xk xa xo)) (codes "mismatch") _ refl))
ending_same (Some (E.BadReport xi xk)) None h g e = absurd (omega (arith, form_same None (codes "report") _ e, form_same (Some (E.BadReport xi xk)) (codes "report") _ refl))
ending_same (Some (E.BadReport xi xk)) (Some (E.Mismatch yi yk ya yo)) h g e = absurd (omega (arith, form_same (Some (E.Mismatch yi yk ya yo)) (codes "report") _ e, form_same (Some (E.BadReport xi xk)) (codes "report") _ refl))
ending_same (Some (E.BadReport xi xk)) (Some (E.BadReport yi yk)) h g e =
    let e1 = rest_same (codes "report") (codes "report") (decimal xi ∷ report_word xk ∷ []) (decimal yi ∷ report_word yk ∷ []) e in
    let item = number_same xi yi (report_word xk ∷ []) (report_word yk ∷ []) (short xi h) (short yi g) e1 in
    report_from xi yi xk yk item.0 (bad_same xk yk (first_same (report_word xk) (report_word yk) [] [] item.1))
ending_same (Some (E.BadReport xi xk)) (Some (E.Limit yi yl)) h g e = absurd (omega (arith, form_same (Some (E.Limit yi yl)) (codes "report") _ e, form_same (Some (E.BadReport xi xk)) (codes "report") _ refl))
ending_same (Some (E.BadReport xi xk)) (Some (E.Fault yi yf)) h g e = absurd (omega (arith, form_same (Some (E.Fault yi yf)) (codes "report") _ e, form_same (Some (E.BadReport xi xk)) (codes "report") _ refl))
ending_same (Some (E.BadReport xi xk)) (Some (E.Memory yi)) h g e = absurd (omega (arith, form_same (Some (E.Memory yi)) (codes "report") _ e, form_same (Some (E.BadReport xi xk)) (codes "report") _ refl))
ending_same (Some (E.Limit xi xl)) None h g e = absurd (omega (arith, form_same None (reason_word (limit_reason xl)) _ e, form_same (Some (E.Limit xi xl)) (reason_word (limit_reason xl)) _ refl))
ending_same (Some (E.Limit xi xl)) (Some (E.Mismatch yi yk ya yo)) h g e = absurd (omega (arith, form_same (Some (E.Mismatch yi yk ya yo)) (reason_word (limit_reason xl)) _ e, form_same (Some (E.Limit xi xl)) (reason_word (limit_reason xl)) _ refl))
ending_same (Some (E.Limit xi xl)) (Some (E.BadReport yi yk)) h g e = absurd (omega (arith, form_same (Some (E.BadReport yi yk)) (reason_word (limit_reason xl)) _ e, form_same (Some (E.Limit xi xl)) (reason_word (limit_reason xl)) _ refl))
ending_same (Some (E.Limit xi xl)) (Some (E.Limit yi yl)) h g e = let same = cause_same (limit_reason xl) (limit_reason yl) xi yi h g e in limit_from xi yi xl yl same.1 (limit_same xl yl same.0)
ending_same (Some (E.Limit xi xl)) (Some (E.Fault yi yf)) h g e = absurd (omega (arith, class_same (limit_reason xl) (fault_reason yf) xi yi e, limit_class xl, fault_class yf))
ending_same (Some (E.Limit xi xl)) (Some (E.Memory yi)) h g e = absurd (omega (arith, class_same (limit_reason xl) R.Memory xi yi e, limit_class xl, memory_class))
ending_same (Some (E.Fault xi xf)) None h g e = absurd (omega (arith, form_same None (reason_word (fault_reason xf)) _ e, form_same (Some (E.Fault xi xf)) (reason_word (fault_reason xf)) _ refl))
ending_same (Some (E.Fault xi xf)) (Some (E.Mismatch yi yk ya yo)) h g e = absurd (omega (arith, form_same (Some (E.Mismatch yi yk ya yo)) (reason_word (fault_reason xf)) _ e, form_same (Some (E.Fault xi xf)) (reason_word (fault_reason xf)) _ refl))
ending_same (Some (E.Fault xi xf)) (Some (E.BadReport yi yk)) h g e = absurd (omega (arith, form_same (Some (E.BadReport yi yk)) (reason_word (fault_reason xf)) _ e, form_same (Some (E.Fault xi xf)) (reason_word (fault_reason xf)) _ refl))
ending_same (Some (E.Fault xi xf)) (Some (E.Limit yi yl)) h g e = absurd (omega (arith, class_same (fault_reason xf) (limit_reason yl) xi yi e, fault_class xf, limit_class yl))
ending_same (Some (E.Fault xi xf)) (Some (E.Fault yi yf)) h g e = let same = cause_same (fault_reason xf) (fault_reason yf) xi yi h g e in fault_from xi yi xf yf same.1 (fault_same xf yf same.0)
ending_same (Some (E.Fault xi xf)) (Some (E.Memory yi)) h g e = absurd (omega (arith, class_same (fault_reason xf) R.Memory xi yi e, fault_class xf, memory_class))
ending_same (Some (E.Memory xi)) None h g e = absurd (omega (arith, form_same None (codes "memory") _ e, form_same (Some (E.Memory xi)) (codes "memory") _ refl))
ending_same (Some (E.Memory xi)) (Some (E.Mismatch yi yk ya yo)) h g e = absurd (omega (arith, form_same (Some (E.Mismatch yi yk ya yo)) (codes "memory") _ e, form_same (Some (E.Memory xi)) (codes "memory") _ refl))
ending_same (Some (E.Memory xi)) (Some (E.BadReport yi yk)) h g e = absurd (omega (arith, form_same (Some (E.BadReport yi yk)) (codes "memory") _ e, form_same (Some (E.Memory xi)) (codes "memory") _ refl))
ending_same (Some (E.Memory xi)) (Some (E.Limit yi yl)) h g e = absurd (omega (arith, class_same R.Memory (limit_reason yl) xi yi e, memory_class, limit_class yl))
ending_same (Some (E.Memory xi)) (Some (E.Fault yi yf)) h g e = absurd (omega (arith, class_same R.Memory (fault_reason yf) xi yi e, memory_class, fault_class yf))
ending_same (Some (E.Memory xi)) (Some (E.Memory yi)) h g e = memory_from xi yi (cause_same R.Memory R.Memory xi yi h g e).1
ending_same None (Some E.Closed) h g e = absurd g
ending_same (Some (E.Mismatch xi xk xa xo)) (Some E.Closed) h g e = absurd g
ending_same (Some (E.BadReport xi xk)) (Some E.Closed) h g e = absurd g
ending_same (Some (E.Limit xi xl)) (Some E.Closed) h g e = absurd g
ending_same (Some (E.Fault xi xf)) (Some E.Closed) h g e = absurd g
ending_same (Some (E.Memory xi)) (Some E.Closed) h g e = absurd g
ending_same (Some E.Closed) b h g e = absurd h

-- ---- entries

contents_from : (b c : Contents) → b.number ≡ c.number → b.items ≡ c.items → b ≡ c
contents_from b c e f =
    let make : ℕ → List Reported → Contents = λ number items. record { number = number; items = items } in
    ap (λ number. make number b.items) e ∙ ap (λ items. make c.number items) f

text_same : (a b : List ℕ) → tree.text a ≡ tree.text b → a ≡ b
text_same a b e = cc

opened_from : (t u a b i j d g m n : ℕ) → t ≡ u → a ≡ b → i ≡ j → d ≡ g → m ≡ n → opened t a i d m ≡ opened u b j g n
opened_from t u a b i j d g m n et ea ei ed em = cc

admitted_from : (t u a b : ℕ) (c d : Contents) → t ≡ u → a ≡ b → c ≡ d → admitted t a c ≡ admitted u b d
admitted_from t u a b c d et ea ec = cc

served_from : (t u a b i j k l : ℕ) (v w : List ℕ) (xs ys : List Tree) (m n : ℕ) (x y : Tree) → t ≡ u → a ≡ b → i ≡ j → k ≡ l → v ≡ w → xs ≡ ys → m ≡ n → x ≡ y → served t a i k v xs m x ≡ served u b j l w ys n y
served_from t u a b i j k l v w xs ys m n x y et ea ei ek ev exs em ex = cc

done_from : (t u a b i j : ℕ) (x y : Option Ending) → t ≡ u → a ≡ b → i ≡ j → x ≡ y → done t a i x ≡ done u b j y
done_from t u a b i j x y et ea ei ex = cc

closed_from : (t u a b : ℕ) → t ≡ u → a ≡ b → closed t a ≡ closed u b
closed_from t u a b et ea = cc

ended_from : (t u a b : ℕ) → t ≡ u → a ≡ b → ended t a ≡ ended u b
ended_from t u a b et ea = cc

pub recorded_same : (r s : Recorded) → IsRecorded r → IsRecorded s → entry_words r ≡ entry_words s → r ≡ s
unfolding kind
recorded_same (opened pt pa pi pd pm) (opened qt qa qi qd qm) h g e =
    let turn = number_same pt qt _ _ h.0 g.0 (rest_same _ _ _ _ e) in
    let session = number_same pa qa _ _ (short pa h.1) (short qa g.1) turn.1 in
    let id = identifier_text-one pi qi h.2 g.2 (first_same _ _ _ _ session.1) in
    let seed = number_same pd qd _ _ (short pd h.3) (short qd g.3) (rest_same _ _ _ _ session.1) in
    let time = number_same pm qm _ _ h.4 g.4 seed.1 in
    opened_from pt qt pa qa pi qi pd qd pm qm turn.0 session.0 id seed.0 time.0
recorded_same (opened pt pa pi pd pm) (admitted qt qa qb) h g e = absurd (omega (arith, kind_same (admitted qt qa qb) (codes "open") _ e, kind_same (opened pt pa pi pd pm) (codes "open") _ refl))
recorded_same (opened pt pa pi pd pm) (served qt qa qi qk qv qxs qm qx) h g e = absurd (omega (arith, kind_same (served qt qa qi qk qv qxs qm qx) (codes "open") _ e, kind_same (opened pt pa pi pd pm) (codes "open") _ refl))
recorded_same (opened pt pa pi pd pm) (done qt qa qi qx) h g e = absurd (omega (arith, kind_same (done qt qa qi qx) (codes "open") _ e, kind_same (opened pt pa pi pd pm) (codes "open") _ refl))
recorded_same (opened pt pa pi pd pm) (closed qt qa) h g e = absurd (omega (arith, kind_same (closed qt qa) (codes "open") _ e, kind_same (opened pt pa pi pd pm) (codes "open") _ refl))
recorded_same (opened pt pa pi pd pm) (ended qt qx) h g e = absurd (omega (arith, kind_same (ended qt qx) (codes "open") _ e, kind_same (opened pt pa pi pd pm) (codes "open") _ refl))
recorded_same (admitted pt pa pb) (opened qt qa qi qd qm) h g e = absurd (omega (arith, kind_same (opened qt qa qi qd qm) (codes "batch") _ e, kind_same (admitted pt pa pb) (codes "batch") _ refl))
recorded_same (admitted pt pa pb) (admitted qt qa qb) h g e =
    let turn = number_same pt qt _ _ h.0 g.0 (rest_same _ _ _ _ e) in
    let session = number_same pa qa _ _ (short pa h.1) (short qa g.1) turn.1 in
    let number = number_same pb.number qb.number _ _ (long pb.number h.2.bounded) (long qb.number g.2.bounded) session.1 in
    let items = items_text-one pb.items qb.items (batch_items pb h.2) (batch_items qb g.2) (first_same _ _ _ _ number.1) in
    admitted_from pt qt pa qa pb qb turn.0 session.0 (contents_from pb qb number.0 items)
recorded_same (admitted pt pa pb) (served qt qa qi qk qv qxs qm qx) h g e = absurd (omega (arith, kind_same (served qt qa qi qk qv qxs qm qx) (codes "batch") _ e, kind_same (admitted pt pa pb) (codes "batch") _ refl))
recorded_same (admitted pt pa pb) (done qt qa qi qx) h g e = absurd (omega (arith, kind_same (done qt qa qi qx) (codes "batch") _ e, kind_same (admitted pt pa pb) (codes "batch") _ refl))
recorded_same (admitted pt pa pb) (closed qt qa) h g e = absurd (omega (arith, kind_same (closed qt qa) (codes "batch") _ e, kind_same (admitted pt pa pb) (codes "batch") _ refl))
recorded_same (admitted pt pa pb) (ended qt qx) h g e = absurd (omega (arith, kind_same (ended qt qx) (codes "batch") _ e, kind_same (admitted pt pa pb) (codes "batch") _ refl))
recorded_same (served pt pa pi pk pv pxs pm px) (opened qt qa qi qd qm) h g e = absurd (omega (arith, kind_same (opened qt qa qi qd qm) (codes "serve") _ e, kind_same (served pt pa pi pk pv pxs pm px) (codes "serve") _ refl))
recorded_same (served pt pa pi pk pv pxs pm px) (admitted qt qa qb) h g e = absurd (omega (arith, kind_same (admitted qt qa qb) (codes "serve") _ e, kind_same (served pt pa pi pk pv pxs pm px) (codes "serve") _ refl))
recorded_same (served pt pa pi pk pv pxs pm px) (served qt qa qi qk qv qxs qm qx) h g e =
    let turn = number_same pt qt _ _ h.0 g.0 (rest_same _ _ _ _ e) in
    let session = number_same pa qa _ _ (short pa h.1) (short qa g.1) turn.1 in
    let batch = number_same pi qi _ _ (long pi h.2.bounded) (long qi g.2.bounded) session.1 in
    let number = number_same pk qk _ _ (short pk h.2.number) (short qk g.2.number) batch.1 in
    let name = text_same pv qv (canonical_text-one (tree.text pv) (tree.text qv) (IsUtf16-IsName pv h.2.name) (IsUtf16-IsName qv g.2.name) (first_same _ _ _ _ number.1)) in
    let behind = rest_same _ _ _ _ number.1 in
    let args = args_same pxs qxs h.3 g.3 (ap data_of (canonical_text-one (args_tree pxs) (args_tree qxs) h.3.are g.3.are (first_same _ _ _ _ behind))) in
    let time = number_same pm qm _ _ h.2.time g.2.time (rest_same _ _ _ _ behind) in
    let reply = canonical_text-one px qx h.4.are g.4.are (first_same _ _ _ _ time.1) in
    served_from pt qt pa qa pi qi pk qk pv qv pxs qxs pm qm px qx turn.0 session.0 batch.0 number.0 name args time.0 reply
recorded_same (served pt pa pi pk pv pxs pm px) (done qt qa qi qx) h g e = absurd (omega (arith, kind_same (done qt qa qi qx) (codes "serve") _ e, kind_same (served pt pa pi pk pv pxs pm px) (codes "serve") _ refl))
recorded_same (served pt pa pi pk pv pxs pm px) (closed qt qa) h g e = absurd (omega (arith, kind_same (closed qt qa) (codes "serve") _ e, kind_same (served pt pa pi pk pv pxs pm px) (codes "serve") _ refl))
recorded_same (served pt pa pi pk pv pxs pm px) (ended qt qx) h g e = absurd (omega (arith, kind_same (ended qt qx) (codes "serve") _ e, kind_same (served pt pa pi pk pv pxs pm px) (codes "serve") _ refl))
recorded_same (done pt pa pi px) (opened qt qa qi qd qm) h g e = absurd (omega (arith, kind_same (opened qt qa qi qd qm) (codes "done") _ e, kind_same (done pt pa pi px) (codes "done") _ refl))
recorded_same (done pt pa pi px) (admitted qt qa qb) h g e = absurd (omega (arith, kind_same (admitted qt qa qb) (codes "done") _ e, kind_same (done pt pa pi px) (codes "done") _ refl))
recorded_same (done pt pa pi px) (served qt qa qi qk qv qxs qm qx) h g e = absurd (omega (arith, kind_same (served qt qa qi qk qv qxs qm qx) (codes "done") _ e, kind_same (done pt pa pi px) (codes "done") _ refl))
recorded_same (done pt pa pi px) (done qt qa qi qx) h g e =
    let turn = number_same pt qt _ _ h.0 g.0 (rest_same _ _ _ _ e) in
    let session = number_same pa qa _ _ (short pa h.1) (short qa g.1) turn.1 in
    let batch = number_same pi qi _ _ (long pi h.2) (long qi g.2) session.1 in
    done_from pt qt pa qa pi qi px qx turn.0 session.0 batch.0 (ending_same px qx h.3 g.3 batch.1)
recorded_same (done pt pa pi px) (closed qt qa) h g e = absurd (omega (arith, kind_same (closed qt qa) (codes "done") _ e, kind_same (done pt pa pi px) (codes "done") _ refl))
recorded_same (done pt pa pi px) (ended qt qx) h g e = absurd (omega (arith, kind_same (ended qt qx) (codes "done") _ e, kind_same (done pt pa pi px) (codes "done") _ refl))
recorded_same (closed pt pa) (opened qt qa qi qd qm) h g e = absurd (omega (arith, kind_same (opened qt qa qi qd qm) (codes "close") _ e, kind_same (closed pt pa) (codes "close") _ refl))
recorded_same (closed pt pa) (admitted qt qa qb) h g e = absurd (omega (arith, kind_same (admitted qt qa qb) (codes "close") _ e, kind_same (closed pt pa) (codes "close") _ refl))
recorded_same (closed pt pa) (served qt qa qi qk qv qxs qm qx) h g e = absurd (omega (arith, kind_same (served qt qa qi qk qv qxs qm qx) (codes "close") _ e, kind_same (closed pt pa) (codes "close") _ refl))
recorded_same (closed pt pa) (done qt qa qi qx) h g e = absurd (omega (arith, kind_same (done qt qa qi qx) (codes "close") _ e, kind_same (closed pt pa) (codes "close") _ refl))
recorded_same (closed pt pa) (closed qt qa) h g e =
    let turn = number_same pt qt _ _ h.0 g.0 (rest_same _ _ _ _ e) in
    let session = number_same pa qa _ _ (short pa h.1) (short qa g.1) turn.1 in
    closed_from pt qt pa qa turn.0 session.0
recorded_same (closed pt pa) (ended qt qx) h g e = absurd (omega (arith, kind_same (ended qt qx) (codes "close") _ e, kind_same (closed pt pa) (codes "close") _ refl))
recorded_same (ended pt px) (opened qt qa qi qd qm) h g e = absurd (omega (arith, kind_same (opened qt qa qi qd qm) (codes "end") _ e, kind_same (ended pt px) (codes "end") _ refl))
recorded_same (ended pt px) (admitted qt qa qb) h g e = absurd (omega (arith, kind_same (admitted qt qa qb) (codes "end") _ e, kind_same (ended pt px) (codes "end") _ refl))
recorded_same (ended pt px) (served qt qa qi qk qv qxs qm qx) h g e = absurd (omega (arith, kind_same (served qt qa qi qk qv qxs qm qx) (codes "end") _ e, kind_same (ended pt px) (codes "end") _ refl))
recorded_same (ended pt px) (done qt qa qi qx) h g e = absurd (omega (arith, kind_same (done qt qa qi qx) (codes "end") _ e, kind_same (ended pt px) (codes "end") _ refl))
recorded_same (ended pt px) (closed qt qa) h g e = absurd (omega (arith, kind_same (closed qt qa) (codes "end") _ e, kind_same (ended pt px) (codes "end") _ refl))
recorded_same (ended pt px) (ended qt qx) h g e =
    let turn = number_same pt qt _ _ h.0 g.0 (rest_same _ _ _ _ e) in
    let status = number_same px qx _ _ (status_small px h.1) (status_small qx g.1) turn.1 in
    ended_from pt qt px qx turn.0 status.0
