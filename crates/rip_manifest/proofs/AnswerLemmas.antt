-- One answer alone stands for any bytes.
use Rattle.std.proofs.Common.{◌≡◌, ◌≢◌, ℕ, zero, suc, ◌<◌, ◌≤◌, List, Option, Some, None, Result, Ok, Err, IfOk, IfErr, IfSome, IfNone, ◌+◌, ◌-◌, inl, inr, refl, sym, ap, ap₂, ◌∙◌, subst, arith}
use Rattle.std.proofs.lemmas.Bool.{cases_lt}
use Rattle.std.specs.Prelude.{codes, ⊤}
use Rattle.serde_json.specs.Data.{Data, number, unsigned, object, Members}
use Rattle.serde_json.specs.Events.{members_len}
use Rattle.serde_json.specs.Find.{get_member}
use Rattle.rip_manifest.specs.declared.function.Function.{Function}
use Rattle.rip_limits.specs.declared.limits.Limits.{Limits}
use Rattle.rip_limits.specs.declared.version.Version.TheVariants as V
use Rattle.rip_limits.specs.declared.version.Language.{Language}
use Rattle.rip_limits.specs.declared.version.Language.TheVariants as L
use Rattle.rip_limits.specs.declared.version.Wire.{Wire}
use Rattle.rip_limits.specs.declared.version.Wire.TheVariants as W
use Rattle.rip_manifest.specs.declared.statement.Stated.{Stated}
use Rattle.rip_manifest.specs.Functions.{AreFunctions}
use Rattle.rip_manifest.specs.Limits.{AreLimits, memory_of}
use Rattle.rip_manifest.specs.declared.refusal.ManifestKind.{ManifestKind}
use Rattle.rip_manifest.specs.declared.refusal.ManifestKind.TheVariants as K
use Rattle.rip_manifest.specs.declared.refusal.ManifestRefusal.{ManifestRefusal}
use Rattle.rip_manifest.specs.declared.refusal.ManifestRefusal.TheVariants as R
use Rattle.rip_manifest.specs.Manifest.{Contents, Parts, HasBeside, HasParts, IsJson, ArePartsOf, IsLanguage, IsWire, AreStated, State, StateSome, IsStatement, Says, ManifestOf, most_memory, IsRefused, IsAnswer, IsKindFrom}
use Rattle.rip_manifest.proofs.FunctionLemmas.{AreFunctions-unique}
use Rattle.rip_manifest.proofs.LimitLemmas.{AreLimits-unique}

same_parts : (p q : Parts) → p.version ≡ q.version → p.beside ≡ q.beside → p.functions ≡ q.functions → p.limits ≡ q.limits → p ≡ q
same_parts p q version beside functions limits =
    let made : Data → Option (Data × Data) → Data → Data → Parts = λ version beside functions limits. record { version = version; beside = beside; functions = functions; limits = limits } in
    ap₂ (λ x y. made x y p.functions p.limits) version beside ∙ ap₂ (λ x y. made q.version q.beside x y) functions limits

same_contents : (c d : Contents) → c.stated ≡ d.stated → c.functions ≡ d.functions → c.limits ≡ d.limits → c ≡ d
same_contents c d stated functions limits =
    let made : Stated → List Function → Limits → Contents = λ stated functions limits. record { stated = stated; functions = functions; limits = limits } in
    ap (λ x. made x c.functions c.limits) stated ∙ ap₂ (λ x y. made d.stated x y) functions limits

pub IsJson-unique : (bytes : List ℕ) (v w : Data) → IsJson bytes v → IsJson bytes w → v ≡ w
IsJson-unique bytes v w h k = cc

some_found : (name : List ℕ) (ms : Members) (x y : Data) → get_member name ms ≡ Some x → get_member name ms ≡ Some y → x ≡ y
some_found name ms x y a b = cc

-- one language and one wire beside at most
HasBeside-unique : (ms : Members) (a b : Option (Data × Data)) → HasBeside ms a → HasBeside ms b → a ≡ b
HasBeside-unique ms None None h k = refl
HasBeside-unique ms None (Some both) h k = let three : members_len ms ≡ 3 = h in let five : members_len ms ≡ 5 = k.0 in absurd (omega arith)
HasBeside-unique ms (Some both) None h k = let five : members_len ms ≡ 5 = h.0 in let three : members_len ms ≡ 3 = k in absurd (omega arith)
HasBeside-unique ms (Some (g, w)) (Some (l, x)) h k =
    let language : g ≡ l = some_found (codes "language") ms g l h.1 k.1 in
    let wire : w ≡ x = some_found (codes "wire") ms w x h.2 k.2 in
    ap Some (ap₂ (λ a b. (a, b)) language wire)

HasParts-unique : (v : Data) (p q : Parts) → HasParts v p → HasParts v q → p ≡ q
HasParts-unique v p q h k =
    let same : h.members ≡ k.members = objects _ _ (sym h.are ∙ k.are) in
    same_parts p q (found (codes "version") _ _ _ _ same h.version k.version) (HasBeside-unique k.members p.beside q.beside (rw same at h.beside) k.beside) (found (codes "functions") _ _ _ _ same h.functions k.functions) (found (codes "limits") _ _ _ _ same h.limits k.limits)
  where
    objects : (ms ns : Members) → object ms ≡ object ns → ms ≡ ns
    objects ms ns e = cc

    found : (name : List ℕ) (ms ns : Members) (x y : Data) → ms ≡ ns → get_member name ms ≡ Some x → get_member name ns ≡ Some y → x ≡ y
    found name ms ns x y same a b = cc

pub ArePartsOf-unique : (bytes : List ℕ) (p q : Parts) → ArePartsOf bytes p → ArePartsOf bytes q → p ≡ q
ArePartsOf-unique bytes p q h k = HasParts-unique k.0 p q (rw (IsJson-unique bytes h.0 k.0 h.1 k.1) at h.2) k.2

IsLanguage-unique : (d : Data) (a b : Language) → IsLanguage d a → IsLanguage d b → a ≡ b
IsLanguage-unique d L.One L.One h k = refl
IsLanguage-unique d L.One L.Two h k = absurd k
IsLanguage-unique d L.Two b h k = absurd h

IsWire-unique : (d : Data) (a b : Wire) → IsWire d a → IsWire d b → a ≡ b
IsWire-unique d W.One W.One h k = refl
IsWire-unique d W.One W.Two h k = absurd k
IsWire-unique d W.Two b h k = absurd h

same_stated : (a b : Stated) → a.version ≡ b.version → a.language ≡ b.language → a.wire ≡ b.wire → a ≡ b
same_stated a b version language wire =
    let made : _ → Language → Wire → Stated = λ version language wire. record { version = version; language = language; wire = wire } in
    ap (λ x. made x a.language a.wire) version ∙ ap₂ (λ x y. made b.version x y) language wire

AreStated-unique : (version : Data) (beside : Option (Data × Data)) (a b : Stated) → AreStated version beside a → AreStated version beside b → a ≡ b
AreStated-unique version None a b h k = h.1 ∙ sym k.1
AreStated-unique version (Some both) a b h k =
    same_stated a b (h.1 ∙ sym k.1) (IsLanguage-unique both.0 a.language b.language h.2 k.2) (IsWire-unique both.1 a.wire b.wire h.3 k.3)

-- parts state one thing at most
pub State-unique : (parts : Parts) (a b : Stated) → State parts a → State parts b → a ≡ b
State-unique parts a b h k = AreStated-unique parts.version parts.beside a b h k

-- what the parts of the bytes state, or nothing
pub statement_of : (bytes : List ℕ) (value : Data) (parts : Parts) (r : Option Stated) → IsJson bytes value → HasParts value parts → IfSome r (State parts)
    → IfNone r (StateSome parts → ⊥) → IsStatement bytes r
statement_of bytes value parts (Some stated) json has found none = (parts, (value, json, has), found)
statement_of bytes value parts None json has found none =
    λ stated h. none (stated, subst (λ p. State p stated) (ArePartsOf-unique bytes h.0 parts h.1 (value, json, has)) h.2)

-- the bytes say one thing at most
Says-unique : (bytes : List ℕ) (c d : Contents) → Says bytes c → Says bytes d → c ≡ d
Says-unique bytes c d h k =
    let same : h.parts ≡ k.parts = ArePartsOf-unique bytes h.parts k.parts h.are k.are in
    let stated : c.stated ≡ d.stated = State-unique k.parts c.stated d.stated (rw same at h.stated) k.stated in
    same_contents c d stated (AreFunctions-unique k.parts.functions c.functions d.functions (rw same at h.functions) k.functions) (AreLimits-unique d.stated.version k.parts.limits c.limits d.limits (rw (same, stated) at h.limits) k.limits)

-- what the bytes keep to before the next cause is sought: with no cause among the first ones
abbrev Passes : List ℕ → ℕ → Type 0
Passes bytes zero = ⊤
Passes bytes (suc zero) = (value : Data) × IsJson bytes value
Passes bytes (suc (suc zero)) = (parts : Parts) × ArePartsOf bytes parts
Passes bytes (suc (suc (suc zero))) = (parts : Parts) × ArePartsOf bytes parts × StateSome parts
Passes bytes (suc (suc (suc (suc zero)))) = (parts : Parts) × ArePartsOf bytes parts × StateSome parts × ((functions : List Function) × AreFunctions parts.functions functions)
Passes bytes (suc (suc (suc (suc (suc zero))))) = (contents : Contents) × Says bytes contents
Passes bytes (suc (suc (suc (suc (suc (suc zero)))))) = (contents : Contents) × ManifestOf bytes contents
Passes bytes (suc (suc (suc (suc (suc (suc (suc n))))))) = ⊥

passes_before : (bytes : List ℕ) (n : ℕ) → Passes bytes (suc n) → Passes bytes n
passes_before bytes zero h = tt
passes_before bytes (suc zero) h = (h.1.0, h.1.1)
passes_before bytes (suc (suc zero)) h = (h.0, h.1)
passes_before bytes (suc (suc (suc zero))) h = (h.0, h.1, h.2)
passes_before bytes (suc (suc (suc (suc zero)))) h = (h.1.parts, h.1.are, (h.0.stated, h.1.stated), (h.0.functions, h.1.functions))
passes_before bytes (suc (suc (suc (suc (suc zero))))) h = (h.0, h.1.0)
passes_before bytes (suc (suc (suc (suc (suc (suc n)))))) h = absurd h

passes_below : (bytes : List ℕ) (k gap n : ℕ) → n ≡ gap + k → Passes bytes n → Passes bytes k
passes_below bytes k zero n e h = let P : ℕ → Type 0 = Passes bytes in let same : n ≡ k = omega arith in subst P same h
passes_below bytes k (suc gap) zero e h = absurd (omega arith)
passes_below bytes k (suc gap) (suc n) e h = passes_below bytes k gap n (omega arith) (passes_before bytes n h)

rank : ManifestRefusal → ℕ
rank (R.Kind K.Syntax) = 0
rank (R.Kind K.Member) = 1
rank (R.Kind K.Version) = 2
rank (R.Kind K.Function) = 3
rank (R.Kind K.LimitRange) = 4
rank R.LimitsTooLarge = 5
rank R.Memory = 7

ranked : ℕ → ManifestRefusal
ranked zero = R.Kind K.Syntax
ranked (suc zero) = R.Kind K.Member
ranked (suc (suc zero)) = R.Kind K.Version
ranked (suc (suc (suc zero))) = R.Kind K.Function
ranked (suc (suc (suc (suc zero)))) = R.Kind K.LimitRange
ranked (suc (suc (suc (suc (suc zero))))) = R.LimitsTooLarge
ranked (suc (suc (suc (suc (suc (suc n)))))) = R.Memory

ranked-rank : (e : ManifestRefusal) → ranked (rank e) ≡ e
unfolding rank ranked
ranked-rank (R.Kind K.Syntax) = refl
ranked-rank (R.Kind K.Member) = refl
ranked-rank (R.Kind K.Version) = refl
ranked-rank (R.Kind K.Function) = refl
ranked-rank (R.Kind K.LimitRange) = refl
ranked-rank R.LimitsTooLarge = refl
ranked-rank R.Memory = refl

-- an answer stands where its place in the order is
place : Result Contents ManifestRefusal → ℕ
place (Ok contents) = 6
place (Err e) = rank e

not_six : (e : ManifestRefusal) → rank e ≡ 6 → ⊥
unfolding rank
not_six (R.Kind K.Syntax) e = absurd (omega arith)
not_six (R.Kind K.Member) e = absurd (omega arith)
not_six (R.Kind K.Version) e = absurd (omega arith)
not_six (R.Kind K.Function) e = absurd (omega arith)
not_six (R.Kind K.LimitRange) e = absurd (omega arith)
not_six R.LimitsTooLarge e = absurd (omega arith)
not_six R.Memory e = absurd (omega arith)

-- the bytes keep to all that comes before the answer
reaches : (bytes : List ℕ) (a : Result Contents ManifestRefusal) → IsAnswer bytes a → Passes bytes (place a)
unfolding place rank
reaches bytes (Ok contents) h = (contents, h)
reaches bytes (Err (R.Kind K.Syntax)) h = tt
reaches bytes (Err (R.Kind K.Member)) h = (h.0, h.1)
reaches bytes (Err (R.Kind K.Version)) h = (h.0, h.1)
reaches bytes (Err (R.Kind K.Function)) h = (h.0, h.1, h.2)
reaches bytes (Err (R.Kind K.LimitRange)) h = (h.0, h.1, h.2, h.3)
reaches bytes (Err R.LimitsTooLarge) h = (h.0, h.1)
reaches bytes (Err R.Memory) h = absurd h

-- and to nothing that comes behind it
stops : (bytes : List ℕ) (a : Result Contents ManifestRefusal) → IsAnswer bytes a → Passes bytes (suc (place a)) → ⊥
unfolding place rank
stops bytes (Ok contents) h k = k
stops bytes (Err (R.Kind K.Syntax)) h k = h k.0 k.1
stops bytes (Err (R.Kind K.Member)) h k = h.2 k.0 (rw (IsJson-unique bytes k.1.0 h.0 k.1.1 h.1) at k.1.2)
stops bytes (Err (R.Kind K.Version)) h k = h.2 (rw (ArePartsOf-unique bytes k.0 h.0 k.1 h.1) at k.2)
stops bytes (Err (R.Kind K.Function)) h k = h.3 k.3.0 (rw (ArePartsOf-unique bytes k.0 h.0 k.1 h.1) at k.3.1)
stops bytes (Err (R.Kind K.LimitRange)) h k =
    let same : k.1.parts ≡ h.0 = ArePartsOf-unique bytes k.1.parts h.0 k.1.are h.1 in
    let stated : k.0.stated ≡ h.2.0 = State-unique h.0 k.0.stated h.2.0 (subst (λ p. State p k.0.stated) same k.1.stated) h.2.1 in
    h.4 k.0.limits (subst (λ s. AreLimits s.version h.0.limits k.0.limits) stated (subst (λ p. AreLimits k.0.stated.version p.limits k.0.limits) same k.1.limits))
stops bytes (Err R.LimitsTooLarge) h k =
    let fits : memory_of h.0.limits ≤ most_memory = rw (Says-unique bytes k.0 h.0 k.1.0 h.1) at k.1.1 in
    absurd (omega arith)
stops bytes (Err R.Memory) h k = h

in_order : (bytes : List ℕ) (a b : Result Contents ManifestRefusal) → IsAnswer bytes a → IsAnswer bytes b → place a < place b → ⊥
in_order bytes a b h k lt = stops bytes a h (passes_below bytes (suc (place a)) (place b - suc (place a)) (place b) (omega arith) (reaches bytes b k))

same_place : (bytes : List ℕ) (a b : Result Contents ManifestRefusal) → IsAnswer bytes a → IsAnswer bytes b → place a ≡ place b → a ≡ b
unfolding place
same_place bytes (Ok c) (Ok d) h k e = ap Ok (Says-unique bytes c d h.0 k.0)
same_place bytes (Ok c) (Err y) h k e = absurd (not_six y (sym e))
same_place bytes (Err x) (Ok d) h k e = absurd (not_six x e)
same_place bytes (Err x) (Err y) h k e = ap Err (sym (ranked-rank x) ∙ ap ranked e ∙ ranked-rank y)

-- no two answers stand for the same bytes
pub one_answer : (bytes : List ℕ) (a b : Result Contents ManifestRefusal) → IsAnswer bytes a → IsAnswer bytes b → a ≡ b
one_answer bytes a b h k =
    elim (cases_lt (place a) (place b)) [
      | inl before ↦ absurd (in_order bytes a b h k before)
      | inr behind ↦ elim (cases_lt (place b) (place a)) [
        | inl before ↦ absurd (in_order bytes b a k h before)
        | inr within ↦ same_place bytes a b h k (omega arith)
      ]
    ]

-- what was found or refused is the one answer
pub only_answer : (bytes : List ℕ) (r : Result Contents ManifestRefusal) → IfOk r (ManifestOf bytes) → IfErr r (λ e. e ≢ R.Memory → IsRefused bytes e)
    → (answer : Result Contents ManifestRefusal) → IsAnswer bytes answer → r ≢ Err R.Memory → r ≡ answer
only_answer bytes (Ok contents) found refused answer is other = one_answer bytes (Ok contents) answer found is
only_answer bytes (Err e) found refused answer is other = one_answer bytes (Err e) answer (refused (λ memory. other (ap Err memory))) is

-- a refusal of one kind, whose cause is the cause for these bytes
pub IsRefused-kind : (bytes : List ℕ) (kind : ManifestKind) (Cause : Type 0) (e : ManifestRefusal) → (Cause → IsRefused bytes (R.Kind kind)) → IsKindFrom kind Cause e → e ≢ R.Memory → IsRefused bytes e
IsRefused-kind bytes kind Cause (R.Kind k) why is other = rw is.0 (why is.1)
IsRefused-kind bytes kind Cause R.LimitsTooLarge why is other = absurd is
IsRefused-kind bytes kind Cause R.Memory why is other = absurd (other refl)

-- a refusal of one kind, from another cause
pub IsKindFrom-cause : (kind : ManifestKind) (Cause Other : Type 0) (e : ManifestRefusal) → (Cause → Other) → IsKindFrom kind Cause e → IsKindFrom kind Other e
IsKindFrom-cause kind Cause Other (R.Kind k) why is = (is.0, why is.1)
IsKindFrom-cause kind Cause Other R.LimitsTooLarge why is = is
IsKindFrom-cause kind Cause Other R.Memory why is = is
