-- Laws of the store, in the words of its operations.
use Rattle.std.specs.Prelude.{◌≡◌, ◌≢◌, ◌≤◌, ◌↔◌, ℕ, ℤ, true, List, [], ◌∷◌, length, Some, None, Err, ⊤}
use Rattle.std.specs.List.{AllByRecursion}
use Rattle.rip_data.specs.Datum.{Tree, null, boolean, number, text, utf8_of}
use Rattle.rip_manifest.specs.declared.function.Function.{Function}
use Rattle.rip_manifest.specs.declared.function.Operation.{Operation}
use Rattle.rip_manifest.specs.declared.function.Operation.TheVariants.{Get, Put, Add, Take, Push, List as ListKeys}
use Rattle.rip_store.specs.declared.refusal.Refusal.{Refusal}
use Rattle.rip_store.specs.declared.refusal.Refusal.TheVariants.{Unknown, Arguments}
use Rattle.rip_store.specs.Places.{Place, Stored, IsStore, value_at, Change, nothing, keep, remove, changed}
use Rattle.rip_store.specs.Args.{one_key}
use Rattle.rip_store.specs.Apply.{function_named, answer, apply, error}

-- a change leaves a place alone
abbrev pub IsApart : Change → Place → Type 0
IsApart nothing q = ⊤
IsApart (keep p d) q = q ≢ p
IsApart (remove p) q = q ≢ p

-- what is kept at a place is found there
abbrev pub KeptIsFound : Type 0
KeptIsFound = (s : Stored) (p : Place) (d : Tree) → value_at (changed s (keep p d)) p ≡ Some d

-- at a place that was given up nothing is found
abbrev pub RemovedIsAbsent : Type 0
RemovedIsAbsent = (s : Stored) (p : Place) → IsStore s → value_at (changed s (remove p)) p ≡ None

-- every other place holds what it held
abbrev pub OthersStay : Type 0
OthersStay = (s : Stored) (c : Change) (q : Place) → IsApart c q → value_at (changed s c) q ≡ value_at s q

-- a change leaves the places in order, each once
abbrev pub OrderStays : Type 0
OrderStays = (s : Stored) (c : Change) → IsStore s → IsStore (changed s c)

-- a datum that was put is got, by functions of one prefix
abbrev pub PutIsGot : Type 0
PutIsGot = (fs : List Function) (s : Stored) (put get : List ℕ) (f g : Function)
    → function_named fs put ≡ Some f → f.op ≡ Put → function_named fs get ≡ Some g → g.op ≡ Get → g.prefix ≡ f.prefix
    → (k d : Tree) → (apply fs s put (k ∷ d ∷ [])).1 ≡ boolean true
    → (apply fs (apply fs s put (k ∷ d ∷ [])).0 get (k ∷ [])).1 ≡ d

-- a datum that was taken is gone
abbrev pub TakenIsGone : Type 0
TakenIsGone = (fs : List Function) (s : Stored) (take get : List ℕ) (f g : Function)
    → function_named fs take ≡ Some f → f.op ≡ Take → function_named fs get ≡ Some g → g.op ≡ Get → g.prefix ≡ f.prefix
    → (k : Tree) (p : Place) → one_key (utf8_of f.prefix) (k ∷ []) ≡ Some p → IsStore s
    → (apply fs (apply fs s take (k ∷ [])).0 get (k ∷ [])).1 ≡ null

-- a refusal is told, and leaves the store
abbrev pub RefusalLeaves : Type 0
RefusalLeaves = (fs : List Function) (s : Stored) (name : List ℕ) (args : List Tree) (e : Refusal)
    → answer fs s name args ≡ Err e → apply fs s name args ≡ (s, error e)

-- a store stays one
abbrev pub StoreStays : Type 0
StoreStays = (fs : List Function) (s : Stored) (name : List ℕ) (args : List Tree) → IsStore s → IsStore (apply fs s name args).0

-- ---- when each of the first two errors comes

-- a key: a text of at most 64 bytes in UTF-8
abbrev pub IsKey : Tree → Type 0
IsKey t = (u : List ℕ) × ((t ≡ text u) × (length (utf8_of u) ≤ 64))

-- args `[key]`
abbrev pub AreKey : List Tree → Type 0
AreKey args = (k : Tree) × ((args ≡ k ∷ []) × IsKey k)

-- args `[key,v]`, where more is known of v
abbrev pub AreKeyAnd : (Tree → Type 0) → List Tree → Type 0
AreKeyAnd P args = (k : Tree) × ((v : Tree) × ((args ≡ k ∷ v ∷ []) × (IsKey k × P v)))

-- the args are of the form that the operation asks for
abbrev pub HaveForm : Operation → List Tree → Type 0
HaveForm Get args = AreKey args
HaveForm Put args = AreKeyAnd (λ v. ⊤) args
HaveForm Add args = AreKeyAnd (λ v. (n : ℤ) × (v ≡ number n)) args
HaveForm Take args = AreKey args
HaveForm Push args = AreKeyAnd (λ v. ⊤) args
HaveForm ListKeys args = args ≡ []

-- no function has the name
abbrev pub HasNoFunction : List Function → List ℕ → Type 0
HasNoFunction fs name = AllByRecursion (λ f. f.name ≢ name) fs

-- `unknown` comes exactly where no function has the name
abbrev pub UnknownIsNoFunction : Type 0
UnknownIsNoFunction = (fs : List Function) (s : Stored) (name : List ℕ) (args : List Tree)
    → (answer fs s name args ≡ Err Unknown) ↔ HasNoFunction fs name

-- `arguments` comes exactly where the args of a function are not of the form
abbrev pub ArgumentsAreNotOfTheForm : Type 0
ArgumentsAreNotOfTheForm = (fs : List Function) (s : Stored) (name : List ℕ) (args : List Tree) (f : Function)
    → function_named fs name ≡ Some f → (answer fs s name args ≡ Err Arguments) ↔ (¬ (HaveForm f.op args))
