-- What declares functions: each member its own, and no other.
use Rattle.std.proofs.Common.{◌≡◌, ℕ, suc, List, [], ◌∷◌, ◌++◌, length, cond, refl, sym, ap, ap₂, ◌∙◌, string_bytes, bytes_eq}
use Rattle.std.specs.Prelude.{codes}
use Rattle.serde_json.specs.Data.{Data, Members, no_members, member, array, object, item, string, no_items}
use Rattle.serde_json.specs.Events.{members_len}
use Rattle.serde_json.specs.View.{view, members_view}
use Rattle.serde_json.proofs.Views.{Entry}
use Rattle.rip_manifest.specs.declared.function.Function.{Function}
use Rattle.rip_manifest.specs.declared.function.Operation.{Operation}
use Rattle.rip_manifest.specs.declared.function.Operation.TheVariants as O
use Rattle.rip_manifest.specs.Functions.{word_of, Declares, DeclareAll, AreFunctions}

-- as many functions as members
pub length-DeclareAll : (ms : Members) (fs : List Function) → DeclareAll ms fs → length fs ≡ members_len ms
length-DeclareAll no_members [] h = refl
length-DeclareAll no_members (f ∷ fs) h = absurd h
length-DeclareAll (member k d ms) [] h = absurd h
length-DeclareAll (member k d ms) (f ∷ fs) h = ap suc (length-DeclareAll ms fs h.1)

-- one member and its function more
pub DeclareAll-push : (done : List Entry) (e : Entry) (fs : List Function) (f : Function) → DeclareAll (members_view done) fs → Declares (string_bytes e.0) (view e.1) f
    → DeclareAll (members_view (done ++ e ∷ [])) (fs ++ f ∷ [])
DeclareAll-push [] e [] f h is = (is, tt)
DeclareAll-push [] e (g ∷ fs) f h is = absurd h
DeclareAll-push (d ∷ done) e [] f h is = absurd h
DeclareAll-push (d ∷ done) e (g ∷ fs) f h is = (h.0, DeclareAll-push done e fs f h.1 is)

-- a member among those that declare functions declares one
pub Declares-among : (done : List Entry) (e : Entry) (left : List Entry) (fs : List Function) → DeclareAll (members_view (done ++ e ∷ left)) fs
    → (f : Function) × Declares (string_bytes e.0) (view e.1) f
Declares-among [] e left [] h = absurd h
Declares-among [] e left (f ∷ fs) h = (f, h.0)
Declares-among (d ∷ done) e left [] h = absurd h
Declares-among (d ∷ done) e left (f ∷ fs) h = Declares-among done e left fs h.1

-- the operation of a word that is one
pub named : List ℕ → Operation
named word = cond (bytes_eq word (codes "get")) O.Get (cond (bytes_eq word (codes "put")) O.Put (cond (bytes_eq word (codes "add")) O.Add (cond (bytes_eq word (codes "take")) O.Take (cond (bytes_eq word (codes "push")) O.Push O.List))))

pub named-word_of : (op : Operation) → named (word_of op) ≡ op
unfolding named
named-word_of O.Get = refl
named-word_of O.Put = refl
named-word_of O.Add = refl
named-word_of O.Take = refl
named-word_of O.Push = refl
named-word_of O.List = refl

-- no two operations have one word
pub word_of-injective : (o p : Operation) → word_of o ≡ word_of p → o ≡ p
word_of-injective o p e = sym (named-word_of o) ∙ ap named e ∙ named-word_of p

same_function : (f g : Function) → f.name ≡ g.name → f.op ≡ g.op → f.prefix ≡ g.prefix → f ≡ g
same_function f g n o p =
    let with_parts : List ℕ → Operation → List ℕ → Function = λ name op prefix. record { name = name; op = op; prefix = prefix } in
    ap (λ name. with_parts name f.op f.prefix) n ∙ ap₂ (λ op prefix. with_parts g.name op prefix) o p

-- a member declares one function at most
pub Declares-unique : (name : List ℕ) (value : Data) (f g : Function) → Declares name value f → Declares name value g → f ≡ g
Declares-unique name value f g h k =
    let pairs : array (item (string (word_of f.op)) (item (string f.prefix) no_items)) ≡ array (item (string (word_of g.op)) (item (string g.prefix) no_items)) = sym h.pair ∙ k.pair in
    same_function f g (h.named ∙ sym k.named) (word_of-injective f.op g.op (words _ _ _ _ pairs)) (prefixes _ _ _ _ pairs)
  where
    words : (a b c d : List ℕ) → array (item (string a) (item (string b) no_items)) ≡ array (item (string c) (item (string d) no_items)) → a ≡ c
    words a b c d e = cc

    prefixes : (a b c d : List ℕ) → array (item (string a) (item (string b) no_items)) ≡ array (item (string c) (item (string d) no_items)) → b ≡ d
    prefixes a b c d e = cc

pub DeclareAll-unique : (ms : Members) (fs gs : List Function) → DeclareAll ms fs → DeclareAll ms gs → fs ≡ gs
DeclareAll-unique no_members [] [] h k = refl
DeclareAll-unique no_members [] (g ∷ gs) h k = absurd k
DeclareAll-unique no_members (f ∷ fs) gs h k = absurd h
DeclareAll-unique (member name d ms) [] gs h k = absurd h
DeclareAll-unique (member name d ms) (f ∷ fs) [] h k = absurd k
DeclareAll-unique (member name d ms) (f ∷ fs) (g ∷ gs) h k = ap₂ (λ x xs. x ∷ xs) (Declares-unique name d f g h.0 k.0) (DeclareAll-unique ms fs gs h.1 k.1)

-- a value declares one list of functions at most
pub AreFunctions-unique : (d : Data) (fs gs : List Function) → AreFunctions d fs → AreFunctions d gs → fs ≡ gs
AreFunctions-unique d fs gs h k =
    let same : h.members ≡ k.members = objects _ _ (sym h.are ∙ k.are) in
    DeclareAll-unique k.members fs gs (rw same at h.declared) k.declared
  where
    objects : (ms ns : Members) → object ms ≡ object ns → ms ≡ ns
    objects ms ns e = cc
