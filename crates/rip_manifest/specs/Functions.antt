-- The functions that a manifest declares: members `NAME:[OP,PREFIX]` of an object.
use Rattle.std.specs.Prelude.{◌≡◌, ℕ, ◌≤◌, List, [], ◌∷◌, length, codes, ⊤}
use Rattle.serde_json.specs.Data.{Data, string, array, object, no_items, item, Members, no_members, member}
use Rattle.rip_manifest.specs.declared.function.Function.{Function}
use Rattle.rip_manifest.specs.declared.function.Operation.{Operation}
use Rattle.rip_manifest.specs.declared.function.Operation.TheVariants as O
use Rattle.rip_manifest.specs.Names.{IsName, IsPrefix}

-- the word of an operation
abbrev pub word_of : Operation → List ℕ
word_of O.Get = codes "get"
word_of O.Put = codes "put"
word_of O.Add = codes "add"
word_of O.Take = codes "take"
word_of O.Push = codes "push"
word_of O.List = codes "list"

-- the member `name:value` declares the function: it is `NAME:[OP,PREFIX]`
pub record Declares (name : List ℕ) (value : Data) (function : Function) : Type 0 where
  pub named : function.name ≡ name
  pub is_name : IsName name
  pub is_prefix : IsPrefix function.prefix
  pub pair : value ≡ array (item (string (word_of function.op)) (item (string function.prefix) no_items))

-- the members declare the functions, each its own
abbrev pub DeclareAll : Members → List Function → Type 0
DeclareAll no_members [] = ⊤
DeclareAll no_members (f ∷ fs) = ⊥
DeclareAll (member name value ms) [] = ⊥
DeclareAll (member name value ms) (f ∷ fs) = Declares name value f × DeclareAll ms fs

-- the value is an object that declares the functions, at most 256
pub record AreFunctions (value : Data) (functions : List Function) : Type 0 where
  pub members : Members
  pub are : value ≡ object members
  pub declared : DeclareAll members functions
  pub few : length functions ≤ 256
