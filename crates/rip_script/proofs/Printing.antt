-- How the text of a value is written part by part.
use Rattle.std.proofs.Common.{◌≡◌, ℕ, zero, suc, ◌+◌, ◌≤◌, Bool, true, false, if◌then◌else◌, List, [], ◌∷◌, ◌++◌, length, map, take, Option, Some, None, refl, sym, ◌∙◌, ap, subst, arith, append_assoc, append-nil, add-one}
use Rattle.std.specs.Prelude.{Result, Ok, Err, OnOk, IfSome, codes, slice_get, option_map, unwrap_or}
use Rattle.std.specs.List.{join_with_byte}
use Rattle.rip_values.specs.Builtins.{builtins, number_of}
use Rattle.rip_values.specs.Pool.{Texts, text_at}
use Rattle.rip_values.specs.declared.builtin.Builtin.{Builtin}
use Rattle.rip_base.specs.declared.memory.NoMemory.{NoMemory}
use Rattle.rip_base.specs.declared.value.Span.{Span}
use Rattle.rip_base.specs.declared.value.Value.{Value}
use Rattle.rip_values.proofs.BuiltinTableLemmas.{slice_get-number_of}
use Rattle.rip_values.proofs.BuiltinLemmas.{IfSome-slice_get}
use Rattle.rip_tree.specs.Program.{Code}
use Rattle.rip_heap.specs.Stored.{properties_of as listed_properties}
use Rattle.rip_heap.specs.World.{World, Object, object_at, class_of, code_of}
use Rattle.rip_heap.specs.declared.class.Class.{Class}
use Rattle.rip_script.specs.Steps.{comma_before, parts_left}
use Rattle.rip_script.specs.Values.{builtin_text, contents_text, function_text, is_around, is_function, name_text, object_by_class, object_text, properties_of, property_text, unless_around, value_text}

-- PARTS WITH COMMAS

join_more' : {X : Type 0} (show : X → List ℕ) (xs : List X) (i : ℕ) (x : X) → slice_get xs i ≡ Some x
    → join_with_byte 44 (map show (take (suc i) xs)) ≡ join_with_byte 44 (map show (take i xs)) ++ (comma_before i ++ show x)
join_more' show [] i x e = cc
join_more' show (y ∷ ys) zero x e = let same : y ≡ x = cc in ap show same
join_more' show (y ∷ []) (suc i) x e = cc
join_more' show (y ∷ z ∷ zs) (suc zero) x e =
    let same : z ≡ x = cc in ap (λ v. show y ++ 44 ∷ show v) same
join_more' show (y ∷ z ∷ zs) (suc (suc i)) x e =
    let rest = join_more' show (z ∷ zs) (suc i) x e in
    ap (λ more. show y ++ 44 ∷ more) rest
    ∙ sym (append_assoc (show y) (44 ∷ join_with_byte 44 (map show (take (suc i) (z ∷ zs)))) (44 ∷ show x))

-- one part more
pub join_more : {X : Type 0} (show : X → List ℕ) (xs : List X) (i : ℕ) (x : X) → slice_get xs i ≡ Some x
    → join_with_byte 44 (map show (take (i + 1) xs)) ≡ (join_with_byte 44 (map show (take i xs)) ++ comma_before i) ++ show x
join_more show xs i x e =
    rw (add-one) (join_more' show xs i x e)
    ∙ sym (append_assoc (join_with_byte 44 (map show (take i xs))) (comma_before i) (show x))

none_some : {X : Type 0} {x : X} → None ≡ Some x → ⊥
none_some e = cc

-- LISTS BETWEEN BRACKETS

-- the text is complete
pub listed : (r : Result (Unit {0}) NoMemory) (open' close old first now new parts all : List ℕ) → first ≡ old ++ open' → now ≡ first ++ parts → parts ≡ all
    → OnOk r (new ≡ now ++ close) → OnOk r (new ≡ old ++ ((open' ++ all) ++ close))
listed (Ok done) open' close old first now new parts all e f g h =
    h ∙ ap (λ t. t ++ close) (f ∙ ap (λ t. t ++ parts) e ∙ append_assoc old open' parts ∙ ap (λ p. old ++ (open' ++ p)) g)
    ∙ append_assoc old (open' ++ all) close
listed (Err e) open' close old first now new parts all f g h k = tt

-- one element or property more is written
pub one_more : {X : Type 0} (show : X → List ℕ) (xs : List X) (i : ℕ) (x : X) (first now comma new : List ℕ) → slice_get xs i ≡ Some x
    → now ≡ first ++ join_with_byte 44 (map show (take i xs)) → comma ≡ now ++ comma_before i → new ≡ comma ++ show x
    → new ≡ first ++ join_with_byte 44 (map show (take (i + 1) xs))
one_more show xs i x first now comma new found e f g =
    let before = join_with_byte 44 (map show (take i xs)) in
    g ∙ ap (λ t. t ++ show x) (f ∙ ap (λ t. t ++ comma_before i) e ∙ append_assoc first before (comma_before i))
    ∙ append_assoc first (before ++ comma_before i) (show x)
    ∙ ap (λ t. first ++ t) (sym (join_more show xs i x found))

-- all of them
pub all_shown : {X : Type 0} (show : X → List ℕ) (xs : List X) (i : ℕ) → length xs ≤ i → join_with_byte 44 (map show (take i xs)) ≡ join_with_byte 44 (map show xs)
all_shown show xs i h = ap (λ ys. join_with_byte 44 (map show ys)) (take_past xs i h)
  where
    take_past : {Y : Type 0} (ys : List Y) (k : ℕ) → length ys ≤ k → take k ys ≡ ys
    take_past [] zero g = refl
    take_past [] (suc k) g = refl
    take_past (y ∷ ys) zero g = absurd (omega arith)
    take_past (y ∷ ys) (suc k) g = ap (λ zs. y ∷ zs) (take_past ys k (omega arith))

-- past the last element there is none
pub no_item : {X : Type 0} (xs : List X) (i : ℕ) → slice_get xs i ≡ None → length xs ≤ i
no_item [] i h = omega arith
no_item (x ∷ xs) zero h = absurd (none_some (sym h))
no_item (x ∷ xs) (suc i) h = let rest = no_item xs i h in omega arith

-- before the first part nothing stands
pub all_left : (parts : List (List ℕ)) → parts_left [] parts ≡ join_with_byte 44 parts
all_left [] = refl
all_left (part ∷ parts) = refl

left_behind : (before part : List ℕ) (parts : List (List ℕ)) → parts_left before (part ∷ parts) ≡ (before ++ part) ++ parts_left (44 ∷ []) parts
left_behind before part [] = sym (append-nil (before ++ part))
left_behind before part (next ∷ parts) = sym (append_assoc before part (44 ∷ join_with_byte 44 (next ∷ parts)))

-- one part more is written, and a comma stands before the next
pub one_less : {X : Type 0} (show : X → List ℕ) (left xs : List X) (x : X) (all before now new : List ℕ) → left ≡ x ∷ xs
    → now ++ parts_left before (map show left) ≡ all → new ≡ (now ++ before) ++ show x → new ++ parts_left (44 ∷ []) (map show xs) ≡ all
one_less show left xs x all before now new e h f =
    let rest = parts_left (44 ∷ []) (map show xs) in
    ap (λ t. t ++ rest) (f ∙ append_assoc now before (show x))
    ∙ append_assoc now (before ++ show x) rest
    ∙ ap (λ t. now ++ t) (sym (left_behind before (show x) (map show xs)))
    ∙ ap (λ ys. now ++ parts_left before (map show ys)) (sym e)
    ∙ h

-- where none is left, all are written
pub none_left : {X : Type 0} (show : X → List ℕ) (left : List X) (all before now : List ℕ) → left ≡ [] → now ++ parts_left before (map show left) ≡ all → now ≡ all
none_left show left all before now e h = sym (append-nil now) ∙ ap (λ ys. now ++ parts_left before (map show ys)) (sym e) ∙ h

-- the properties that the heap lists are those that are shown
pub own_listed : (o : Option Object) → listed_properties o ≡ properties_of o
own_listed None = refl
own_listed (Some o) = refl

-- a property is its name, a colon and its value
pub property_parts : (pool : Texts) (show : Value → List ℕ) (name : Span) (v : Value) (before key new units : List ℕ)
    → key ≡ before ++ name_text units ++ codes ":" → units ≡ text_at pool name → new ≡ key ++ show v
    → new ≡ before ++ property_text pool show (record { name = name; value = v })
property_parts pool show name v before key new units e same f =
    let word = name_text (text_at pool name) in
    f ∙ ap (λ t. t ++ show v) (e ∙ ap (λ u. before ++ name_text u ++ codes ":") same ∙ append_assoc before word (codes ":"))
    ∙ append_assoc before (word ++ codes ":") (show v)

-- OBJECTS

-- the text that is written is that of the object
pub written_as : (r : Result (Unit {0}) NoMemory) (old new text other : List ℕ) → other ≡ text → OnOk r (new ≡ old ++ text) → OnOk r (new ≡ old ++ other)
written_as r old new text other e h = subst (λ t. OnOk r (new ≡ old ++ t)) (sym e) h

-- a built-in
pub shows_builtin : (w : World) (program : Code) (levels : ℕ) (around : List ℕ) (n : ℕ) (builtin : Builtin) → Some builtin ≡ slice_get builtins n
    → object_text w program levels around n ≡ builtin_text builtin
shows_builtin w program zero around n builtin e =
    ap (λ o. unwrap_or (option_map builtin_text o) (object_by_class w program n (unless_around around n (codes "...")) (class_of (object_at w n)))) (sym e)
shows_builtin w program (suc levels) around n builtin e =
    let show : Value → List ℕ = λ v. value_text w program levels (around ++ n ∷ []) v in
    ap (λ o. unwrap_or (option_map builtin_text o) (object_by_class w program n (unless_around around n (contents_text w show n (class_of (object_at w n)))) (class_of (object_at w n)))) (sym e)

-- an object that is no built-in, by its class
other_object : (w : World) (program : Code) (n : ℕ) (contents : List ℕ) (class : Class) → None ≡ slice_get builtins n
    → unwrap_or (option_map builtin_text (slice_get builtins n)) (object_by_class w program n contents class) ≡ object_by_class w program n contents class
other_object w program n contents class e =
    ap (λ o. unwrap_or (option_map builtin_text o) (object_by_class w program n contents class)) (sym e)

by_class : (w : World) (program : Code) (n : ℕ) (contents : List ℕ) (class found : Class) (b : Bool) → found ≡ class → b ≡ is_function found
    → object_by_class w program n contents class ≡ (if b then function_text program (code_of (object_at w n)) else contents)
by_class w program n contents class found b same e =
    ap (λ x. if x then function_text program (code_of (object_at w n)) else contents) (ap is_function (sym same) ∙ sym e)

-- a function of the script
pub shows_function : (w : World) (program : Code) (levels : ℕ) (around : List ℕ) (n : ℕ) (class : Class) (code : Option (ℕ × ℕ)) → None ≡ slice_get builtins n
    → class ≡ class_of (object_at w n) → true ≡ is_function class → code ≡ code_of (object_at w n)
    → object_text w program levels around n ≡ function_text program code
shows_function w program zero around n class code e same is coded =
    other_object w program n (unless_around around n (codes "...")) (class_of (object_at w n)) e
    ∙ by_class w program n (unless_around around n (codes "...")) (class_of (object_at w n)) class true same is
    ∙ ap (function_text program) (sym coded)
shows_function w program (suc levels) around n class code e same is coded =
    let show : Value → List ℕ = λ v. value_text w program levels (around ++ n ∷ []) v in
    other_object w program n (unless_around around n (contents_text w show n (class_of (object_at w n)))) (class_of (object_at w n)) e
    ∙ by_class w program n (unless_around around n (contents_text w show n (class_of (object_at w n)))) (class_of (object_at w n)) class true same is
    ∙ ap (function_text program) (sym coded)

-- any other object is shown so, unless it is one of those around it
shows_other : (w : World) (program : Code) (around : List ℕ) (n : ℕ) (contents : List ℕ) (class : Class) (b : Bool) → None ≡ slice_get builtins n
    → class ≡ class_of (object_at w n) → false ≡ is_function class → b ≡ is_around around n
    → unwrap_or (option_map builtin_text (slice_get builtins n)) (object_by_class w program n (unless_around around n contents) (class_of (object_at w n)))
    ≡ (if b then codes "<cycle>" else contents)
shows_other w program around n contents class b e same is here =
    other_object w program n (unless_around around n contents) (class_of (object_at w n)) e
    ∙ by_class w program n (unless_around around n contents) (class_of (object_at w n)) class false same is
    ∙ ap (λ x. if x then codes "<cycle>" else contents) (sym here)

-- an object inside itself
pub shows_cycle : (w : World) (program : Code) (levels : ℕ) (around : List ℕ) (n : ℕ) (class : Class) → None ≡ slice_get builtins n
    → class ≡ class_of (object_at w n) → false ≡ is_function class → true ≡ is_around around n → object_text w program levels around n ≡ codes "<cycle>"
shows_cycle w program zero around n class e same is here = shows_other w program around n (codes "...") class true e same is here
shows_cycle w program (suc levels) around n class e same is here =
    let show : Value → List ℕ = λ v. value_text w program levels (around ++ n ∷ []) v in
    shows_other w program around n (contents_text w show n (class_of (object_at w n))) class true e same is here

-- an object below the last level
pub shows_deep : (w : World) (program : Code) (levels : ℕ) (around : List ℕ) (n : ℕ) (class : Class) → None ≡ slice_get builtins n
    → class ≡ class_of (object_at w n) → false ≡ is_function class → false ≡ is_around around n → levels ≡ 0 → object_text w program levels around n ≡ codes "..."
shows_deep w program zero around n class e same is here none = shows_other w program around n (codes "...") class false e same is here
shows_deep w program (suc levels) around n class e same is here none = absurd (omega arith)

-- an object by what it holds
pub shows_contents : (w : World) (program : Code) (levels below : ℕ) (around : List ℕ) (n : ℕ) (class : Class) → None ≡ slice_get builtins n
    → class ≡ class_of (object_at w n) → false ≡ is_function class → false ≡ is_around around n → levels ≡ suc below
    → object_text w program levels around n ≡ contents_text w (λ v. value_text w program below (around ++ n ∷ []) v) n class
shows_contents w program levels below around n class e same is here one =
    let show : Value → List ℕ = λ v. value_text w program below (around ++ n ∷ []) v in
    ap (λ k. object_text w program k around n) one
    ∙ shows_other w program around n (contents_text w show n (class_of (object_at w n))) class false e same is here
    ∙ ap (contents_text w show n) (sym same)

-- the built-in of a number
pub builtin_found : (n : ℕ) (r : Option Builtin) → IfSome r (λ b. number_of b ≡ n) → ((b : Builtin) → number_of b ≡ n → r ≡ Some b) → r ≡ slice_get builtins n
builtin_found n (Some b) number only = sym (slice_get-number_of b) ∙ ap (slice_get builtins) number
builtin_found n None number only = none_at (slice_get builtins n) refl
  where
    none_at : (o : Option Builtin) → o ≡ slice_get builtins n → None ≡ o
    none_at None e = refl
    none_at (Some b) e = absurd (none_some (only b (IfSome-slice_get n (Some b) e)))
