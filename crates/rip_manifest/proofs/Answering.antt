-- Any bytes have an answer.
use Rattle.std.proofs.Common.{◌≡◌, ℕ, ◌<◌, ◌≤◌, ◌⊎◌, inl, inr, Bool, true, false, List, [], ◌∷◌, length, Option, Some, None, Result, Ok, Err, nat_eq, bytes_eq, refl, sym, ap, ◌∙◌, subst, arith, eqb-true, eq-eqb}
use Rattle.std.specs.Prelude.{codes}
use Rattle.std.specs.List.{list_all}
use Rattle.std.proofs.lemmas.Bool.{cases_lt, false≢true}
use Rattle.std.proofs.lemmas.Slice.Eq.{bytes_eq-Decides}
use Rattle.serde_json.specs.Data.{Num, unsigned, negative, float, Data, null, boolean, number, string, array, object, Items, no_items, item, Members, no_members, member}
use Rattle.serde_json.specs.Events.{members_len}
use Rattle.serde_json.specs.Find.{get, get_member}
use Rattle.rip_data.specs.Reading.{answer_long}
use Rattle.rip_data.specs.declared.error.DataError.{DataError}
use Rattle.rip_limits.specs.Limits.{default, greatest}
use Rattle.rip_limits.specs.declared.limits.Limits.{Limits}
use Rattle.rip_limits.specs.declared.version.Version.{Version}
use Rattle.rip_limits.specs.declared.version.Version.TheVariants as V
use Rattle.rip_limits.specs.declared.version.Language.{Language}
use Rattle.rip_limits.specs.declared.version.Language.TheVariants as L
use Rattle.rip_limits.specs.declared.version.Wire.{Wire}
use Rattle.rip_limits.specs.declared.version.Wire.TheVariants as W
use Rattle.rip_manifest.specs.declared.statement.Stated.{Stated}
use Rattle.rip_manifest.specs.declared.function.Function.{Function}
use Rattle.rip_manifest.specs.declared.function.Operation.{Operation}
use Rattle.rip_manifest.specs.declared.refusal.ManifestKind.TheVariants as K
use Rattle.rip_manifest.specs.declared.refusal.ManifestRefusal.{ManifestRefusal}
use Rattle.rip_manifest.specs.declared.refusal.ManifestRefusal.TheVariants as R
use Rattle.rip_manifest.specs.Functions.{word_of, Declares, DeclareAll, AreFunctions}
use Rattle.rip_manifest.specs.Laws.{HasAnAnswer}
use Rattle.rip_manifest.specs.Limits.{is_limit_name, NameLimits, IsLimit, AreLimits, memory_of}
use Rattle.rip_manifest.specs.Manifest.{Contents, Parts, HasBeside, HasParts, IsJson, ArePartsOf, IsLanguage, IsWire, AreStated, State, Says, most_memory, IsAnswer}
use Rattle.rip_manifest.specs.Names.{is_name_letter, IsName, IsPrefix}
use Rattle.rip_manifest.proofs.FunctionLemmas.{named, named-word_of, DeclareAll-unique}

-- something of which this holds, or nothing
abbrev Found : {A : Type 0} → (A → Type 0) → Type 0
Found {A} P = ((x : A) × P x) ⊎ ((x : A) → P x → ⊥)

-- this holds, or it does not
abbrev Known : Type 0 → Type 0
Known P = P ⊎ (P → ⊥)

same_members : (ms ns : Members) → object ms ≡ object ns → ms ≡ ns
same_members ms ns e = cc

-- NAMES

letters_known : (text : List ℕ) → Known (list_all is_name_letter text ≡ true)
letters_known text = by (list_all is_name_letter text) refl
  where
    by : (b : Bool) → list_all is_name_letter text ≡ b → Known (list_all is_name_letter text ≡ true)
    by true e = inl e
    by false e = inr (λ h. false≢true (sym e ∙ h))

prefix_known : (text : List ℕ) → Known (IsPrefix text)
prefix_known text = elim (cases_lt 64 (length text)) [
  | inl long ↦ inr (λ h. let short = h.short in absurd (omega arith))
  | inr short ↦ elim (letters_known text) [
    | inl letters ↦ inl (record { short = short; letters = letters })
    | inr never ↦ inr (λ h. never h.letters)
  ]
]

name_known : (text : List ℕ) → Known (IsName text)
name_known text = elim (cases_lt (length text) 1) [
  | inl empty ↦ inr (λ h. let some = h.not_empty in absurd (omega arith))
  | inr some ↦ elim (prefix_known text) [
    | inl prefix ↦ inl (record { not_empty = some; short = prefix.short; letters = prefix.letters })
    | inr never ↦ inr (λ h. never (record { short = h.short; letters = h.letters }))
  ]
]

-- FUNCTIONS

word_known : (word : List ℕ) → Found (λ (op : Operation). word_of op ≡ word)
word_known word = by (bytes_eq (word_of (named word)) word) refl
  where
    by : (b : Bool) → bytes_eq (word_of (named word)) word ≡ b → Found (λ (op : Operation). word_of op ≡ word)
    by true e = inl (named word, (bytes_eq-Decides (word_of (named word)) word).0 e)
    by false e = inr (λ op is.
        let same : word_of (named word) ≡ word = ap (λ w. word_of (named w)) (sym is) ∙ ap word_of (named-word_of op) ∙ is in
        false≢true (sym e ∙ (bytes_eq-Decides (word_of (named word)) word).1 same))

-- the value is an array of two texts
abbrev IsPair : Data → List ℕ × List ℕ → Type 0
IsPair value texts = value ≡ array (item (string texts.0) (item (string texts.1) no_items))

pair_known : (value : Data) → Found (IsPair value)
pair_known (array (item (string word) (item (string prefix) no_items))) = inl ((word, prefix), refl)
pair_known _ = inr (λ texts is. cc)

function_by : (name : List ℕ) (value : Data) (texts : List ℕ × List ℕ) → IsPair value texts → Found (Declares name value)
function_by name value (word, prefix) pair = elim (word_known word) [
  | inr never ↦ inr (λ f h. never f.op (words (word_of f.op) word f.prefix prefix (sym h.pair ∙ pair)))
  | inl found ↦ elim (prefix_known prefix) [
    | inr never ↦ inr (λ f h. never (subst IsPrefix (prefixes (word_of f.op) word f.prefix prefix (sym h.pair ∙ pair)) h.is_prefix))
    | inl is_prefix ↦ elim (name_known name) [
      | inr never ↦ inr (λ f h. never h.is_name)
      | inl is_name ↦ inl (
        record { name = name; op = found.0; prefix = prefix },
        record { named = refl; is_name = is_name; is_prefix = is_prefix; pair = pair ∙ ap (λ w. array (item (string w) (item (string prefix) no_items))) (sym found.1) },
      )
    ]
  ]
]
  where
    words : (a b d e : List ℕ) → array (item (string a) (item (string d) no_items)) ≡ array (item (string b) (item (string e) no_items)) → a ≡ b
    words a b d e is = cc

    prefixes : (a b d e : List ℕ) → array (item (string a) (item (string d) no_items)) ≡ array (item (string b) (item (string e) no_items)) → d ≡ e
    prefixes a b d e is = cc

function_known : (name : List ℕ) (value : Data) → Found (Declares name value)
function_known name value = elim (pair_known value) [
  | inl pair ↦ function_by name value pair.0 pair.1
  | inr never ↦ inr (λ f h. never (word_of f.op, f.prefix) h.pair)
]

declared_with : (name : List ℕ) (value : Data) (ms : Members) → Found (Declares name value) → Found (DeclareAll ms) → Found (DeclareAll (member name value ms))
declared_with name value ms (inl (f, first)) (inl (fs, rest)) = inl (f ∷ fs, (first, rest))
declared_with name value ms (inr never) rest = inr all
  where
    all : (fs : List Function) → DeclareAll (member name value ms) fs → ⊥
    all [] h = h
    all (f ∷ fs) h = never f h.0
declared_with name value ms (inl first) (inr never) = inr all
  where
    all : (fs : List Function) → DeclareAll (member name value ms) fs → ⊥
    all [] h = h
    all (f ∷ fs) h = never fs h.1

declared_known : (ms : Members) → Found (DeclareAll ms)
declared_known no_members = inl ([], tt)
declared_known (member name value ms) = declared_with name value ms (function_known name value) (declared_known ms)

functions_by : (ms : Members) → Found (DeclareAll ms) → Found (AreFunctions (object ms))
functions_by ms (inr never) = inr (λ fs h. never fs (subst (λ ns. DeclareAll ns fs) (sym (same_members ms h.members h.are)) h.declared))
functions_by ms (inl (fs, all)) = elim (cases_lt 256 (length fs)) [
  | inr few ↦ inl (fs, record { members = ms; are = refl; declared = all; few = few })
  | inl many ↦ inr (λ gs h.
      let same : gs ≡ fs = DeclareAll-unique ms gs fs (subst (λ ns. DeclareAll ns gs) (sym (same_members ms h.members h.are)) h.declared) all in
      let few = h.few in
      let long : length gs ≡ length fs = ap length same in
      absurd (omega arith))
]

functions_known : (value : Data) → Found (AreFunctions value)
functions_known (object ms) = functions_by ms (declared_known ms)
functions_known null = inr (λ fs h. let are = h.are in cc)
functions_known (boolean b) = inr (λ fs h. let are = h.are in cc)
functions_known (number n) = inr (λ fs h. let are = h.are in cc)
functions_known (string s) = inr (λ fs h. let are = h.are in cc)
functions_known (array ds) = inr (λ fs h. let are = h.are in cc)

-- LIMITS

names_with : (v : Version) (name : List ℕ) (value : Data) (ms : Members) → (b : Bool) → is_limit_name v name ≡ b → Known (NameLimits v ms) → Known (NameLimits v (member name value ms))
names_with v name value ms true e (inl rest) = inl (e, rest)
names_with v name value ms true e (inr never) = inr (λ h. never h.1)
names_with v name value ms false e rest = inr (λ h. false≢true (sym e ∙ h.0))

names_known : (v : Version) (ms : Members) → Known (NameLimits v ms)
names_known v no_members = inl tt
names_known v (member name value ms) = names_with v name value ms (is_limit_name v name) refl (names_known v ms)

same_number : (m n : ℕ) → number (unsigned m) ≡ number (unsigned n) → m ≡ n
same_number m n e = cc

limit_known : (found : Option Data) (usual most : ℕ) → Found (IsLimit found usual most)
limit_known None usual most = inl (usual, refl)
limit_known (Some (number (unsigned n))) usual most = elim (cases_lt n 1) [
  | inl low ↦ inr (λ m h. let same = same_number n m h.0 in let some = h.1 in absurd (omega arith))
  | inr some ↦ elim (cases_lt most n) [
    | inl high ↦ inr (λ m h. let same = same_number n m h.0 in let within = h.2 in absurd (omega arith))
    | inr within ↦ inl (n, (refl, some, within))
  ]
]
limit_known (Some (number (negative z))) usual most = inr (λ m h. let is = h.0 in cc)
limit_known (Some (number (float x))) usual most = inr (λ m h. let is = h.0 in cc)
limit_known (Some null) usual most = inr (λ m h. let is = h.0 in cc)
limit_known (Some (boolean b)) usual most = inr (λ m h. let is = h.0 in cc)
limit_known (Some (string s)) usual most = inr (λ m h. let is = h.0 in cc)
limit_known (Some (array ds)) usual most = inr (λ m h. let is = h.0 in cc)
limit_known (Some (object ms)) usual most = inr (λ m h. let is = h.0 in cc)

limits_by : (v : Version) (ms : Members) → Found (AreLimits v (object ms))
limits_by v ms =
    elim (names_known v ms) [
      | inr never ↦ inr (λ l h. never (subst (NameLimits v) (sym (same_members ms h.members h.are)) h.known))
      | inl known ↦ elim (limit_known (get (codes "fuel") (object ms)) default.fuel (greatest v).fuel) [
        | inr never ↦ inr (λ l h. never l.fuel h.fuel)
        | inl fuel ↦ elim (limit_known (get (codes "cells") (object ms)) default.cells (greatest v).cells) [
          | inr never ↦ inr (λ l h. never l.cells h.cells)
          | inl cells ↦ elim (limit_known (get (codes "units") (object ms)) default.units (greatest v).units) [
            | inr never ↦ inr (λ l h. never l.units h.units)
            | inl units ↦ elim (limit_known (get (codes "nodes") (object ms)) default.nodes (greatest v).nodes) [
              | inr never ↦ inr (λ l h. never l.nodes h.nodes)
              | inl nodes ↦ elim (limit_known (get (codes "depth") (object ms)) default.depth (greatest v).depth) [
                | inr never ↦ inr (λ l h. never l.depth h.depth)
                | inl depth ↦ elim (limit_known (get (codes "queue") (object ms)) default.queue (greatest v).queue) [
                  | inr never ↦ inr (λ l h. never l.queue h.queue)
                  | inl queue ↦ elim (limit_known (get (codes "sessions") (object ms)) default.sessions (greatest v).sessions) [
                    | inr never ↦ inr (λ l h. never l.sessions h.sessions)
                    | inl sessions ↦ elim (limit_known (get (codes "text") (object ms)) default.text (greatest v).text) [
                      | inr never ↦ inr (λ l h. never l.text h.text)
                      | inl text ↦ elim (limit_known (get (codes "replies") (object ms)) default.replies (greatest v).replies) [
                        | inr never ↦ inr (λ l h. never l.replies h.replies)
                        | inl replies ↦ inl (
                          record { fuel = fuel.0; cells = cells.0; units = units.0; nodes = nodes.0; depth = depth.0; queue = queue.0; sessions = sessions.0; text = text.0; replies = replies.0 },
                          record { members = ms; are = refl; known = known; fuel = fuel.1; cells = cells.1; units = units.1; nodes = nodes.1; depth = depth.1; queue = queue.1; sessions = sessions.1; text = text.1; replies = replies.1 },
                        )
                      ]
                    ]
                  ]
                ]
              ]
            ]
          ]
        ]
      ]
    ]

limits_known : (v : Version) (value : Data) → Found (AreLimits v value)
limits_known v (object ms) = limits_by v ms
limits_known v null = inr (λ l h. let are = h.are in cc)
limits_known v (boolean b) = inr (λ l h. let are = h.are in cc)
limits_known v (number n) = inr (λ l h. let are = h.are in cc)
limits_known v (string s) = inr (λ l h. let are = h.are in cc)
limits_known v (array ds) = inr (λ l h. let are = h.are in cc)

-- PARTS

-- the two texts of a language and a wire, or neither, as so many members have them
beside_by : (ms : Members) → (language wire : Option Data) → get_member (codes "language") ms ≡ language → get_member (codes "wire") ms ≡ wire
    → members_len ms ≡ 5 → Found (HasBeside ms)
beside_by ms (Some g) (Some w) language wire five = inl (Some (g, w), (five, language, wire))
beside_by ms None wire language x five = inr never
  where
    never : (both : Option (Data × Data)) → HasBeside ms both → ⊥
    never None h = let three : members_len ms ≡ 3 = h in absurd (omega arith)
    never (Some both) h = let found = h.1 in cc
beside_by ms (Some g) None language wire five = inr never
  where
    never : (both : Option (Data × Data)) → HasBeside ms both → ⊥
    never None h = let three : members_len ms ≡ 3 = h in absurd (omega arith)
    never (Some both) h = let found = h.2 in cc

beside_known : (ms : Members) → Found (HasBeside ms)
beside_known ms = of_three (nat_eq (members_len ms) 3) refl
  where
    of_five : (b : Bool) → nat_eq (members_len ms) 5 ≡ b → nat_eq (members_len ms) 3 ≡ false → Found (HasBeside ms)
    of_five true e other = beside_by ms (get_member (codes "language") ms) (get_member (codes "wire") ms) refl refl (eqb-true (members_len ms) 5 e)
    of_five false e other = inr never
      where
        never : (both : Option (Data × Data)) → HasBeside ms both → ⊥
        never None h = false≢true (sym other ∙ eq-eqb (members_len ms) 3 h)
        never (Some both) h = false≢true (sym e ∙ eq-eqb (members_len ms) 5 h.0)

    of_three : (b : Bool) → nat_eq (members_len ms) 3 ≡ b → Found (HasBeside ms)
    of_three true e = inl (None, eqb-true (members_len ms) 3 e)
    of_three false e = of_five (nat_eq (members_len ms) 5) refl e

-- a member that is not there is none of the parts
parts_by : (ms : Members) → (beside : Option (Data × Data)) → HasBeside ms beside → (version functions limits : Option Data)
    → get_member (codes "version") ms ≡ version → get_member (codes "functions") ms ≡ functions → get_member (codes "limits") ms ≡ limits → Found (HasParts (object ms))
parts_by ms beside has (Some v) (Some f) (Some l) version functions limits =
    inl (record { version = v; beside = beside; functions = f; limits = l }, record { members = ms; are = refl; beside = has; version = version; functions = functions; limits = limits })
parts_by ms beside has None functions limits version fs ls =
    inr (λ p h. let same = same_members ms h.members h.are in let found = subst (λ ns. get_member (codes "version") ns ≡ Some p.version) (sym same) h.version in cc)
parts_by ms beside has (Some v) None limits version fs ls =
    inr (λ p h. let same = same_members ms h.members h.are in let found = subst (λ ns. get_member (codes "functions") ns ≡ Some p.functions) (sym same) h.functions in cc)
parts_by ms beside has (Some v) (Some f) None version fs ls =
    inr (λ p h. let same = same_members ms h.members h.are in let found = subst (λ ns. get_member (codes "limits") ns ≡ Some p.limits) (sym same) h.limits in cc)

parts_of : (ms : Members) → Found (HasBeside ms) → Found (HasParts (object ms))
parts_of ms (inl (beside, has)) = parts_by ms beside has (get_member (codes "version") ms) (get_member (codes "functions") ms) (get_member (codes "limits") ms) refl refl refl
parts_of ms (inr never) =
    inr (λ p h. never p.beside (subst (λ ns. HasBeside ns p.beside) (sym (same_members ms h.members h.are)) h.beside))

parts_known : (value : Data) → Found (HasParts value)
parts_known (object ms) = parts_of ms (beside_known ms)
parts_known null = inr (λ p h. let are = h.are in cc)
parts_known (boolean b) = inr (λ p h. let are = h.are in cc)
parts_known (number n) = inr (λ p h. let are = h.are in cc)
parts_known (string s) = inr (λ p h. let are = h.are in cc)
parts_known (array ds) = inr (λ p h. let are = h.are in cc)

-- VERSIONS

-- whether the value is this number
number_known : (m : ℕ) (value : Data) → Known (value ≡ number (unsigned m))
number_known m (number (unsigned n)) = by (nat_eq n m) refl
  where
    by : (b : Bool) → nat_eq n m ≡ b → Known (number (unsigned n) ≡ number (unsigned m))
    by true e = inl (ap (λ k. number (unsigned k)) (eqb-true n m e))
    by false e = inr (λ h. false≢true (sym e ∙ eq-eqb n m (same_number n m h)))
number_known m (number (negative z)) = inr (λ h. cc)
number_known m (number (float x)) = inr (λ h. cc)
number_known m null = inr (λ h. cc)
number_known m (boolean b) = inr (λ h. cc)
number_known m (string s) = inr (λ h. cc)
number_known m (array ds) = inr (λ h. cc)
number_known m (object ms) = inr (λ h. cc)

language_known : (value : Data) → Found (IsLanguage value)
language_known value = by (number_known 1 value)
  where
    by : Known (value ≡ number (unsigned 1)) → Found (IsLanguage value)
    by (inl one) = inl (L.One, one)
    by (inr other) = inr never
      where
        never : (language : Language) → IsLanguage value language → ⊥
        never L.One h = other h
        never L.Two h = h

wire_known : (value : Data) → Found (IsWire value)
wire_known value = by (number_known 1 value)
  where
    by : Known (value ≡ number (unsigned 1)) → Found (IsWire value)
    by (inl one) = inl (W.One, one)
    by (inr other) = inr never
      where
        never : (wire : Wire) → IsWire value wire → ⊥
        never W.One h = other h
        never W.Two h = h

stated_by : (version : Data) (beside : Option (Data × Data)) → Found (AreStated version beside)
stated_by version None = elim (number_known 1 version) [
  | inr other ↦ inr (λ s h. other h.0)
  | inl one ↦ inl (record { version = V.One; language = L.One; wire = W.One }, (one, refl))
]
stated_by version (Some both) = elim (number_known 2 version) [
  | inr other ↦ inr (λ s h. other h.0)
  | inl two ↦ elim (language_known both.0) [
    | inr never ↦ inr (λ s h. never s.language h.2)
    | inl language ↦ elim (wire_known both.1) [
      | inr never ↦ inr (λ s h. never s.wire h.3)
      | inl wire ↦ inl (record { version = V.Two; language = language.0; wire = wire.0 }, (two, refl, language.1, wire.1))
    ]
  ]
]

stated_known : (parts : Parts) → Found (State parts)
stated_known parts = stated_by parts.version parts.beside

-- ANSWERS

-- the bytes have an answer
abbrev Answered : List ℕ → Type 0
Answered bytes = (answer : Result Contents ManifestRefusal) × IsAnswer bytes answer

answer_by_parts : (bytes : List ℕ) (parts : Parts) → ArePartsOf bytes parts → Answered bytes
answer_by_parts bytes parts are = elim (stated_known parts) [
  | inr never ↦ (Err (R.Kind K.Version), (parts, are, (λ some. never some.0 some.1)))
  | inl stated ↦ elim (functions_known parts.functions) [
    | inr never ↦ (Err (R.Kind K.Function), (parts, are, stated, never))
    | inl functions ↦ elim (limits_known stated.0.version parts.limits) [
      | inr never ↦ (Err (R.Kind K.LimitRange), (parts, are, stated, functions, never))
      | inl limits ↦
          let says : Says bytes (record { stated = stated.0; functions = functions.0; limits = limits.0 }) =
          record { parts = parts; are = are; stated = stated.1; functions = functions.1; limits = limits.1 } in
          elim (cases_lt most_memory (memory_of limits.0)) [
            | inl large ↦ (Err R.LimitsTooLarge, (record { stated = stated.0; functions = functions.0; limits = limits.0 }, says, large))
            | inr fits ↦ (Ok (record { stated = stated.0; functions = functions.0; limits = limits.0 }), (says, fits))
          ]
    ]
  ]
]

answer_by : (bytes : List ℕ) (read : Result Data DataError) → answer_long bytes ≡ read → Answered bytes
answer_by bytes (Err e) is = (Err (R.Kind K.Syntax), (λ value json. absurd (let h : Err e ≡ Ok value = sym is ∙ json in cc)))
answer_by bytes (Ok value) is = elim (parts_known value) [
  | inl parts ↦ answer_by_parts bytes parts.0 (value, is, parts.1)
  | inr never ↦ (Err (R.Kind K.Member), (value, is, never))
]

pub an_answer : HasAnAnswer
an_answer bytes = answer_by bytes (answer_long bytes) refl
