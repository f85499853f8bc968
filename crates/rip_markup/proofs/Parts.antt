-- The parts of an attribute, one behind another.
use Rattle.std.proofs.Common.{◌≡◌, ℕ, ◌≤◌, ◌<◌, true, ◌+◌, List, [], ◌∷◌, ◌++◌, length, take, drop, Some, None, option_map, refl, sym, ap, ◌∙◌, subst, arith, append_assoc, append-nil, length-append, take_at}
use Rattle.std.proofs.lemmas.List.{drop_at}
use Rattle.std.proofs.lemmas.Bool.{false≢true}
use Rattle.rip_base.specs.Units.{begins}
use Rattle.rip_markup.specs.Units.{is_space}
use Rattle.rip_markup.specs.Attributes.{Value, Absent, Unquoted, Quoted, value_text, value_units, value_offset, Written, attribute_text, LeadsAttribute}
use Rattle.rip_markup.specs.Scans.{attribute_at, value_close, shown, ShowsAttribute, NoneLeads}
use Rattle.rip_markup.specs.declared.attribute.AttributeSpan.{AttributeSpan}
use Rattle.rip_markup.proofs.Choice.{mapped, mapped_none}
use Rattle.rip_markup.proofs.Standing.{attribute_stands, none_stands}

-- a front and what stands behind it
pub record Cut (n : ℕ) (whole front back : List ℕ) : Type 0 where
  pub front-is : take n whole ≡ front
  pub back-is : drop n whole ≡ back
  pub within : n ≤ length whole

pub cut : (n : ℕ) (whole front back : List ℕ) → whole ≡ front ++ back → n ≡ length front → Cut n whole front back
cut n whole front back splits long = record {
  front-is = ap (take n) splits ∙ take_at front back n (sym long);
  back-is = ap (drop n) splits ∙ drop_at front back n (sym long);
  within = omega (arith, ap length splits, length-append front back);
}

-- the units before a value, and those behind it
abbrev pub opening : Value → List ℕ
opening Absent = []
opening (Unquoted units) = 61 ∷ []
opening (Quoted quote units) = 61 ∷ quote ∷ []

abbrev pub ending : Value → List ℕ
ending (Quoted quote units) = quote ∷ []
ending _ = []

value_parts : (v : Value) (rest : List ℕ) → value_text v rest ≡ opening v ++ (value_units v ++ (ending v ++ rest))
value_parts Absent rest = refl
value_parts (Unquoted units) rest = refl
value_parts (Quoted quote units) rest = refl

opening_long : (v : Value) → value_offset v ≡ length (opening v)
opening_long Absent = refl
opening_long (Unquoted units) = refl
opening_long (Quoted quote units) = refl

ending_long : (v : Value) → value_close v ≡ length (ending v)
ending_long Absent = refl
ending_long (Unquoted units) = refl
ending_long (Quoted quote units) = refl

-- the parts of a text that begins with an attribute
pub record Cuts (text : List ℕ) (span : AttributeSpan) : Type 0 where
  pub a : Written
  pub rest : List ℕ
  pub leads : LeadsAttribute text a rest
  pub space-is : span.space ≡ length a.space
  pub before-is : span.value.before ≡ value_offset a.value
  pub space : Cut span.space text a.space (a.name ++ value_text a.value rest)
  pub name : Cut span.name (a.name ++ value_text a.value rest) a.name (value_text a.value rest)
  pub sign : Cut span.value.before (value_text a.value rest) (opening a.value) (value_units a.value ++ (ending a.value ++ rest))
  pub value : Cut span.value.count (value_units a.value ++ (ending a.value ++ rest)) (value_units a.value) (ending a.value ++ rest)
  pub close : Cut span.value.after (ending a.value ++ rest) (ending a.value) rest

pub cuts : (text : List ℕ) (span : AttributeSpan) → Some span ≡ option_map shown (attribute_at text) → Cuts text span
cuts text span e =
    let m = mapped shown (attribute_at text) span (sym e) in
    let a : Written = m.0 in
    let stands = attribute_stands text a m.1 in
    let rest = stands.0 in
    let vt = value_text a.value rest in
    let is = m.2 in
    let space : span.space ≡ length a.space = ap (λ (s : AttributeSpan). s.space) is in
    let name : span.name ≡ length a.name = ap (λ (s : AttributeSpan). s.name) is in
    let before : span.value.before ≡ value_offset a.value = ap (λ (s : AttributeSpan). s.value.before) is in
    let count : span.value.count ≡ length (value_units a.value) = ap (λ (s : AttributeSpan). s.value.count) is in
    let after : span.value.after ≡ value_close a.value = ap (λ (s : AttributeSpan). s.value.after) is in
    record {
      a = a;
      rest = rest;
      leads = stands.1;
      space-is = space;
      before-is = before;
      space = cut span.space text a.space (a.name ++ vt) stands.1.0 space;
      name = cut span.name (a.name ++ vt) a.name vt refl name;
      sign = cut span.value.before vt (opening a.value) (value_units a.value ++ (ending a.value ++ rest)) (value_parts a.value rest) (before ∙ opening_long a.value);
      value = cut span.value.count (value_units a.value ++ (ending a.value ++ rest)) (value_units a.value) (ending a.value ++ rest) refl count;
      close = cut span.value.after (ending a.value ++ rest) (ending a.value) rest refl (after ∙ ending_long a.value);
    }

pub no_cuts : (text : List ℕ) → None ≡ option_map shown (attribute_at text) → NoneLeads text
no_cuts text e = none_stands text (mapped_none shown (attribute_at text) (sym e))

-- a step along the parts
pub along : (n : ℕ) (whole front back seen left : List ℕ) → Cut n whole front back → seen ≡ whole → left ≡ drop n seen → left ≡ back
along n whole front back seen left k same is = is ∙ ap (drop n) same ∙ k.back-is

pub fits : (n : ℕ) (whole front back seen : List ℕ) → Cut n whole front back → seen ≡ whole → n ≤ length seen
fits n whole front back seen k same = subst (λ u. n ≤ length u) (sym same) k.within

pub shows : (text : List ℕ) (span : AttributeSpan) (k : Cuts text span) (l1 name l2 l3 value l4 rest : List ℕ) → l1 ≡ k.a.name ++ value_text k.a.value k.rest → name ≡ take span.name l1 → l3 ≡ value_units k.a.value ++ (ending k.a.value ++ k.rest) → value ≡ take span.value.count l3 → rest ≡ k.rest → ShowsAttribute text span.space name span.value.before value rest
shows text span k l1 name l2 l3 value l4 rest at-name name-is at-value value-is rest-is = record {
  a = k.a;
  leads = subst (λ u. LeadsAttribute text k.a u) (sym rest-is) k.leads;
  space-is = k.space-is;
  name-is = name-is ∙ ap (take span.name) at-name ∙ k.name.front-is;
  before-is = k.before-is;
  value-is = value-is ∙ ap (take span.value.count) at-value ∙ k.value.front-is;
}

value_long : (v : Value) (rest : List ℕ) → length (value_text v rest) ≡ value_offset v + (length (value_units v) + (value_close v + length rest))
value_long Absent rest = omega arith
value_long (Unquoted units) rest = omega (arith, length-append units rest)
value_long (Quoted quote units) rest = omega (arith, length-append units (quote ∷ rest))

pub attribute_long : (a : Written) (rest : List ℕ) → length (attribute_text a rest) ≡ length a.space + (length a.name + (value_offset a.value + (length (value_units a.value) + (value_close a.value + length rest))))
attribute_long a rest = omega (arith, length-append a.space (a.name ++ value_text a.value rest), length-append a.name (value_text a.value rest), value_long a.value rest)

-- an attribute is as long with nothing behind it
pub attribute_length : (a : Written) (rest : List ℕ) → length (attribute_text a rest) ≡ length (attribute_text a []) + length rest
attribute_length a rest = omega (arith, attribute_long a rest, attribute_long a [])

offset_small : (v : Value) → value_offset v ≤ 2
offset_small Absent = omega arith
offset_small (Unquoted units) = omega arith
offset_small (Quoted quote units) = omega arith

spaced_long : (units : List ℕ) → begins is_space units ≡ true → 0 < length units
spaced_long [] b = absurd (false≢true b)
spaced_long (c ∷ units) b = omega arith

pub shows_long : (text : List ℕ) (space : ℕ) (name : List ℕ) (before : ℕ) (value rest : List ℕ) → ShowsAttribute text space name before value rest → (space + length name + before + length value + length rest ≤ length text) × (length rest < length text) × (before ≤ 2)
shows_long text space name before value rest it =
    let long : length text ≡ length (attribute_text it.a rest) = ap length it.leads.0 in
    let all = attribute_long it.a rest in
    let some = spaced_long it.a.space it.leads.1.spaced in
    let small = offset_small it.a.value in
    let n = ap length it.name-is in
    let v = ap length it.value-is in
    (omega (arith, long, all, it.space-is, it.before-is, n, v), omega (arith, long, all, some), omega (arith, small, it.before-is))

value_append : (v : Value) (rest : List ℕ) → value_text v rest ≡ value_text v [] ++ rest
value_append Absent rest = refl
value_append (Unquoted units) rest = ap (λ u. 61 ∷ u) (ap (λ u. u ++ rest) (sym (append-nil units)))
value_append (Quoted quote units) rest = ap (λ u. 61 ∷ quote ∷ u) (sym (append_assoc units (quote ∷ []) rest))

-- an attribute, and then the rest
pub attribute_text-append : (a : Written) (rest : List ℕ) → attribute_text a rest ≡ attribute_text a [] ++ rest
attribute_text-append a rest =
    ap (λ u. a.space ++ (a.name ++ u)) (value_append a.value rest) ∙ ap (λ u. a.space ++ u) (sym (append_assoc a.name (value_text a.value []) rest)) ∙ sym (append_assoc a.space (a.name ++ value_text a.value []) rest)
