-- The loop over the attributes of a tag.
use Rattle.std.proofs.Common.{◌≡◌, ℕ, ◌+◌, ◌-◌, drop, drop-drop, Bool, true, false, ◌||◌, List, [], ◌∷◌, ◌++◌, length, map, Option, Some, None, option_map, refl, sym, ap, ◌∙◌, subst, arith, append_assoc, append-nil}
use Rattle.rip_base.specs.Units.{small_text}
use Rattle.rip_markup.specs.Words.{is_among}
use Rattle.rip_markup.specs.Attributes.{Written, attribute_text, LeadsAttribute, LeadsAttributes}
use Rattle.rip_markup.specs.Scans.{NoneLeads, ShowsAttribute}
use Rattle.rip_markup.specs.Reads.{read_parts}
use Rattle.rip_markup.specs.Fault.{shifted, option_or}
use Rattle.rip_markup.specs.Tags.{read_of, pair_of, attribute_fault, attributes_fault, attributes_length, is_against, are_against, AreRead}
use Rattle.rip_markup.specs.declared.fault.Fault.{Fault}
use Rattle.rip_markup.specs.declared.attribute.ReadAttribute.{ReadAttribute}
use Rattle.rip_base.specs.declared.page.Attribute.{Attribute}
use Rattle.rip_markup.proofs.Parts.{attribute_length, attribute_text-append}
use Rattle.std.proofs.lemmas.List.{drop_at}

-- the names of attributes
abbrev pub names_of : List Attribute → List (List ℕ)
names_of pairs = map (λ p. p.name) pairs

-- whatever attributes the rest begins with, the text begins with those that were read and these
abbrev pub ReadsOn : List ℕ → ℕ → List ℕ → ℕ → List ℕ → List Attribute → Option Fault → Bool → Type 0
ReadsOn tag start text place rest pairs found against =
    (others : List Written) (end : List ℕ) → LeadsAttributes rest others end → AreRead tag start text end (pairs ++ map pair_of others) (option_or found (attributes_fault tag place (names_of pairs) others)) (against || are_against tag (names_of pairs) others) (place + attributes_length others)

pub reads_none : (tag : List ℕ) (start : ℕ) (text : List ℕ) → ReadsOn tag start text start text [] None false
reads_none tag start text others end leads = record { attributes = others; leads = leads; pairs-is = refl; found-is = refl; against-is = refl; place-is = refl }

or_assoc : (a b c : Bool) → ((a || b) || c) ≡ (a || (b || c))
or_assoc true b c = refl
or_assoc false b c = refl

or_none : (a : Bool) → (a || false) ≡ a
or_none true = refl
or_none false = refl

option_or-assoc : {X : Type 0} (a b c : Option X) → option_or (option_or a b) c ≡ option_or a (option_or b c)
option_or-assoc None b c = refl
option_or-assoc (Some x) b c = refl

option_or-none : {X : Type 0} (a : Option X) → option_or a None ≡ a
option_or-none None = refl
option_or-none (Some x) = refl

pub names-append : (pairs more : List Attribute) → names_of (pairs ++ more) ≡ names_of pairs ++ names_of more
names-append [] more = refl
names-append (p ∷ pairs) more = ap (λ u. p.name ∷ u) (names-append pairs more)

-- one attribute more, as it is written
one_more : (tag : List ℕ) (start : ℕ) (text : List ℕ) (place : ℕ) (rest : List ℕ) (pairs : List Attribute) (found : Option Fault) (against : Bool) (a : Written) (more : List ℕ) → ReadsOn tag start text place rest pairs found against → LeadsAttribute rest a more →
    ReadsOn tag start text (place + length (attribute_text a [])) more (pairs ++ pair_of a ∷ [])
    (option_or found (option_map (shifted (place + length a.space)) (attribute_fault tag (is_among (names_of pairs) (small_text a.name)) (read_of a))))
    (against || is_against tag (is_among (names_of pairs) (small_text a.name)) (read_of a))
one_more tag start text place rest pairs found against a more reads fit others end leads =
    let base = reads (a ∷ others) end (more, fit, leads) in
    let seen : names_of (pairs ++ pair_of a ∷ []) ≡ names_of pairs ++ small_text a.name ∷ [] = names-append pairs (pair_of a ∷ []) in
    let here = option_map (shifted (place + length a.space)) (attribute_fault tag (is_among (names_of pairs) (small_text a.name)) (read_of a)) in
    let now = is_against tag (is_among (names_of pairs) (small_text a.name)) (read_of a) in
    let next = place + length (attribute_text a []) in
    record {
      attributes = base.attributes;
      leads = base.leads;
      pairs-is = base.pairs-is ∙ sym (append_assoc pairs (pair_of a ∷ []) (map pair_of others));
      found-is = base.found-is ∙ sym (option_or-assoc found here (attributes_fault tag next (names_of pairs ++ small_text a.name ∷ []) others)) ∙ ap (λ s. option_or (option_or found here) (attributes_fault tag next s others)) (sym seen);
      against-is = base.against-is ∙ sym (or_assoc against now (are_against tag (names_of pairs ++ small_text a.name ∷ []) others)) ∙ ap (λ s. (against || now) || are_against tag s others) (sym seen);
      place-is = omega (arith, base.place-is);
    }

-- a turn of the loop
pub read_more : (tag : List ℕ) (start : ℕ) (text : List ℕ) (place : ℕ) (rest : List ℕ) (pairs : List Attribute) (found : Option Fault) (against : Bool) (space : ℕ) (name : List ℕ) (before : ℕ) (value more : List ℕ) (read : ReadAttribute) (double : Bool) (found' : Option Fault) (against' : Bool) (pairs' : List Attribute) (place' : ℕ) →
    ReadsOn tag start text place rest pairs found against → ShowsAttribute rest space name before value more →
    read ≡ read_parts name before value → double ≡ is_among (names_of pairs) read.name →
    found' ≡ option_or found (option_map (shifted (place + space)) (attribute_fault tag double read)) → against' ≡ (against || is_against tag double read) →
    pairs' ≡ pairs ++ (record { name = read.name; value = read.value } ∷ []) → place' + length more ≡ place + length rest →
    ReadsOn tag start text place' more pairs' found' against'
read_more tag start text place rest pairs found against space name before value more read double found' against' pairs' place' reads shows read-is double-is found-is against-is pairs-is place-is =
    let a = shows.a in
    let names = shows.name-is in
    let befores = shows.before-is in
    let values = shows.value-is in
    let same : read ≡ read_of a = read-is ∙ (λ i. read_parts (names i) (befores i) (values i)) in
    let twice : double ≡ is_among (names_of pairs) (small_text a.name) = double-is ∙ ap (λ (r : ReadAttribute). is_among (names_of pairs) r.name) same in
    let spaces = shows.space-is in
    let next : place + length (attribute_text a []) ≡ place' = omega (arith, ap length shows.leads.0, attribute_length a more) in
    let founds : option_or found (option_map (shifted (place + length a.space)) (attribute_fault tag (is_among (names_of pairs) (small_text a.name)) (read_of a))) ≡ found' =
    sym (found-is ∙ (λ i. option_or found (option_map (shifted (place + spaces i)) (attribute_fault tag (twice i) (same i))))) in
    let againsts : (against || is_against tag (is_among (names_of pairs) (small_text a.name)) (read_of a)) ≡ against' =
    sym (against-is ∙ (λ i. against || is_against tag (twice i) (same i))) in
    let all : pairs ++ pair_of a ∷ [] ≡ pairs' = sym (pairs-is ∙ ap (λ (r : ReadAttribute). pairs ++ (record { name = r.name; value = r.value } ∷ [])) same) in
    subst (λ n. ReadsOn tag start text n more pairs' found' against') next
    (subst (λ ps. ReadsOn tag start text (place + length (attribute_text a [])) more ps found' against') all
    (subst (λ f. ReadsOn tag start text (place + length (attribute_text a [])) more (pairs ++ pair_of a ∷ []) f against') founds
    (subst (λ b. ReadsOn tag start text (place + length (attribute_text a [])) more (pairs ++ pair_of a ∷ []) (option_or found (option_map (shifted (place + length a.space)) (attribute_fault tag (is_among (names_of pairs) (small_text a.name)) (read_of a)))) b) againsts
    (one_more tag start text place rest pairs found against a more reads shows.leads))))

-- at the end all are read
pub read_all : (tag : List ℕ) (start : ℕ) (text : List ℕ) (place : ℕ) (rest : List ℕ) (pairs : List Attribute) (found : Option Fault) (against : Bool) → ReadsOn tag start text place rest pairs found against → NoneLeads rest → AreRead tag start text rest pairs found against place
read_all tag start text place rest pairs found against reads none =
    let all = reads [] rest (refl, none) in
    record {
      attributes = all.attributes;
      leads = all.leads;
      pairs-is = all.pairs-is ∙ append-nil pairs;
      found-is = all.found-is ∙ option_or-none found;
      against-is = all.against-is ∙ or_none against;
      place-is = omega (arith, all.place-is);
    }

-- what stands behind attributes
pub attributes_end : (text : List ℕ) (attributes : List Written) (rest : List ℕ) → LeadsAttributes text attributes rest → (rest ≡ drop (attributes_length attributes) text) × (length text ≡ attributes_length attributes + length rest)
attributes_end text [] rest leads = (sym leads.0, ap length leads.0 ∙ omega arith)
attributes_end text (a ∷ others) rest leads =
    let below = attributes_end leads.0 others rest leads.2 in
    let here = length (attribute_text a []) in
    let long : length text ≡ here + length leads.0 = ap length leads.1.0 ∙ attribute_length a leads.0 in
    let tail : drop here text ≡ leads.0 = ap (drop here) (leads.1.0 ∙ attribute_text-append a leads.0) ∙ drop_at (attribute_text a []) leads.0 here refl in
    (below.0 ∙ ap (drop (attributes_length others)) (sym tail) ∙ drop-drop (attributes_length others) here text, omega (arith, below.1, long))

pub read_end : (tag : List ℕ) (start : ℕ) (text rest : List ℕ) (pairs : List Attribute) (found : Option Fault) (against : Bool) (place : ℕ) → AreRead tag start text rest pairs found against place → rest ≡ drop (place - start) text
read_end tag start text rest pairs found against place read =
    (attributes_end text read.attributes rest read.leads).0 ∙ ap (λ n. drop n text) (omega (arith, read.place-is))
