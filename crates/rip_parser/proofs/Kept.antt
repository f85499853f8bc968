-- What is kept while a tree is made, and what is made in the end.
use Rattle.std.proofs.Common.{◌≡◌, ℕ, ◌+◌, ◌-◌, ◌<◌, ◌≤◌, List, [], ◌∷◌, ◌++◌, length, take, drop, reverse, Option, Some, None, get_or, refl, sym, ap, ◌∙◌, subst, arith}
use Rattle.std.proofs.lemmas.List.{take_more, take-append-drop, reverse-append}
use Rattle.rip_lexer.specs.declared.token.Token.{Token}
use Rattle.rip_tree.specs.Branches.{AreBetween}
use Rattle.rip_tree.specs.Making.{Growth, with_branch, with_units}
use Rattle.rip_tree.specs.declared.node.Node.{Node}
use Rattle.rip_tree.specs.declared.form.TextLiteral.{TextLiteral}
use Rattle.rip_parser.specs.Shows.{text_of, text_count, texts_end, LiesAt, AreLaid}
use Rattle.rip_grammar.specs.declared.event.Event.{Event}
use Rattle.rip_grammar.specs.declared.event.Event.TheVariants as E
use Rattle.rip_parser.specs.Building.{State, numbers, beginning, absent, wrapped, last_parts, other_parts, part_of, place_over, IsPut, Takes, Fits, HasRoom, node_count}
use Rattle.rip_parser.proofs.Courses.{Builds}
use Rattle.rip_parser.proofs.Parts.{AreBetween-range, AreBetween-behind, AreBetween-lower, numbers-append}

-- ---- what is told, up to an event

pub told-more : (events : List Event) (i : ℕ) (d : Event) → i < length events → reverse (take (i + 1) events) ≡ get_or events i d ∷ reverse (take i events)
told-more events i d within = ap reverse (take_more events i d within) ∙ reverse-append (take i events) (get_or events i d ∷ [])

pub told-all : (events : List Event) (i : ℕ) → reverse events ≡ reverse (drop i events) ++ reverse (take i events)
told-all events i = ap reverse (sym (take-append-drop i events)) ∙ reverse-append (take i events) (drop i events)

node_count-append : (xs ys : List Event) → node_count (xs ++ ys) ≡ node_count xs + node_count ys
node_count-append [] ys = omega arith
node_count-append (E.Node place head count ∷ xs) ys = let below = node_count-append xs ys in omega arith
node_count-append (E.Absent ∷ xs) ys = node_count-append xs ys
node_count-append (E.Parenthesized place ∷ xs) ys = node_count-append xs ys

pub count-within : (events : List Event) (i : ℕ) → node_count (reverse (take i events)) ≤ node_count (reverse events)
count-within events i =
    let all = ap node_count (told-all events i) ∙ node_count-append (reverse (drop i events)) (reverse (take i events)) in omega arith

-- ---- what a state keeps

-- the parts fit, and so many nodes are made of so many
pub record Keeps (total count : ℕ) (s : State) : Type 0 where
  pub fits : Fits s
  pub total-is : s.growth.total ≡ total
  pub count-is : length s.growth.branches ≡ count

-- the same growth with other parts
keeps-parts : (total count : ℕ) (s t : State) → t.growth ≡ s.growth → AreBetween (s.growth.total - (length s.growth.branches + 1)) s.growth.total (numbers t.parts) → Keeps total count s → Keeps total count t
keeps-parts total count s t same between kept = record {
  fits = subst (λ (g : Growth). AreBetween (g.total - (length g.branches + 1)) g.total (numbers t.parts)) (sym same) between;
  total-is = ap (λ (g : Growth). g.total) same ∙ kept.total-is;
  count-is = ap (λ (g : Growth). length g.branches) same ∙ kept.count-is;
}

takes-kept : (script : List ℕ) (event : Event) (s t : State) (total : ℕ) (told : List Event) → node_count (event ∷ told) < total → Keeps total (node_count told) s → Takes script event s t → Keeps total (node_count (event ∷ told)) t
takes-kept script E.Absent s t total told room kept is =
    let low = s.growth.total - (length s.growth.branches + 1) in
    keeps-parts total (node_count told) s t (ap (λ (x : State). x.growth) is)
    (subst (λ cs. AreBetween low s.growth.total cs) (sym (ap (λ (x : State). numbers x.parts) is ∙ numbers-append s.parts (absent ∷ [])))
    (AreBetween-behind low s.growth.total (numbers s.parts) (None ∷ []) kept.fits tt))
    kept
takes-kept script (E.Parenthesized place) s t total told room kept is =
    let low = s.growth.total - (length s.growth.branches + 1) in
    let same : numbers t.parts ≡ numbers s.parts =
    ap (λ (x : State). numbers x.parts) is.3 ∙ numbers-append is.0 (wrapped place is.1 ∷ []) ∙ sym (ap numbers is.2 ∙ numbers-append is.0 (is.1 ∷ [])) in
    keeps-parts total (node_count told) s t (ap (λ (x : State). x.growth) is.3) (subst (λ cs. AreBetween low s.growth.total cs) (sym same) kept.fits) kept
takes-kept script (E.Node place head count) s t total told room kept m =
    let high = s.growth.total in
    let low = high - (length s.growth.branches + 1) in
    let below = high - (length s.growth.branches + 1 + 1) in
    let others = other_parts count s.parts in
    let part = part_of s.growth place head (last_parts count s.parts) in
    let total-is : t.growth.total ≡ high = ap (λ (g : Growth). g.total) m.growth in
    let count-is : length t.growth.branches ≡ length s.growth.branches + 1 = ap (λ (g : Growth). length g.branches) m.growth ∙ omega arith in
    let numbers-are : numbers t.parts ≡ numbers others ++ part.number ∷ [] = ap numbers m.parts ∙ numbers-append others (part ∷ []) in
    let told-of = kept.count-is in
    let all-of = kept.total-is in
    let above : below < low = omega arith in
    let within : low < high = omega arith in
    let front : AreBetween low high (numbers others) = AreBetween-range low high (length s.parts - count) 0 s.parts kept.fits in
    record {
      fits =
          subst (λ k. AreBetween (t.growth.total - (k + 1)) t.growth.total (numbers t.parts)) (sym count-is)
          (subst (λ h. AreBetween (h - (length s.growth.branches + 1 + 1)) h (numbers t.parts)) (sym total-is)
          (subst (λ cs. AreBetween below high cs) (sym numbers-are)
          (AreBetween-behind below high (numbers others) (part.number ∷ []) (AreBetween-lower below low high (numbers others) (omega arith) front) (above, within, tt))));
      total-is = total-is ∙ kept.total-is;
      count-is = count-is ∙ ap (λ k. k + 1) kept.count-is;
    }

pub builds-kept : (script : List ℕ) (tokens : List Token) (total : ℕ) (told : List Event) (s : State) → Builds script tokens total told (Some s) → node_count told < total → Keeps total (node_count told) s
builds-kept script tokens total [] s builds room =
    let is : s ≡ beginning script total = cc in
    subst (λ (x : State). Keeps total 0 x) (sym is) (record { fits = tt; total-is = refl; count-is = refl })
builds-kept script tokens total (event ∷ told) s (None, below, none) room = cc
builds-kept script tokens total (event ∷ told) s (Some b, below, takes) room =
    takes-kept script event b s total told room (builds-kept script tokens total told b below (fewer event told total room)) takes
  where
    fewer : (event : Event) (told : List Event) (total : ℕ) → node_count (event ∷ told) < total → node_count told < total
    fewer E.Absent told total room = room
    fewer (E.Parenthesized place) told total room = room
    fewer (E.Node place head count) told total room = omega arith

-- a node is told where one is left to make
pub has-room : (event : Event) (s : State) (told : List Event) (total : ℕ) → Keeps total (node_count told) s → node_count (event ∷ told) < total → HasRoom event s
has-room E.Absent s told total kept room = tt
has-room (E.Parenthesized place) s told total kept room = tt
has-room (E.Node place head count) s told total kept room =
    let told-of = kept.count-is in
    let all-of = kept.total-is in
    omega arith

-- ---- where texts lie

-- the texts of the nodes lie one behind the other, behind the units of the script, to the end of the units
abbrev pub IsLaid : List ℕ → Growth → Type 0
IsLaid script growth = AreLaid (length script) growth.branches × (length growth.units ≡ texts_end (length script) growth.branches)

laid-one : (script : List ℕ) (growth : Growth) (node : Node) (children : List (Option ℕ)) (units : List ℕ) (text : Option TextLiteral) → text_of node.form ≡ text
    → IsPut text growth.units (growth.units ++ units) → IsLaid script growth → IsLaid script (with_branch (with_units growth units) node children)
laid-one script growth node children units None is put laid = (
  (subst (λ t. LiesAt (texts_end (length script) growth.branches) t) (sym is) tt, laid.0),
  put ∙ laid.1 ∙ sum (texts_end (length script) growth.branches) (text_count (text_of node.form)) (ap text_count is),
)
  where
    sum : (a b : ℕ) → b ≡ 0 → a ≡ a + b
    sum a b none = omega arith
laid-one script growth node children units (Some literal) is put laid = (
  (subst (λ t. LiesAt (texts_end (length script) growth.branches) t) (sym is) (put.0 ∙ laid.1), laid.0),
  put.1 ∙ ap (λ k. k + literal.value.count) laid.1 ∙ ap (λ t. texts_end (length script) growth.branches + text_count t) (sym is),
)

takes-laid : (script : List ℕ) (event : Event) (s t : State) → IsLaid script s.growth → Takes script event s t → IsLaid script t.growth
takes-laid script E.Absent s t laid is = subst (λ (g : Growth). IsLaid script g) (sym (ap (λ (x : State). x.growth) is)) laid
takes-laid script (E.Parenthesized place) s t laid is = subst (λ (g : Growth). IsLaid script g) (sym (ap (λ (x : State). x.growth) is.3)) laid
takes-laid script (E.Node place head count) s t laid m =
    subst (λ (g : Growth). IsLaid script g) (sym m.growth)
    (laid-one script s.growth (record { place = place_over place (last_parts count s.parts); form = m.form }) (numbers (last_parts count s.parts)) m.units (text_of m.form) refl m.put laid)

pub builds-laid : (script : List ℕ) (tokens : List Token) (total : ℕ) (told : List Event) (s : State) → Builds script tokens total told (Some s) → IsLaid script s.growth
builds-laid script tokens total [] s builds =
    let is : s ≡ beginning script total = cc in
    subst (λ (x : State). IsLaid script x.growth) (sym is) (tt, refl)
builds-laid script tokens total (event ∷ told) s (None, below, none) = cc
builds-laid script tokens total (event ∷ told) s (Some b, below, takes) = takes-laid script event b s (builds-laid script tokens total told b below) takes
