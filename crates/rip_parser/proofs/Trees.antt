-- A script has one tree.
use Rattle.std.proofs.Common.{◌≡◌, ℕ, zero, suc, ◌+◌, ◌-◌, ◌<◌, ◌≤◌, Bool, true, false, ltb, ltb-true, ltb-false, List, [], ◌∷◌, ◌++◌, length, map, take, drop, Option, Some, None, refl, sym, ap, ◌∙◌, subst, arith}
use Rattle.std.specs.Prelude.{IsTrue, ◌↔◌, min}
use Rattle.std.specs.Option.{option_map}
use Rattle.std.proofs.Math.Seq.{take-add, take-length}
use Rattle.std.proofs.lemmas.List.{same_from_push, take-take, length-take, length-drop}
use Rattle.rip_lexer.proofs.Values.{one_value}
use Rattle.rip_tree.specs.Branches.{Branch, Plant, branch_of, units_at}
use Rattle.rip_tree.specs.declared.node.Node.{Node}
use Rattle.rip_tree.specs.declared.node.Piece.{Piece}
use Rattle.rip_tree.specs.declared.form.Form.{Form}
use Rattle.rip_tree.specs.declared.form.Form.TheVariants as F
use Rattle.rip_tree.specs.declared.form.Key.{Key}
use Rattle.rip_tree.specs.declared.form.Key.TheVariants as Y
use Rattle.rip_tree.specs.declared.form.TextLiteral.{TextLiteral}
use Rattle.rip_grammar.specs.declared.word.Word.{Word}
use Rattle.rip_grammar.specs.declared.word.Word.TheVariants as W
use Rattle.rip_grammar.specs.declared.word.Lexeme.{Lexeme}
use Rattle.rip_grammar.specs.declared.event.Head.{Head}
use Rattle.rip_grammar.specs.declared.event.Head.TheVariants as H
use Rattle.rip_grammar.specs.declared.event.Event.{Event}
use Rattle.rip_grammar.specs.declared.event.Event.TheVariants as E
use Rattle.rip_grammar.specs.Phrases.{Phrase}
use Rattle.rip_grammar.specs.Events.{emit}
use Rattle.rip_grammar.specs.Grammar.{is_element, IsScript}
use Rattle.rip_automaton.proofs.Complete.{script as told_of_script}
use Rattle.rip_parser.specs.declared.part.Part.{Part}
use Rattle.rip_parser.specs.Shows.{Row, spelling_of, IsText, IsSingle, IsKey, ShowsScript, text_of, text_count, texts_end, LiesAt, AreLaid}
use Rattle.rip_parser.specs.Building.{IsFormOf, numbers, place_over, absent, plain_form}
use Rattle.rip_parser.proofs.Made.{last_parts-append, other_parts-append}
use Rattle.rip_parser.proofs.Shapes.{list-flat, element-one}
use Rattle.rip_parser.proofs.Textless.{plain-none}
use Rattle.rip_parser.proofs.Steps.{told-of-body}
use Rattle.rip_parser.proofs.Fitting.{IsOf, placed, node_part, fits}

-- ---- a branch, but for where its text lies

-- a form whose text is this piece
abbrev put_piece : Piece → Form → Form
put_piece p (F.Text literal) = F.Text (record literal { value = p })
put_piece p (F.Entry (Y.Text literal)) = F.Entry (Y.Text (record literal { value = p }))
put_piece p form = form

abbrev nowhere : Piece
nowhere = record { start = 0; count = 0 }

-- the units of a text, if there is one
abbrev text_units : List ℕ → Option TextLiteral → List ℕ
text_units units None = []
text_units units (Some literal) = units_at units literal.value

-- what is seen of a form, whatever the place of its text
record Sight : Type 0 where
  form : Form
  text : List ℕ

abbrev sight : List ℕ → Form → Sight
sight units form = record { form = put_piece nowhere form; text = text_units units (text_of form) }

-- what is seen of a branch
record Seen : Type 0 where
  place : ℕ
  children : Row
  sight : Sight

abbrev seen : List ℕ → Branch → Seen
seen units b = record { place = b.node.place; children = b.children; sight = sight units b.node.form }

-- ---- forms of one head are seen alike

-- the same form, which has no text
sight-plain : (u v : List ℕ) (f g form : Form) → f ≡ form → g ≡ form → text_of form ≡ None → sight u f ≡ sight v g
sight-plain u v f g form p q none =
    let one : sight u form ≡ record { form = put_piece nowhere form; text = [] } = ap (λ t. record { form = put_piece nowhere form; text = text_units u t }) none in
    let other : sight v form ≡ record { form = put_piece nowhere form; text = [] } = ap (λ t. record { form = put_piece nowhere form; text = text_units v t }) none in
    ap (sight u) p ∙ one ∙ sym (ap (sight v) q ∙ other)

-- two answers to one question are one
same-bool : (a b : Bool) (P : Type 0) → IsTrue a ↔ P → IsTrue b ↔ P → a ≡ b
same-bool true true P p q = refl
same-bool true false P p q = sym (q.1 (p.0 refl))
same-bool false true P p q = p.1 (q.0 refl)
same-bool false false P p q = refl

-- one spelling, read twice
record SameText (u v : List ℕ) (l m : TextLiteral) : Type 0 where
  plain : l.is_plain ≡ m.is_plain
  units : units_at u l.value ≡ units_at v m.value

same-text : (u v spelling : List ℕ) (l m : TextLiteral) → IsText u spelling l → IsText v spelling m → SameText u v l m
same-text u v spelling l m p q =
    let same : units_at u l.value ≡ units_at v m.value = one_value spelling (units_at u l.value) (units_at v m.value) p.stands q.stands in
    record {
      plain = same-bool l.is_plain m.is_plain ((quote : ℕ) × (spelling ≡ quote ∷ (units_at v m.value ++ quote ∷ [])))
          (subst (λ us. IsTrue l.is_plain ↔ ((quote : ℕ) × (spelling ≡ quote ∷ (us ++ quote ∷ [])))) same p.plain) q.plain;
      units = same;
    }

text-alike : (u v : List ℕ) (l m : TextLiteral) → SameText u v l m → sight u (F.Text l) ≡ sight v (F.Text m)
text-alike u v l m same =
    ap (λ b. record { form = F.Text (record { value = nowhere; is_plain = b }); text = units_at u l.value }) same.plain
    ∙ ap (λ us. record { form = F.Text (record { value = nowhere; is_plain = m.is_plain }); text = us }) same.units

key-alike : (u v : List ℕ) (l m : TextLiteral) → SameText u v l m → sight u (F.Entry (Y.Text l)) ≡ sight v (F.Entry (Y.Text m))
key-alike u v l m same =
    ap (λ b. record { form = F.Entry (Y.Text (record { value = nowhere; is_plain = b })); text = units_at u l.value }) same.plain
    ∙ ap (λ us. record { form = F.Entry (Y.Text (record { value = nowhere; is_plain = m.is_plain })); text = us }) same.units

singles-alike : (script u v : List ℕ) (t : Lexeme) (w : Word) (f g : Form) → IsSingle script u t w f → IsSingle script v t w g → sight u f ≡ sight v g
singles-alike script u v t W.This f g p q = sight-plain u v f g _ p q refl
singles-alike script u v t W.Name f g p q = sight-plain u v f g _ p q refl
singles-alike script u v t W.Null f g p q = sight-plain u v f g _ p q refl
singles-alike script u v t W.True f g p q = sight-plain u v f g _ p q refl
singles-alike script u v t W.False f g p q = sight-plain u v f g _ p q refl
singles-alike script u v t W.Numeral f g p q = sight-plain u v f g _ p q refl
singles-alike script u v t W.Text f g p q =
    ap (sight u) p.1 ∙ text-alike u v p.0 q.0 (same-text u v (spelling_of script t) p.0 q.0 p.2 q.2) ∙ sym (ap (sight v) q.1)
singles-alike script u v t w f g p q = absurd p

keys-alike : (script u v : List ℕ) (t : Lexeme) (w : Word) (k j : Key) → IsKey script u t w k → IsKey script v t w j → sight u (F.Entry k) ≡ sight v (F.Entry j)
keys-alike script u v t W.Text k j p q =
    ap (λ x. sight u (F.Entry x)) p.1 ∙ key-alike u v p.0 q.0 (same-text u v (spelling_of script t) p.0 q.0 p.2 q.2) ∙ sym (ap (λ x. sight v (F.Entry x)) q.1)
keys-alike script u v t W.Numeral k j p q = sight-plain u v (F.Entry k) (F.Entry j) _ (ap F.Entry p) (ap F.Entry q) refl
keys-alike script u v t w k j p q = sight-plain u v (F.Entry k) (F.Entry j) _ (ap F.Entry p) (ap F.Entry q) refl

plain-alike : (u v : List ℕ) (head : Head) (f g : Form) → plain_form head ≡ Some f → plain_form head ≡ Some g → sight u f ≡ sight v g
plain-alike u v head f g p q = let same : g ≡ f = cc in sight-plain u v f g f refl same (plain-none head f p)

forms-alike : (script u v : List ℕ) (head : Head) (f g : Form) → IsFormOf script u head f → IsFormOf script v head g → sight u f ≡ sight v g
forms-alike script u v (H.Single t) f g p q = singles-alike script u v t t.word f g p q
forms-alike script u v (H.Entry k) f g p q = ap (sight u) p.2 ∙ keys-alike script u v k k.word p.0 q.0 p.1 q.1 ∙ sym (ap (sight v) q.2)
forms-alike script u v head f g p q = plain-alike u v head f g p q

-- ---- two trees of which the same is told

module _ (script : List ℕ) (tree other : Plant) where
  -- the branches from one number to another are seen alike
  abbrev Alike : ℕ → ℕ → Type 0
  Alike low high = (id : ℕ) → low ≤ id → id < high → option_map (seen tree.units) (branch_of tree.branches id) ≡ option_map (seen other.units) (branch_of other.branches id)

  -- what is told leaves the same parts of both, and as many branches, which are seen alike
  record Agree (parts others : List Part) (low : ℕ) : Type 0 where
    parts-are : parts ≡ others
    long : length tree.branches ≡ length other.branches
    alike : Alike low (length tree.branches)

  abbrev branch-of : ℕ → List Part → Form → Branch
  branch-of place below form = record { node = record { place = place; form = form }; children = numbers below }

  next : (low high : ℕ) (a b : Branch) → branch_of tree.branches low ≡ Some a → branch_of other.branches low ≡ Some b → seen tree.units a ≡ seen other.units b → Alike (low + 1) high → Alike low high
  next low high a b one two same above id from below = by (ltb low id) refl
    where
      by : (c : Bool) → ltb low id ≡ c → option_map (seen tree.units) (branch_of tree.branches id) ≡ option_map (seen other.units) (branch_of other.branches id)
      by true less = let past = ltb-true low id less in above id (omega arith) below
      by false not_less =
          let past = ltb-false low id not_less in
          let here : id ≡ low = omega arith in
          subst (λ k. option_map (seen tree.units) (branch_of tree.branches k) ≡ option_map (seen other.units) (branch_of other.branches k)) (sym here)
          (ap (option_map (seen tree.units)) one ∙ ap Some same ∙ sym (ap (option_map (seen other.units)) two))

  agree : (told : List Event) (parts others : List Part) (low : ℕ) → IsOf script tree told parts low → IsOf script other told others low → Agree parts others low
  agree [] parts others low p q = record {
    parts-are = p.0 ∙ sym q.0;
    long = sym p.1 ∙ q.1;
    alike = λ id from below. absurd (none id low (length tree.branches) p.1 from below);
  }
    where
      none : (id low high : ℕ) → low ≡ high → low ≤ id → id < high → ⊥
      none id low high same from below = omega arith
  agree (E.Absent ∷ told) parts others low p q =
      let a = agree told p.0 q.0 low p.1 q.1 in
      record { parts-are = p.2 ∙ ap (λ ps. ps ++ absent ∷ []) a.parts-are ∙ sym q.2; long = a.long; alike = a.alike }
  agree (E.Parenthesized place ∷ told) parts others low p q =
      let a = agree told (p.0 ++ p.1 ∷ []) (q.0 ++ q.1 ∷ []) low p.2 q.2 in
      let same = same_from_push p.0 q.0 p.1 q.1 a.parts-are in
      record {
        parts-are = p.3 ∙ ap (λ ps. ps ++ placed place p.1 ∷ []) same.0 ∙ ap (λ x. q.0 ++ placed place x ∷ []) same.1 ∙ sym q.3;
        long = a.long;
        alike = a.alike;
      }
  agree (E.Node place head count ∷ told) parts others low (before, below, form, so, many, is, found, parts-is) (front, under, made, too, much, are, there, others-is) =
      let a = agree told (before ++ below) (front ++ under) (low + 1) so too in
      let last : below ≡ under = sym (last_parts-append before below count many) ∙ ap (λ ps. drop (length ps - count) ps) a.parts-are ∙ last_parts-append front under count much in
      let rest : before ≡ front = sym (other_parts-append before below count many) ∙ ap (λ ps. take (length ps - count) ps) a.parts-are ∙ other_parts-append front under count much in
      let at : place_over place below ≡ place_over place under = ap (place_over place) last in
      let same : seen tree.units (branch-of (place_over place below) below form) ≡ seen other.units (branch-of (place_over place under) under made) =
      ap (λ k. record { place = k; children = numbers below; sight = sight tree.units form }) at
      ∙ ap (λ ps. record { place = place_over place under; children = numbers ps; sight = sight tree.units form }) last
      ∙ ap (λ x. record { place = place_over place under; children = numbers under; sight = x }) (forms-alike script tree.units other.units head form made is are) in
      record {
        parts-are = parts-is ∙ ap (λ ps. ps ++ node_part low (place_over place below) ∷ []) rest ∙ ap (λ k. front ++ node_part low k ∷ []) at ∙ sym others-is;
        long = a.long;
        alike = next low (length tree.branches) (branch-of (place_over place below) below form) (branch-of (place_over place under) under made) found there same a.alike;
      }

-- ---- branches that are seen alike, with texts one behind the other, are the same

-- the form again, from what is seen of it and the piece of its text
form-none : (f : Form) → text_of f ≡ None → f ≡ put_piece nowhere f
form-none (F.Text literal) none = cc
form-none (F.Entry (Y.Text literal)) none = cc
form-none (F.Entry key) none = refl
form-none f none = refl

form-some : (f : Form) (l : TextLiteral) → text_of f ≡ Some l → f ≡ put_piece l.value (put_piece nowhere f)
form-some (F.Text literal) l is = let same : literal ≡ l = cc in ap F.Text (ap (λ (x : TextLiteral). record { value = x.value; is_plain = literal.is_plain }) same)
form-some (F.Entry (Y.Text literal)) l is =
    let same : literal ≡ l = cc in ap (λ x. F.Entry (Y.Text x)) (ap (λ (x : TextLiteral). record { value = x.value; is_plain = literal.is_plain }) same)
form-some (F.Entry key) l is = cc
form-some f l is = cc

-- whether a form has a text is seen
text-seen : (f : Form) → option_map (λ (l : TextLiteral). l.is_plain) (text_of (put_piece nowhere f)) ≡ option_map (λ (l : TextLiteral). l.is_plain) (text_of f)
text-seen (F.Text literal) = refl
text-seen (F.Entry (Y.Text literal)) = refl
text-seen (F.Entry key) = refl
text-seen f = refl

-- the piece lies within the units
abbrev Lies : List ℕ → ℕ → Option TextLiteral → Type 0
Lies units place x = LiesAt place x × (place + text_count x ≤ length units)

-- how many units a text has that lies within them
text-long : (units : List ℕ) (place : ℕ) (x : Option TextLiteral) → Lies units place x → length (text_units units x) ≡ text_count x
text-long units place None lies = refl
text-long units place (Some l) lies =
    let start = l.value.start in
    let count = l.value.count in
    let at : start ≡ place = lies.0 in
    let within : place + count ≤ length units = lies.1 in
    let long : length (units_at units l.value) ≡ min ((start + count) - start) (length (drop start units)) = length-take ((start + count) - start) (drop start units) in
    omega (arith, long, length-drop start units)

-- what a text adds to the units before it
text-adds : (units : List ℕ) (place : ℕ) (x : Option TextLiteral) → LiesAt place x → take (place + text_count x) units ≡ take place units ++ text_units units x
text-adds units place None lies = ap (λ k. take k units) (more place) ∙ sym (none (take place units))
  where
    more : (n : ℕ) → n + 0 ≡ n
    more n = omega arith

    none : (us : List ℕ) → us ++ [] ≡ us
    none [] = refl
    none (x ∷ us) = ap (λ l. x ∷ l) (none us)
text-adds units place (Some l) lies =
    let count : (l.value.start + l.value.count) - l.value.start ≡ l.value.count = omega arith in
    take-add place l.value.count units
    ∙ ap (λ k. take place units ++ take l.value.count (drop k units)) (sym lies)
    ∙ ap (λ k. take place units ++ take k (drop l.value.start units)) (sym count)

-- forms that are seen alike, with texts at one place
forms-same : (u v : List ℕ) (f g : Form) (place : ℕ) (x y : Option TextLiteral) → text_of f ≡ x → text_of g ≡ y → sight u f ≡ sight v g → Lies u place x → Lies v place y → f ≡ g
forms-same u v f g place None None f-is g-is same lies also = form-none f f-is ∙ ap (λ (s : Sight). s.form) same ∙ sym (form-none g g-is)
forms-same u v f g place (Some l) (Some m) f-is g-is same lies also =
    let texts : text_units u (Some l) ≡ text_units v (Some m) = ap (text_units u) (sym f-is) ∙ ap (λ (s : Sight). s.text) same ∙ ap (text_units v) g-is in
    let start : l.value.start ≡ m.value.start = lies.0 ∙ sym also.0 in
    let count : l.value.count ≡ m.value.count = sym (text-long u place (Some l) lies) ∙ ap length texts ∙ text-long v place (Some m) also in
    form-some f l f-is
    ∙ ap (λ k. put_piece (record { start = k; count = l.value.count }) (put_piece nowhere f)) start
    ∙ ap (λ k. put_piece (record { start = m.value.start; count = k }) (put_piece nowhere f)) count
    ∙ ap (put_piece m.value) (ap (λ (s : Sight). s.form) same)
    ∙ sym (form-some g m g-is)
forms-same u v f g place None (Some m) f-is g-is same lies also =
    let plain = λ (o : Option TextLiteral). option_map (λ (l : TextLiteral). l.is_plain) o in
    let none : None ≡ Some m.is_plain = ap plain (sym f-is) ∙ sym (text-seen f) ∙ ap (λ (s : Sight). plain (text_of s.form)) same ∙ text-seen g ∙ ap plain g-is in
    cc
forms-same u v f g place (Some l) None f-is g-is same lies also =
    let plain = λ (o : Option TextLiteral). option_map (λ (l : TextLiteral). l.is_plain) o in
    let none : Some l.is_plain ≡ None = ap plain (sym f-is) ∙ sym (text-seen f) ∙ ap (λ (s : Sight). plain (text_of s.form)) same ∙ text-seen g ∙ ap plain g-is in
    cc

-- the branches, and the units up to the end of their texts
record Same (start : ℕ) (u v : List ℕ) (bs cs : List Branch) : Type 0 where
  branches : bs ≡ cs
  units : take (texts_end start bs) u ≡ take (texts_end start cs) v

same : (start : ℕ) (u v : List ℕ) (bs cs : List Branch) → map (seen u) bs ≡ map (seen v) cs → AreLaid start bs → AreLaid start cs → texts_end start bs ≤ length u → texts_end start cs ≤ length v
    → take start u ≡ take start v → Same start u v bs cs
same start u v [] [] seen-are laid also within too front = record { branches = refl; units = front }
same start u v [] (c ∷ cs) seen-are laid also within too front = cc
same start u v (b ∷ bs) [] seen-are laid also within too front = cc
same start u v (b ∷ bs) (c ∷ cs) seen-are laid also within too front =
    let behind : map (seen u) bs ≡ map (seen v) cs = cc in
    let here : seen u b ≡ seen v c = cc in
    let before : texts_end start bs ≤ length u = omega arith in
    let early : texts_end start cs ≤ length v = omega arith in
    let rest = same start u v bs cs behind laid.1 also.1 before early front in
    let place = texts_end start bs in
    let at : texts_end start cs ≡ place = sym (ap (texts_end start) rest.branches) in
    let lies : Lies u place (text_of b.node.form) = (laid.0, within) in
    let lies-too : Lies v place (text_of c.node.form) = subst (λ k. Lies v k (text_of c.node.form)) at (also.0, too) in
    let form : b.node.form ≡ c.node.form =
    forms-same u v b.node.form c.node.form place (text_of b.node.form) (text_of c.node.form) refl refl (ap (λ (s : Seen). s.sight) here) lies lies-too in
    let branch : b ≡ c =
    ap (λ k. record { node = record { place = k; form = b.node.form }; children = b.children }) (ap (λ (s : Seen). s.place) here)
    ∙ ap (λ f. record { node = record { place = c.node.place; form = f }; children = b.children }) form
    ∙ ap (λ cs. record { node = record { place = c.node.place; form = c.node.form }; children = cs }) (ap (λ (s : Seen). s.children) here) in
    record {
      branches = ap (λ x. x ∷ bs) branch ∙ ap (λ xs. c ∷ xs) rest.branches;
      units =
          text-adds u place (text_of b.node.form) lies.0
          ∙ ap (λ us. us ++ text_units u (text_of b.node.form)) (rest.units ∙ ap (λ k. take k v) at)
          ∙ ap (λ us. take place v ++ us) (ap (λ (s : Seen). s.sight.text) here)
          ∙ sym (text-adds v place (text_of c.node.form) lies-too.0)
          ∙ ap (λ k. take (k + text_count (text_of c.node.form)) v) (sym at);
    }

-- ---- a script has one tree

-- branches that are alike by number, all of them
map-seen : (u v : List ℕ) (bs cs : List Branch) → length bs ≡ length cs
    → ((id : ℕ) → id < length bs → option_map (seen u) (branch_of bs id) ≡ option_map (seen v) (branch_of cs id)) → map (seen u) bs ≡ map (seen v) cs
map-seen u v [] [] long alike = refl
map-seen u v [] (c ∷ cs) long alike = absurd (omega arith)
map-seen u v (b ∷ bs) [] long alike = absurd (omega arith)
map-seen u v (b ∷ bs) (c ∷ cs) long alike =
    let here : Some (seen u b) ≡ Some (seen v c) = alike 0 (omega arith) in
    let first : seen u b ≡ seen v c = cc in
    let rest = map-seen u v bs cs (omega arith) (λ id less. alike (suc id) (omega arith)) in
    ap (λ x. x ∷ map (seen u) bs) first ∙ ap (λ xs. seen v c ∷ xs) rest

-- the tree from number 1 on is what is told of the body, and the root holds the parts that are left
pub record Fitted (script : List ℕ) (tree : Plant) (told : List Event) : Type 0 where
  pub parts : List Part
  pub root : branch_of tree.branches 0 ≡ Some record { node = record { place = 0; form = F.Script }; children = numbers parts }
  pub so : IsOf script tree told parts 1

pub body-fits : (lexemes : List Lexeme) (script : List ℕ) (tree : Plant) (body : Phrase) → IsScript lexemes body → ShowsScript script tree body → Fitted script tree (emit body [])
body-fits lexemes script tree body is shows =
    let a = fits script tree body (is.end ∷ []) (list-flat is_element element-one body is.list) is.made [] [] shows.root.0 (length tree.branches) 1 (refl, refl) shows.root.3 in
    record {
      parts = a.0;
      root = shows.root.2 ∙ ap (λ cs. Some record { node = record { place = 0; form = F.Script }; children = cs }) (sym a.1);
      so = a.4;
    }

pub one-tree : (lexemes : List Lexeme) (script : List ℕ) (tree other : Plant) (body second : Phrase) → IsScript lexemes body → IsScript lexemes second → ShowsScript script tree body → ShowsScript script other second → tree ≡ other
one-tree lexemes script tree other body second is also shows too =
    let told : emit body [] ≡ emit second [] = told-of-body lexemes [] (emit body []) second (told_of_script lexemes body is) also in
    let a = body-fits lexemes script tree body is shows in
    let b : Fitted script other (emit body []) = subst (λ es. Fitted script other es) (sym told) (body-fits lexemes script other second also too) in
    let g = agree script tree other (emit body []) a.parts b.parts 1 a.so b.so in
    let rooted : List Part → Branch = λ ps. record { node = record { place = 0; form = F.Script }; children = numbers ps } in
    let alike : Alike script tree other 0 (length tree.branches) =
    next script tree other 0 (length tree.branches) (rooted a.parts) (rooted b.parts) a.root b.root
    (ap (λ ps. record { place = 0; children = numbers ps; sight = record { form = F.Script; text = [] } }) g.parts-are) g.alike in
    let seen-are = map-seen tree.units other.units tree.branches other.branches g.long (λ id less. alike id (omega arith) less) in
    let end : texts_end (length script) tree.branches ≡ length tree.units = sym shows.full in
    let stop : texts_end (length script) other.branches ≡ length other.units = sym too.full in
    let s = same (length script) tree.units other.units tree.branches other.branches seen-are shows.laid too.laid (omega arith) (omega arith) (shows.spelled ∙ sym too.spelled) in
    let units : tree.units ≡ other.units =
    sym (take-length tree.units) ∙ ap (λ k. take k tree.units) (sym end) ∙ s.units ∙ ap (λ k. take k other.units) stop ∙ take-length other.units in
    ap (λ bs. record { branches = bs; units = tree.units }) s.branches ∙ ap (λ us. record { branches = other.branches; units = us }) units
