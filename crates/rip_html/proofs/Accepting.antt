-- Tokens of parts that make a page are refused nowhere.
use Rattle.std.proofs.Common.{◌≡◌, ℕ, suc, ◌+◌, true, false, not, cond, ◌&&◌, nat_le, List, [], ◌∷◌, ◌++◌, length, Some, None, refl, sym, ap, ◌∙◌, subst, arith, eq-eqb, bytes_eq}
use Rattle.std.proofs.lemmas.Bool.{lt-leb}
use Rattle.std.specs.Prelude.{codes}
use Rattle.std.specs.List.{AllByRecursion}
use Rattle.rip_base.specs.declared.page.PageKind.{PageKind}
use Rattle.rip_base.specs.declared.page.PageKind.TheVariants as K
use Rattle.rip_markup.specs.Fault.{shifted}
use Rattle.rip_markup.specs.declared.tag.StartTag.{StartTag}
use Rattle.rip_markup.specs.declared.token.TextRun.{TextRun}
use Rattle.rip_markup.specs.declared.token.Token.{Token}
use Rattle.rip_markup.specs.declared.token.Token.TheVariants as T
use Rattle.rip_markup.specs.declared.token.Placed.{Placed}
use Rattle.rip_html.specs.declared.part.Part.{Part}
use Rattle.rip_html.specs.declared.part.Part.TheVariants as P
use Rattle.rip_html.specs.Tags.{is_script, is_void, is_outside}
use Rattle.rip_html.specs.Forests.{Forest, Nothing, Words, Remark, Void, Nested, end_of, forest_tokens}
use Rattle.rip_html.specs.Grammar.{IsSpace, IsContent, IsHead, IsScripts, IsDropped, IsDoctype, Parts, end_tokens, body_tokens, head_tokens, page_tokens, AreParts}
use Rattle.rip_html.specs.Standings.{Standing, alone, first_standing, begun, behind_start, after}
use Rattle.rip_html.specs.Refusals.{text_kind, content_kind, body_tag_kind, head_tag_kind, end_kind, part_kind, kind_at, refusal_at, refusal_from}
use Rattle.rip_html.specs.Pages.{bare}
use Rattle.rip_html.proofs.Choice.{both_none, or_none, none_or, and_false, same_name, script_opens}

-- none of these tokens is refused, where the first of them stands here
abbrev pub Accepted : Standing → List Token → Type 0
Accepted s [] = Unit {0}
Accepted s (t ∷ ts) = (refusal_at s t ≡ None) × Accepted (after s t) ts

pub accepted_none : (s : Standing) (tokens : List Placed) → Accepted s (bare tokens) → refusal_from s tokens ≡ None
accepted_none s [] h = refl
accepted_none s (t ∷ others) h = or_none (shifted t.place) (refusal_at s t.token) (refusal_from (after s t.token) others) h.0 (accepted_none (after s t.token) others h.1)

pub none_accepted : (s : Standing) (tokens : List Placed) → refusal_from s tokens ≡ None → Accepted s (bare tokens)
none_accepted s [] h = tt
none_accepted s (t ∷ others) h =
    let both = none_or (shifted t.place) (refusal_at s t.token) (refusal_from (after s t.token) others) h in
    (both.0, none_accepted (after s t.token) others both.1)

space_fits : (kind : PageKind) (run : TextRun) → IsSpace run → text_kind kind run ≡ None
space_fits kind run h = ap (λ b. cond b None (Some kind)) (eq-eqb run.space run.count h.1)

named_fits : (kind : PageKind) (due name : List ℕ) → bytes_eq name due ≡ true → end_kind kind due name ≡ None
named_fits kind due name h = ap (λ b. cond b None (Some kind)) h

-- parts of a page where space and comments are dropped, and elements have no place
abbrev pub Drops : Part → Type 0
Drops P.InHead = ⊥
Drops P.InBody = ⊥
Drops P.InScripts = ⊥
Drops _ = Unit {0}

drops_text : (part : Part) (run : TextRun) → Drops part → IsSpace run → part_kind part (T.Text run) ≡ None
drops_text P.Beginning run d h = space_fits K.TextOutside run h
drops_text P.BehindDoctype run d h = space_fits K.TextOutside run h
drops_text P.InHtml run d h = space_fits K.TextOutside run h
drops_text P.InHead run d h = absurd d
drops_text P.BehindHead run d h = space_fits K.TextOutside run h
drops_text P.InBody run d h = absurd d
drops_text P.InScripts run d h = absurd d
drops_text P.BehindBody run d h = space_fits K.TextOutside run h
drops_text P.BehindHtml run d h = space_fits K.TextOutside run h

drops_comment : (part : Part) (units : List ℕ) → Drops part → part_kind part (T.Comment units) ≡ None
drops_comment P.Beginning units d = refl
drops_comment P.BehindDoctype units d = refl
drops_comment P.InHtml units d = refl
drops_comment P.InHead units d = absurd d
drops_comment P.BehindHead units d = refl
drops_comment P.InBody units d = absurd d
drops_comment P.InScripts units d = absurd d
drops_comment P.BehindBody units d = refl
drops_comment P.BehindHtml units d = refl

drops_one : (part : Part) (t : Token) → Drops part → IsDropped t → (refusal_at (alone part) t ≡ None) × (after (alone part) t ≡ alone part)
drops_one part (T.Text run) d h = (both_none _ _ _ (drops_text part run d h) h.0, refl)
drops_one part (T.Comment units) d h = (both_none _ _ _ (drops_comment part units d) refl, refl)
drops_one part (T.StartTag tag) d h = absurd h
drops_one part (T.EndTag end) d h = absurd h
drops_one part T.OpenComment d h = absurd h
drops_one part T.Doctype d h = absurd h
drops_one part T.Stray d h = absurd h
drops_one part T.End d h = absurd h

pub accepts_dropped : (part : Part) (d rest : List Token) → Drops part → AllByRecursion IsDropped d → Accepted (alone part) rest → Accepted (alone part) (d ++ rest)
accepts_dropped part [] rest p h r = r
accepts_dropped part (t ∷ d) rest p h r =
    let one = drops_one part t p h.0 in
    (one.0, subst (λ (s : Standing). Accepted s (d ++ rest)) (sym one.1) (accepts_dropped part d rest p h.1 r))

-- content stands here, with so many elements open: within an element, or in the body before its scripts
abbrev pub In : ℕ → Part → List (List ℕ) → Type 0
In depth part [] = (part ≡ P.InBody) × (depth ≡ 2)
In depth part (name ∷ names) = depth ≡ 3 + length names

abbrev pub here : Part → List (List ℕ) → Standing
here part names = record { part = part; open_names = names }

in_text : (depth : ℕ) (part : Part) (names : List (List ℕ)) (run : TextRun) → In depth part names → kind_at part names (T.Text run) ≡ None
in_text depth part [] run h = ap (λ (p : Part). part_kind p (T.Text run)) h.0
in_text depth part (name ∷ names) run h = refl

in_comment : (depth : ℕ) (part : Part) (names : List (List ℕ)) (units : List ℕ) → In depth part names → kind_at part names (T.Comment units) ≡ None
in_comment depth part [] units h = ap (λ (p : Part). part_kind p (T.Comment units)) h.0
in_comment depth part (name ∷ names) units h = refl

content_fits : (depth : ℕ) (name : List ℕ) → is_script name ≡ false → is_outside name ≡ false → (not (is_void name) && nat_le 200 depth) ≡ false → content_kind depth name ≡ None
content_fits depth name a b c = λ i. cond (a i) (Some K.ScriptNotLast) (cond (b i) (Some K.NotInSubset) (cond (c i) (Some K.TooNested) None))

in_tag : (depth : ℕ) (part : Part) (names : List (List ℕ)) (tag : StartTag) → In depth part names → is_script tag.name ≡ false → content_kind depth tag.name ≡ None → kind_at part names (T.StartTag tag) ≡ None
in_tag depth part [] tag h script fits =
    ap (λ (p : Part). part_kind p (T.StartTag tag)) h.0 ∙ ap (λ b. cond b None (content_kind 2 tag.name)) script ∙ ap (λ n. content_kind n tag.name) (sym h.1) ∙ fits
in_tag depth part (name ∷ names) tag h script fits = ap (λ n. content_kind n tag.name) (sym h) ∙ fits

in_void : (depth : ℕ) (part : Part) (names : List (List ℕ)) (name : List ℕ) → In depth part names → is_script name ≡ false → is_void name ≡ true → behind_start part names name ≡ here part names
in_void depth part [] name h script void =
    ap (λ (p : Part). begun p name) h.0
    ∙ (λ i. cond (void i) (here (cond (script i) P.InScripts P.InBody) []) (here (cond (script i) P.InScripts P.InBody) (name ∷ [])))
    ∙ ap (λ (p : Part). here p []) (sym h.0)
in_void depth part (n ∷ names) name h script void = λ i. cond (void i) (here part (n ∷ names)) (here part (name ∷ n ∷ names))

in_nested : (depth : ℕ) (part : Part) (names : List (List ℕ)) (name : List ℕ) → In depth part names → is_script name ≡ false → is_void name ≡ false → behind_start part names name ≡ here part (name ∷ names)
in_nested depth part [] name h script void =
    ap (λ (p : Part). begun p name) h.0
    ∙ (λ i. cond (void i) (here (cond (script i) P.InScripts P.InBody) []) (here (cond (script i) P.InScripts P.InBody) (name ∷ [])))
    ∙ ap (λ (p : Part). here p (name ∷ [])) (sym h.0)
in_nested depth part (n ∷ names) name h script void = λ i. cond (void i) (here part (n ∷ names)) (here part (name ∷ n ∷ names))

deeper : (depth : ℕ) (part : Part) (names : List (List ℕ)) (name : List ℕ) → In depth part names → In (suc depth) part (name ∷ names)
deeper depth part [] name h = ap suc h.1
deeper depth part (n ∷ names) name h = omega arith

closes : (part : Part) (names : List (List ℕ)) (name : List ℕ) → refusal_at (here part (name ∷ names)) (end_of name) ≡ None
closes part names name = both_none _ _ _ (named_fits K.Misnested name name (same_name name)) refl

pub accepts_content : (depth : ℕ) (part : Part) (names : List (List ℕ)) (f : Forest) (rest : List Token) → In depth part names → IsContent depth f → Accepted (here part names) rest → Accepted (here part names) (forest_tokens f rest)
accepts_content depth part names Nothing rest i h r = r
accepts_content depth part names (Words run others) rest i h r =
    (both_none _ _ _ (in_text depth part names run i) h.0, accepts_content depth part names others rest i h.1 r)
accepts_content depth part names (Remark units others) rest i h r =
    (both_none _ _ _ (in_comment depth part names units i) refl, accepts_content depth part names others rest i h r)
accepts_content depth part names (Void tag others) rest i h r =
    let fits = content_fits depth tag.name h.1 h.2 (ap (λ b. not b && nat_le 200 depth) h.3) in (
      both_none _ _ _ (in_tag depth part names tag i h.1 fits) h.0,
      subst (λ (s : Standing). Accepted s (forest_tokens others rest)) (sym (in_void depth part names tag.name i h.1 h.3)) (accepts_content depth part names others rest i h.4 r),
    )
accepts_content depth part names (Nested tag content others) rest i h r =
    let fits = content_fits depth tag.name h.1 h.2 (and_false (not (is_void tag.name)) (nat_le 200 depth) (lt-leb 200 depth h.4)) in
    let behind : Accepted (here part names) (forest_tokens others rest) = accepts_content depth part names others rest i h.6 r in
    let within = accepts_content (suc depth) part (tag.name ∷ names) content (end_of tag.name ∷ forest_tokens others rest) (deeper depth part names tag.name i) h.5 (closes part names tag.name, behind) in (
      both_none _ _ _ (in_tag depth part names tag i h.1 fits) h.0,
      subst (λ (s : Standing). Accepted s (forest_tokens content (end_of tag.name ∷ forest_tokens others rest))) (sym (in_nested depth part names tag.name i h.1 h.3)) within,
    )

-- an element right in the head, or a script right in the body, and its content
accepts_element : (part : Part) (tag : StartTag) (content : Forest) (more : List Token) → IsContent 3 content → Accepted (alone part) more → Accepted (here part (tag.name ∷ [])) (forest_tokens content (end_of tag.name ∷ more))
accepts_element part tag content more h r = accepts_content 3 part (tag.name ∷ []) content (end_of tag.name ∷ more) refl h (closes part [] tag.name, r)

pub accepts_head : (f : Forest) (rest : List Token) → IsHead f → Accepted (alone P.InHead) rest → Accepted (alone P.InHead) (forest_tokens f rest)
accepts_head Nothing rest h r = r
accepts_head (Words run others) rest h r = (both_none _ _ _ (space_fits K.TextOutside run h.0) h.0.0, accepts_head others rest h.1 r)
accepts_head (Remark units others) rest h r = (refl, accepts_head others rest h r)
accepts_head (Void tag others) rest h r =
    let fits : head_tag_kind tag.name ≡ None = ap (λ b. cond b None (cond (is_script tag.name) (Some K.ScriptNotLast) (Some K.NotInSubset))) h.1 in
    let goes : begun P.InHead tag.name ≡ alone P.InHead = ap (λ b. cond b (alone P.InHead) (here P.InHead (tag.name ∷ []))) h.2 in (
      both_none _ _ _ fits h.0,
      subst (λ (s : Standing). Accepted s (forest_tokens others rest)) (sym goes) (accepts_head others rest h.3 r),
    )
accepts_head (Nested tag content others) rest h r =
    let fits : head_tag_kind tag.name ≡ None = ap (λ b. cond b None (cond (is_script tag.name) (Some K.ScriptNotLast) (Some K.NotInSubset))) h.1 in
    let goes : begun P.InHead tag.name ≡ here P.InHead (tag.name ∷ []) = ap (λ b. cond b (alone P.InHead) (here P.InHead (tag.name ∷ []))) h.2 in (
      both_none _ _ _ fits h.0,
      subst (λ (s : Standing). Accepted s (forest_tokens content (end_of tag.name ∷ forest_tokens others rest))) (sym goes)
          (accepts_element P.InHead tag content (forest_tokens others rest) h.3 (accepts_head others rest h.4 r)),
    )

pub accepts_scripts : (f : Forest) (rest : List Token) → IsScripts f → Accepted (alone P.InScripts) rest → Accepted (alone P.InScripts) (forest_tokens f rest)
accepts_scripts Nothing rest h r = r
accepts_scripts (Words run others) rest h r = (both_none _ _ _ (space_fits K.ScriptNotLast run h.0) h.0.0, accepts_scripts others rest h.1 r)
accepts_scripts (Remark units others) rest h r = absurd h
accepts_scripts (Void tag others) rest h r = absurd h
accepts_scripts (Nested tag content others) rest h r =
    let goes : begun P.InScripts tag.name ≡ here P.InScripts (tag.name ∷ []) = ap (λ b. cond b (alone P.InScripts) (here P.InScripts (tag.name ∷ []))) (script_opens tag.name h.1) in (
      both_none _ _ _ (named_fits K.ScriptNotLast (codes "script") tag.name h.1) h.0,
      subst (λ (s : Standing). Accepted s (forest_tokens content (end_of tag.name ∷ forest_tokens others rest))) (sym goes)
          (accepts_element P.InScripts tag content (forest_tokens others rest) h.2 (accepts_scripts others rest h.3 r)),
    )

-- the same before the first script
pub accepts_first_scripts : (f : Forest) (rest : List Token) → IsScripts f → Accepted (alone P.InScripts) rest → Accepted (alone P.InBody) rest → Accepted (alone P.InBody) (forest_tokens f rest)
accepts_first_scripts Nothing rest h r q = q
accepts_first_scripts (Words run others) rest h r q = (h.0.0, accepts_first_scripts others rest h.1 r q)
accepts_first_scripts (Remark units others) rest h r q = absurd h
accepts_first_scripts (Void tag others) rest h r q = absurd h
accepts_first_scripts (Nested tag content others) rest h r q =
    let fits : body_tag_kind tag.name ≡ None = ap (λ b. cond b None (content_kind 2 tag.name)) h.1 in
    let void = script_opens tag.name h.1 in
    let script = h.1 in
    let goes : begun P.InBody tag.name ≡ here P.InScripts (tag.name ∷ []) = λ i. cond (void i) (here (cond (script i) P.InScripts P.InBody) []) (here (cond (script i) P.InScripts P.InBody) (tag.name ∷ [])) in (
      both_none _ _ _ fits h.0,
      subst (λ (s : Standing). Accepted s (forest_tokens content (end_of tag.name ∷ forest_tokens others rest))) (sym goes)
          (accepts_element P.InScripts tag content (forest_tokens others rest) h.2 (accepts_scripts others rest h.3 r)),
    )

accepts_end : (p : Parts) → AreParts p → Accepted (alone P.BehindBody) (p.behind_body ++ (end_of (codes "html") ∷ (p.behind_html ++ (T.End ∷ []))))
accepts_end p h =
    accepts_dropped P.BehindBody p.behind_body _ tt h.behind_body
    (refl, accepts_dropped P.BehindHtml p.behind_html _ tt h.behind_html (refl, tt))

accepts_body : (p : Parts) → AreParts p → Accepted (alone P.BehindHead) (body_tokens p)
accepts_body p h =
    let from_body : Accepted (alone P.InBody) (end_tokens p) = (refl, accepts_end p h) in
    let from_scripts : Accepted (alone P.InScripts) (end_tokens p) = (refl, accepts_end p h) in (
      both_none _ _ _ (named_fits K.MissingPart (codes "body") p.body_tag.name h.body_tag.1) h.body_tag.0,
      accepts_content 2 P.InBody [] p.content (forest_tokens p.scripts (end_tokens p)) (refl, refl) h.content
          (accepts_first_scripts p.scripts (end_tokens p) h.scripts from_scripts from_body),
    )

accepts_head_part : (p : Parts) → AreParts p → Accepted (alone P.InHtml) (head_tokens p)
accepts_head_part p h = (
  both_none _ _ _ (named_fits K.MissingPart (codes "head") p.head_tag.name h.head_tag.1) h.head_tag.0,
  accepts_head p.head _ h.head (refl, accepts_dropped P.BehindHead p.before_body _ tt h.before_body (accepts_body p h)),
)

accepts_html : (p : Parts) → AreParts p → Accepted (alone P.InHtml) (p.before_head ++ head_tokens p)
accepts_html p h = accepts_dropped P.InHtml p.before_head _ tt h.before_head (accepts_head_part p h)

accepts_doctype : (d rest : List Token) → IsDoctype d → Accepted (alone P.Beginning) rest → Accepted (alone P.BehindDoctype) rest → Accepted (alone P.Beginning) (d ++ rest)
accepts_doctype [] rest h r q = r
accepts_doctype (T.Doctype ∷ behind) rest h r q = (refl, accepts_dropped P.BehindDoctype behind rest tt h q)
accepts_doctype (T.Text run ∷ behind) rest h r q = absurd h
accepts_doctype (T.Comment units ∷ behind) rest h r q = absurd h
accepts_doctype (T.StartTag tag ∷ behind) rest h r q = absurd h
accepts_doctype (T.EndTag end ∷ behind) rest h r q = absurd h
accepts_doctype (T.OpenComment ∷ behind) rest h r q = absurd h
accepts_doctype (T.Stray ∷ behind) rest h r q = absurd h
accepts_doctype (T.End ∷ behind) rest h r q = absurd h

-- a page is refused nowhere
pub accepts_page : (p : Parts) → AreParts p → Accepted first_standing (page_tokens p)
accepts_page p h =
    let due = both_none _ _ _ (named_fits K.MissingPart (codes "html") p.html.name h.html.1) h.html.0 in
    let rest = p.before_head ++ head_tokens p in
    accepts_dropped P.Beginning p.beginning _ tt h.beginning
    (accepts_doctype p.doctype (T.StartTag p.html ∷ rest) h.doctype (due, accepts_html p h) (due, accepts_html p h))
