-- Tokens of which none is refused are those of parts that make a page.
use Rattle.std.proofs.Common.{◌≡◌, ℕ, suc, ◌+◌, ◌<◌, Bool, true, false, not, cond, ◌&&◌, ◌==◌, nat_le, List, [], ◌∷◌, ◌++◌, length, Option, Some, None, is_some, MatchBool, refl, sym, ap, ◌∙◌, subst, ⊎_elim, ◌⊎◌, inl, inr, arith, eqb-true, bytes_eq}
use Rattle.std.proofs.lemmas.Bool.{leb-false, true≢false, false≢true}
use Rattle.std.specs.Prelude.{codes}
use Rattle.std.specs.List.{AllByRecursion}
use Rattle.rip_base.specs.declared.page.PageKind.{PageKind}
use Rattle.rip_base.specs.declared.page.PageKind.TheVariants as K
use Rattle.rip_markup.specs.Words.{is_among}
use Rattle.rip_markup.specs.Fault.{fault}
use Rattle.rip_markup.specs.Tokens.{is_last}
use Rattle.rip_markup.specs.declared.fault.Fault.{Fault}
use Rattle.rip_markup.specs.declared.tag.StartTag.{StartTag}
use Rattle.rip_markup.specs.declared.token.EndTag.{EndTag}
use Rattle.rip_markup.specs.declared.token.TextRun.{TextRun}
use Rattle.rip_markup.specs.declared.token.Token.{Token}
use Rattle.rip_markup.specs.declared.token.Token.TheVariants as T
use Rattle.rip_html.specs.declared.part.Part.{Part}
use Rattle.rip_html.specs.declared.part.Part.TheVariants as P
use Rattle.rip_html.specs.Tags.{head_names, is_script, is_void, is_outside}
use Rattle.rip_html.specs.Forests.{Forest, Nothing, Words, Remark, Void, Nested, end_of, forest_tokens}
use Rattle.rip_html.specs.Grammar.{IsSpace, IsTag, IsContent, IsHead, IsScripts, IsDropped, IsDoctype, Parts, end_tokens, body_tokens, head_tokens, page_tokens, AreParts}
use Rattle.rip_html.specs.Standings.{Standing, alone, opened, begun, after}
use Rattle.rip_html.specs.Refusals.{text_kind, content_kind, body_tag_kind, head_tag_kind, end_kind, kind_at, own_fault, refusal_at}
use Rattle.rip_html.proofs.Choice.{either_way, took_none, took_rest, none_both, name_is, script_opens}
use Rattle.rip_html.proofs.Accepting.{Accepted, here}

-- What tokens are that begin at a place in a page and go to its end: first those behind `</html>`.
pub record Ended (ts : List Token) : Type 0 where
  pub d : List Token
  pub is : ts ≡ d ++ (T.End ∷ [])
  pub all : AllByRecursion IsDropped d

pub record Closing (ts : List Token) : Type 0 where
  pub d : List Token
  pub more : List Token
  pub is : ts ≡ d ++ (end_of (codes "html") ∷ more)
  pub all : AllByRecursion IsDropped d
  pub then : Ended more

pub record Scripts (ts : List Token) : Type 0 where
  pub f : Forest
  pub more : List Token
  pub is : ts ≡ forest_tokens f (end_of (codes "body") ∷ more)
  pub all : IsScripts f
  pub then : Closing more

pub record Body (ts : List Token) : Type 0 where
  pub f : Forest
  pub more : List Token
  pub is : ts ≡ forest_tokens f more
  pub all : IsContent 2 f
  pub then : Scripts more

pub record BeforeBody (ts : List Token) : Type 0 where
  pub d : List Token
  pub tag : StartTag
  pub more : List Token
  pub is : ts ≡ d ++ (T.StartTag tag ∷ more)
  pub all : AllByRecursion IsDropped d
  pub named : IsTag (codes "body") tag
  pub then : Body more

pub record Head (ts : List Token) : Type 0 where
  pub f : Forest
  pub more : List Token
  pub is : ts ≡ forest_tokens f (end_of (codes "head") ∷ more)
  pub all : IsHead f
  pub then : BeforeBody more

pub record BeforeHead (ts : List Token) : Type 0 where
  pub d : List Token
  pub tag : StartTag
  pub more : List Token
  pub is : ts ≡ d ++ (T.StartTag tag ∷ more)
  pub all : AllByRecursion IsDropped d
  pub named : IsTag (codes "head") tag
  pub then : Head more

pub record BeforeHtml (ts : List Token) : Type 0 where
  pub d : List Token
  pub tag : StartTag
  pub more : List Token
  pub is : ts ≡ d ++ (T.StartTag tag ∷ more)
  pub all : AllByRecursion IsDropped d
  pub named : IsTag (codes "html") tag
  pub then : BeforeHead more

pub record Whole (ts : List Token) : Type 0 where
  pub d : List Token
  pub doctype : List Token
  pub tag : StartTag
  pub more : List Token
  pub is : ts ≡ d ++ (doctype ++ (T.StartTag tag ∷ more))
  pub all : AllByRecursion IsDropped d
  pub doctype-is : IsDoctype doctype
  pub named : IsTag (codes "html") tag
  pub then : BeforeHead more

-- the same by part
abbrev pub InPart : Part → List Token → Type 0
InPart P.Beginning ts = Whole ts
InPart P.BehindDoctype ts = BeforeHtml ts
InPart P.InHtml ts = BeforeHead ts
InPart P.InHead ts = Head ts
InPart P.BehindHead ts = BeforeBody ts
InPart P.InBody ts = Body ts
InPart P.InScripts ts = Scripts ts
InPart P.BehindBody ts = Closing ts
InPart P.BehindHtml ts = Ended ts

-- within elements of these names: their content up to the end of the innermost, and then the same within the others
abbrev pub Within : Part → List (List ℕ) → List Token → Type 0
Within part [] ts = InPart part ts
Within part (name ∷ names) ts = (f : Forest) × (more : List Token) × (ts ≡ forest_tokens f (end_of name ∷ more)) × IsContent (3 + length names) f × Within part names more

abbrev pub Stands : Standing → List Token → Type 0
Stands s ts = Within s.part s.open_names ts

-- what a token that isn't refused shows
space_is : (kind : PageKind) (run : TextRun) → text_kind kind run ≡ None → run.space ≡ run.count
space_is kind run e = eqb-true run.space run.count (took_none (run.space == run.count) kind e)

named_is : (kind : PageKind) (due name : List ℕ) → end_kind kind due name ≡ None → bytes_eq name due ≡ true
named_is kind due name e = took_none (bytes_eq name due) kind e

whole_by : (b : Bool) (x : Fault) → cond b None (Some x) ≡ None → b ≡ true
whole_by b x e = took_none b x e

-- a whole end tag of a name is the end of that name
end_is : (end : EndTag) (due : List ℕ) → bytes_eq end.name due ≡ true → end.whole ≡ true → T.EndTag end ≡ end_of due
end_is end due name whole = let names = name_is end.name due name in λ i. T.EndTag (record { name = names i; whole = whole i })

pub record Fits (depth : ℕ) (name : List ℕ) : Type 0 where
  pub script : is_script name ≡ false
  pub outside : is_outside name ≡ false
  pub small : (not (is_void name) && nat_le 200 depth) ≡ false

fits_is : (depth : ℕ) (name : List ℕ) → content_kind depth name ≡ None → Fits depth name
fits_is depth name e =
    let one = took_rest (is_script name) K.ScriptNotLast _ e in
    let two = took_rest (is_outside name) K.NotInSubset _ one.1 in
    let three = took_rest (not (is_void name) && nat_le 200 depth) K.TooNested None two.1 in
    record { script = one.0; outside = two.0; small = three.0 }

shallow : (void : Bool) (depth : ℕ) → void ≡ false → (not void && nat_le 200 depth) ≡ false → depth < 200
shallow true depth v e = absurd (true≢false v)
shallow false depth v e = leb-false 200 depth e

-- A start tag in content that isn't refused, and what follows it: more content up to a closing.
pub record Content (depth : ℕ) (ts more : List Token) : Type 0 where
  pub f : Forest
  pub is : ts ≡ forest_tokens f more
  pub all : IsContent depth f

void_more : (depth : ℕ) (tag : StartTag) (rest more : List Token) → tag.fault ≡ None → Fits depth tag.name → is_void tag.name ≡ true → Content depth rest more → Content depth (T.StartTag tag ∷ rest) more
void_more depth tag rest more ok fits void c = record {
  f = Void tag c.f;
  is = ap (λ (l : List Token). T.StartTag tag ∷ l) c.is;
  all = (ok, fits.script, fits.outside, void, c.all);
}

nested_more : (depth : ℕ) (tag : StartTag) (f : Forest) (rest behind more : List Token) → tag.fault ≡ None → Fits depth tag.name → is_void tag.name ≡ false → rest ≡ forest_tokens f (end_of tag.name ∷ behind) → IsContent (suc depth) f → Content depth behind more → Content depth (T.StartTag tag ∷ rest) more
nested_more depth tag f rest behind more ok fits void rest-is inner c = record {
  f = Nested tag f c.f;
  is = ap (λ (l : List Token). T.StartTag tag ∷ l) (rest-is ∙ ap (λ (l : List Token). forest_tokens f (end_of tag.name ∷ l)) c.is);
  all = (ok, fits.script, fits.outside, void, shallow (is_void tag.name) depth void fits.small, inner, c.all);
}

-- a token within an element that isn't refused
element_text : (part : Part) (name : List ℕ) (names : List (List ℕ)) (run : TextRun) (rest : List Token) → run.fault ≡ None → Within part (name ∷ names) rest → Within part (name ∷ names) (T.Text run ∷ rest)
element_text part name names run rest ok w = (Words run w.0, w.1, ap (λ (l : List Token). T.Text run ∷ l) w.2, (ok, w.3), w.4)

element_comment : (part : Part) (name : List ℕ) (names : List (List ℕ)) (units : List ℕ) (rest : List Token) → Within part (name ∷ names) rest → Within part (name ∷ names) (T.Comment units ∷ rest)
element_comment part name names units rest w = (Remark units w.0, w.1, ap (λ (l : List Token). T.Comment units ∷ l) w.2, w.3, w.4)

element_start : (part : Part) (name : List ℕ) (names : List (List ℕ)) (tag : StartTag) (rest : List Token) → tag.fault ≡ None → Fits (3 + length names) tag.name → Stands (opened part (name ∷ names) tag.name) rest → Within part (name ∷ names) (T.StartTag tag ∷ rest)
element_start part name names tag rest ok fits s =
    ⊎_elim
    (λ (void : is_void tag.name ≡ true).
    let w : Within part (name ∷ names) rest = subst (λ b. Stands (cond b (here part (name ∷ names)) (here part (tag.name ∷ name ∷ names))) rest) void s in
    let c = void_more (3 + length names) tag rest (end_of name ∷ w.1) ok fits void (record { f = w.0; is = w.2; all = w.3 }) in
    (c.f, w.1, c.is, c.all, w.4))
    (λ (void : is_void tag.name ≡ false).
    let w : Within part (tag.name ∷ name ∷ names) rest = subst (λ b. Stands (cond b (here part (name ∷ names)) (here part (tag.name ∷ name ∷ names))) rest) void s in
    let behind = w.4 in
    let deep : IsContent (suc (3 + length names)) w.0 = subst (λ n. IsContent n w.0) (omega arith) w.3 in
    let c = nested_more (3 + length names) tag w.0 rest w.1 (end_of name ∷ behind.1) ok fits void w.2 deep (record { f = behind.0; is = behind.2; all = behind.3 }) in
    (c.f, behind.1, c.is, c.all, behind.4))
    (either_way (is_void tag.name))

element_end : (part : Part) (name : List ℕ) (names : List (List ℕ)) (end : EndTag) (rest : List Token) → T.EndTag end ≡ end_of name → Within part names rest → Within part (name ∷ names) (T.EndTag end ∷ rest)
element_end part name names end rest is w = (Nothing, rest, ap (λ (t : Token). t ∷ rest) is, tt, w)

in_element : (part : Part) (name : List ℕ) (names : List (List ℕ)) (t : Token) (rest : List Token) → refusal_at (here part (name ∷ names)) t ≡ None → Stands (after (here part (name ∷ names)) t) rest → Within part (name ∷ names) (t ∷ rest)
in_element part name names (T.Text run) rest e s = element_text part name names run rest e s
in_element part name names (T.Comment units) rest e s = element_comment part name names units rest s
in_element part name names (T.StartTag tag) rest e s =
    let both = none_both (fault 0) (content_kind (3 + length names) tag.name) tag.fault e in
    element_start part name names tag rest both.1 (fits_is (3 + length names) tag.name both.0) s
in_element part name names (T.EndTag end) rest e s =
    let both = none_both (fault 0) (end_kind K.Misnested name end.name) (own_fault (T.EndTag end)) e in
    element_end part name names end rest (end_is end name (named_is K.Misnested name end.name both.0) (whole_by end.whole _ both.1)) s
in_element part name names T.OpenComment rest e s = absurd (cc)
in_element part name names T.Doctype rest e s = absurd (cc)
in_element part name names T.Stray rest e s = absurd (cc)
in_element part name names T.End rest e s = absurd (cc)

-- a token in the body before its scripts
body_start : (tag : StartTag) (rest : List Token) → tag.fault ≡ None → body_tag_kind tag.name ≡ None → Stands (begun P.InBody tag.name) rest → Body (T.StartTag tag ∷ rest)
body_start tag rest ok e s =
    ⊎_elim
    (λ (script : is_script tag.name ≡ true).
    let void = script_opens tag.name script in
    let to : Standing = here P.InScripts (tag.name ∷ []) in
    let goes : begun P.InBody tag.name ≡ to = λ i. cond (void i) (here (cond (script i) P.InScripts P.InBody) []) (here (cond (script i) P.InScripts P.InBody) (tag.name ∷ [])) in
    let w : Within P.InScripts (tag.name ∷ []) rest = subst (λ (x : Standing). Stands x rest) goes s in
    let scripts = w.4 in
    let one : Scripts (T.StartTag tag ∷ rest) = record {
      f = Nested tag w.0 scripts.f;
      more = scripts.more;
      is = ap (λ (l : List Token). T.StartTag tag ∷ l) (w.2 ∙ ap (λ (l : List Token). forest_tokens w.0 (end_of tag.name ∷ l)) scripts.is);
      all = (ok, script, w.3, scripts.all);
      then = scripts.then;
    } in
    let made : Body (T.StartTag tag ∷ rest) = record { f = Nothing; more = T.StartTag tag ∷ rest; is = refl; all = tt; then = one } in made)
    (λ (script : is_script tag.name ≡ false).
    let fits = fits_is 2 tag.name (sym (ap (λ b. cond b None (content_kind 2 tag.name)) script) ∙ e) in
    ⊎_elim
    (λ (void : is_void tag.name ≡ true).
    let goes : begun P.InBody tag.name ≡ alone P.InBody = λ i. cond (void i) (here (cond (script i) P.InScripts P.InBody) []) (here (cond (script i) P.InScripts P.InBody) (tag.name ∷ [])) in
    let w : Body rest = subst (λ (x : Standing). Stands x rest) goes s in
    let c = void_more 2 tag rest w.more ok fits void (record { f = w.f; is = w.is; all = w.all }) in
    let made : Body (T.StartTag tag ∷ rest) = record { f = c.f; more = w.more; is = c.is; all = c.all; then = w.then } in made)
    (λ (void : is_void tag.name ≡ false).
    let to : Standing = here P.InBody (tag.name ∷ []) in
    let goes : begun P.InBody tag.name ≡ to = λ i. cond (void i) (here (cond (script i) P.InScripts P.InBody) []) (here (cond (script i) P.InScripts P.InBody) (tag.name ∷ [])) in
    let w : Within P.InBody (tag.name ∷ []) rest = subst (λ (x : Standing). Stands x rest) goes s in
    let behind = w.4 in
    let c = nested_more 2 tag w.0 rest w.1 behind.more ok fits void w.2 w.3 (record { f = behind.f; is = behind.is; all = behind.all }) in
    let made : Body (T.StartTag tag ∷ rest) = record { f = c.f; more = behind.more; is = c.is; all = c.all; then = behind.then } in made)
    (either_way (is_void tag.name)))
    (either_way (is_script tag.name))

in_body : (t : Token) (rest : List Token) → refusal_at (alone P.InBody) t ≡ None → Stands (after (alone P.InBody) t) rest → Body (t ∷ rest)
in_body (T.Text run) rest e s = record { f = Words run s.f; more = s.more; is = ap (λ (l : List Token). T.Text run ∷ l) s.is; all = (e, s.all); then = s.then }
in_body (T.Comment units) rest e s = record { f = Remark units s.f; more = s.more; is = ap (λ (l : List Token). T.Comment units ∷ l) s.is; all = s.all; then = s.then }
in_body (T.StartTag tag) rest e s = let both = none_both (fault 0) (body_tag_kind tag.name) tag.fault e in body_start tag rest both.1 both.0 s
in_body (T.EndTag end) rest e s =
    let both = none_both (fault 0) (end_kind K.Misnested (codes "body") end.name) (own_fault (T.EndTag end)) e in
    let is = end_is end (codes "body") (named_is K.Misnested (codes "body") end.name both.0) (whole_by end.whole _ both.1) in
    let last : Scripts (T.EndTag end ∷ rest) = record { f = Nothing; more = rest; is = ap (λ (t : Token). t ∷ rest) is; all = tt; then = s } in
    record { f = Nothing; more = T.EndTag end ∷ rest; is = refl; all = tt; then = last }
in_body T.OpenComment rest e s = absurd (cc)
in_body T.Doctype rest e s = absurd (cc)
in_body T.Stray rest e s = absurd (cc)
in_body T.End rest e s = absurd (cc)

-- a token in the body behind a script
in_scripts : (t : Token) (rest : List Token) → refusal_at (alone P.InScripts) t ≡ None → Stands (after (alone P.InScripts) t) rest → Scripts (t ∷ rest)
in_scripts (T.Text run) rest e s =
    let both = none_both (fault run.space) (text_kind K.ScriptNotLast run) run.fault e in
    record { f = Words run s.f; more = s.more; is = ap (λ (l : List Token). T.Text run ∷ l) s.is; all = ((both.1, space_is K.ScriptNotLast run both.0), s.all); then = s.then }
in_scripts (T.Comment units) rest e s = absurd (cc)
in_scripts (T.StartTag tag) rest e s =
    let both = none_both (fault 0) (end_kind K.ScriptNotLast (codes "script") tag.name) tag.fault e in
    let script = named_is K.ScriptNotLast (codes "script") tag.name both.0 in
    let to : Standing = here P.InScripts (tag.name ∷ []) in
    let goes : begun P.InScripts tag.name ≡ to = ap (λ b. cond b (alone P.InScripts) (here P.InScripts (tag.name ∷ []))) (script_opens tag.name script) in
    let w : Within P.InScripts (tag.name ∷ []) rest = subst (λ (x : Standing). Stands x rest) goes s in
    let scripts = w.4 in
    record {
      f = Nested tag w.0 scripts.f;
      more = scripts.more;
      is = ap (λ (l : List Token). T.StartTag tag ∷ l) (w.2 ∙ ap (λ (l : List Token). forest_tokens w.0 (end_of tag.name ∷ l)) scripts.is);
      all = (both.1, script, w.3, scripts.all);
      then = scripts.then;
    }
in_scripts (T.EndTag end) rest e s =
    let both = none_both (fault 0) (end_kind K.Misnested (codes "body") end.name) (own_fault (T.EndTag end)) e in
    let is = end_is end (codes "body") (named_is K.Misnested (codes "body") end.name both.0) (whole_by end.whole _ both.1) in
    record { f = Nothing; more = rest; is = ap (λ (t : Token). t ∷ rest) is; all = tt; then = s }
in_scripts T.OpenComment rest e s = absurd (cc)
in_scripts T.Doctype rest e s = absurd (cc)
in_scripts T.Stray rest e s = absurd (cc)
in_scripts T.End rest e s = absurd (cc)

-- a token in the head
among_is : (b c : Bool) → cond b None (cond c (Some K.ScriptNotLast) (Some K.NotInSubset)) ≡ None → b ≡ true
among_is true c e = refl
among_is false true e = absurd (cc)
among_is false false e = absurd (cc)

head_start : (tag : StartTag) (rest : List Token) → tag.fault ≡ None → is_among head_names tag.name ≡ true → Stands (opened P.InHead [] tag.name) rest → Head (T.StartTag tag ∷ rest)
head_start tag rest ok among s =
    ⊎_elim
    (λ (void : is_void tag.name ≡ true).
    let w : Head rest = subst (λ b. Stands (cond b (alone P.InHead) (here P.InHead (tag.name ∷ []))) rest) void s in
    let made : Head (T.StartTag tag ∷ rest) = record { f = Void tag w.f; more = w.more; is = ap (λ (l : List Token). T.StartTag tag ∷ l) w.is; all = (ok, among, void, w.all); then = w.then } in made)
    (λ (void : is_void tag.name ≡ false).
    let w : Within P.InHead (tag.name ∷ []) rest = subst (λ b. Stands (cond b (alone P.InHead) (here P.InHead (tag.name ∷ []))) rest) void s in
    let head = w.4 in
    let made : Head (T.StartTag tag ∷ rest) = record {
      f = Nested tag w.0 head.f;
      more = head.more;
      is = ap (λ (l : List Token). T.StartTag tag ∷ l) (w.2 ∙ ap (λ (l : List Token). forest_tokens w.0 (end_of tag.name ∷ l)) head.is);
      all = (ok, among, void, w.3, head.all);
      then = head.then;
    } in made)
    (either_way (is_void tag.name))

in_head : (t : Token) (rest : List Token) → refusal_at (alone P.InHead) t ≡ None → Stands (after (alone P.InHead) t) rest → Head (t ∷ rest)
in_head (T.Text run) rest e s =
    let both = none_both (fault run.space) (text_kind K.TextOutside run) run.fault e in
    record { f = Words run s.f; more = s.more; is = ap (λ (l : List Token). T.Text run ∷ l) s.is; all = ((both.1, space_is K.TextOutside run both.0), s.all); then = s.then }
in_head (T.Comment units) rest e s = record { f = Remark units s.f; more = s.more; is = ap (λ (l : List Token). T.Comment units ∷ l) s.is; all = s.all; then = s.then }
in_head (T.StartTag tag) rest e s =
    let both = none_both (fault 0) (head_tag_kind tag.name) tag.fault e in
    head_start tag rest both.1 (among_is (is_among head_names tag.name) (is_script tag.name) both.0) s
in_head (T.EndTag end) rest e s =
    let both = none_both (fault 0) (end_kind K.Misnested (codes "head") end.name) (own_fault (T.EndTag end)) e in
    let is = end_is end (codes "head") (named_is K.Misnested (codes "head") end.name both.0) (whole_by end.whole _ both.1) in
    record { f = Nothing; more = rest; is = ap (λ (t : Token). t ∷ rest) is; all = tt; then = s }
in_head T.OpenComment rest e s = absurd (cc)
in_head T.Doctype rest e s = absurd (cc)
in_head T.Stray rest e s = absurd (cc)
in_head T.End rest e s = absurd (cc)

-- space and comments where they are dropped
text_is_space : (run : TextRun) → refusal_at (alone P.BehindHtml) (T.Text run) ≡ None → IsSpace run
text_is_space run e = let both = none_both (fault run.space) (text_kind K.TextOutside run) run.fault e in (both.1, space_is K.TextOutside run both.0)

ended_more : (t : Token) (rest : List Token) → IsDropped t → Ended rest → Ended (t ∷ rest)
ended_more t rest h s = record { d = t ∷ s.d; is = ap (λ (l : List Token). t ∷ l) s.is; all = (h, s.all) }

closing_more : (t : Token) (rest : List Token) → IsDropped t → Closing rest → Closing (t ∷ rest)
closing_more t rest h s = record { d = t ∷ s.d; more = s.more; is = ap (λ (l : List Token). t ∷ l) s.is; all = (h, s.all); then = s.then }

before_body_more : (t : Token) (rest : List Token) → IsDropped t → BeforeBody rest → BeforeBody (t ∷ rest)
before_body_more t rest h s = record { d = t ∷ s.d; tag = s.tag; more = s.more; is = ap (λ (l : List Token). t ∷ l) s.is; all = (h, s.all); named = s.named; then = s.then }

before_head_more : (t : Token) (rest : List Token) → IsDropped t → BeforeHead rest → BeforeHead (t ∷ rest)
before_head_more t rest h s = record { d = t ∷ s.d; tag = s.tag; more = s.more; is = ap (λ (l : List Token). t ∷ l) s.is; all = (h, s.all); named = s.named; then = s.then }

before_html_more : (t : Token) (rest : List Token) → IsDropped t → BeforeHtml rest → BeforeHtml (t ∷ rest)
before_html_more t rest h s = record { d = t ∷ s.d; tag = s.tag; more = s.more; is = ap (λ (l : List Token). t ∷ l) s.is; all = (h, s.all); named = s.named; then = s.then }

whole_more : (t : Token) (rest : List Token) → IsDropped t → Whole rest → Whole (t ∷ rest)
whole_more t rest h s = record { d = t ∷ s.d; doctype = s.doctype; tag = s.tag; more = s.more; is = ap (λ (l : List Token). t ∷ l) s.is; all = (h, s.all); doctype-is = s.doctype-is; named = s.named; then = s.then }

-- a start tag that is due
due_tag : (due : List ℕ) (tag : StartTag) (e : (end_kind K.MissingPart due tag.name ≡ None) × (tag.fault ≡ None)) → IsTag due tag
due_tag due tag e = (e.1, named_is K.MissingPart due tag.name e.0)

behind_html : (t : Token) (rest : List Token) → is_last t ≡ false → refusal_at (alone P.BehindHtml) t ≡ None → Ended rest → Ended (t ∷ rest)
behind_html (T.Text run) rest l e s = ended_more (T.Text run) rest (text_is_space run e) s
behind_html (T.Comment units) rest l e s = ended_more (T.Comment units) rest tt s
behind_html (T.StartTag tag) rest l e s = let both = none_both (fault 0) (Some K.TextOutside) tag.fault e in absurd (cc)
behind_html (T.EndTag end) rest l e s = let both = none_both (fault 0) (Some K.Misnested) (own_fault (T.EndTag end)) e in absurd (cc)
behind_html T.OpenComment rest l e s = absurd (cc)
behind_html T.Doctype rest l e s = absurd (cc)
behind_html T.Stray rest l e s = absurd (cc)
behind_html T.End rest l e s = absurd (true≢false l)

behind_body : (t : Token) (rest : List Token) → refusal_at (alone P.BehindBody) t ≡ None → Stands (after (alone P.BehindBody) t) rest → Closing (t ∷ rest)
behind_body (T.Text run) rest e s = closing_more (T.Text run) rest (text_is_space run e) s
behind_body (T.Comment units) rest e s = closing_more (T.Comment units) rest tt s
behind_body (T.StartTag tag) rest e s = let both = none_both (fault 0) (Some K.MissingPart) tag.fault e in absurd (cc)
behind_body (T.EndTag end) rest e s =
    let both = none_both (fault 0) (end_kind K.MissingPart (codes "html") end.name) (own_fault (T.EndTag end)) e in
    let is = end_is end (codes "html") (named_is K.MissingPart (codes "html") end.name both.0) (whole_by end.whole _ both.1) in
    record { d = []; more = rest; is = ap (λ (t : Token). t ∷ rest) is; all = tt; then = s }
behind_body T.OpenComment rest e s = absurd (cc)
behind_body T.Doctype rest e s = absurd (cc)
behind_body T.Stray rest e s = absurd (cc)
behind_body T.End rest e s = absurd (cc)

behind_head : (t : Token) (rest : List Token) → refusal_at (alone P.BehindHead) t ≡ None → Stands (after (alone P.BehindHead) t) rest → BeforeBody (t ∷ rest)
behind_head (T.Text run) rest e s = before_body_more (T.Text run) rest (text_is_space run e) s
behind_head (T.Comment units) rest e s = before_body_more (T.Comment units) rest tt s
behind_head (T.StartTag tag) rest e s =
    let both = none_both (fault 0) (end_kind K.MissingPart (codes "body") tag.name) tag.fault e in
    record { d = []; tag = tag; more = rest; is = refl; all = tt; named = due_tag (codes "body") tag both; then = s }
behind_head (T.EndTag end) rest e s = let both = none_both (fault 0) (Some K.MissingPart) (own_fault (T.EndTag end)) e in absurd (cc)
behind_head T.OpenComment rest e s = absurd (cc)
behind_head T.Doctype rest e s = absurd (cc)
behind_head T.Stray rest e s = absurd (cc)
behind_head T.End rest e s = absurd (cc)

in_html : (t : Token) (rest : List Token) → refusal_at (alone P.InHtml) t ≡ None → Stands (after (alone P.InHtml) t) rest → BeforeHead (t ∷ rest)
in_html (T.Text run) rest e s = before_head_more (T.Text run) rest (text_is_space run e) s
in_html (T.Comment units) rest e s = before_head_more (T.Comment units) rest tt s
in_html (T.StartTag tag) rest e s =
    let both = none_both (fault 0) (end_kind K.MissingPart (codes "head") tag.name) tag.fault e in
    record { d = []; tag = tag; more = rest; is = refl; all = tt; named = due_tag (codes "head") tag both; then = s }
in_html (T.EndTag end) rest e s = let both = none_both (fault 0) (Some K.MissingPart) (own_fault (T.EndTag end)) e in absurd (cc)
in_html T.OpenComment rest e s = absurd (cc)
in_html T.Doctype rest e s = absurd (cc)
in_html T.Stray rest e s = absurd (cc)
in_html T.End rest e s = absurd (cc)

behind_doctype : (t : Token) (rest : List Token) → refusal_at (alone P.BehindDoctype) t ≡ None → Stands (after (alone P.BehindDoctype) t) rest → BeforeHtml (t ∷ rest)
behind_doctype (T.Text run) rest e s = before_html_more (T.Text run) rest (text_is_space run e) s
behind_doctype (T.Comment units) rest e s = before_html_more (T.Comment units) rest tt s
behind_doctype (T.StartTag tag) rest e s =
    let both = none_both (fault 0) (end_kind K.MissingPart (codes "html") tag.name) tag.fault e in
    record { d = []; tag = tag; more = rest; is = refl; all = tt; named = due_tag (codes "html") tag both; then = s }
behind_doctype (T.EndTag end) rest e s = let both = none_both (fault 0) (Some K.MissingPart) (own_fault (T.EndTag end)) e in absurd (cc)
behind_doctype T.OpenComment rest e s = absurd (cc)
behind_doctype T.Doctype rest e s = absurd (cc)
behind_doctype T.Stray rest e s = absurd (cc)
behind_doctype T.End rest e s = absurd (cc)

at_beginning : (t : Token) (rest : List Token) → refusal_at (alone P.Beginning) t ≡ None → Stands (after (alone P.Beginning) t) rest → Whole (t ∷ rest)
at_beginning (T.Text run) rest e s = whole_more (T.Text run) rest (text_is_space run e) s
at_beginning (T.Comment units) rest e s = whole_more (T.Comment units) rest tt s
at_beginning (T.StartTag tag) rest e s =
    let both = none_both (fault 0) (end_kind K.MissingPart (codes "html") tag.name) tag.fault e in
    record { d = []; doctype = []; tag = tag; more = rest; is = refl; all = tt; doctype-is = tt; named = due_tag (codes "html") tag both; then = s }
at_beginning (T.EndTag end) rest e s = let both = none_both (fault 0) (Some K.MissingPart) (own_fault (T.EndTag end)) e in absurd (cc)
at_beginning T.OpenComment rest e s = absurd (cc)
at_beginning T.Doctype rest e s =
    record { d = []; doctype = T.Doctype ∷ s.d; tag = s.tag; more = s.more; is = ap (λ (l : List Token). T.Doctype ∷ l) s.is; all = tt; doctype-is = s.all; named = s.named; then = s.then }
at_beginning T.Stray rest e s = absurd (cc)
at_beginning T.End rest e s = absurd (cc)

in_part : (part : Part) (t : Token) (rest : List Token) → is_last t ≡ false → refusal_at (alone part) t ≡ None → Stands (after (alone part) t) rest → InPart part (t ∷ rest)
in_part P.Beginning t rest l e s = at_beginning t rest e s
in_part P.BehindDoctype t rest l e s = behind_doctype t rest e s
in_part P.InHtml t rest l e s = in_html t rest e s
in_part P.InHead t rest l e s = in_head t rest e s
in_part P.BehindHead t rest l e s = behind_head t rest e s
in_part P.InBody t rest l e s = in_body t rest e s
in_part P.InScripts t rest l e s = in_scripts t rest e s
in_part P.BehindBody t rest l e s = behind_body t rest e s
in_part P.BehindHtml t rest l e s = behind_html t rest l e (at_end t rest l e s)
  where
    at_end : (t : Token) (rest : List Token) → is_last t ≡ false → refusal_at (alone P.BehindHtml) t ≡ None → Stands (after (alone P.BehindHtml) t) rest → Ended rest
    at_end (T.Text run) rest l e s = s
    at_end (T.Comment units) rest l e s = s
    at_end (T.StartTag tag) rest l e s = s
    at_end (T.EndTag end) rest l e s = s
    at_end T.OpenComment rest l e s = s
    at_end T.Doctype rest l e s = absurd (cc)
    at_end T.Stray rest l e s = s
    at_end T.End rest l e s = s

one_more : (part : Part) (names : List (List ℕ)) (t : Token) (rest : List Token) → is_last t ≡ false → refusal_at (here part names) t ≡ None → Stands (after (here part names) t) rest → Within part names (t ∷ rest)
one_more part [] t rest l e s = in_part part t rest l e s
one_more part (name ∷ names) t rest l e s = in_element part name names t rest e s

-- the end of the page, where nothing is refused
page_end : (part : Part) (names : List (List ℕ)) → refusal_at (here part names) T.End ≡ None → Within part names (T.End ∷ [])
page_end P.BehindHtml [] e = record { d = []; is = refl; all = tt }
page_end P.Beginning [] e = absurd (cc)
page_end P.BehindDoctype [] e = absurd (cc)
page_end P.InHtml [] e = absurd (cc)
page_end P.InHead [] e = absurd (cc)
page_end P.BehindHead [] e = absurd (cc)
page_end P.InBody [] e = absurd (cc)
page_end P.InScripts [] e = absurd (cc)
page_end P.BehindBody [] e = absurd (cc)
page_end part (name ∷ names) e = absurd (cc)

some_is : (own : Option Fault) → is_some own ≡ true → own ≡ None → ⊥
some_is None e q = false≢true e
some_is (Some x) e q = cc

last_one : (part : Part) (names : List (List ℕ)) (t : Token) → is_last t ≡ true → refusal_at (here part names) t ≡ None → Within part names (t ∷ [])
last_one part names (T.Text run) l e = let both = none_both (fault run.space) (kind_at part names (T.Text run)) run.fault e in absurd (some_is run.fault l both.1)
last_one part names (T.Comment units) l e = absurd (false≢true l)
last_one part names (T.StartTag tag) l e = let both = none_both (fault 0) (kind_at part names (T.StartTag tag)) tag.fault e in absurd (some_is tag.fault l both.1)
last_one part names (T.EndTag end) l e =
    let both = none_both (fault 0) (kind_at part names (T.EndTag end)) (own_fault (T.EndTag end)) e in
    let whole = whole_by end.whole _ both.1 in
    absurd (false≢true (sym (ap not whole) ∙ l))
last_one part names T.OpenComment l e = let both = none_both (fault 0) (kind_at part names T.OpenComment) (own_fault T.OpenComment) e in absurd (cc)
last_one part names T.Doctype l e = absurd (false≢true l)
last_one part names T.Stray l e = let both = none_both (fault 0) (kind_at part names T.Stray) (own_fault T.Stray) e in absurd (cc)
last_one part names T.End l e = page_end part names e

-- tokens up to the last, which ends them
abbrev pub Lasts : List Token → Type 0
Lasts [] = ⊥
Lasts (t ∷ ts) = MatchBool (is_last t) (ts ≡ []) (Lasts ts)

lasts : (b : Bool) (P Q : Type 0) → MatchBool b P Q → ((b ≡ true) × P) ⊎ ((b ≡ false) × Q)
lasts true P Q h = inl (refl, h)
lasts false P Q h = inr (refl, h)

pub formed : (s : Standing) (ts : List Token) → Lasts ts → Accepted s ts → Stands s ts
formed s [] h a = absurd h
formed s (t ∷ ts) h a =
    ⊎_elim
    (λ (last : (is_last t ≡ true) × (ts ≡ [])). subst (λ (l : List Token). Stands s (t ∷ l)) (sym last.1) (last_one s.part s.open_names t last.0 a.0))
    (λ (more : (is_last t ≡ false) × Lasts ts). one_more s.part s.open_names t ts more.0 a.0 (formed (after s t) ts more.1 a.1))
    (lasts (is_last t) (ts ≡ []) (Lasts ts) h)

-- the parts of a page whose tokens are these
pub record Made (ts : List Token) : Type 0 where
  pub parts : Parts
  pub spelled : ts ≡ page_tokens parts
  pub are : AreParts parts

pub page_made : (ts : List Token) → Whole ts → Made ts
page_made ts w =
    let h = w.then in
    let d = h.then in
    let b = d.then in
    let c = b.then in
    let s = c.then in
    let e = s.then in
    let z = e.then in
    let p : Parts = record {
      beginning = w.d;
      doctype = w.doctype;
      html = w.tag;
      before_head = h.d;
      head_tag = h.tag;
      head = d.f;
      before_body = b.d;
      body_tag = b.tag;
      content = c.f;
      scripts = s.f;
      behind_body = e.d;
      behind_html = z.d;
    } in
    let end-is : (end_of (codes "body") ∷ s.more) ≡ end_tokens p = ap (λ (l : List Token). end_of (codes "body") ∷ l) (e.is ∙ ap (λ (l : List Token). e.d ++ (end_of (codes "html") ∷ l)) z.is) in
    let body-is : (T.StartTag b.tag ∷ b.more) ≡ body_tokens p = ap (λ (l : List Token). T.StartTag b.tag ∷ l) (c.is ∙ ap (forest_tokens c.f) (s.is ∙ ap (forest_tokens s.f) end-is)) in
    let head-is : (T.StartTag h.tag ∷ h.more) ≡ head_tokens p =
    ap (λ (l : List Token). T.StartTag h.tag ∷ l) (d.is ∙ ap (λ (l : List Token). forest_tokens d.f (end_of (codes "head") ∷ l)) (b.is ∙ ap (λ (l : List Token). b.d ++ l) body-is)) in
    record {
      parts = p;
      spelled = w.is ∙ ap (λ (l : List Token). w.d ++ (w.doctype ++ (T.StartTag w.tag ∷ l))) (h.is ∙ ap (λ (l : List Token). h.d ++ l) head-is);
      are = record {
        beginning = w.all;
        doctype = w.doctype-is;
        html = w.named;
        before_head = h.all;
        head_tag = h.named;
        head = d.all;
        before_body = b.all;
        body_tag = b.named;
        content = c.all;
        scripts = s.all;
        behind_body = e.all;
        behind_html = z.all;
      };
    }
