-- A token stands where what a page goes on with tells, and nowhere else.
use Rattle.std.proofs.Common.{◌≡◌, ℕ, true, false, List, [], ◌∷◌, ◌++◌, None, ⊎_elim, ◌⊎◌, inl, inr, refl, sym, ap, ◌∙◌, subst, bytes_eq, append-nil}
use Rattle.std.proofs.lemmas.Bool.{true≢false}
use Rattle.std.specs.Prelude.{codes}
use Rattle.rip_base.specs.declared.page.PageKind.{PageKind}
use Rattle.rip_base.specs.declared.page.PageKind.TheVariants as K
use Rattle.rip_markup.specs.Tokens.{is_last}
use Rattle.rip_markup.specs.Words.{is_among, refused_names}
use Rattle.rip_markup.specs.declared.token.Token.{Token}
use Rattle.rip_markup.specs.declared.token.Token.TheVariants as T
use Rattle.rip_html.specs.Forests.{end_of}
use Rattle.rip_html.specs.Standings.{Standing, first_standing}
use Rattle.rip_html.specs.Refusals.{end_kind, kind_at, refusal_at}
use Rattle.rip_html.specs.Tags.{part_names, head_names}
use Rattle.rip_html.proofs.Choice.{took_none, name_is}
use Rattle.rip_html.proofs.Accepting.{Accepted, accepts_page}
use Rattle.rip_html.proofs.Forming.{formed, page_made}
use Rattle.rip_law_syntax.specs.Fronts.{BeginsPage}
use Rattle.rip_law_syntax.specs.Places.{Stage, Beginning, BehindDoctype, InHtml, InHead, BehindHead, InBody, InScripts, BehindBody, BehindHtml, start_of, StandsIn, ends_of, AreInner, StandsAt, standing_in}
use Rattle.rip_law_syntax.proofs.RefusalPassing.{standing_behind, GoOn, goes_on, all_go_on, lasts_behind, accepted_on, accepted_front, accepted_behind, behind_on, no_kind_at}
use Rattle.rip_law_syntax.proofs.Reaching.{Reached}
use Rattle.rip_law_syntax.proofs.Fronts.{closes, begins_page, not_refused}

-- WHAT TELLS A STAGE

doctype_tells : (stage : Stage) (names : List (List ℕ)) → kind_at (standing_in stage names).part names T.Doctype ≡ None → (stage ≡ Beginning) × (names ≡ [])
doctype_tells Beginning [] e = (refl, refl)
doctype_tells BehindDoctype [] e = absurd (cc)
doctype_tells InHtml [] e = absurd (cc)
doctype_tells InHead [] e = absurd (cc)
doctype_tells BehindHead [] e = absurd (cc)
doctype_tells InBody [] e = absurd (cc)
doctype_tells InScripts [] e = absurd (cc)
doctype_tells BehindBody [] e = absurd (cc)
doctype_tells BehindHtml [] e = absurd (cc)
doctype_tells stage (name ∷ names) e = absurd (cc)

html_tells : (stage : Stage) (names : List (List ℕ)) → kind_at (standing_in stage names).part names (start_of (codes "html")) ≡ None → ((stage ≡ Beginning) × (names ≡ [])) ⊎ ((stage ≡ BehindDoctype) × (names ≡ []))
unfolding head_names part_names refused_names
html_tells Beginning [] e = inl (refl, refl)
html_tells BehindDoctype [] e = inr (refl, refl)
html_tells InHtml [] e = absurd (cc)
html_tells InHead [] e = absurd (cc)
html_tells BehindHead [] e = absurd (cc)
html_tells InBody [] e = absurd (cc)
html_tells InScripts [] e = absurd (cc)
html_tells BehindBody [] e = absurd (cc)
html_tells BehindHtml [] e = absurd (cc)
html_tells stage (name ∷ names) e = absurd (cc)

head_tells : (stage : Stage) (names : List (List ℕ)) → kind_at (standing_in stage names).part names (start_of (codes "head")) ≡ None → (stage ≡ InHtml) × (names ≡ [])
unfolding head_names part_names refused_names
head_tells Beginning [] e = absurd (cc)
head_tells BehindDoctype [] e = absurd (cc)
head_tells InHtml [] e = (refl, refl)
head_tells InHead [] e = absurd (cc)
head_tells BehindHead [] e = absurd (cc)
head_tells InBody [] e = absurd (cc)
head_tells InScripts [] e = absurd (cc)
head_tells BehindBody [] e = absurd (cc)
head_tells BehindHtml [] e = absurd (cc)
head_tells stage (name ∷ names) e = absurd (cc)

body_tells : (stage : Stage) (names : List (List ℕ)) → kind_at (standing_in stage names).part names (start_of (codes "body")) ≡ None → (stage ≡ BehindHead) × (names ≡ [])
unfolding head_names part_names refused_names
body_tells Beginning [] e = absurd (cc)
body_tells BehindDoctype [] e = absurd (cc)
body_tells InHtml [] e = absurd (cc)
body_tells InHead [] e = absurd (cc)
body_tells BehindHead [] e = (refl, refl)
body_tells InBody [] e = absurd (cc)
body_tells InScripts [] e = absurd (cc)
body_tells BehindBody [] e = absurd (cc)
body_tells BehindHtml [] e = absurd (cc)
body_tells stage (name ∷ names) e = absurd (cc)

-- the end tag of a part ends no inner element
ends_no_inner : (due name : List ℕ) → is_among part_names due ≡ true → is_among part_names name ≡ false → end_kind K.Misnested name due ≡ None → ⊥
ends_no_inner due name is inner e =
    let same : due ≡ name = name_is due name (took_none (bytes_eq due name) K.Misnested e) in
    true≢false (sym is ∙ ap (is_among part_names) same ∙ inner)

html_is_part : is_among part_names (codes "html") ≡ true
unfolding part_names
html_is_part = refl

head_is_part : is_among part_names (codes "head") ≡ true
unfolding part_names
head_is_part = refl

body_is_part : is_among part_names (codes "body") ≡ true
unfolding part_names
body_is_part = refl

head_end_tells : (stage : Stage) (names : List (List ℕ)) → AreInner names → kind_at (standing_in stage names).part names (end_of (codes "head")) ≡ None → (stage ≡ InHead) × (names ≡ [])
head_end_tells Beginning [] all e = absurd (cc)
head_end_tells BehindDoctype [] all e = absurd (cc)
head_end_tells InHtml [] all e = absurd (cc)
head_end_tells InHead [] all e = (refl, refl)
head_end_tells BehindHead [] all e = absurd (cc)
head_end_tells InBody [] all e = absurd (cc)
head_end_tells InScripts [] all e = absurd (cc)
head_end_tells BehindBody [] all e = absurd (cc)
head_end_tells BehindHtml [] all e = absurd (cc)
head_end_tells stage (name ∷ names) all e = absurd (ends_no_inner (codes "head") name head_is_part all.0 e)

body_end_tells : (stage : Stage) (names : List (List ℕ)) → AreInner names → kind_at (standing_in stage names).part names (end_of (codes "body")) ≡ None → ((stage ≡ InBody) × (names ≡ [])) ⊎ ((stage ≡ InScripts) × (names ≡ []))
body_end_tells Beginning [] all e = absurd (cc)
body_end_tells BehindDoctype [] all e = absurd (cc)
body_end_tells InHtml [] all e = absurd (cc)
body_end_tells InHead [] all e = absurd (cc)
body_end_tells BehindHead [] all e = absurd (cc)
body_end_tells InBody [] all e = inl (refl, refl)
body_end_tells InScripts [] all e = inr (refl, refl)
body_end_tells BehindBody [] all e = absurd (cc)
body_end_tells BehindHtml [] all e = absurd (cc)
body_end_tells stage (name ∷ names) all e = absurd (ends_no_inner (codes "body") name body_is_part all.0 e)

html_end_tells : (stage : Stage) (names : List (List ℕ)) → AreInner names → kind_at (standing_in stage names).part names (end_of (codes "html")) ≡ None → (stage ≡ BehindBody) × (names ≡ [])
html_end_tells Beginning [] all e = absurd (cc)
html_end_tells BehindDoctype [] all e = absurd (cc)
html_end_tells InHtml [] all e = absurd (cc)
html_end_tells InHead [] all e = absurd (cc)
html_end_tells BehindHead [] all e = absurd (cc)
html_end_tells InBody [] all e = absurd (cc)
html_end_tells InScripts [] all e = absurd (cc)
html_end_tells BehindBody [] all e = (refl, refl)
html_end_tells BehindHtml [] all e = absurd (cc)
html_end_tells stage (name ∷ names) all e = absurd (ends_no_inner (codes "html") name html_is_part all.0 e)

end_tells : (stage : Stage) (names : List (List ℕ)) → kind_at (standing_in stage names).part names T.End ≡ None → (stage ≡ BehindHtml) × (names ≡ [])
end_tells Beginning [] e = absurd (cc)
end_tells BehindDoctype [] e = absurd (cc)
end_tells InHtml [] e = absurd (cc)
end_tells InHead [] e = absurd (cc)
end_tells BehindHead [] e = absurd (cc)
end_tells InBody [] e = absurd (cc)
end_tells InScripts [] e = absurd (cc)
end_tells BehindBody [] e = absurd (cc)
end_tells BehindHtml [] e = (refl, refl)
end_tells stage (name ∷ names) e = absurd (cc)

-- a page that goes on with a token
goes_with : (front : List Token) (t : Token) (s : Standing) → GoOn front → Accepted first_standing front → standing_behind first_standing front ≡ s → is_last t ≡ false → refusal_at s t ≡ None → BeginsPage (front ++ t ∷ [])
goes_with front t s go_on passed there last e =
    let stands : refusal_at (standing_behind first_standing front) t ≡ None = subst (λ (x : Standing). refusal_at x t ≡ None) (sym there) e in
    begins_page (front ++ t ∷ []) (goes_on front t go_on last) (accepted_on first_standing front (t ∷ []) passed (stands, tt))

-- what may stand behind a front
may_stand : (front : List Token) (t : Token) (s : Standing) → standing_behind first_standing front ≡ s → BeginsPage (front ++ t ∷ []) → kind_at s.part s.open_names t ≡ None
may_stand front t s there b =
    subst (λ (x : Standing). kind_at x.part x.open_names t ≡ None) there (no_kind_at (standing_behind first_standing front) t (not_refused front t b))

-- a page that goes on with a token goes on with what is before it
passed_before : (front : List Token) (t : Token) → BeginsPage (front ++ t ∷ []) → Accepted first_standing front
passed_before front t b =
    let whole : Accepted first_standing ((front ++ t ∷ []) ++ b.more) = subst (Accepted first_standing) b.spelled (accepts_page b.parts b.are) in
    accepted_front first_standing front (t ∷ []) (accepted_front first_standing (front ++ t ∷ []) b.more whole)

-- tokens behind which a token stands in a stage are not refused
pub stage_passed : (stage : Stage) (front : List Token) → StandsIn stage front → Accepted first_standing front
stage_passed Beginning front b = passed_before front T.Doctype b
stage_passed BehindDoctype front b = passed_before front (start_of (codes "html")) b.0
stage_passed InHtml front b = passed_before front (start_of (codes "head")) b
stage_passed InHead front b = passed_before front (end_of (codes "head")) b
stage_passed BehindHead front b = passed_before front (start_of (codes "body")) b
stage_passed InBody front b = passed_before front (end_of (codes "body")) b.0
stage_passed InScripts front b = passed_before front (end_of (codes "body")) b.0
stage_passed BehindBody front b = passed_before front (end_of (codes "html")) b
stage_passed BehindHtml front b = passed_before front T.End b

no_doctype : kind_at (standing_in BehindDoctype []).part [] T.Doctype ≡ None → ⊥
no_doctype e = cc

no_comment : kind_at (standing_in InScripts []).part [] (T.Comment []) ≡ None → ⊥
no_comment e = cc

-- the standing, where stage and names are these
moved : (front : List Token) (stage to : Stage) (names : List (List ℕ)) → standing_behind first_standing front ≡ standing_in stage names → (stage ≡ to) × (names ≡ []) → standing_behind first_standing front ≡ standing_in to []
moved front stage to names there same =
    let stages : stage ≡ to = same.0 in
    let all : names ≡ [] = same.1 in
    there ∙ (λ i. standing_in (stages i) (all i))

-- and the token stands in that stage
stage_is : (to : Stage) (front : List Token) (stage : Stage) (names : List (List ℕ)) → GoOn front → Accepted first_standing front → standing_behind first_standing front ≡ standing_in stage names → AreInner names → StandsIn to front → (stage ≡ to) × (names ≡ [])
stage_is Beginning front stage names go_on passed there all b = doctype_tells stage names (may_stand front T.Doctype (standing_in stage names) there b)
stage_is BehindDoctype front stage names go_on passed there all b =
    ⊎_elim
    (λ (same : (stage ≡ Beginning) × (names ≡ [])). absurd (b.1 (goes_with front T.Doctype (standing_in Beginning []) go_on passed (moved front stage Beginning names there same) refl refl)))
    (λ (same : (stage ≡ BehindDoctype) × (names ≡ [])). same)
    (html_tells stage names (may_stand front (start_of (codes "html")) (standing_in stage names) there b.0))
stage_is InHtml front stage names go_on passed there all b = head_tells stage names (may_stand front (start_of (codes "head")) (standing_in stage names) there b)
stage_is InHead front stage names go_on passed there all b = head_end_tells stage names all (may_stand front (end_of (codes "head")) (standing_in stage names) there b)
stage_is BehindHead front stage names go_on passed there all b = body_tells stage names (may_stand front (start_of (codes "body")) (standing_in stage names) there b)
stage_is InBody front stage names go_on passed there all b =
    ⊎_elim
    (λ (same : (stage ≡ InBody) × (names ≡ [])). same)
    (λ (same : (stage ≡ InScripts) × (names ≡ [])). absurd (no_comment (may_stand front (T.Comment []) (standing_in InScripts []) (moved front stage InScripts names there same) b.1)))
    (body_end_tells stage names all (may_stand front (end_of (codes "body")) (standing_in stage names) there b.0))
stage_is InScripts front stage names go_on passed there all b =
    ⊎_elim
    (λ (same : (stage ≡ InBody) × (names ≡ [])). absurd (b.1 (goes_with front (T.Comment []) (standing_in InBody []) go_on passed (moved front stage InBody names there same) refl refl)))
    (λ (same : (stage ≡ InScripts) × (names ≡ [])). same)
    (body_end_tells stage names all (may_stand front (end_of (codes "body")) (standing_in stage names) there b.0))
stage_is BehindBody front stage names go_on passed there all b = html_end_tells stage names all (may_stand front (end_of (codes "html")) (standing_in stage names) there b)
stage_is BehindHtml front stage names go_on passed there all b = end_tells stage names (may_stand front T.End (standing_in stage names) there b)

-- THE OPEN ELEMENTS

part_end : (due name : List ℕ) (kind : PageKind) → is_among part_names due ≡ true → is_among part_names name ≡ false → end_kind kind due name ≡ None → ⊥
part_end due name kind is inner e =
    let same : name ≡ due = name_is name due (took_none (bytes_eq name due) kind e) in
    true≢false (sym is ∙ sym (ap (is_among part_names) same) ∙ inner)

-- right in a stage no end tag of an inner element may stand
no_end : (stage : Stage) (name : List ℕ) → is_among part_names name ≡ false → kind_at (standing_in stage []).part [] (end_of name) ≡ None → ⊥
no_end Beginning name inner e = cc
no_end BehindDoctype name inner e = cc
no_end InHtml name inner e = cc
no_end InHead name inner e = part_end (codes "head") name K.Misnested head_is_part inner e
no_end BehindHead name inner e = cc
no_end InBody name inner e = part_end (codes "body") name K.Misnested body_is_part inner e
no_end InScripts name inner e = part_end (codes "body") name K.Misnested body_is_part inner e
no_end BehindBody name inner e = part_end (codes "html") name K.MissingPart html_is_part inner e
no_end BehindHtml name inner e = cc

-- elements that end with these end tags have these names
ended_names : (stage : Stage) (within names : List (List ℕ)) → AreInner names → Accepted (standing_in stage within) (ends_of names) → (more : List (List ℕ)) × (within ≡ names ++ more)
ended_names stage within [] all a = (within, refl)
ended_names stage [] (name ∷ names) all a = absurd (no_end stage name all.0 (no_kind_at (standing_in stage []) (end_of name) a.0))
ended_names stage (first ∷ within) (name ∷ names) all a =
    let same : name ≡ first = name_is name first (took_none (bytes_eq name first) K.Misnested (no_kind_at (standing_in stage (first ∷ within)) (end_of name) a.0)) in
    let more = ended_names stage within names all.1 a.1 in
    let rest : within ≡ names ++ more.0 = more.1 in
    (more.0, λ i. sym same i ∷ rest i)

ends_behind : (stage : Stage) (names more : List (List ℕ)) → standing_behind (standing_in stage (names ++ more)) (ends_of names) ≡ standing_in stage more
ends_behind stage [] more = refl
ends_behind stage (name ∷ names) more = ends_behind stage names more

all_ends_behind : (stage : Stage) (names : List (List ℕ)) → standing_behind (standing_in stage names) (ends_of names) ≡ standing_in stage []
all_ends_behind stage [] = refl
all_ends_behind stage (name ∷ names) = all_ends_behind stage names

inner_rest : (names more : List (List ℕ)) → AreInner (names ++ more) → AreInner more
inner_rest [] more all = all
inner_rest (name ∷ names) more all = inner_rest names more all.1

ends_go_on : (names : List (List ℕ)) → GoOn (ends_of names)
ends_go_on [] = tt
ends_go_on (name ∷ names) = (refl, ends_go_on names)

ends_accepted : (stage : Stage) (names : List (List ℕ)) → Accepted (standing_in stage names) (ends_of names)
ends_accepted stage [] = tt
ends_accepted stage (name ∷ names) = (closes stage name names, ends_accepted stage names)

-- a token stands where what a page goes on with tells
pub stands_there : (front : List Token) (stage : Stage) (names : List (List ℕ)) → GoOn front → StandsAt front stage names → (r : Reached (standing_behind first_standing front)) → (r.stage ≡ stage) × (r.names ≡ names)
stands_there front stage names go_on at r =
    let ends = ends_of names in
    let whole : Accepted first_standing (front ++ ends) = stage_passed stage (front ++ ends) at.1 in
    let closed : Accepted (standing_in r.stage r.names) ends = subst (λ (s : Standing). Accepted s ends) r.is (accepted_behind first_standing front ends whole) in
    let left = ended_names r.stage r.names names at.0 closed in
    let split : r.names ≡ names ++ left.0 = left.1 in
    let there : standing_behind first_standing (front ++ ends) ≡ standing_in r.stage left.0 =
    behind_on first_standing front ends ∙ ap (λ (s : Standing). standing_behind s ends) (r.is ∙ ap (λ (l : List (List ℕ)). standing_in r.stage l) split) ∙ ends_behind r.stage names left.0 in
    let inner : AreInner left.0 = inner_rest names left.0 (subst AreInner split r.inner) in
    let same = stage_is stage (front ++ ends) r.stage left.0 (all_go_on front ends go_on (ends_go_on names)) whole there inner at.1 in
    (same.0, split ∙ ap (λ (l : List (List ℕ)). names ++ l) same.1 ∙ append-nil names)

-- a page that ends
ends_whole : (front : List Token) → GoOn front → Accepted first_standing front → standing_behind first_standing front ≡ standing_in BehindHtml [] → BeginsPage (front ++ T.End ∷ [])
ends_whole front go_on passed there =
    let end : Accepted (standing_in BehindHtml []) (T.End ∷ []) = (refl, tt) in
    let last : Accepted (standing_behind first_standing front) (T.End ∷ []) = subst (λ (x : Standing). Accepted x (T.End ∷ [])) (sym there) end in
    let made = page_made (front ++ T.End ∷ []) (formed first_standing (front ++ T.End ∷ []) (lasts_behind front (T.End ∷ []) go_on refl) (accepted_on first_standing front (T.End ∷ []) passed last)) in
    record { parts = made.parts; are = made.are; more = []; spelled = sym made.spelled ∙ sym (append-nil (front ++ T.End ∷ [])) }

-- what a page goes on with tells in which stage it stands
tells_stage : (stage : Stage) (front : List Token) → GoOn front → Accepted first_standing front → standing_behind first_standing front ≡ standing_in stage [] → StandsIn stage front
tells_stage Beginning front g a there = goes_with front T.Doctype (standing_in Beginning []) g a there refl refl
tells_stage BehindDoctype front g a there = (
  goes_with front (start_of (codes "html")) (standing_in BehindDoctype []) g a there refl refl,
  λ (b : BeginsPage (front ++ T.Doctype ∷ [])). no_doctype (may_stand front T.Doctype (standing_in BehindDoctype []) there b),
)
tells_stage InHtml front g a there = goes_with front (start_of (codes "head")) (standing_in InHtml []) g a there refl refl
tells_stage InHead front g a there = goes_with front (end_of (codes "head")) (standing_in InHead []) g a there refl refl
tells_stage BehindHead front g a there = goes_with front (start_of (codes "body")) (standing_in BehindHead []) g a there refl refl
tells_stage InBody front g a there = (
  goes_with front (end_of (codes "body")) (standing_in InBody []) g a there refl refl,
  goes_with front (T.Comment []) (standing_in InBody []) g a there refl refl,
)
tells_stage InScripts front g a there = (
  goes_with front (end_of (codes "body")) (standing_in InScripts []) g a there refl refl,
  λ (b : BeginsPage (front ++ T.Comment [] ∷ [])). no_comment (may_stand front (T.Comment []) (standing_in InScripts []) there b),
)
tells_stage BehindBody front g a there = goes_with front (end_of (codes "html")) (standing_in BehindBody []) g a there refl refl
tells_stage BehindHtml front g a there = ends_whole front g a there

pub stands_at : (front : List Token) → GoOn front → Accepted first_standing front → (r : Reached (standing_behind first_standing front)) → StandsAt front r.stage r.names
stands_at front go_on passed r =
    let ends = ends_of r.names in
    let there : standing_behind first_standing (front ++ ends) ≡ standing_in r.stage [] =
    behind_on first_standing front ends ∙ ap (λ (s : Standing). standing_behind s ends) r.is ∙ all_ends_behind r.stage r.names in
    let closed : Accepted (standing_behind first_standing front) ends = subst (λ (s : Standing). Accepted s ends) (sym r.is) (ends_accepted r.stage r.names) in
    (r.inner, tells_stage r.stage (front ++ ends) (all_go_on front ends go_on (ends_go_on r.names)) (accepted_on first_standing front ends passed closed) there)
