-- Which tokens begin a page: those of which none is refused, and none is the last.
use Rattle.std.proofs.Common.{◌≡◌, ℕ, cond, List, [], ◌∷◌, ◌++◌, Some, None, refl, sym, ap, ◌∙◌, subst, append_assoc}
use Rattle.std.specs.Prelude.{codes}
use Rattle.rip_base.specs.declared.page.PageKind.TheVariants as K
use Rattle.rip_markup.specs.declared.token.Token.{Token}
use Rattle.rip_markup.specs.declared.token.Token.TheVariants as T
use Rattle.rip_html.specs.Forests.{end_of}
use Rattle.rip_html.specs.Standings.{Standing, first_standing}
use Rattle.rip_html.specs.Refusals.{end_kind, refusal_at}
use Rattle.rip_html.proofs.Choice.{both_none, same_name}
use Rattle.rip_html.proofs.Accepting.{Accepted, accepts_page}
use Rattle.rip_html.proofs.Forming.{Lasts, formed, page_made}
use Rattle.rip_law_syntax.specs.Fronts.{BeginsPage}
use Rattle.rip_law_syntax.specs.Places.{Stage, Beginning, BehindDoctype, InHtml, InHead, BehindHead, InBody, InScripts, BehindBody, BehindHtml, start_of, standing_in}
use Rattle.rip_law_syntax.proofs.RefusalPassing.{standing_behind, GoOn, lasts_behind, accepted_on, accepted_behind}
use Rattle.rip_law_syntax.proofs.Reaching.{page_reached}

-- tokens that end a page, from each stage on
abbrev ended : List Token
ended = T.End ∷ []

abbrev closing : List Token
closing = end_of (codes "html") ∷ ended

abbrev body : List Token
body = end_of (codes "body") ∷ closing

abbrev before_body : List Token
before_body = start_of (codes "body") ∷ body

abbrev head : List Token
head = end_of (codes "head") ∷ before_body

abbrev before_head : List Token
before_head = start_of (codes "head") ∷ head

abbrev before_html : List Token
before_html = start_of (codes "html") ∷ before_head

abbrev stage_rest : Stage → List Token
stage_rest Beginning = before_html
stage_rest BehindDoctype = before_html
stage_rest InHtml = before_head
stage_rest InHead = head
stage_rest BehindHead = before_body
stage_rest InBody = body
stage_rest InScripts = body
stage_rest BehindBody = closing
stage_rest BehindHtml = ended

-- the same within elements of these names, the innermost first
abbrev page_rest : Stage → List (List ℕ) → List Token
page_rest stage [] = stage_rest stage
page_rest stage (name ∷ names) = end_of name ∷ page_rest stage names

stage_lasts : (stage : Stage) → Lasts (stage_rest stage)
stage_lasts Beginning = refl
stage_lasts BehindDoctype = refl
stage_lasts InHtml = refl
stage_lasts InHead = refl
stage_lasts BehindHead = refl
stage_lasts InBody = refl
stage_lasts InScripts = refl
stage_lasts BehindBody = refl
stage_lasts BehindHtml = refl

rest_lasts : (stage : Stage) (names : List (List ℕ)) → Lasts (page_rest stage names)
rest_lasts stage [] = stage_lasts stage
rest_lasts stage (name ∷ names) = rest_lasts stage names

accepts_ended : Accepted (standing_in BehindHtml []) ended
accepts_ended = (refl, tt)

accepts_closing : Accepted (standing_in BehindBody []) closing
accepts_closing = (refl, accepts_ended)

accepts_body : Accepted (standing_in InBody []) body
accepts_body = (refl, accepts_closing)

accepts_before_body : Accepted (standing_in BehindHead []) before_body
accepts_before_body = (refl, accepts_body)

accepts_head : Accepted (standing_in InHead []) head
accepts_head = (refl, accepts_before_body)

accepts_before_head : Accepted (standing_in InHtml []) before_head
accepts_before_head = (refl, accepts_head)

stage_accepts : (stage : Stage) → Accepted (standing_in stage []) (stage_rest stage)
stage_accepts Beginning = (refl, accepts_before_head)
stage_accepts BehindDoctype = (refl, accepts_before_head)
stage_accepts InHtml = accepts_before_head
stage_accepts InHead = accepts_head
stage_accepts BehindHead = accepts_before_body
stage_accepts InBody = accepts_body
stage_accepts InScripts = (refl, accepts_closing)
stage_accepts BehindBody = accepts_closing
stage_accepts BehindHtml = accepts_ended

pub closes : (stage : Stage) (name : List ℕ) (names : List (List ℕ)) → refusal_at (standing_in stage (name ∷ names)) (end_of name) ≡ None
closes stage name names =
    let fits : end_kind K.Misnested name name ≡ None = ap (λ b. cond b None (Some K.Misnested)) (same_name name) in
    both_none _ _ _ fits refl

rest_accepts : (stage : Stage) (names : List (List ℕ)) → Accepted (standing_in stage names) (page_rest stage names)
rest_accepts stage [] = stage_accepts stage
rest_accepts stage (name ∷ names) = (closes stage name names, rest_accepts stage names)

-- tokens of which none is refused, and none is the last, begin a page
pub begins_page : (front : List Token) → GoOn front → Accepted first_standing front → BeginsPage front
begins_page front go_on passed =
    let r = page_reached front passed in
    let rest = page_rest r.stage r.names in
    let last = lasts_behind front rest go_on (rest_lasts r.stage r.names) in
    let behind : Accepted (standing_behind first_standing front) rest = subst (λ (s : Standing). Accepted s rest) (sym r.is) (rest_accepts r.stage r.names) in
    let made = page_made (front ++ rest) (formed first_standing (front ++ rest) last (accepted_on first_standing front rest passed behind)) in
    record { parts = made.parts; are = made.are; more = rest; spelled = sym made.spelled }

-- a token with which a page goes on is not refused
pub not_refused : (front : List Token) (t : Token) → BeginsPage (front ++ t ∷ []) → refusal_at (standing_behind first_standing front) t ≡ None
not_refused front t b =
    let whole : Accepted first_standing ((front ++ t ∷ []) ++ b.more) = subst (Accepted first_standing) b.spelled (accepts_page b.parts b.are) in
    let all : Accepted first_standing (front ++ t ∷ b.more) = subst (Accepted first_standing) (append_assoc front (t ∷ []) b.more) whole in
    (accepted_behind first_standing front (t ∷ b.more) all).0

-- what begins the beginning of a page begins it
pub begins_before : (front more : List Token) → BeginsPage (front ++ more) → BeginsPage front
begins_before front more b = record { parts = b.parts; are = b.are; more = more ++ b.more; spelled = b.spelled ∙ append_assoc front more b.more }
