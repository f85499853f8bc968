-- Where tokens of which none is refused lead to: a stage of a page, with inner elements open.
use Rattle.std.proofs.Common.{◌≡◌, ℕ, ◌+◌, Bool, true, false, cond, ◌||◌, List, [], ◌∷◌, length, Some, None, ⊎_elim, refl, sym, ap, ◌∙◌, subst, bytes_eq}
use Rattle.std.proofs.lemmas.Bool.{true≢false, false≢true}
use Rattle.std.specs.Prelude.{codes}
use Rattle.std.specs.List.{AllByRecursion}
use Rattle.rip_base.specs.declared.page.PageKind.TheVariants as K
use Rattle.rip_markup.specs.Words.{is_among, refused_names}
use Rattle.rip_markup.specs.declared.tag.StartTag.{StartTag}
use Rattle.rip_markup.specs.declared.token.EndTag.{EndTag}
use Rattle.rip_markup.specs.declared.token.Token.{Token}
use Rattle.rip_markup.specs.declared.token.Token.TheVariants as T
use Rattle.rip_html.specs.Standings.{Standing, first_standing, opened, after}
use Rattle.rip_html.specs.Refusals.{content_kind, body_tag_kind, kind_at}
use Rattle.rip_html.specs.Tags.{part_names, head_names, is_script, is_outside, is_void}
use Rattle.rip_html.proofs.Choice.{either_way, took_none, took_rest, name_is}
use Rattle.rip_html.proofs.Accepting.{Accepted}
use Rattle.rip_law_syntax.specs.Places.{Stage, Beginning, BehindDoctype, InHtml, InHead, BehindHead, InBody, InScripts, BehindBody, BehindHtml, AreInner, standing_in}
use Rattle.rip_law_syntax.proofs.RefusalPassing.{standing_behind, no_kind_at}

-- NAMES OF INNER ELEMENTS

-- what holds of each word holds of one that is among them
among_holds : (words : List (List ℕ)) (name : List ℕ) → AllByRecursion (λ word. is_among part_names word ≡ false) words → is_among words name ≡ true → is_among part_names name ≡ false
among_holds [] name all e = absurd (false≢true e)
among_holds (word ∷ words) name all e =
    ⊎_elim
    (λ (this : bytes_eq name word ≡ true). subst (λ (n : List ℕ). is_among part_names n ≡ false) (sym (name_is name word this)) all.0)
    (λ (other : bytes_eq name word ≡ false). among_holds words name all.1 (sym (ap (λ b. b || is_among words name) other) ∙ e))
    (either_way (bytes_eq name word))

head_inner : (name : List ℕ) → is_among head_names name ≡ true → is_among part_names name ≡ false
unfolding head_names part_names
head_inner name e = among_holds head_names name (refl, (refl, (refl, (refl, (refl, tt))))) e

script_inner : (name : List ℕ) → is_script name ≡ true → is_among part_names name ≡ false
unfolding part_names
script_inner name e = ap (is_among part_names) (name_is name (codes "script") e)

or_false : (a b : Bool) → (a || b) ≡ false → b ≡ false
or_false true b e = absurd (true≢false e)
or_false false b e = e

-- a start tag that may stand in an element is that of an inner one
pub content_inner : (depth : ℕ) (name : List ℕ) → content_kind depth name ≡ None → is_among part_names name ≡ false
content_inner depth name e =
    let one = took_rest (is_script name) K.ScriptNotLast _ e in
    let two = took_rest (is_outside name) K.NotInSubset _ one.1 in
    or_false (is_among refused_names name) (is_among part_names name) two.0

head_tag_inner : (among : Bool) (script : Bool) → cond among None (cond script (Some K.ScriptNotLast) (Some K.NotInSubset)) ≡ None → among ≡ true
head_tag_inner true script e = refl
head_tag_inner false true e = absurd (cc)
head_tag_inner false false e = absurd (cc)

body_inner : (name : List ℕ) → body_tag_kind name ≡ None → is_among part_names name ≡ false
body_inner name e =
    ⊎_elim
    (λ (script : is_script name ≡ true). script_inner name script)
    (λ (other : is_script name ≡ false). content_inner 2 name (sym (ap (λ b. cond b None (content_kind 2 name)) other) ∙ e))
    (either_way (is_script name))

-- STAGES

-- a standing in a stage, with inner elements open
pub record Reached (s : Standing) : Type 0 where
  pub stage : Stage
  pub names : List (List ℕ)
  pub is : s ≡ standing_in stage names
  pub inner : AreInner names

-- behind the start tag of an inner element
opened_reached : (stage : Stage) (names : List (List ℕ)) (name : List ℕ) → AreInner names → is_among part_names name ≡ false → Reached (opened (standing_in stage names).part names name)
opened_reached stage names name all e = by (is_void name)
  where
    by : (b : Bool) → Reached (cond b (standing_in stage names) (standing_in stage (name ∷ names)))
    by true = record { stage = stage; names = names; is = refl; inner = all }
    by false = record { stage = stage; names = name ∷ names; is = refl; inner = (e, all) }

alone_reached : (stage : Stage) → Reached (standing_in stage [])
alone_reached stage = record { stage = stage; names = []; is = refl; inner = tt }

body_reached : (tag : StartTag) → body_tag_kind tag.name ≡ None → Reached (after (standing_in InBody []) (T.StartTag tag))
body_reached tag e = by (is_script tag.name)
  where
    by : (b : Bool) → Reached (opened (cond b (standing_in InScripts []).part (standing_in InBody []).part) [] tag.name)
    by true = opened_reached InScripts [] tag.name tt (body_inner tag.name e)
    by false = opened_reached InBody [] tag.name tt (body_inner tag.name e)

start_reached : (stage : Stage) (tag : StartTag) → kind_at (standing_in stage []).part [] (T.StartTag tag) ≡ None → Reached (after (standing_in stage []) (T.StartTag tag))
start_reached Beginning tag e = alone_reached InHtml
start_reached BehindDoctype tag e = alone_reached InHtml
start_reached InHtml tag e = alone_reached InHead
start_reached InHead tag e = opened_reached InHead [] tag.name tt (head_inner tag.name (head_tag_inner (is_among head_names tag.name) (is_script tag.name) e))
start_reached BehindHead tag e = alone_reached InBody
start_reached InBody tag e = body_reached tag e
start_reached InScripts tag e = opened_reached InScripts [] tag.name tt (script_inner tag.name (took_none (is_script tag.name) K.ScriptNotLast e))
start_reached BehindBody tag e = alone_reached BehindBody
start_reached BehindHtml tag e = alone_reached BehindHtml

end_reached : (stage : Stage) (end : EndTag) → Reached (after (standing_in stage []) (T.EndTag end))
end_reached Beginning end = alone_reached Beginning
end_reached BehindDoctype end = alone_reached BehindDoctype
end_reached InHtml end = alone_reached InHtml
end_reached InHead end = alone_reached BehindHead
end_reached BehindHead end = alone_reached BehindHead
end_reached InBody end = alone_reached BehindBody
end_reached InScripts end = alone_reached BehindBody
end_reached BehindBody end = alone_reached BehindHtml
end_reached BehindHtml end = alone_reached BehindHtml

one_reached : (stage : Stage) (names : List (List ℕ)) (t : Token) → AreInner names → kind_at (standing_in stage names).part names t ≡ None → Reached (after (standing_in stage names) t)
one_reached stage names (T.Text run) all e = record { stage = stage; names = names; is = refl; inner = all }
one_reached stage names (T.Comment units) all e = record { stage = stage; names = names; is = refl; inner = all }
one_reached stage [] (T.StartTag tag) all e = start_reached stage tag e
one_reached stage (name ∷ names) (T.StartTag tag) all e = opened_reached stage (name ∷ names) tag.name all (content_inner (3 + length names) tag.name e)
one_reached stage [] (T.EndTag end) all e = end_reached stage end
one_reached stage (name ∷ names) (T.EndTag end) all e = record { stage = stage; names = names; is = refl; inner = all.1 }
one_reached stage names T.OpenComment all e = record { stage = stage; names = names; is = refl; inner = all }
one_reached stage names T.Doctype all e = record { stage = BehindDoctype; names = names; is = refl; inner = all }
one_reached stage names T.Stray all e = record { stage = stage; names = names; is = refl; inner = all }
one_reached stage names T.End all e = record { stage = stage; names = names; is = refl; inner = all }

next_reached : (s : Standing) (t : Token) → Reached s → kind_at s.part s.open_names t ≡ None → Reached (after s t)
next_reached s t r e =
    let there : kind_at (standing_in r.stage r.names).part r.names t ≡ None = subst (λ (x : Standing). kind_at x.part x.open_names t ≡ None) r.is e in
    subst (λ (x : Standing). Reached (after x t)) (sym r.is) (one_reached r.stage r.names t r.inner there)

reached : (s : Standing) (front : List Token) → Reached s → Accepted s front → Reached (standing_behind s front)
reached s [] r a = r
reached s (t ∷ front) r a = reached (after s t) front (next_reached s t r (no_kind_at s t a.0)) a.1

-- where a token stands behind the first tokens of a page
pub page_reached : (front : List Token) → Accepted first_standing front → Reached (standing_behind first_standing front)
page_reached front a = reached first_standing front (alone_reached Beginning) a
