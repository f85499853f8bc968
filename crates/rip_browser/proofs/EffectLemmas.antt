-- The effect of a report keeps what a browser goes with.
use Rattle.std.specs.Prelude.{not}
use Rattle.std.proofs.Common.{◌≡◌, ℕ, pos, if◌then◌else◌, ◌+◌, ◌<◌, Bool, true, false, Option, None, Some, Result, Ok, Err, length, refl, sym, ap, ◌∙◌, subst, arith, true≢false}
use Rattle.std.proofs.lemmas.List.{length-set}
use Rattle.rip_base.specs.declared.report.EventKind.{EventKind}
use Rattle.rip_base.specs.declared.report.EventKind.TheVariants.{Click, Focus, Blur, Submit, Change, Input}
use Rattle.rip_base.specs.declared.report.Report.{Report}
use Rattle.rip_base.specs.declared.value.Refused.{Refused}
use Rattle.rip_base.specs.declared.value.Refused.TheVariants.{Limit as At, Memory}
use Rattle.rip_values.specs.Pool.{Texts, span_behind, with_text}
use Rattle.rip_heap.specs.Growth.{Grows}
use Rattle.rip_heap.specs.Lending.{PoolGrows, with_pool}
use Rattle.rip_heap.specs.World.{World}
use Rattle.rip_dom.specs.Tree.{Tree}
use Rattle.rip_forms.specs.declared.state.FormState.{FormState}
use Rattle.rip_forms.specs.declared.state.FormState.TheVariants.{Value, Checked, Selected}
use Rattle.rip_forms.specs.Controls.{is_checkbox, part_of}
use Rattle.rip_forms.specs.Reports.{Applies, changed, clicked, effect_by, effect_of, is_past, text_of}
use Rattle.rip_forms.specs.Reports.{World as FormWorld}
use Rattle.rip_forms.specs.States.{States, state_at, state_with, states_with}
use Rattle.rip_forms.specs.Values.{checked_of}
use Rattle.rip_nodes.specs.Answers.{AddsTexts}
use Rattle.rip_nodes.proofs.AddsLemmas.{adds-text}
use Rattle.rip_nodes.proofs.PoolLemmas.{same-grows, text-grows}
use Rattle.rip_host.specs.declared.browser.Browser.{Browser}
use Rattle.rip_host.specs.Stays.{fits-stays}
use Rattle.rip_host.specs.Visit.{Fits}
use Rattle.rip_host.proofs.FitsLemmas.{adds-same}
use Rattle.rip_browser.specs.Events.{browser_after, effect, with_forms, world_after}

-- NO STATE IS MADE OR LOST

pub length-with : (f : States) (n : ℕ) (set : FormState) → length (states_with f n set).nodes ≡ length f.nodes
length-with f n set = length-set f.nodes n (state_with set (state_at f n))

length-turned : (b : Bool) (f g : States) → length g.nodes ≡ length f.nodes → length (if b then g else f).nodes ≡ length f.nodes
length-turned true f g e = e
length-turned false f g e = refl

length-changed : (f : States) (n : ℕ) (place : Option ℕ) → length (changed f n place).nodes ≡ length f.nodes
length-changed f n None = refl
length-changed f n (Some k) = length-with f n (Selected (pos k))

length-by : (kind : EventKind) (t : Tree) (w : FormWorld) (r : Report) → length (effect_by kind t w r).states.nodes ≡ length w.states.nodes
length-by Click t w r =
    let was = checked_of w.pool t w.states r.node in
    length-turned (is_checkbox (part_of w.pool t r.node)) w.states (record (states_with w.states r.node (Checked (not was))) { before_click = was })
    (length-with w.states r.node (Checked (not was)))
length-by Change t w r = length-changed w.states r.node r.place
length-by Input t w r = length-with w.states r.node (Value (span_behind w.pool (text_of r)))
length-by Focus t w r = refl
length-by Blur t w r = refl
length-by Submit t w r = refl

-- THE WORLD GROWS

adds-by : (kind : EventKind) (t : Tree) (w : World) (f : States) (r : Report) → AddsTexts w (with_pool w (effect_by kind t (record { pool = w.pool; states = f }) r).pool)
adds-by Click t w f r = adds-same w w.pool refl
adds-by Change t w f r = adds-same w w.pool refl
adds-by Input t w f r = adds-text w (with_pool w (with_text w.pool (text_of r) (length (text_of r)))) (text_of r) (length (text_of r)) refl
adds-by Focus t w f r = adds-same w w.pool refl
adds-by Blur t w f r = adds-same w w.pool refl
adds-by Submit t w f r = adds-same w w.pool refl

pub grows-after : (w : World) (s : Browser) (r : Report) → Grows w (world_after w s r)
grows-after w s r = (adds-by r.kind s.dom w s.forms r).grows

grows-by : (kind : EventKind) (t : Tree) (w : FormWorld) (r : Report) → PoolGrows w.pool (effect_by kind t w r).pool
grows-by Click t w r = same-grows w.pool w.pool refl
grows-by Change t w r = same-grows w.pool w.pool refl
grows-by Input t w r = text-grows w.pool (with_text w.pool (text_of r) (length (text_of r))) (text_of r) (length (text_of r)) refl
grows-by Focus t w r = same-grows w.pool w.pool refl
grows-by Blur t w r = same-grows w.pool w.pool refl
grows-by Submit t w r = same-grows w.pool w.pool refl

-- what is applied only adds texts to the pool
pub applied-grows : (t : Tree) (r : Report) (old : FormWorld) (result : Result (Unit {0}) Refused) (new : FormWorld) → Applies (is_past old.pool r) (effect_of t old r) old result new → PoolGrows old.pool new.pool
applied-grows t r old (Ok done) new h = let P : FormWorld → Type 0 = λ w. PoolGrows old.pool w.pool in subst P (sym h.1) (grows-by r.kind t old r)
applied-grows t r old (Err (At l)) new h = same-grows old.pool new.pool (ap (λ (w : FormWorld). w.pool) h.2)
applied-grows t r old (Err Memory) new h = absurd h

-- THE BROWSER STILL FITS

pub fits-forms : (s : Browser) (w : World) (f : States) → Fits s w → length f.nodes ≡ length s.forms.nodes → Fits (with_forms s f) w
fits-forms s w f h e = record {
  nodes = h.nodes;
  body = h.body;
  class = h.class;
  class_stands = h.class_stands;
  form_room = omega (arith, e, h.form_room);
  listener_room = h.listener_room;
  listener_nodes = h.listener_nodes;
  listeners_charged = h.listeners_charged;
  event_room = h.event_room;
  events_charged = h.events_charged;
  events_made = h.events_made;
  event_nodes = h.event_nodes;
  listeners_on_nodes = h.listeners_on_nodes;
  callbacks = h.callbacks;
  reply_callbacks = h.reply_callbacks;
}

pub fits-after : (s : Browser) (w : World) (r : Report) → Fits s w → Fits (browser_after w s r) (world_after w s r)
fits-after s w r h =
    let g = grows-after w s r in
    let k = fits-stays s w (world_after w s r) h g in
    fits-forms s (world_after w s r) (effect w s r).states k (length-by r.kind s.dom (record { pool = w.pool; states = s.forms }) r)

-- what is applied within the limit is the effect
applied : (past : Bool) (made old new : FormWorld) (result : Result (Unit {0}) Refused) → Applies past made old result new → past ≡ false → new ≡ made
applied past made old new (Ok done) h e = h.1
applied past made old new (Err (At l)) h e = absurd (true≢false (sym h.0 ∙ e))
applied past made old new (Err Memory) h e = absurd h

fits-applied : (s : Browser) (w : World) (r : Report) (past : Bool) (pool : Texts) (forms : States) (result : Result (Unit {0}) Refused) → Fits s w
    → Applies past (effect w s r) (record { pool = w.pool; states = s.forms }) result (record { pool = pool; states = forms }) → past ≡ false
    → Fits (with_forms s forms) (with_pool w pool)
fits-applied s w r past pool forms result h a e =
    let P : FormWorld → Type 0 = λ m. Fits (with_forms s m.states) (with_pool w m.pool) in
    let k : P (effect w s r) = fits-after s w r h in
    subst P (sym (applied past (effect w s r) (record { pool = w.pool; states = s.forms }) (record { pool = pool; states = forms }) result a e)) k

-- the same of a pool that was lent
pub fits-lent : (s : Browser) (w : World) (r : Report) (p pool : Texts) (forms : States) (result : Result (Unit {0}) Refused) → p ≡ w.pool → Fits s w
    → Applies (is_past p r) (effect_of s.dom (record { pool = p; states = s.forms }) r) (record { pool = p; states = s.forms }) result (record { pool = pool; states = forms })
    → is_past w.pool r ≡ false → Fits (with_forms s forms) (with_pool w pool)
fits-lent s w r p pool forms result same h a e =
    let P : Texts → Type 0 = λ q. Applies (is_past q r) (effect_of s.dom (record { pool = q; states = s.forms }) r) (record { pool = q; states = s.forms }) result (record { pool = pool; states = forms }) in
    fits-applied s w r (is_past w.pool r) pool forms result h (subst P same a) e
