-- Laws of states.
use Rattle.std.proofs.Common.{◌≡◌, ℕ, ◌<◌, Bool, true, cond, length, Option, Some, set, refl, sym, ap, ◌∙◌, length-set, get_or-set_same, get_or-set_other}
use Rattle.std.specs.Prelude.{unwrap_or, not, codes}
use Rattle.std.proofs.lemmas.Bool.{cond-true}
use Rattle.rip_values.specs.Pool.{Texts}
use Rattle.rip_dom.specs.Tree.{Tree}
use Rattle.rip_forms.specs.declared.state.ControlState.{ControlState}
use Rattle.rip_forms.specs.declared.state.FormState.{FormState}
use Rattle.rip_forms.specs.declared.state.FormState.TheVariants.{Checked}
use Rattle.rip_forms.specs.Controls.{has_attribute, is_checkbox, part_of}
use Rattle.rip_forms.specs.Laws.{ClicksAreUndone, StatesAreRead}
use Rattle.rip_forms.specs.Reports.{clicked}
use Rattle.rip_forms.specs.States.{States, no_state, state_at, state_with, states_with}
use Rattle.rip_forms.specs.Values.{checked_of}

same-read : (f : States) (n : ℕ) (s : FormState) → n < length f.nodes → state_at (states_with f n s) n ≡ state_with s (state_at f n)
same-read f n s h = get_or-set_same f.nodes n (state_with s (state_at f n)) no_state h

pub states-read : StatesAreRead
states-read f n s h = (
  same-read f n s h,
  (λ m d. get_or-set_other f.nodes n m (state_with s (state_at f n)) no_state d),
  length-set f.nodes n (state_with s (state_at f n)),
)

pub clicks-undone : ClicksAreUndone
clicks-undone pool t f g n is h e =
    ap (λ (s : ControlState). unwrap_or s.checked (has_attribute pool t n (codes "checked"))) (same-read g n (Checked g.before_click) h)
    ∙ e
    ∙ ap (λ (s : States). s.before_click) (cond-true (is_checkbox (part_of pool t n)) (record (states_with f n (Checked (not (checked_of pool t f n)))) { before_click = checked_of pool t f n }) f is)
