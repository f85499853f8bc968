use Rattle.std.proofs.Common.{◌≡◌, ℕ, List, Option, sym, subst}
use Rattle.rip_base.specs.declared.report.EventKind.{EventKind}
use Rattle.rip_trace.specs.Gestures.{IsTarget}
use Rattle.rip_trace.proofs.GestureLemmas.{NoTarget, bare_only, bare_kind, passed_on}
use Rattle.rip_trace.proofs.LineLemmas.{none_is}
use Rattle.rip_trace.proofs.gesture_line.target_in.Goals as goal

pub returns-in-Input-clause-other : goal.returns-in-Input-clause-other
returns-in-Input-clause-other c = λ err. subst (NoTarget c.args.bytes.now) (sym c.in-Input.is) (c.input_in.ensures.other err)

pub returns-in-Change-clause-other : goal.returns-in-Change-clause-other
returns-in-Change-clause-other c = λ err. subst (NoTarget c.args.bytes.now) (sym c.in-Change.is) (c.change_in.ensures.none (none_is c.change_in.result (c.or_other.ensures.err err)))

pub returns-in-Click : goal.returns-in-Click
returns-in-Click c =
    let other = bare_kind c.args.kind c.in-Click.is in
    record {
      kind = passed_on (λ r. r.kind ≡ c.args.kind) c.bare_in.result c.or_other-in-Click.result c.or_other-in-Click.ensures.ok c.bare_in.ensures.kind;
      is = passed_on (λ r. IsTarget c.args.bytes.now r.kind r.node r.text r.place) c.bare_in.result c.or_other-in-Click.result c.or_other-in-Click.ensures.ok c.bare_in.ensures.is;
      other = λ err. bare_only c.args.bytes.now c.args.kind other.0 other.1 (c.bare_in.ensures.none (none_is c.bare_in.result (c.or_other-in-Click.ensures.err err)));
    }
