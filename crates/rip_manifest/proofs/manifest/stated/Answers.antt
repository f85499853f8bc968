use Rattle.serde_json.specs.View.{view}
use Rattle.rip_manifest.specs.Reading.{parts_view}
use Rattle.rip_manifest.proofs.AnswerLemmas.{IsJson-unique, statement_of}
use Rattle.rip_manifest.proofs.manifest.stated.Goals as goal

pub returns-in_default : goal.returns-in_default
returns-in_default c = λ stated h.
    let bytes = c.args.bytes.now in
    c.in_default.ensures.none h.0 (rw (IsJson-unique bytes h.1.0 (view c.in-Ok.value) h.1.1 c.in-Ok.ensures.found) at h.1.2)

pub returns : goal.returns
returns c =
    statement_of c.args.bytes.now (view c.in-Ok.value) (parts_view c.in-Some.parts) c.stated_of.result c.in-Ok.ensures.found c.in-Some.ensures.found c.stated_of.ensures.found c.stated_of.ensures.none
