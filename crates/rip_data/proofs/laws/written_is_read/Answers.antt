use Rattle.std.proofs.Common.{◌≡◌, Ok, IsUtf8, ap, ◌∙◌, subst}
use Rattle.rip_data.specs.Datum.{tree_of, canonical_text, data_of}
use Rattle.rip_data.specs.Reading.{answer}
use Rattle.rip_data.proofs.TextLaws.{answer-canonical_text, same_answer, only_memory}
use Rattle.rip_data.proofs.laws.written_is_read.Goals as goal

pub returns-clause-same : goal.returns-clause-same
returns-clause-same c =
    let t = tree_of c.args.d.now in
    let text : c.as_slice.result.now ≡ canonical_text t = c.as_slice.ensures ∙ c.in-Ok.ensures.text in
    let utf8 : IsUtf8 (canonical_text t) = subst IsUtf8 c.in-Ok.ensures.text c.in-Ok.ensures.utf8 in
    let is : answer c.as_slice.result.now ≡ Ok (data_of t) = ap answer text ∙ answer-canonical_text t c.requires.made c.requires.shallow c.requires.short utf8 in
    same_answer c.read_datum.result _ t c.requires.made is c.read_datum.ensures.ok c.read_datum.ensures.made

pub returns-clause-accepted : goal.returns-clause-accepted
returns-clause-accepted c =
    let t = tree_of c.args.d.now in
    let text : c.as_slice.result.now ≡ canonical_text t = c.as_slice.ensures ∙ c.in-Ok.ensures.text in
    let utf8 : IsUtf8 (canonical_text t) = subst IsUtf8 c.in-Ok.ensures.text c.in-Ok.ensures.utf8 in
    let is : answer c.as_slice.result.now ≡ Ok (data_of t) = ap answer text ∙ answer-canonical_text t c.requires.made c.requires.shallow c.requires.short utf8 in
    only_memory c.read_datum.result _ t is c.read_datum.ensures.err
