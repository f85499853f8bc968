use Rattle.std.proofs.Common.{◌≡◌, Ok, IsUtf8, ap, ◌∙◌, subst}
use Rattle.rip_data.specs.Datum.{tree_of, canonical_text, data_of}
use Rattle.rip_data.specs.Reading.{answer_long}
use Rattle.rip_data.proofs.TextLaws.{answer_long-canonical_text, same_answer, only_memory}
use Rattle.rip_data.proofs.laws.written_is_read_long.Goals as goal

pub returns-clause-same : goal.returns-clause-same
returns-clause-same c =
    let t = tree_of c.args.d.now in
    let text : c.as_slice.result.now ≡ canonical_text t = c.as_slice.ensures ∙ c.in-Ok.ensures.text in
    let utf8 : IsUtf8 (canonical_text t) = subst IsUtf8 c.in-Ok.ensures.text c.in-Ok.ensures.utf8 in
    let is : answer_long c.as_slice.result.now ≡ Ok (data_of t) = ap answer_long text ∙ answer_long-canonical_text t c.requires.made c.requires.shallow utf8 in
    same_answer c.read_long.result _ t c.requires.made is c.read_long.ensures.ok c.read_long.ensures.made

pub returns-clause-accepted : goal.returns-clause-accepted
returns-clause-accepted c =
    let t = tree_of c.args.d.now in
    let text : c.as_slice.result.now ≡ canonical_text t = c.as_slice.ensures ∙ c.in-Ok.ensures.text in
    let utf8 : IsUtf8 (canonical_text t) = subst IsUtf8 c.in-Ok.ensures.text c.in-Ok.ensures.utf8 in
    let is : answer_long c.as_slice.result.now ≡ Ok (data_of t) = ap answer_long text ∙ answer_long-canonical_text t c.requires.made c.requires.shallow utf8 in
    only_memory c.read_long.result _ t is c.read_long.ensures.err
