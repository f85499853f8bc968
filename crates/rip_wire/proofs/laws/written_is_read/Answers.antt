use Rattle.std.proofs.Common.{◌≡◌, ◌∙◌, sym, subst, IsUtf8}
use Rattle.rip_wire.specs.Batches.{contents_of, batch_text}
use Rattle.rip_wire.proofs.LawLemmas.{spelled, read_same, read_accepted}
use Rattle.rip_wire.proofs.laws.written_is_read.Goals as goal

pub returns-clause-same : goal.returns-clause-same
returns-clause-same c =
    let b = contents_of c.args.b.now in
    let text : c.as_slice.result.now ≡ batch_text b = c.as_slice.ensures ∙ c.in-Ok.ensures.text in
    let utf8 : IsUtf8 c.as_slice.result.now = subst IsUtf8 (sym c.as_slice.ensures) c.in-Ok.ensures.utf8 in
    read_same c.read_batch.result _ b (spelled b c.requires.in_range _ text utf8) c.read_batch.ensures.ok

pub returns-clause-accepted : goal.returns-clause-accepted
returns-clause-accepted c =
    let b = contents_of c.args.b.now in
    let text : c.as_slice.result.now ≡ batch_text b = c.as_slice.ensures ∙ c.in-Ok.ensures.text in
    let utf8 : IsUtf8 c.as_slice.result.now = subst IsUtf8 (sym c.as_slice.ensures) c.in-Ok.ensures.utf8 in
    read_accepted c.read_batch.result _ b (spelled b c.requires.in_range _ text utf8) c.read_batch.ensures.body
