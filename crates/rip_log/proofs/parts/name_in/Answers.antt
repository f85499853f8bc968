use Rattle.std.proofs.Common.{refl, sym, subst, rules}
use Rattle.std.proofs.lemmas.Bool.{false≢true}
use Rattle.rip_data.specs.Datum.{tree_of}
use Rattle.rip_wire.specs.Names.{IsName}
use Rattle.rip_log.proofs.PartLemmas.{no_name, no_text, other_name}
use Rattle.rip_log.proofs.parts.name_in.Goals as goal

pub returns-in_err-datum_in-clause-other : goal.returns-in_err-datum_in-clause-other
returns-in_err-datum_in-clause-other c = λ err. no_name c.args.word.now (c.in_err-datum_in.ensures.other (search rules))

pub returns-in_default-clause-other : goal.returns-in_default-clause-other
returns-in_default-clause-other c =
    λ err. no_text c.args.word.now (tree_of c.in_ok-datum_in.field-0) c.in_ok-datum_in.ensures.is c.in_ok-datum_in.ensures.made (c.in_default.ensures.none refl)

pub returns-else-is_name-clause-other : goal.returns-else-is_name-clause-other
returns-else-is_name-clause-other c =
    λ err. other_name c.args.word.now (tree_of c.in_ok-datum_in.field-0) c.in-Some.name c.in_ok-datum_in.ensures.is c.in_ok-datum_in.ensures.made c.in-Some.ensures.some
    (λ h. false≢true (c.if-is_name.ensures.1 (subst IsName (sym c.as_slice.ensures) h)))
