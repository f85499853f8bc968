use Rattle.std.proofs.Common.{ap, sym, ◌∙◌}
use Rattle.rip_data.specs.Datum.{tree_of, array, object, elements_of, fields_of}
use Rattle.rip_data.proofs.DataLemmas.{tree_of-array, tree_of-object, tree_of-Fields, tree_of-List}
use Rattle.rip_data.proofs.copy.+copy.Goals as goal

pub copy_datum-returns-in_ok-items-in-List : goal.copy_datum-returns-in_ok-items-in-List
copy_datum-returns-in_ok-items-in-List t c =
    tree_of-List c.in_ok-items-in-List.items
    ∙ ap (λ ts. array (elements_of ts)) c.in_ok-items-in-List.ensures
    ∙ sym (ap tree_of c.in-List.is ∙ tree_of-array c.in-List.list)

pub copy_datum-returns-in_ok-fields-in-Fields : goal.copy_datum-returns-in_ok-fields-in-Fields
copy_datum-returns-in_ok-fields-in-Fields t c =
    tree_of-Fields c.in_ok-fields-in-Fields.fields
    ∙ ap (λ fs. object (fields_of fs)) c.in_ok-fields-in-Fields.ensures
    ∙ sym (ap tree_of c.in-Fields.is ∙ tree_of-object c.in-Fields.object)
