use Rattle.std.proofs.Common.{Ok, sym, ap, ◌∙◌}
use Rattle.rip_values.specs.Pool.{text_at}
use Rattle.rip_data.specs.Datum.{utf8_of}
use Rattle.rip_convert.specs.Told.{IsCallOf}
use Rattle.rip_convert.proofs.Calling.{calls_are_told, line_of_call, least_of_call}
use Rattle.rip_convert.proofs.row.CallRow.write_call.Goals as goal

pub returns : goal.returns
returns c =
    let name = utf8_of (text_at c.args.heap.now.pool c.args.name) in
    let same = c.as_slice.ensures.value in
    let text = c.in_ok-fill.ensures.text ∙ ap Ok (sym same) in
    let told : IsCallOf name c.as_slice.result.now = calls_are_told c.args.heap.now c.args.name c.args.args c.as_slice.result.now text in record {
      text = text;
      told = told;
      line = line_of_call name c.as_slice.result.now told;
      least = least_of_call name c.as_slice.result.now told;
    }
