use Rattle.std.proofs.Common.{◌≡◌, ◌++◌, ◌∙◌, List, ℕ, Some, ap, drop, length, min, rules, sym, take}
use Rattle.std.proofs.lemmas.List.{take-append-drop, take_min}
use Rattle.rip_outer.specs.Memory.{PartState}
use Rattle.rip_outer.proofs.part_sink.PartSinkSink.put.Goals as goal

pub returns-then-fails-clause-taken : goal.returns-then-fails-clause-taken
returns-then-fails-clause-taken c =
    let part = c.self.inside.part in
    let bytes = c.args.bytes.now in
    let added : c.extend_from_slice.new.self.items ≡ c.self.inside.bytes.items ++ take (min part (length bytes)) bytes = search rules in
    let seen : c.self.inside.bytes.items ≡ c.args.self.now.bytes = ap (λ (s : PartState). s.bytes) c.self.view_is in
    record {
      front = take part bytes;
      rest = drop part bytes;
      parts = sym (take-append-drop part bytes);
      added = ap Some (added ∙ ap (λ (xs : List ℕ). xs ++ take (min part (length bytes)) bytes) seen ∙ ap (λ (ys : List ℕ). c.args.self.now.bytes ++ ys) (take_min part bytes));
    }
