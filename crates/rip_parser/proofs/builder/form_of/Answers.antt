use Rattle.std.proofs.Common.{◌≡◌, ◌++◌, [], List, ℕ, Some, sym, ap, ◌∙◌, append-nil}
use Rattle.rip_tree.specs.Making.{Growth}
use Rattle.rip_parser.specs.Building.{plain_form}
use Rattle.rip_parser.proofs.Textless.{plain-put, plain-told}
use Rattle.rip_parser.proofs.builder.form_of.Goals as goal

pub returns-in-Some : goal.returns-in-Some
returns-in-Some c =
    let told : plain_form c.args.head ≡ Some c.in-Some.form = sym c.plain_form.ensures ∙ c.in-Some.is in
    let maker : Growth = c.args.maker.now in
    record {
      is_form = λ more. plain-told c.args.script.now (maker.units ++ more) c.args.head c.in-Some.form told;
      grown = ([], ap (λ us. record { total = maker.total; branches = maker.branches; units = us }) (sym (append-nil maker.units)));
      put = plain-put c.args.head c.in-Some.form maker.units told;
      refused = tt;
    }
