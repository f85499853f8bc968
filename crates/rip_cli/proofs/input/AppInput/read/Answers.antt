use Rattle.std.proofs.Common.{[], ◌∷◌, refl}
use Rattle.rip_outer.proofs.Composing.{also-nil}
use Rattle.rip_cli.proofs.AskedLemmas.{asked_part, asked_err}
use Rattle.rip_cli.proofs.input.AppInput.read.Goals as goal

pub returns-in_err-page-clause-asked : goal.returns-in_err-page-clause-asked
returns-in_err-page-clause-asked g c =
    let a = c.args in
    asked_err c.from_residual.result _ _ _ c.from_residual.ensures.0
    (asked_part [] (a.page.now ∷ []) (a.manifest.now ∷ []) _ (g.F.Files.asked a.files.now) (g.F.Files.asked a.files.now) (g.F.Files.asked c.read_content.new.files) (also-nil _) c.in_err-page.ensures.asked refl)

pub returns-in_err-manifest-clause-asked : goal.returns-in_err-manifest-clause-asked
returns-in_err-manifest-clause-asked g c =
    let a = c.args in
    asked_err c.from_residual-in_err-manifest.result _ _ _ c.from_residual-in_err-manifest.ensures.0
    (asked_part (a.page.now ∷ []) (a.manifest.now ∷ []) [] _ (g.F.Files.asked a.files.now) (g.F.Files.asked c.read_content.new.files) (g.F.Files.asked c.read_content-2.new.files) c.in_ok-page.ensures.asked c.in_err-manifest.ensures.asked refl)
