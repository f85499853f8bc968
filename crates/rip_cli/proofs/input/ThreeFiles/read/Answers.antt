use Rattle.std.proofs.Common.{[], ◌∷◌, refl}
use Rattle.rip_outer.proofs.Composing.{also-nil}
use Rattle.rip_cli.proofs.AskedLemmas.{asked_part, asked_err}
use Rattle.rip_cli.proofs.input.ThreeFiles.read.Goals as goal

pub returns-in_err-app-clause-asked : goal.returns-in_err-app-clause-asked
returns-in_err-app-clause-asked g c =
    let a = c.args in
    asked_err c.from_residual.result _ _ _ c.from_residual.ensures.0
    (asked_part [] (a.page.now ∷ a.manifest.now ∷ []) (a.third.now ∷ []) _ (g.F.Files.asked a.files.now) (g.F.Files.asked a.files.now) (g.F.Files.asked c.read.new.files) (also-nil _) c.in_err-app.ensures.asked refl)

pub returns-in_err-third-clause-asked : goal.returns-in_err-third-clause-asked
returns-in_err-third-clause-asked g c =
    let a = c.args in
    asked_err c.from_residual-in_err-third.result _ _ _ c.from_residual-in_err-third.ensures.0
    (asked_part (a.page.now ∷ a.manifest.now ∷ []) (a.third.now ∷ []) [] _ (g.F.Files.asked a.files.now) (g.F.Files.asked c.read.new.files) (g.F.Files.asked c.read_content.new.files) c.in_ok-app.ensures.asked c.in_err-third.ensures.asked refl)
