use Rattle.std.proofs.Common.{◌≡◌, true, rules}
use Rattle.rip_http.proofs.StageLemmas.{message_stands}
use Rattle.rip_http.proofs.stage.Awaited.front.Goals as goal

pub returns-in-Err : goal.returns-in-Err
returns-in-Err c =
    let come : c.has_come.result ≡ true = search rules in
    message_stands c.args.bytes.now c.args.self.now c.requires (c.has_come.ensures.0 come)
