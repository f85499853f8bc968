use Rattle.std.proofs.Common.{◌≡◌, true, false, ℕ, Option, List, ap, ◌∙◌}
use Rattle.std.specs.Prelude.{option_map}
use Rattle.std.specs.Int.{from_be_bytes, w128}
use Rattle.uuid.specs.Text.{parsed}
use Rattle.rip_history.specs.Requests.{named_by, session_named}
use Rattle.rip_server.proofs.DecidedLemmas.{none_named}
use Rattle.rip_server.proofs.turn.decide.named.Goals as goal

pub returns-in-Ok : goal.returns-in-Ok
returns-in-Ok g c = λ limit h kept.
    c.named.ensures limit h kept ∙ ap (λ (id : ℕ). session_named id h) c.as_u128.ensures ∙ ap (λ (o : Option (List ℕ)). named_by (option_map (from_be_bytes w128) o) h) c.in-Ok.ensures.bytes

pub returns-in-Err : goal.returns-in-Err
returns-in-Err g c = λ limit h kept. none_named (parsed c.args.segment.now) h (λ u e. (let bad : false ≡ true = c.in-Err.ensures.ok.1 (u, e) in cc))
