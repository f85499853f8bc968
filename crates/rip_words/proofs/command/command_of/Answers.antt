use Rattle.std.specs.Prelude.{string_bytes, codes}
use Rattle.std.proofs.Common.{◌≡◌, ◌∷◌, List, ℕ, map, sym, ap, ◌∙◌, rules}
use Rattle.rip_words.proofs.WordLemmas.{only_replays, only_serves, behind_one, rest_of}
use Rattle.rip_words.proofs.command.command_of.Goals as goal

pub returns-in-replay-clause-other : goal.returns-in-replay-clause-other
returns-in-replay-clause-other c =
    let rest = map string_bytes (rest_of 1 c.args.words.now) in
    let spelled : c.as_str.result.now ≡ codes "replay" = search rules in
    let command : string_bytes c.command-item.result ≡ codes "replay" = sym c.as_str.ensures.value ∙ spelled in
    let is = behind_one string_bytes c.args.words.now c.command-item.result c.in-len1-up.len_at_least c.command-item.is ∙ ap (λ (w : List ℕ). w ∷ rest) command in
    λ none. only_replays (map string_bytes c.args.words.now) rest is (c.replay_of.ensures.other none)

pub returns-in-serve-clause-other : goal.returns-in-serve-clause-other
returns-in-serve-clause-other c =
    let rest = map string_bytes (rest_of 1 c.args.words.now) in
    let spelled : c.as_str.result.now ≡ codes "serve" = search rules in
    let command : string_bytes c.command-item.result ≡ codes "serve" = sym c.as_str.ensures.value ∙ spelled in
    let is = behind_one string_bytes c.args.words.now c.command-item.result c.in-len1-up.len_at_least c.command-item.is ∙ ap (λ (w : List ℕ). w ∷ rest) command in
    λ none. only_serves (map string_bytes c.args.words.now) rest is (c.serve_of.ensures.other none)
