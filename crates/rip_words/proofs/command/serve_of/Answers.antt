use Rattle.std.specs.Prelude.{string_bytes, codes}
use Rattle.std.proofs.Common.{◌≡◌, List, ℕ, map, refl, sym, subst}
use Rattle.rip_words.specs.Commands.{IsOption}
use Rattle.rip_words.proofs.WordLemmas.{behind_three, behind_names}
use Rattle.rip_words.proofs.command.serve_of.Goals as goal

pub returns-in_err-turns_in-clause-other : goal.returns-in_err-turns_in-clause-other
returns-in_err-turns_in-clause-other c =
    λ none page app third turns h.
    let behind = behind_three string_bytes c.args.words.now page app third h.0 (behind_names (codes "serve") (map string_bytes c.args.words.now) h.0 page app third h.1) in
    c.in_err-turns_in.ensures.other refl turns (subst (λ (x : List (List ℕ)). IsOption x 9007199254740991 turns) (sym behind) h.2)
