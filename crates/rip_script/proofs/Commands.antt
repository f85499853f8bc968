-- The words of a command.
use Rattle.std.proofs.Common.{◌≡◌, ℕ, List, [], ◌∷◌}
use Rattle.std.specs.Prelude.{codes, Option, None, Some, IfNone}
use Rattle.rip_script.specs.Words.{IsForm, IsTask, TokensOf, TreeOf, RunOf}
use Rattle.rip_script.specs.declared.words.RunLimits.{RunLimits}

-- words that have none of the three forms
no_form : (words : List (List ℕ)) → ((file : List ℕ) → ¬ (words ≡ codes "tokens" ∷ file ∷ [])) → ((file : List ℕ) → ¬ (words ≡ codes "tree" ∷ file ∷ []))
    → ((file : List ℕ) (limits : RunLimits) → ¬ IsTask words (RunOf file limits)) → ¬ IsForm words
no_form words tokens tree run (TokensOf file, is) = tokens file is
no_form words tokens tree run (TreeOf file, is) = tree file is
no_form words tokens tree run (RunOf file limits, is) = run file limits is

-- the same where the last of the three is found or not
pub no_form_left : {A : Type 0} (r : Option A) (words : List (List ℕ)) → ((file : List ℕ) → ¬ (words ≡ codes "tokens" ∷ file ∷ [])) → ((file : List ℕ) → ¬ (words ≡ codes "tree" ∷ file ∷ []))
    → IfNone r ((file : List ℕ) (limits : RunLimits) → ¬ IsTask words (RunOf file limits)) → IfNone r (¬ IsForm words)
no_form_left None words tokens tree run = no_form words tokens tree run
no_form_left (Some x) words tokens tree run = run
