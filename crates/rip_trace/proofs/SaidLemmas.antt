-- Texts that are written piece by piece.
use Rattle.std.proofs.Common.{◌≡◌, ℕ, zero, suc, ◌+◌, List, [], ◌∷◌, ◌++◌, codes, decimal, refl, sym, ap, ◌∙◌, append_assoc, add-one}
use Rattle.rip_trace.specs.Said.{quiet_lines}

pub opening_is : (a b c d e f : List ℕ) → ((((a ++ b) ++ c) ++ d) ++ e) ++ f ≡ a ++ (b ++ (c ++ (d ++ (e ++ f))))
opening_is a b c d e f = simp append_assoc

pub ended_is : (a b c d e f : List ℕ) → ((((a ++ b) ++ c) ++ d) ++ e) ++ f ≡ a ++ (b ++ (c ++ (d ++ (e ++ f))))
ended_is a b c d e f = simp append_assoc

pub batch_is : (a b c d e f g h : List ℕ) → ((((((a ++ b) ++ c) ++ d) ++ e) ++ f) ++ g) ++ h ≡ a ++ (b ++ (c ++ (d ++ (e ++ (f ++ (g ++ h))))))
batch_is a b c d e f g h = simp append_assoc

-- one line more, behind the others
quiet_last : (n : ℕ) → quiet_lines n ++ codes "quiet\n" ≡ codes "quiet\n" ++ quiet_lines n
quiet_last zero = refl
quiet_last (suc n) = append_assoc (codes "quiet\n") (quiet_lines n) (codes "quiet\n") ∙ ap (λ xs. codes "quiet\n" ++ xs) (quiet_last n)

pub quiet_more : (a : List ℕ) (n : ℕ) → (a ++ quiet_lines n) ++ codes "quiet\n" ≡ a ++ quiet_lines (n + 1)
quiet_more a n = append_assoc a (quiet_lines n) (codes "quiet\n") ∙ ap (λ xs. a ++ xs) (quiet_last n ∙ ap quiet_lines (sym (add-one n)))
