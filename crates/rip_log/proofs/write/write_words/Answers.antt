use Rattle.std.proofs.Common.{◌≡◌, ℕ, List, [], ◌∷◌, ◌++◌, append_assoc, subst, sym}
use Rattle.std.specs.Prelude.{OnOk, codes, decimal}
use Rattle.std.specs.List.{join_with_byte}
use Rattle.rip_data.specs.Datum.{tree_of, trees_in, canonical_text}
use Rattle.rip_log.specs.Parts.{name_text, args_text}
use Rattle.rip_log.specs.Entries.{recorded_of, entry_words}
use Rattle.rip_log.proofs.write.write_words.Goals as goal

-- the parts that were written, joined in the other order
parts : (o w t s b k n a d r : List ℕ)
    → ((o ++ w ++ t ++ s) ++ b ++ k ++ n ++ a) ++ d ++ r
    ≡ o ++ (w ++ (t ++ (s ++ (b ++ (k ++ (n ++ (a ++ (d ++ r))))))))
parts o w t s b k n a d r = simp append_assoc

line : (o t s b k n a d r : List ℕ)
    → ((o ++ codes "serve" ++ 32 ∷ t ++ 32 ∷ s) ++ 32 ∷ b ++ 32 ∷ k ++ 32 ∷ n ++ 32 ∷ a) ++ 32 ∷ d ++ 32 ∷ r
    ≡ o ++ join_with_byte 32 (codes "serve" ∷ t ∷ s ∷ b ∷ k ∷ n ∷ a ∷ d ∷ r ∷ [])
line o t s b k n a d r = parts o (codes "serve") (32 ∷ t) (32 ∷ s) (32 ∷ b) (32 ∷ k) (32 ∷ n) (32 ∷ a) (32 ∷ d) (32 ∷ r)

pub returns-in_ok-next_call-in-Served : goal.returns-in_ok-next_call-in-Served
returns-in_ok-next_call-in-Served c =
    let e = line c.args.out.now (decimal c.in-Served.turn) (decimal c.in-Served.session) (decimal c.in-Served.batch) (decimal c.in-Served.number) (name_text c.in-Served.name) (args_text (trees_in c.in-Served.args)) (decimal c.in-Served.time) (canonical_text (tree_of c.in-Served.reply)) in
    let P : List ℕ → Type 0 = λ x. OnOk c.end_served.result (c.end_served.new.out ≡ x) in
    let h : P (((c.args.out.now ++ codes "serve" ++ 32 ∷ decimal c.in-Served.turn ++ 32 ∷ decimal c.in-Served.session) ++ 32 ∷ decimal c.in-Served.batch ++ 32 ∷ decimal c.in-Served.number ++ 32 ∷ name_text c.in-Served.name ++ 32 ∷ args_text (trees_in c.in-Served.args)) ++ 32 ∷ decimal c.in-Served.time ++ 32 ∷ canonical_text (tree_of c.in-Served.reply)) = rw (← c.in_ok-begin-in-Served.ensures, ← c.in_ok-next_call-in-Served.ensures) c.end_served.ensures in
    subst (λ r. P (c.args.out.now ++ join_with_byte 32 (entry_words (recorded_of r)))) (sym c.in-Served.is) (subst P e h)
