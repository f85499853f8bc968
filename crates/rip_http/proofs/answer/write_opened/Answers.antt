use Rattle.std.proofs.Common.{◌≡◌, ◌++◌, ◌∙◌, ℕ, ap, List, decimal, rules}
use Rattle.std.specs.Prelude.{codes}
use Rattle.std.proofs.lemmas.List.{append_assoc}
use Rattle.std.proofs.lemmas.Result.{on_ok_weaker}
use Rattle.rip_http.specs.Answers.{field, identifier_text}
use Rattle.rip_http.proofs.answer.write_opened.Goals as goal

regroup : (o s d t : List ℕ) → ((o ++ s) ++ d) ++ t ≡ o ++ (s ++ (d ++ t))
regroup o s d t = simp append_assoc

pub returns : goal.returns
returns c =
    let opening = c.args.opening.now in
    let out = c.args.out.now.items in
    let session = field (codes "Ripley-Session") (identifier_text opening.id) in
    let seed = field (codes "Ripley-Seed") (decimal opening.seed) in
    let time = field (codes "Ripley-Time") (decimal opening.time) in
    let from : c.from.result ≡ opening.seed = first_of (search rules, cc) in
    let first : c.write_session.new.out.items ≡ out ++ session = c.in_ok-write_session.ensures in
    let second : c.write_number_field.new.out.items ≡ (out ++ session) ++ seed =
    c.in_ok-write_number_field.ensures
    ∙ ap (λ x. x ++ field (codes "Ripley-Seed") (decimal c.from.result)) first
    ∙ ap (λ n. (out ++ session) ++ field (codes "Ripley-Seed") (decimal n)) from in
    let same : (c.write_number_field-2.new.out.items ≡ c.write_number_field.new.out.items ++ time)
    → c.write_number_field-2.new.out.items ≡ out ++ (session ++ (seed ++ time)) =
    λ e. e ∙ ap (λ x. x ++ time) second ∙ regroup out session seed time in
    on_ok_weaker c.write_number_field-2.result same c.write_number_field-2.ensures
