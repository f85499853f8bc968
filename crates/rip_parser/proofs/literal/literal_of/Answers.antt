use Rattle.std.proofs.Common.{◌≡◌, false, ◌++◌, ◌∷◌, [], ℕ, List, refl, sym, ap, ◌∙◌, subst}
use Rattle.std.specs.Prelude.{IsTrue, ◌↔◌}
use Rattle.rip_grammar.specs.declared.word.Word.TheVariants as W
use Rattle.rip_lexer.specs.Text.{StandsFor}
use Rattle.rip_lexer.specs.declared.token.TokenKind.TheVariants as K
use Rattle.rip_tree.specs.Making.{Growth}
use Rattle.rip_parser.specs.Shows.{spelling_of}
use Rattle.rip_parser.proofs.Literals.{text_stands, text_read}
use Rattle.rip_parser.proofs.literal.literal_of.Goals as goal
use Rattle.rip_parser.proofs.literal.literal_of.Goals.{After-text_value-arg-1}

stands : (c : After-text_value-arg-1) → (units : List ℕ) × StandsFor (spelling_of c.args.script.now c.args.lexeme) units
stands c = text_stands c.args.script.now c.args.tokens.now c.args.lexeme (record { kind = K.Text; word = W.Text; start = 0; count = 0; line_before = false }) c.requires (c.if-not-is_text_token.ensures.found refl)

pub text_value-requires : goal.text_value-requires
text_value-requires c = subst (λ (u : List ℕ). (units : List ℕ) × StandsFor u units) (sym c.spelling_of-spelling.ensures) (stands c)

pub returns-clause-text : goal.returns-clause-text
returns-clause-text c = λ more.
    let all = stands (goal.at.returns-clause-text c).After-text_value-arg-1 in
    let units = c.as_slice-units.result.now in
    let value : c.text_value.new.out.items ≡ all.0 =
    c.in_ok-text_value.ensures.ok all.0 (subst (λ u. StandsFor u all.0) (sym c.spelling_of-spelling.ensures) all.1) ∙ ap (λ (u : List ℕ). u ++ all.0) c.clear.ensures.items in
    text_read c.args.maker.now.units units c.add_units.new.self.units more (spelling_of c.args.script.now c.args.lexeme) c.in_ok-piece.piece c.is_plain.result
    (ap (λ (g : Growth). g.units) c.in_ok-piece.ensures.added) c.in_ok-piece.ensures.piece (subst (λ u. StandsFor (spelling_of c.args.script.now c.args.lexeme) u) (sym (c.as_slice-units.ensures.value ∙ value)) all.1)
    (subst (λ u. IsTrue c.is_plain.result ↔ ((quote : ℕ) × (u ≡ quote ∷ (units ++ quote ∷ [])))) c.spelling_of-spelling.ensures c.is_plain.ensures)
