use Rattle.std.proofs.Common.{rules, ◌≡◌, ◌<◌, ◌≤◌, length, false, ltb, subst, arith, get_or}
use Rattle.std.proofs.lemmas.List.Sorted.{IsPartitionPoint-from_clause}
use Rattle.rip_grammar.specs.declared.word.Word.TheVariants as W
use Rattle.rip_lexer.specs.declared.token.Token.{Token}
use Rattle.rip_lexer.specs.declared.token.TokenKind.TheVariants as K
use Rattle.rip_parser.specs.Listed.{AreInOrder, IsListed, IsTextToken}
use Rattle.rip_parser.proofs.Literals.{listed_place, begin_before}
use Rattle.rip_parser.proofs.literal.is_text_token.Goals as goal
use Rattle.rip_parser.proofs.literal.is_text_token.Goals.{After-partition_point-index}

abbrev no_token : Token
no_token = record { kind = K.Name; word = W.Name; start = 0; count = 0; line_before = false }

-- the listed text stands at the place that was found
place : (c : After-partition_point-index) → AreInOrder c.args.tokens.now → (listed : IsListed c.args.tokens.now c.args.lexeme) → listed.0 ≡ c.partition_point-index.result
place c order listed =
    listed_place c.args.tokens.now c.args.lexeme c.partition_point-index.result no_token
    (IsPartitionPoint-from_clause (λ (y : Token). ltb y.start c.args.lexeme.start) c.args.tokens.now c.partition_point-index.result c.partition_point-index.ensures.partitioned
    (begin_before c.args.tokens.now c.args.lexeme.start order) (λ a r q k. search rules))
    order listed

pub returns-then-index-tokens-clause-all : goal.returns-then-index-tokens-clause-all
returns-then-index-tokens-clause-all c = λ order listed.
    let at = place (goal.at.returns-then-index-tokens-clause-all c).After-partition_point-index order listed in
    c.is_text.ensures.1 (subst (λ i. IsTextToken c.args.lexeme (get_or c.args.tokens.now i no_token)) at (listed.2 no_token))

pub returns-else-index-tokens-clause-all : goal.returns-else-index-tokens-clause-all
returns-else-index-tokens-clause-all c = λ order listed.
    let at = place (goal.at.returns-else-index-tokens-clause-all c).After-partition_point-index order listed in
    let within : listed.0 < length c.args.tokens.now = listed.1 in
    let past : length c.args.tokens.now ≤ c.partition_point-index.result = c.if-index-tokens.false in
    absurd (omega arith)
