use Rattle.std.proofs.Common.{rules, List, reverse, sym, ap, ◌∙◌, subst}
use Rattle.rip_grammar.specs.declared.word.Lexeme.{Lexeme}
use Rattle.rip_grammar.specs.declared.event.Event.{Event}
use Rattle.rip_grammar.specs.Depths.{depth}
use Rattle.rip_grammar.specs.Grammar.{IsScript}
use Rattle.rip_parser.specs.Words.{lexemes_of}
use Rattle.rip_parser.specs.Parsed.{IsTooDeep}
use Rattle.rip_parser.specs.Search.{found}
use Rattle.rip_parser.proofs.Seeking.{place-is}
use Rattle.rip_parser.proofs.Steps.{unexpected-deep, shallow-of, deep-of, ready, told-each, told-some}
use Rattle.rip_parser.proofs.parser.parse.Goals as goal

pub returns-in_err-events-clause-deep : goal.returns-in_err-events-clause-deep
returns-in_err-events-clause-deep c = λ body is.
    let same = c.as_slice.ensures ∙ c.in_ok-lexemes.ensures in
    let deep : IsTooDeep body c.in_err-events.field-0.0 =
    unexpected-deep c.as_slice.result.now c.in_err-events.field-0.0 body c.in_err-events.ensures.refused (subst (λ (l : List Lexeme). IsScript l body) (sym same) is) in
    search rules

pub returns-then-built-lt-TOO_DEEP-clause-found : goal.returns-then-built-lt-TOO_DEEP-clause-found
returns-then-built-lt-TOO_DEEP-clause-found c =
    let told = told-some (lexemes_of c.args.text.now c.args.tokens.now) c.as_slice-2.result.now (ready c.args.text.now c.args.tokens.now c.as_slice.result.now c.in_ok-lexemes.lexemes c.in_ok-events.events.items c.as_slice-2.result.now c.as_slice.ensures c.in_ok-lexemes.ensures c.as_slice-2.ensures.value c.in_ok-events.ensures.told) in
    (told.0, told.1, c.in-Ok.ensures.shown told.0 told.1 told.2, shallow-of c.in-Ok.built.depth (depth told.0) (c.in-Ok.ensures.deep told.0 told.1 told.2) c.if-built-lt-TOO_DEEP.true)

pub returns-then-built-lt-TOO_DEEP-clause-shown : goal.returns-then-built-lt-TOO_DEEP-clause-shown
returns-then-built-lt-TOO_DEEP-clause-shown c = λ body is.
    c.in-Ok.ensures.shown body is (told-each (lexemes_of c.args.text.now c.args.tokens.now) c.as_slice-2.result.now body (ready c.args.text.now c.args.tokens.now c.as_slice.result.now c.in_ok-lexemes.lexemes c.in_ok-events.events.items c.as_slice-2.result.now c.as_slice.ensures c.in_ok-lexemes.ensures c.as_slice-2.ensures.value c.in_ok-events.ensures.told) is)

pub returns-then-built-lt-TOO_DEEP-clause-shallow : goal.returns-then-built-lt-TOO_DEEP-clause-shallow
returns-then-built-lt-TOO_DEEP-clause-shallow c = λ body is.
    shallow-of c.in-Ok.built.depth (depth body)
    (c.in-Ok.ensures.deep body is (told-each (lexemes_of c.args.text.now c.args.tokens.now) c.as_slice-2.result.now body (ready c.args.text.now c.args.tokens.now c.as_slice.result.now c.in_ok-lexemes.lexemes c.in_ok-events.events.items c.as_slice-2.result.now c.as_slice.ensures c.in_ok-lexemes.ensures c.as_slice-2.ensures.value c.in_ok-events.ensures.told) is))
    c.if-built-lt-TOO_DEEP.true

pub returns-in-Ok-clause-refused : goal.returns-in-Ok-clause-refused
returns-in-Ok-clause-refused c =
    let told = told-some (lexemes_of c.args.text.now c.args.tokens.now) c.as_slice-2.result.now (ready c.args.text.now c.args.tokens.now c.as_slice.result.now c.in_ok-lexemes.lexemes c.in_ok-events.events.items c.as_slice-2.result.now c.as_slice.ensures c.in_ok-lexemes.ensures c.as_slice-2.ensures.value c.in_ok-events.ensures.told) in (
      told.0,
      told.1,
      place-is (lexemes_of c.args.text.now c.args.tokens.now) told.0 (reverse c.as_slice-2.result.now) c.in_ok-first-in-Ok.first c.unwrap_or.result told.1
          (deep-of c.in-Ok.built.depth (depth told.0) (c.in-Ok.ensures.deep told.0 told.1 told.2) c.if-built-lt-TOO_DEEP.false) told.2
          (c.in_ok-first-in-Ok.ensures ∙ ap (λ (e : List Event). found (reverse e)) (c.as_slice-else-built-lt-TOO_DEEP.ensures.value ∙ sym c.as_slice-2.ensures.value)) c.unwrap_or.ensures,
    )

pub returns-in-Ok-clause-deep : goal.returns-in-Ok-clause-deep
returns-in-Ok-clause-deep c = λ body is.
    let same = told-each (lexemes_of c.args.text.now c.args.tokens.now) c.as_slice-2.result.now body (ready c.args.text.now c.args.tokens.now c.as_slice.result.now c.in_ok-lexemes.lexemes c.in_ok-events.events.items c.as_slice-2.result.now c.as_slice.ensures c.in_ok-lexemes.ensures c.as_slice-2.ensures.value c.in_ok-events.ensures.told) is in
    place-is (lexemes_of c.args.text.now c.args.tokens.now) body (reverse c.as_slice-2.result.now) c.in_ok-first-in-Ok.first c.unwrap_or.result is
    (deep-of c.in-Ok.built.depth (depth body) (c.in-Ok.ensures.deep body is same) c.if-built-lt-TOO_DEEP.false) same
    (c.in_ok-first-in-Ok.ensures ∙ ap (λ (e : List Event). found (reverse e)) (c.as_slice-else-built-lt-TOO_DEEP.ensures.value ∙ sym c.as_slice-2.ensures.value)) c.unwrap_or.ensures

pub unreachable-requires : goal.unreachable-requires
unreachable-requires c =
    let told = told-some (lexemes_of c.args.text.now c.args.tokens.now) c.as_slice-2.result.now (ready c.args.text.now c.args.tokens.now c.as_slice.result.now c.in_ok-lexemes.lexemes c.in_ok-events.events.items c.as_slice-2.result.now c.as_slice.ensures c.in_ok-lexemes.ensures c.as_slice-2.ensures.value c.in_ok-events.ensures.told) in
    let memory = c.in-Err-NoPhrase.ensures.refused told.0 told.1 told.2 in
    let no_phrase = c.in-Err-NoPhrase.field-0-is in
    cc
