use Rattle.std.proofs.Common.{rules, ◌≡◌, reverse, Some, None, sym, ◌∙◌, subst}
use Rattle.rip_grammar.specs.declared.event.Event.TheVariants as E
use Rattle.std.specs.Prelude.{min}
use Rattle.rip_grammar.specs.Depths.{depth}
use Rattle.rip_parser.specs.Building.{rooted, deeper, greatest}
use Rattle.rip_parser.proofs.Courses.{Builds}
use Rattle.rip_parser.specs.Shows.{ShowsScript}
use Rattle.rip_lexer.proofs.Lexing.{tokens_stand}
use Rattle.rip_lexer.specs.Tokens.{Whole}
use Rattle.rip_parser.proofs.Readings.{in-order}
use Rattle.rip_parser.proofs.Shown.{never-none, shows-script, is-deep, refused-all, loop-kept, all-told, end-kept, IfOk-map, for-memory}
use Rattle.rip_parser.proofs.build.build.Goals as goal
use Rattle.rip_parser.proofs.build.build.Goals.{After-loop-event}

pub take-requires-clause-tokens : goal.take-requires-clause-tokens
take-requires-clause-tokens c = tokens_stand c.args.script.now c.args.tokens.now c.requires.tokens

pub take-requires-clause-fits : goal.take-requires-clause-fits
take-requires-clause-fits c =
    (loop-kept c.args.script.now c.args.tokens.now c.in-Some.total c.args.events.now c.loop-event.event-index E.Absent c.loop-event.builder c.in-Some.ensures c.loop-event-test.true c.loop-event.invariant).0

pub take-requires-clause-room : goal.take-requires-clause-room
take-requires-clause-room c =
    (loop-kept c.args.script.now c.args.tokens.now c.in-Some.total c.args.events.now c.loop-event.event-index E.Absent c.loop-event.builder c.in-Some.ensures c.loop-event-test.true c.loop-event.invariant).1

pub returns-in_err-take-clause-refused : goal.returns-in_err-take-clause-refused
returns-in_err-take-clause-refused c = λ body is told.
    let at = c.loop-event.event-index in
    let memory = for-memory c.in_err-take.field-0.0 (λ no_phrase.
    let stuck = c.in_err-take.ensures.refused no_phrase (in-order 0 c.args.script.now c.args.tokens.now Whole c.requires.tokens) in
    let none = refused-all c.args.script.now c.args.tokens.now c.in-Some.total c.args.events.now at E.Absent c.loop-event.builder c.loop-event-test.true c.loop-event.invariant stuck in
    never-none c.args.script.now c.args.tokens.now c.in-Some.total body c.requires.tokens is (subst (λ es. Builds c.args.script.now c.args.tokens.now c.in-Some.total es None) told none)) in
    search rules

-- what is told is told to the end
at-end : (c : After-loop-event) → Builds c.args.script.now c.args.tokens.now c.in-Some.total (reverse c.args.events.now) (Some c.loop-event.builder)
at-end c = all-told c.args.script.now c.args.tokens.now c.in-Some.total c.args.events.now c.loop-event.event-index c.loop-event.builder c.loop-event.auto.event-index-end c.loop-event-test.false c.loop-event.invariant

pub finish-requires-clause-fits : goal.finish-requires-clause-fits
finish-requires-clause-fits c = (end-kept c.args.script.now c.args.tokens.now c.in-Some.total c.args.events.now c.loop-event.builder c.in-Some.ensures (at-end c)).0

pub finish-requires-clause-room : goal.finish-requires-clause-room
finish-requires-clause-room c = (end-kept c.args.script.now c.args.tokens.now c.in-Some.total c.args.events.now c.loop-event.builder c.in-Some.ensures (at-end c)).1

pub returns-clause-shown : goal.returns-clause-shown
returns-clause-shown c = λ body is told.
    let end = at-end (goal.at.returns-clause-shown c).After-loop-event in
    let kept = end-kept c.args.script.now c.args.tokens.now c.in-Some.total c.args.events.now c.loop-event.builder c.in-Some.ensures end in
    let builds = subst (λ es. Builds c.args.script.now c.args.tokens.now c.in-Some.total es (Some c.loop-event.builder)) told end in
    let shows = shows-script c.args.script.now c.args.tokens.now c.in-Some.total body c.requires.tokens is c.loop-event.builder builds kept.1 in
    IfOk-map c.finish.result (λ built. built.tree ≡ rooted c.loop-event.builder) (λ built. ShowsScript c.args.script.now built.tree body) (λ built tree. subst (λ t. ShowsScript c.args.script.now t body) (sym tree) shows) c.finish.ensures.finished

pub returns-clause-deep : goal.returns-clause-deep
returns-clause-deep c = λ body is told.
    let end = at-end (goal.at.returns-clause-deep c).After-loop-event in
    let builds = subst (λ es. Builds c.args.script.now c.args.tokens.now c.in-Some.total es (Some c.loop-event.builder)) told end in
    let deep = is-deep c.args.script.now c.args.tokens.now c.in-Some.total body c.requires.tokens is c.loop-event.builder builds in
    IfOk-map c.finish.result (λ built. built.depth ≡ deeper (greatest c.loop-event.builder.parts)) (λ built. built.depth ≡ min (depth body) 201) (λ built is-depth. is-depth ∙ deep) c.finish.ensures.depth
