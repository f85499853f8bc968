use Rattle.std.proofs.Common.{All, ◌+◌, Ok, Err, inl, sym, ap, ◌∙◌, subst, arith}
use Rattle.rip_lexer.specs.View.{ReadsGap}
use Rattle.rip_lexer.specs.Tokens.{IsTokens, IsTokenOf, IsFirstRefusal}
use Rattle.rip_lexer.specs.declared.refusal.LexRefusal.TheVariants.{At}
use Rattle.rip_lexer.proofs.Lexing.{tokens_stand, whole_script, refused_script, token_fits, token_goes_on, same_tokens, not_both_ways, same_refusals}
use Rattle.rip_lexer.proofs.lexer.tokens.Goals as goal
use Rattle.rip_lexer.proofs.lexer.tokens.Goals.{After-split_at, In-Nothing, In-Refused}

-- the gap that was found, up to what stands behind it
behind-gap : (c : After-split_at) → ReadsGap c.script.rest.now c.longest_gap-gap.result.count c.longest_gap-gap.result.holds_line_end c.split_at.result.1.now
behind-gap c = subst (λ u. ReadsGap c.script.rest.now c.longest_gap-gap.result.count c.longest_gap-gap.result.holds_line_end u) (sym c.split_at.ensures.back) c.longest_gap-gap.ensures.reads

-- at the end of the script its tokens are those that were read
at-end : (c : In-Nothing) → IsTokens c.args.text.now c.script.tokens.items
at-end c =
    whole_script c.args.text.now c.script.rest.now c.script.place c.longest_gap-gap.result.count c.longest_gap-gap.result.holds_line_end c.split_at.result.1.now c.script.tokens.items c.script.invariant.reads
    (behind-gap (goal.at.In-Nothing c).After-split_at) c.in-Nothing.ensures.construct

-- where a construct is refused it is the first one
at-refusal : (c : In-Refused) → IsFirstRefusal c.args.text.now (c.script.place + c.longest_gap-gap.result.count + c.in-Refused.fault.offset) c.in-Refused.fault.kind
at-refusal c =
    refused_script c.args.text.now c.script.rest.now c.script.place c.longest_gap-gap.result.count c.longest_gap-gap.result.holds_line_end c.split_at.result.1.now c.script.tokens.items c.in-Refused.fault.offset c.in-Refused.fault.kind c.script.invariant.reads
    (behind-gap (goal.at.In-Refused c).After-split_at) c.in-Refused.ensures.construct

pub returns-in-Nothing-clause-found : goal.returns-in-Nothing-clause-found
returns-in-Nothing-clause-found c =
    subst (λ ts. IsTokens c.args.text.now ts) (sym c.from_vec.ensures) (at-end (goal.at.returns-in-Nothing-clause-found c).In-Nothing)

pub returns-in-Nothing-clause-spelled : goal.returns-in-Nothing-clause-spelled
returns-in-Nothing-clause-spelled c =
    subst (λ ts. All (IsTokenOf c.args.text.now) ts) (sym c.from_vec.ensures) (tokens_stand c.args.text.now c.script.tokens.items (at-end (goal.at.returns-in-Nothing-clause-spelled c).In-Nothing))

pub returns-in-Nothing-clause-all : goal.returns-in-Nothing-clause-all
returns-in-Nothing-clause-all c = λ list is-list.
    inl (ap (λ x. Ok x) (c.from_vec.ensures ∙ same_tokens c.args.text.now c.script.tokens.items list (at-end (goal.at.returns-in-Nothing-clause-all c).In-Nothing) is-list))

pub returns-in-Nothing-clause-first : goal.returns-in-Nothing-clause-first
returns-in-Nothing-clause-first c = λ place cause first.
    absurd (not_both_ways c.args.text.now c.script.tokens.items place cause (at-end (goal.at.returns-in-Nothing-clause-first c).In-Nothing) first)

pub returns-in-Refused-clause-refused : goal.returns-in-Refused-clause-refused
returns-in-Refused-clause-refused c = at-refusal (goal.at.returns-in-Refused-clause-refused c).In-Refused

pub returns-in-Refused-clause-all : goal.returns-in-Refused-clause-all
returns-in-Refused-clause-all c = λ list is-list.
    absurd (not_both_ways c.args.text.now list _ _ is-list (at-refusal (goal.at.returns-in-Refused-clause-all c).In-Refused))

pub returns-in-Refused-clause-first : goal.returns-in-Refused-clause-first
returns-in-Refused-clause-first c = λ place cause first.
    let same = same_refusals c.args.text.now _ place _ cause (at-refusal (goal.at.returns-in-Refused-clause-first c).In-Refused) first in
    let places = same.0 in
    let causes = same.1 in
    inl (λ i. Err (At (places i) (causes i)))

pub script-smaller : goal.script-smaller
script-smaller c =
    let fits = token_fits c.split_at.result.1.now c.in-Token.kind c.in-Token.word c.in-Token.count c.in-Token.ensures.construct in
    omega (arith, fits.0, c.split_at.ensures.back_len, c.split_at-in-Token.ensures.back_len)

pub script-preserved : goal.script-preserved
script-preserved c =
    let pushed = c.in_ok-push-in-Token.ensures.items in
    record {
      bound = omega (arith, (token_fits c.split_at.result.1.now c.in-Token.kind c.in-Token.word c.in-Token.count c.in-Token.ensures.construct).1, c.split_at.ensures.back_len, c.split_at-in-Token.ensures.back_len);
      reads = token_goes_on c.args.text.now c.script.rest.now c.script.place c.longest_gap-gap.result.count c.longest_gap-gap.result.holds_line_end c.split_at.result.1.now c.split_at-in-Token.result.1.now c.script.tokens.items c.push.new.self.items c.in-Token.kind c.in-Token.word c.in-Token.count c.script.invariant.reads (behind-gap (goal.at.script-preserved c).After-split_at) c.in-Token.ensures.construct c.split_at-in-Token.ensures.back pushed;
    }
