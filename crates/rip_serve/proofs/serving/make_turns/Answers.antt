use Rattle.std.proofs.Common.{◌≡◌, ◌∙◌, refl, arith}
use Rattle.rip_history.specs.Run.{first_state}
use Rattle.rip_history.specs.Runs.{after_turns}
use Rattle.rip_server.specs.Turning.{site_of}
use Rattle.rip_serve.proofs.RunLemmas.{went_none, went_on, went_over, went_spent, went_broken, makes_err}
use Rattle.rip_serve.proofs.serving.make_turns.Goals as goal

pub loop-server-init : goal.loop-server-init
loop-server-init g c =
    let none = c.requires.none in
    record {
      ready = c.requires.ready;
      few = omega (arith, none);
      door = refl;
      sink = refl;
      went = λ meant stands replies. went_none _ _ _ _ none (stands, replies);
    }

pub loop-server-preserved : goal.loop-server-preserved
loop-server-preserved g c =
    let l = c.loop-server in
    record {
      ready = c.in_ok-turn.ensures.ready;
      few = let e = c.in_ok-turn.ensures.turns in omega arith;
      door = c.in_ok-turn.ensures.faults.0 ∙ l.invariant.door;
      sink = c.in_ok-turn.ensures.faults.1 ∙ l.invariant.sink;
      went = λ meant stands replies.
          (let w = l.invariant.went meant stands replies in
          let site = site_of (g.S.Sessions.meaning c.args.site.now.sessions.now) meant c.args.site.now.limit c.args.site.now.page.now in
          went_on _ _ _ _ _ _ _ _ w c.in_ok-turn.field-0 c.in-On.is c.in_ok-turn.ensures.turns
          (c.in_ok-turn.ensures.turned (after_turns site 1 first_state w.turns) meant w.stands.0 w.stands.1));
    }

pub returns-in-Over-clause-makes : goal.returns-in-Over-clause-makes
returns-in-Over-clause-makes g c = λ meant stands replies.
    let l = c.loop-server in
    let site = site_of (g.S.Sessions.meaning c.args.site.now.sessions.now) meant c.args.site.now.limit c.args.site.now.page.now in
    let w = l.invariant.went meant stands replies in
    went_over _ _ _ _ _ _ _ _ _ w c.in_ok-turn.field-0 c.in-Over.is c.in_ok-turn.ensures.turns c.loop-server-test.true
    (c.in_ok-turn.ensures.turned (after_turns site 1 first_state w.turns) meant w.stands.0 w.stands.1)

pub returns-in_err-turn-clause-makes : goal.returns-in_err-turn-clause-makes
returns-in_err-turn-clause-makes g c = λ meant stands replies.
    let l = c.loop-server in
    let site = site_of (g.S.Sessions.meaning c.args.site.now.sessions.now) meant c.args.site.now.limit c.args.site.now.page.now in
    let w = l.invariant.went meant stands replies in
    makes_err _ _ _ c.from_residual.result _ _ c.from_residual.ensures.0
    (went_broken _ _ _ _ _ _ _ w c.loop-server-test.true
    (c.in_err-turn.ensures.turned (after_turns site 1 first_state w.turns) meant w.stands.0 w.stands.1))

pub returns-clause-makes : goal.returns-clause-makes
returns-clause-makes g c = λ meant stands replies.
    let l = c.loop-server in
    let w = l.invariant.went meant stands replies in
    let done : l.server.turns ≡ c.args.turns = let no = c.loop-server-test.false in let few = l.invariant.few in omega arith in
    went_spent _ _ _ _ _ _ w done
