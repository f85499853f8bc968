use Rattle.std.proofs.Common.{refl}
use Rattle.rip_serve.specs.Serving.{unmade, in_turn}
use Rattle.rip_serve.proofs.RunLemmas.{ran, cut_off, runs_err}
use Rattle.rip_serve.proofs.serving.run.Goals as goal

pub make_turns-requires-clause-ready : goal.make_turns-requires-clause-ready
make_turns-requires-clause-ready g c = c.in_ok-server.ensures.ready c.args.door.now

pub returns-in_err-server-clause-runs : goal.returns-in_err-server-clause-runs
returns-in_err-server-clause-runs g c = λ meant replies. runs_err _ _ c.from_residual.result _ _ c.from_residual.ensures.0 (unmade refl)

pub returns-in_err-end-clause-runs : goal.returns-in_err-end-clause-runs
returns-in_err-end-clause-runs g c = λ meant replies.
    runs_err _ _ c.from_residual-in_err-end.result _ _ c.from_residual-in_err-end.ensures.0
    (in_turn (c.in_err-end.ensures.makes meant (c.in_ok-server.ensures.stands c.args.site.now.sessions.now) replies))

pub returns-in_err-put_end-clause-runs : goal.returns-in_err-put_end-clause-runs
returns-in_err-put_end-clause-runs g c = λ meant replies.
    runs_err _ _ c.from_residual-in_err-put_end.result _ _ c.from_residual-in_err-put_end.ensures.0
    (cut_off _ _ _ _ _ _ _ (c.in_ok-end.ensures.makes meant (c.in_ok-server.ensures.stands c.args.site.now.sessions.now) replies)
    c.in_err-put_end.ensures.put (record { seen = refl; clock = refl; words = refl }))

pub returns-clause-runs : goal.returns-clause-runs
returns-clause-runs g c = λ meant replies.
    ran _ _ _ _ _ _ _ (c.in_ok-end.ensures.makes meant (c.in_ok-server.ensures.stands c.args.site.now.sessions.now) replies)
    c.in_ok-put_end.ensures.put (record { seen = refl; clock = refl; words = refl })
