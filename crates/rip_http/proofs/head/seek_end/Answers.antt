use Rattle.std.proofs.Common.{◌≡◌, Some, None, get_or}
use Rattle.rip_http.specs.Heads.{step}
use Rattle.rip_http.specs.declared.head.Scan.TheVariants.{Before}
use Rattle.rip_http.proofs.HeadLemmas.{after_all, after_at, end_at}
use Rattle.rip_http.proofs.head.seek_end.Goals as goal

pub returns-in-None : goal.returns-in-None
returns-in-None c =
    let here : step c.loop-i.scan (get_or c.args.bytes.now c.loop-i.i 0) ≡ None = cc in
    end_at Before c.loop-i.scan c.args.bytes.now c.loop-i.i c.loop-i-test.true c.loop-i.invariant.0 here

pub skip_line-i-requires-in-Some-clause-looked : goal.skip_line-i-requires-in-Some-clause-looked
skip_line-i-requires-in-Some-clause-looked c =
    let here : step c.loop-i.scan (get_or c.args.bytes.now c.loop-i.i 0) ≡ Some c.in-Some.next = cc in
    after_at Before c.loop-i.scan c.in-Some.next c.args.bytes.now c.loop-i.i c.loop-i-test.true c.loop-i.invariant.0 here

pub returns : goal.returns
returns c = after_all c.args.bytes.now c.loop-i.i c.loop-i.scan c.loop-i-test.false c.loop-i.invariant.0
