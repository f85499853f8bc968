use Rattle.std.proofs.Common.{◌≡◌, ◌∙◌, ◌+◌, List, take, drop, map, suc, sym, ap, subst}
use Rattle.rip_outer.specs.Outside.{also, Front}
use Rattle.rip_log.specs.Entries.{Recorded, recorded_of}
use Rattle.rip_log.specs.Histories.{history_text}
use Rattle.rip_server.proofs.PutLemmas.{put_more, put_cut, put_err, entries_more, entries_at}
use Rattle.rip_server.proofs.put.put_entries.Goals as goal

pub returns-in_err-put_entry-clause-logged : goal.returns-in_err-put_entry-clause-logged
returns-in_err-put_entry-clause-logged g c =
    let l = c.loop-entry in
    put_err c.from_residual.result _ _ _ c.from_residual.ensures.0
    (subst (λ (es : List Recorded). Front (history_text es) (g.K.Sink.held c.args.out.now) (g.K.Sink.held c.put_entry.new.out))
    (entries_at c.args.entries.now l.entry-index c.entry-item.result c.loop-entry-test.true (sym c.entry-item.is))
    (put_cut (map recorded_of (take l.entry-index c.args.entries.now)) (recorded_of c.entry-item.result) (map recorded_of (drop (suc l.entry-index) c.args.entries.now))
    (g.K.Sink.held c.args.out.now) (g.K.Sink.held l.out) (g.K.Sink.held c.put_entry.new.out) l.invariant.put c.in_err-put_entry.ensures.put))

pub loop-entry-preserved : goal.loop-entry-preserved
loop-entry-preserved g c =
    let l = c.loop-entry in
    record {
      put = put_more (map recorded_of (take l.entry-index c.args.entries.now)) (recorded_of c.entry-item.result) (g.K.Sink.held c.args.out.now) (g.K.Sink.held l.out)
          (g.K.Sink.held c.put_entry.new.out) l.invariant.put c.in_ok-put_entry.ensures.put
          ∙ ap (λ (es : List Recorded). also (history_text es) (g.K.Sink.held c.args.out.now))
          (sym (entries_more c.args.entries.now l.entry-index c.entry-item.result c.loop-entry-test.true (sym c.entry-item.is)));
      counted = c.in_ok-put_entry.ensures.counted ∙ l.invariant.counted;
    }
