use Rattle.std.proofs.Common.{◌≡◌, map, take}
use Rattle.rip_outer.specs.Outside.{also}
use Rattle.rip_log.specs.Entries.{recorded_of}
use Rattle.rip_log.specs.Histories.{history_text}
use Rattle.rip_server.proofs.put.put_entries.Given as goal

-- the entries so far are put
abbrev pub invariant-loop-entry : goal.invariant-loop-entry
invariant-loop-entry g l = record {
  put : g.K.Sink.held l.out ≡ also (history_text (map recorded_of (take l.entry-index l.entries))) (g.K.Sink.held l.fn.out);
  counted : g.K.Sink.count l.out ≡ g.K.Sink.count l.fn.out;
}
