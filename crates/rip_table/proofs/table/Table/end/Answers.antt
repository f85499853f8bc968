-- The session stands at the place that was found.
use Rattle.std.proofs.Common.{nat_eq, sym, subst}
use Rattle.rip_table.specs.Table.{ids, Ends}
use Rattle.rip_table.proofs.TableLemmas.{position_is, live_at_place}
use Rattle.rip_table.proofs.table.Table.end.Goals as goal

pub end_place-requires : goal.end_place-requires
end_place-requires g c = record {
  table = c.requires.table;
  live = live_at_place c.args.self.now c.args.id c.in-Some.place c.in-Some.ensures.index c.requires.live;
}

pub returns-in-Some-clause-ends : goal.returns-in-Some-clause-ends
returns-in-Some-clause-ends g c =
    subst (λ place. Ends c.args.self.now c.end_place.new.self place)
    (sym (position_is (nat_eq c.args.id) (ids c.args.self.now) c.in-Some.place c.in-Some.ensures.index)) c.end_place.ensures.ends
