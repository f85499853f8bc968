use Rattle.std.proofs.Common.{rules, ◌≡◌, ◌+◌, ◌-◌, ◌∷◌, ◌++◌, ◌≤◌, [], arith, length, replicate, take}
use Rattle.rip_heap_region.specs.declared.buckets.blocks.IndexBlock.{IndexBlock}
use Rattle.rip_heap_region.proofs.BlockLemmas.{blocks_opened, opened_buckets, others_opened, row_grown}
use Rattle.rip_heap_region.proofs.buckets.blocks.IndexBlocks.open.Goals as goal

pub returns-clause-buckets : goal.returns-clause-buckets
returns-clause-buckets c =
    let row = c.self.inside.numbers.items in
    let r : IndexBlock = record { owner = c.args.owner; start = c.len-start.result; buckets = c.args.buckets } in
    let count : c.len-count.result ≡ length c.self.inside.blocks.items = search rules in
    let more : c.push_reserved.new.self.items ≡ c.self.inside.blocks.items ++ r ∷ [] = search rules in
    let start : c.len-start.result ≡ length row = search rules in
    let size : c.self.inside.numbers.len ≡ length row = search rules in
    let end = c.len-start.result + c.args.buckets in
    let filled : c.resize.new.self.items ≡ take end row ++ replicate (end - c.self.inside.numbers.len) 0 = search rules in
    opened_buckets c.self.inside.blocks.items c.push_reserved.new.self.items row c.resize.new.self.items r c.len-count.result more count start
    (row_grown row c.resize.new.self.items c.self.inside.numbers.len end c.args.buckets size (omega (arith, start)) filled)

pub returns-clause-others : goal.returns-clause-others
returns-clause-others c =
    let row = c.self.inside.numbers.items in
    let r : IndexBlock = record { owner = c.args.owner; start = c.len-start.result; buckets = c.args.buckets } in
    let more : c.push_reserved.new.self.items ≡ c.self.inside.blocks.items ++ r ∷ [] = search rules in
    let start : c.len-start.result ≡ length row = search rules in
    let size : c.self.inside.numbers.len ≡ length row = search rules in
    let end = c.len-start.result + c.args.buckets in
    let filled : c.resize.new.self.items ≡ take end row ++ replicate (end - c.self.inside.numbers.len) 0 = search rules in
    others_opened c.self.inside.blocks.items c.push_reserved.new.self.items row c.resize.new.self.items _ _ c.args.buckets r c.args.self.now c.self.invariant c.self.view_is more
    (row_grown row c.resize.new.self.items c.self.inside.numbers.len end c.args.buckets size (omega (arith, start)) filled)

pub invariant_of-self : goal.invariant_of-self
invariant_of-self c =
    let row = c.self.inside.numbers.items in
    let r : IndexBlock = record { owner = c.args.owner; start = c.len-start.result; buckets = c.args.buckets } in
    let more : c.push_reserved.new.self.items ≡ c.self.inside.blocks.items ++ r ∷ [] = search rules in
    let start : c.len-start.result ≡ length row = search rules in
    let size : c.self.inside.numbers.len ≡ length row = search rules in
    let end = c.len-start.result + c.args.buckets in
    let filled : c.resize.new.self.items ≡ take end row ++ replicate (end - c.self.inside.numbers.len) 0 = search rules in
    let fits : length row + c.args.buckets ≤ c.self.inside.room = omega (arith, start, c.if-buckets-self.false, c.self.invariant.filled) in
    blocks_opened c.self.inside.blocks.items c.push_reserved.new.self.items row c.resize.new.self.items _ _ c.self.inside.room r c.self.invariant more
    (row_grown row c.resize.new.self.items c.self.inside.numbers.len end c.args.buckets size (omega (arith, start)) filled) start fits c.resize.ensures.capacity
