use Rattle.std.proofs.Common.{ap, arith}
use Rattle.rip_heap.specs.Memory.{Memory}
use Rattle.rip_heap.proofs.memory.HeapMemory.bytes.Goals as goal

pub overflow_mul-entries : goal.overflow_mul-entries
overflow_mul-entries c =
    let entries = ap (λ (m : Memory). m.entries) c.self.invariant.whole in
    omega (arith, entries, c.capacity-2.ensures, c.self.invariant.numbered.entries)

pub overflow_add-result-3 : goal.overflow_add-result-3
overflow_add-result-3 c =
    let whole = c.self.invariant.whole in
    let numbered = c.self.invariant.numbered in
    let units = ap (λ (m : Memory). m.units) whole in
    let slots = ap (λ (m : Memory). m.pages.slots) whole in
    let starts = ap (λ (m : Memory). m.pages.starts) whole in
    let blocks = ap (λ (m : Memory). m.indexes.blocks) whole in
    let buckets = ap (λ (m : Memory). m.indexes.buckets) whole in
    let entries = ap (λ (m : Memory). m.entries) whole in
    omega (
      arith,
      units,
      slots,
      starts,
      blocks,
      buckets,
      entries,
      numbered.objects,
      numbered.slots,
      numbered.units,
      numbered.entries,
      c.capacity.ensures,
      c.capacity-2.ensures,
      c.bytes.ensures,
      c.bytes-2.ensures,
    )
