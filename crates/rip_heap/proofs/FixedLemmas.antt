-- The fixed texts stand in every world that came of an empty one.
use Rattle.std.proofs.Common.{◌≡◌, Some, length, sym, ap, ◌∙◌, take}
use Rattle.std.specs.Prelude.{unwrap_or}
use Rattle.std.proofs.Math.Seq.{take-length}
use Rattle.rip_base.specs.declared.value.Span.{Span}
use Rattle.rip_values.specs.declared.fixed.FixedText.{FixedText}
use Rattle.rip_values.specs.FixedTable.{text_of, fixed_size, start_of}
use Rattle.rip_values.specs.FixedTexts.{fixed_units, fixed_span}
use Rattle.rip_values.specs.Pool.{text_at}
use Rattle.rip_values.proofs.FixedTableLemmas.{fixed_span-text_of, length-fixed_units}
use Rattle.rip_values.proofs.PoolLemmas.{fixed_at}
use Rattle.rip_heap.specs.declared.limits.HeapLimits.{HeapLimits}
use Rattle.rip_heap.specs.Conversions.{span_of}
use Rattle.rip_heap.specs.Growth.{Grows}
use Rattle.rip_heap.specs.World.{World, empty_world}

begins : take fixed_size fixed_units ≡ fixed_units
begins = ap (λ n. take n fixed_units) (sym length-fixed_units) ∙ take-length fixed_units

pub fixed_stands : (limits : HeapLimits) (w : World) (fixed : FixedText) → Grows (empty_world limits) w → text_at w.pool (span_of fixed) ≡ text_of fixed
fixed_stands limits w fixed grown =
    let place : Span = record { start = start_of fixed; count = length (text_of fixed) } in
    let found : fixed_span (text_of fixed) ≡ Some place = fixed_span-text_of fixed in
    let first = fixed_at (empty_world limits).pool fixed place begins found in
    let same : span_of fixed ≡ place = ap (λ o. unwrap_or o (record { start = 0; count = 0 })) found in
    ap (text_at w.pool) same ∙ grown.texts place first.1 ∙ first.0
