use Rattle.std.specs.Prelude.{◌≡◌, ℕ, ◌+◌, ◌-◌, ◌^◌, ◌<◌, ◌≤◌, List, ◌++◌, length, take, min, slice_range}
use Rattle.rip_base.specs.declared.value.Span.{Span}
use Rattle.rip_values.specs.FixedTable.{fixed_size}
use Rattle.rip_values.specs.FixedTexts.{fixed_units}

-- what a pool holds: the units of all its texts, one text after another, how many of them were charged, the most that
-- may be charged, and the longest text that a run makes
pub record Texts : Type 0 where
  pub units : List ℕ
  pub used : ℕ
  pub limit : ℕ
  pub text_limit : ℕ

-- the text that a span stands for; past the end of the pool there is none of it
abbrev pub text_at : Texts → Span → List ℕ
text_at pool span = slice_range pool.units span.start (span.start + span.count)

-- the span lies in the pool
abbrev pub IsSpan : Texts → Span → Type 0
IsSpan pool span = span.start + span.count ≤ length pool.units

-- the part of a span that lies in the pool, which stands for the same text
abbrev pub held : Texts → Span → Span
held pool span = record { start = min span.start (length pool.units); count = length (text_at pool span) }

-- the span of a text that is put behind all others
abbrev pub span_behind : Texts → List ℕ → Span
span_behind pool text = record { start = length pool.units; count = length text }

-- the pool with one text more behind all others, of which so many units are charged
abbrev pub with_text : Texts → List ℕ → ℕ → Texts
with_text pool text charge = record pool { units = pool.units ++ text; used = pool.used + charge }

-- the pool with the first units alone, of which so many are charged
abbrev pub cut_pool : Texts → ℕ → ℕ → Texts
cut_pool pool end used = record pool { units = take end pool.units; used = used }

-- the texts of two spans, one behind the other
abbrev pub joined : Texts → Span → Span → List ℕ
joined pool first second = text_at pool first ++ text_at pool second

-- each span that lay in the old pool stands for the same text in the new one
abbrev pub KeepsTexts : Texts → Texts → Type 0
KeepsTexts old new = (span : Span) → IsSpan old span → text_at new span ≡ text_at old span

-- what each pool keeps: the fixed texts stand first, the limit is not passed, and all that may still be charged has
-- room in memory and can be named by a span
pub record IsPool (units : List ℕ) (used limit capacity : ℕ) : Type 0 where
  pub begins : take fixed_size units ≡ fixed_units
  pub within : used ≤ limit
  pub room : length units + (limit - used) ≤ capacity
  pub spans : length units + (limit - used) < 2 ^ 32

-- the units with which a pool begins, and for how many there is memory: the fixed texts, then so many as may be charged, and
-- 4,096 of the names of a usual program and page
pub record IsReserved (units : List ℕ) (capacity limit : ℕ) : Type 0 where
  pub fixed : units ≡ fixed_units
  pub room : capacity ≡ fixed_size + 4096 + limit
  pub spans : fixed_size + limit < 2 ^ 32
