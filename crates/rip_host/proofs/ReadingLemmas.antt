-- A value that is read only adds texts to the pool.
use Rattle.std.proofs.Common.{Result}
use Rattle.rip_base.specs.declared.value.Span.{Span}
use Rattle.rip_values.specs.Pool.{Texts}
use Rattle.rip_heap.specs.Lending.{PoolGrows}
use Rattle.rip_dom.specs.declared.reading.TextRefused.{TextRefused}
use Rattle.rip_dom.specs.Reading.{text_below}
use Rattle.rip_dom.specs.Tree.{Tree}
use Rattle.rip_forms.specs.declared.value.Value.{Value}
use Rattle.rip_forms.specs.declared.value.Value.TheVariants.{Stands, Below}
use Rattle.rip_forms.specs.Values.{ReadsValue}
use Rattle.rip_nodes.proofs.PoolLemmas.{read-grows, same-grows}

pub value-grows : (t : Tree) (v : Value) (p : Texts) (r : Result Span TextRefused) (q : Texts) → ReadsValue t v p r q → PoolGrows p q
value-grows t (Stands text) p r q h = same-grows p q h.1
value-grows t (Below n) p r q h = read-grows (text_below p t n) p r q h
