use Rattle.std.proofs.Common.{◌≡◌, ◌+◌, ◌-◌, ◌∷◌, ℕ, Result, Ok, Err, IsOk, IfErr, OnOk, length, take, refl, sym, ap, ◌∙◌, subst, arith, length-append}
use Rattle.rip_base.specs.declared.value.Value.{Value}
use Rattle.rip_base.specs.declared.value.Value.TheVariants.{Text}
use Rattle.rip_heap.specs.declared.outcome.Halt.{Halt}
use Rattle.rip_heap.specs.Arrays.{elements_at}
use Rattle.rip_heap.specs.Growth.{Grows}
use Rattle.rip_heap.specs.Outcome.{Gives}
use Rattle.rip_heap.specs.World.{World}
use Rattle.rip_builtins.specs.Joining.{converted}
use Rattle.rip_builtins.specs.Pieces.{joined_in, with_units}
use Rattle.rip_builtins.proofs.JoinLemmas.{converted-keeps, join-converts, join-gives, join-leaves, kept-front, same-elements}
use Rattle.rip_builtins.proofs.joining.add_joined.Goals as goal

ok : (made : Result World Halt) (r : Result (Unit {0}) Halt) → IfErr r (λ halt. made ≡ Err halt) → ((halt : Halt) → made ≡ Err halt → ⊥) → IsOk r
ok made (Ok done) halts none = refl
ok made (Err halt) halts none = absurd (none halt halts)

-- the pieces are read as they stood before the conversions
same : (w u : World) (array end : ℕ) (separator : Value) → converted w (separator ∷ elements_at w array) ≡ Ok u → Grows w u → end ≡ length w.pool.units
    → joined_in (take end u.pool.units) separator (elements_at u array) ≡ joined_in w.pool.units separator (elements_at w array)
same w u array end separator made grows e =
    ap (λ n. joined_in (take n u.pool.units) separator (elements_at u array)) e
    ∙ ap (λ xs. joined_in xs separator (elements_at u array)) (kept-front w u grows)
    ∙ ap (joined_in w.pool.units separator) (same-elements w u array (converted-keeps w u (separator ∷ elements_at w array) made))

pub unwrap-requires : goal.unwrap-requires
unwrap-requires c =
    let w = c.args.heap.now in
    let items = elements_at w c.args.array in
    ok (converted w (c.args.separator.now ∷ items)) c.convert_all.result c.convert_all.ensures.halts
    (λ halt h. join-converts w c.args.separator.now items c.args.used halt c.requires.charged h)

pub add_pieces-requires-clause-room : goal.add_pieces-requires-clause-room
add_pieces-requires-clause-room c =
    let w = c.args.heap.now in
    let u = c.convert_all.new.heap in
    let separator = c.args.separator.now in
    let items = elements_at w c.args.array in
    let made : converted w (separator ∷ items) ≡ Ok u = subst (λ r. OnOk r (converted w (separator ∷ items) ≡ Ok u)) c.unwrap.ensures c.convert_all.ensures.made in
    let leaves = join-leaves w separator items c.args.used u c.requires.charged made in
    let text = same w u c.args.array c.end-end.result separator made c.convert_all.ensures.grows (c.end-end.ensures.end ∙ ap (λ p. length p.units) c.pool.ensures) in
    omega (arith, leaves.0, leaves.1, ap length text, c.requires.room)

pub returns-clause-gives : goal.returns-clause-gives
returns-clause-gives c =
    let w = c.args.heap.now in
    let u = c.convert_all.new.heap in
    let v = c.add_pieces.new.heap in
    let separator = c.args.separator.now in
    let items = elements_at w c.args.array in
    let found = joined_in w.pool.units separator items in
    let made : converted w (separator ∷ items) ≡ Ok u = subst (λ r. OnOk r (converted w (separator ∷ items) ≡ Ok u)) c.unwrap.ensures c.convert_all.ensures.made in
    let leaves = join-leaves w separator items c.args.used u c.requires.charged made in
    let text = same w u c.args.array c.end-end.result separator made c.convert_all.ensures.grows (c.end-end.ensures.end ∙ ap (λ p. length p.units) c.pool.ensures) in
    let added : v ≡ with_units u found = c.add_pieces.ensures.added ∙ ap (with_units u) text in
    let start : length u.pool.units ≡ c.end-start.result = sym (c.end-start.ensures.end ∙ ap (λ p. length p.units) c.pool-2.ensures) in
    let end : c.end.result ≡ length u.pool.units + length found =
    c.end.ensures.end ∙ ap (λ p. length p.units) c.pool-3.ensures ∙ ap (λ x. length x.pool.units) added ∙ length-append u.pool.units found in
    let count : length found ≡ c.end.result - c.end-start.result = omega (arith, start, end) in
    join-gives w separator items u made (omega (arith, leaves.2, c.requires.within)) (omega (arith, leaves.0, leaves.1, c.requires.room))
    ∙ (λ i. Gives (Text (record { start = start i; count = count i })) (sym added i))
