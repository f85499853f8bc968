-- The data of values that were judged is well made, and nests no deeper than there are levels.
use Rattle.std.proofs.Common.{◌≡◌, ℕ, zero, suc, ◌-◌, ◌≤◌, Result, Ok, Err, inl, inr, List, [], ◌∷◌, Ordering, Less, Equal, Greater, refl, ap, ◌∙◌, arith}
use Rattle.std.specs.Ordering.{nat_cmp, match_ordering, ordering_reverse}
use Rattle.std.specs.Cmp.Lexicographic.{slice_cmp}
use Rattle.std.proofs.lemmas.Bool.{cases_lt, le-leb, lt-leb}
use Rattle.std.proofs.lemmas.Cmp.{nat_list_cmp_total}
use Rattle.serde_json.specs.Data.{Data, null, Members, no_members, member, put, depth, items_depth, members_depth}
use Rattle.rip_base.specs.declared.value.Value.{Value}
use Rattle.rip_base.specs.declared.value.Value.TheVariants.{Undefined, Null, Bool as Boolean, Num, NaN, Text, Object}
use Rattle.rip_base.specs.declared.value.Fault.{Fault}
use Rattle.rip_base.specs.declared.value.Fault.TheVariants.{BadArgument}
use Rattle.rip_values.specs.Pool.{Texts, text_at}
use Rattle.rip_heap.specs.declared.holder.Holder.{Holder}
use Rattle.rip_heap.specs.declared.holder.Holder.TheVariants.{PlainObject, ArrayObject, OtherObject}
use Rattle.rip_heap_region.specs.declared.pages.property.Property.{Property}
use Rattle.rip_heap.specs.Arrays.{elements_at}
use Rattle.rip_heap.specs.Holders.{holder_of}
use Rattle.rip_heap.specs.World.{World, object_at}
use Rattle.rip_data.specs.Datum.{utf8_of, IsBeforeAll, AreInOrder}
use Rattle.rip_data.specs.Datum as datum
use Rattle.rip_convert.specs.Arguments.{properties_of}
use Rattle.rip_convert.specs.Written.{then_left, spelled_left, elements_left, fields_left, parts_left, value_left, piece_left, left_after, elements_data, fields_data, parts_data, data_by, value_data}
use Rattle.rip_convert.proofs.Judged.{then-ok, spelled-ok, whole-ok}
use Rattle.rip_convert.proofs.Telling.{IsSpelt, IsTold, AreTold, HaveTold, told_put, told_items, told_members, told_whole, told_spelt, whole_is}
use Rattle.rip_convert.proofs.Utf16.{spelt_of}

-- ORDER

before-trans : (k l : List ℕ) (ms : Members) → slice_cmp nat_cmp k l ≡ Less → IsBeforeAll l ms → IsBeforeAll k ms
before-trans k l no_members h b = tt
before-trans k l (member m d ms) h b = (nat_list_cmp_total.trans k l m h b.0, before-trans k l ms h b.1)

before-put : (m k : List ℕ) (d : Data) (ms : Members) → slice_cmp nat_cmp m k ≡ Less → IsBeforeAll m ms → IsBeforeAll m (put k d ms)
before-put m k d no_members h b = (h, tt)
before-put m k d (member l e ms) h b = by (slice_cmp nat_cmp k l) (before-put m k d ms h b.1)
  where
    by : (o : Ordering) → IsBeforeAll m (put k d ms) → IsBeforeAll m (match_ordering o (member k d (member l e ms)) (member l d ms) (member l e (put k d ms)))
    by Less further = (h, b)
    by Equal further = b
    by Greater further = (b.0, further)

pub ordered-put : (k : List ℕ) (d : Data) (ms : Members) → AreInOrder ms → AreInOrder (put k d ms)
ordered-put k d no_members h = (tt, tt)
ordered-put k d (member l e ms) h = by (slice_cmp nat_cmp k l) refl (ordered-put k d ms h.1)
  where
    by : (o : Ordering) → slice_cmp nat_cmp k l ≡ o → AreInOrder (put k d ms) → AreInOrder (match_ordering o (member k d (member l e ms)) (member l d ms) (member l e (put k d ms)))
    by Less is further = ((is, before-trans k l ms is h.0), h)
    by Equal is further = h
    by Greater is further =
        let less : slice_cmp nat_cmp l k ≡ Less = nat_list_cmp_total.antisymm l k ∙ ap ordering_reverse is in
        (before-put l k d ms less h.0, further)

-- WHAT IS TOLD

spelled-told : (units : List ℕ) (left rest : ℕ) → spelled_left units left ≡ Ok rest → IsSpelt (utf8_of units)
spelled-told units left rest h = let ok = spelled-ok units left rest h in spelt_of units ok.1 ok.2

module _ (judge : Value → ℕ → Result ℕ Fault) (tell : Value → Data) (each : (v : Value) (left rest : ℕ) → judge v left ≡ Ok rest → IsTold (tell v)) where
  elements-told : (vs : List Value) (left rest : ℕ) → elements_left judge vs left ≡ Ok rest → AreTold (elements_data tell vs)
  elements-told [] left rest h = tt
  elements-told (v ∷ vs) left rest h =
      let t = then-ok (judge v left) (elements_left judge vs) rest h in
      (each v left t.0 t.1.0, elements-told vs t.0 rest t.1.1)

  fields-told : (pool : Texts) (found : Members) (ps : List Property) (left rest : ℕ) → fields_left judge pool ps left ≡ Ok rest → HaveTold found → AreInOrder found
      → HaveTold (fields_data tell pool found ps) × AreInOrder (fields_data tell pool found ps)
  fields-told pool found [] left rest h told order = (told, order)
  fields-told pool found (p ∷ ps) left rest h told order =
      let s = then-ok (spelled_left (text_at pool p.name) left) (λ rest. then_left (judge p.value rest) (fields_left judge pool ps)) rest h in
      let t = then-ok (judge p.value s.0) (fields_left judge pool ps) rest s.1.1 in
      let name = utf8_of (text_at pool p.name) in
      fields-told pool (put name (tell p.value) found) ps t.0 rest t.1.1
      (told_put name (tell p.value) found (spelled-told (text_at pool p.name) left s.0 s.1.0) (each p.value s.0 t.0 t.1.0) told)
      (ordered-put name (tell p.value) found order)

  parts-told : (holder : Holder) (w : World) (n left rest : ℕ) → parts_left holder judge w n left ≡ Ok rest → IsTold (parts_data holder tell w n)
  parts-told ArrayObject w n left rest h = told_items (elements_data tell (elements_at w n)) (elements-told (elements_at w n) left rest h)
  parts-told PlainObject w n left rest h =
      let ps = properties_of (object_at w n) in
      let all = fields-told w.pool no_members ps left rest h tt tt in
      told_members (fields_data tell w.pool no_members ps) all.0 all.1
  parts-told OtherObject w n left rest h = absurd (cc)

value-told : (parts : ℕ → ℕ → Result ℕ Fault) (tell : ℕ → Data) → ((n left rest : ℕ) → parts n left ≡ Ok rest → IsTold (tell n)) → (w : World) (v : Value) (left rest : ℕ) → value_left parts w v left ≡ Ok rest → IsTold (data_by tell w v)
value-told parts tell each w Undefined left rest h = absurd (cc)
value-told parts tell each w Null left rest h = (datum.null, (tt, refl))
value-told parts tell each w (Boolean b) left rest h = (datum.boolean b, (tt, refl))
value-told parts tell each w (Num z) left rest h = told_whole z (whole_is z (whole-ok z left rest h).0)
value-told parts tell each w NaN left rest h = absurd (cc)
value-told parts tell each w (Text span) left rest h = told_spelt (utf8_of (text_at w.pool span)) (spelled-told (text_at w.pool span) left rest h)
value-told parts tell each w (Object n) left rest h = each n left rest h

piece-told : (left : ℕ) (next : ℕ → Result ℕ Fault) (rest : ℕ) (d : Data) → ((mid : ℕ) → next mid ≡ Ok rest → IsTold d) → piece_left left next ≡ Ok rest → IsTold d
piece-told left next rest d each h = elim (cases_lt left 1) [
  | inl none ↦ absurd (let e = rw (lt-leb 1 left none) at h in cc)
  | inr some ↦ each (left - 1) (rw (le-leb 1 left some) at h)
]

-- the data of a value where the judging leaves pieces
pub data-told : (levels : ℕ) (w : World) (v : Value) (left rest : ℕ) → left_after levels w v left ≡ Ok rest → IsTold (value_data levels w v)
data-told zero w v left rest h =
    piece-told left (value_left (λ n rest. Err BadArgument) w v) rest (data_by (λ n. null) w v)
    (λ mid e. value-told (λ n rest. Err BadArgument) (λ n. null) (λ n left rest none. absurd (cc)) w v mid rest e) h
data-told (suc levels) w v left rest h =
    piece-told left (value_left (λ n rest. parts_left (holder_of (object_at w n)) (left_after levels w) w n rest) w v) rest (data_by (λ n. parts_data (holder_of (object_at w n)) (value_data levels w) w n) w v)
    (λ mid e. value-told (λ n rest. parts_left (holder_of (object_at w n)) (left_after levels w) w n rest) (λ n. parts_data (holder_of (object_at w n)) (value_data levels w) w n)
    (λ n left rest f. parts-told (left_after levels w) (value_data levels w) (data-told levels w) (holder_of (object_at w n)) w n left rest f) w v mid rest e) h

-- HOW DEEP IT NESTS

put-deep : (most : ℕ) (k : List ℕ) (d : Data) (ms : Members) → depth d ≤ most → members_depth ms ≤ most → members_depth (put k d ms) ≤ most
put-deep most k d no_members one all = omega arith
put-deep most k d (member l e ms) one all = by (slice_cmp nat_cmp k l) (put-deep most k d ms one (omega arith))
  where
    by : (o : Ordering) → members_depth (put k d ms) ≤ most → members_depth (match_ordering o (member k d (member l e ms)) (member l d ms) (member l e (put k d ms))) ≤ most
    by Less further = omega arith
    by Equal further = omega arith
    by Greater further = omega arith

module _ (most : ℕ) (tell : Value → Data) (each : (v : Value) → depth (tell v) ≤ most) where
  elements-deep : (vs : List Value) → items_depth (elements_data tell vs) ≤ most
  elements-deep [] = omega arith
  elements-deep (v ∷ vs) = omega (arith, each v, elements-deep vs)

  fields-deep : (pool : Texts) (found : Members) (ps : List Property) → members_depth found ≤ most → members_depth (fields_data tell pool found ps) ≤ most
  fields-deep pool found [] h = h
  fields-deep pool found (p ∷ ps) h =
      fields-deep pool (put (utf8_of (text_at pool p.name)) (tell p.value) found) ps (put-deep most (utf8_of (text_at pool p.name)) (tell p.value) found (each p.value) h)

  parts-deep : (holder : Holder) (w : World) (n : ℕ) → depth (parts_data holder tell w n) ≤ suc most
  parts-deep ArrayObject w n = omega (arith, elements-deep (elements_at w n))
  parts-deep PlainObject w n = omega (arith, fields-deep w.pool no_members (properties_of (object_at w n)) (omega arith))
  parts-deep OtherObject w n = omega arith

value-deep : (most : ℕ) (tell : ℕ → Data) → ((n : ℕ) → depth (tell n) ≤ most) → (w : World) (v : Value) → depth (data_by tell w v) ≤ most
value-deep most tell each w Undefined = omega arith
value-deep most tell each w Null = omega arith
value-deep most tell each w (Boolean b) = omega arith
value-deep most tell each w (Num z) = omega arith
value-deep most tell each w NaN = omega arith
value-deep most tell each w (Text span) = omega arith
value-deep most tell each w (Object n) = each n

pub data-deep : (levels : ℕ) (w : World) (v : Value) → depth (value_data levels w v) ≤ levels
data-deep zero w v = value-deep 0 (λ n. null) (λ n. omega arith) w v
data-deep (suc levels) w v =
    value-deep (suc levels) (λ n. parts_data (holder_of (object_at w n)) (value_data levels w) w n) (λ n. parts-deep levels (value_data levels w) (data-deep levels w) (holder_of (object_at w n)) w n) w v
