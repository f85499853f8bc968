-- Histories whose requests are paced, entry by entry.
use Rattle.std.proofs.Common.{◌≡◌, ◌∙◌, ℕ, ◌+◌, ◌<◌, ◌≤◌, List, ◌∷◌, map, length, get_or, drop, sym, subst, add-one}
use Rattle.std.specs.Prelude.{Option, Some}
use Rattle.std.proofs.Math.ListN.{drop_of_length-le}
use Rattle.std.proofs.Math.Seq.{drop-cons}
use Rattle.rip_log.specs.Entries.{recorded_of}
use Rattle.rip_log.specs.declared.entry.Entry.{Entry}
use Rattle.rip_gen.specs.Pace.{ArePaced, IsPaced, Paces}
use Rattle.rip_gen.specs.Pace as pace

-- those before an index are paced: if the others are, behind what holds there, all are
pub record PacedTo (entries : List Entry) (i : ℕ) (now : Option ℕ) : Type 0 where
  pub all : ArePaced now (map recorded_of (drop i entries)) → IsPaced (map recorded_of entries)

pub paced_none : (entries : List Entry) → PacedTo entries 0 (Some 0)
paced_none entries = record { all = λ h. h }

pub paced_more : (entries : List Entry) (i : ℕ) (e : Entry) (now next : Option ℕ) → PacedTo entries i now → i < length entries → e ≡ get_or entries i e → Paces now (recorded_of e) next
    → PacedTo entries (i + 1) next
paced_more entries i e now next so within is paces =
    let others = map recorded_of (drop (i + 1) entries) in
    let behind : drop i entries ≡ e ∷ drop (i + 1) entries = drop-cons entries i e within ∙ (λ j. sym is j ∷ drop (sym (add-one i) j) entries) in
    record { all = λ rest. so.all (subst (λ (es : List Entry). ArePaced now (map recorded_of es)) (sym behind) (pace.more now next (recorded_of e) others paces rest)) }

pub paced_all : (entries : List Entry) (i : ℕ) (now : Option ℕ) → PacedTo entries i now → length entries ≤ i → IsPaced (map recorded_of entries)
paced_all entries i now so past = so.all (subst (λ (es : List Entry). ArePaced now (map recorded_of es)) (sym (drop_of_length-le entries past)) (pace.none now))

-- an entry that is read
pub paces_so : (answered next now : Option ℕ) (e read : Entry) → answered ≡ now → e ≡ read → Paces now (recorded_of read) next → Paces answered (recorded_of e) next
paces_so answered next now e read is reads paces =
    subst (λ (o : Option ℕ). Paces o (recorded_of e) next) (sym is) (subst (λ (x : Entry). Paces now (recorded_of x) next) (sym reads) paces)
