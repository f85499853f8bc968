-- A manifest of version 1 names neither the longest text nor the replies.
use Rattle.std.proofs.Common.{◌≡◌, ℕ, ◌+◌, ◌*◌, ◌≤◌, List, Option, Some, None, Bool, true, false, IsTrue, Ordering, Less, Equal, Greater, nat_cmp, is_eq, refl, sym, ap, ◌∙◌, subst, arith}
use Rattle.std.specs.Prelude.{codes}
use Rattle.std.specs.Ordering.{match_ordering}
use Rattle.std.specs.Cmp.Lexicographic.{slice_cmp}
use Rattle.std.proofs.lemmas.Bool.{false≢true}
use Rattle.std.proofs.lemmas.Map.Text.{is_eq-slice_cmp}
use Rattle.std.proofs.lemmas.Slice.Eq.{bytes_eq-Decides}
use Rattle.serde_json.specs.Data.{Data, object, Members, no_members, member}
use Rattle.serde_json.specs.Find.{get, get_member}
use Rattle.rip_limits.specs.Limits.{default, greatest}
use Rattle.rip_limits.specs.declared.limits.Limits.{Limits}
use Rattle.rip_limits.specs.declared.version.Version.{Version}
use Rattle.rip_limits.specs.declared.version.Version.TheVariants.{One, Two}
use Rattle.rip_manifest.specs.Laws.{StandsAsOne, VersionOneStands}
use Rattle.rip_manifest.specs.Limits.{is_limit_name, NameLimits, IsLimit, AreLimits, memory_of}
use Rattle.rip_manifest.specs.Manifest.{Contents, Says}

-- a name that no limit of the version has is no member
not_found : (name : List ℕ) (v : Version) → is_limit_name v name ≡ false → (ms : Members) → NameLimits v ms → get_member name ms ≡ None
not_found name v unknown no_members known = refl
not_found name v unknown (member other value ms) known = by (not_found name v unknown ms known.1) (slice_cmp nat_cmp name other) refl
  where
    by : get_member name ms ≡ None → (o : Ordering) → slice_cmp nat_cmp name other ≡ o → match_ordering o (get_member name ms) (Some value) (get_member name ms) ≡ None
    by rest Less e = rest
    by rest Equal e =
        let same : name ≡ other = (bytes_eq-Decides name other).0 (sym (is_eq-slice_cmp name other) ∙ ap is_eq e) in
        absurd (false≢true (sym unknown ∙ ap (is_limit_name v) same ∙ known.0))
    by rest Greater e = rest

usual : (found : Option Data) (usual most n : ℕ) → found ≡ None → IsLimit found usual most n → n ≡ usual
usual found m most n none is = rw none at is

stands : (value : Data) (limits : Limits) → AreLimits One value limits → StandsAsOne limits
stands value limits h =
    let found : (name : List ℕ) → is_limit_name One name ≡ false → get name value ≡ None =
    λ name unknown. ap (get name) h.are ∙ not_found name One unknown h.members h.known in
    let text : limits.text ≡ 65535 = usual _ _ _ _ (found (codes "text") refl) h.text in
    let replies : limits.replies ≡ 64 = usual _ _ _ _ (found (codes "replies") refl) h.replies in
    let sum : (a : ℕ) → a + 2097152 + 16384 * 64 ≡ a + 3145728 = λ a. omega arith in
    let same = sum (32 * limits.cells + 2 * limits.units + 64 * limits.nodes + 64 * limits.depth + limits.queue) in
    record { text = text; replies = replies; memory = rw replies (ap (λ n. limits.sessions * n) same) }

pub version_one_stands : VersionOneStands
version_one_stands bytes contents says one = stands says.parts.limits contents.limits (subst (λ v. AreLimits v says.parts.limits contents.limits) one says.limits)
