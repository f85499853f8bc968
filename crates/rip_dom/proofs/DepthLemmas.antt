-- Ways upwards: each ends, and none comes back to where it was.
use Rattle.std.proofs.Common.{◌≡◌, ℕ, zero, suc, ◌<◌, ◌≤◌, inl, inr, Bool, false, ◌==◌, ◌||◌, List, [], ◌∷◌, length, Option, None, Some, refl, sym, ap, ap₂, ◌∙◌, subst, arith}
use Rattle.std.specs.List.{list_any}
use Rattle.std.proofs.lemmas.Bool.{cases_eq, or_parts, ne_eqb, eqb-false}
use Rattle.std.proofs.lemmas.Option.{same_Some}
use Rattle.rip_dom.specs.Linked.{Has, Differ}
use Rattle.rip_dom.specs.Tree.{Tree, way_up, parent_of, is_above}
use Rattle.rip_dom.specs.Document.{IsDeep, IsRooted}
use Rattle.rip_dom.proofs.Paths.{few-below}

abbrev Up : Type 0
Up = ℕ → Option ℕ

-- the same way upwards, by parents alone
abbrev way : ℕ → Up → Option ℕ → List ℕ
way zero up x = []
way (suc k) up None = []
way (suc k) up (Some n) = n ∷ way k up (up n)

deep-unique : (up : Up) (j k : ℕ) (x : Option ℕ) → IsDeep up j x → IsDeep up k x → j ≡ k
deep-unique up zero zero x a b = refl
deep-unique up zero (suc k) None a b = absurd b
deep-unique up zero (suc k) (Some n) a b = absurd a
deep-unique up (suc j) zero None a b = absurd a
deep-unique up (suc j) zero (Some n) a b = absurd b
deep-unique up (suc j) (suc k) None a b = absurd a
deep-unique up (suc j) (suc k) (Some n) a b = ap suc (deep-unique up j k (up n) a b)

-- each node of a way is as deep as what is left of it
way-depth : (up : Up) (k : ℕ) (x : Option ℕ) → IsDeep up k x → (m : ℕ) → Has m (way k up x) → (j : ℕ) × (j ≤ k) × IsDeep up j (Some m)
way-depth up zero x d m h = absurd h
way-depth up (suc k) None d m h = absurd h
way-depth up (suc k) (Some n) d m h =
    elim h [
      | inl e ↦ (suc k, omega arith, subst (λ n. IsDeep up (suc k) (Some n)) (sym e) d)
      | inr g ↦ let r = way-depth up k (up n) d m g in (r.0, omega (arith, r.1), r.2)
    ]

way-differ : (up : Up) (k : ℕ) (x : Option ℕ) → IsDeep up k x → Differ (way k up x)
way-differ up zero x d = tt
way-differ up (suc k) None d = tt
way-differ up (suc k) (Some n) d = (
  (λ h. let r = way-depth up k (up n) d n h in let e = deep-unique up r.0 (suc k) (Some n) r.2 d in omega (arith, r.1, e)),
  way-differ up k (up n) d,
)

way-length : (up : Up) (k : ℕ) (x : Option ℕ) → IsDeep up k x → length (way k up x) ≡ k
way-length up zero x d = refl
way-length up (suc k) None d = absurd d
way-length up (suc k) (Some n) d = ap suc (way-length up k (up n) d)

way-known : (up : Up) (count : ℕ) → ((n p : ℕ) → up n ≡ Some p → p < count) → (k : ℕ) (x : Option ℕ) → ((n : ℕ) → x ≡ Some n → n < count) → (m : ℕ) → Has m (way k up x) → m < count
way-known up count known zero x h m g = absurd g
way-known up count known (suc k) None h m g = absurd g
way-known up count known (suc k) (Some n) h m g =
    elim g [
      | inl e ↦ subst (λ n. n < count) (sym e) (h n refl)
      | inr f ↦ way-known up count known k (up n) (known n) m f
    ]

-- no way is longer than there are nodes
pub deep-within : (up : Up) (count : ℕ) → ((n p : ℕ) → up n ≡ Some p → p < count) → (k n : ℕ) → n < count → IsDeep up k (Some n) → k ≤ count
deep-within up count known k n h d =
    subst (λ l. l ≤ count) (way-length up k (Some n) d)
    (few-below count (way k up (Some n)) (way-differ up k (Some n) d) (way-known up count known k (Some n) (λ m e. subst (λ n. n < count) (same_Some n m e) h)))

-- a node that loses its parent
deep-out : (up new : Up) (c : ℕ) → new c ≡ None → ((n : ℕ) → (n ≡ c → ⊥) → new n ≡ up n) → (k : ℕ) (x : Option ℕ) → IsDeep up k x → (j : ℕ) × IsDeep new j x
deep-out up new c gone others zero None d = (0, tt)
deep-out up new c gone others zero (Some n) d = absurd d
deep-out up new c gone others (suc k) None d = absurd d
deep-out up new c gone others (suc k) (Some n) d =
    elim (cases_eq n c) [
      | inl e ↦ (1, subst (λ x. IsDeep new 0 x) (sym (ap new e ∙ gone)) tt)
      | inr e ↦ let r = deep-out up new c gone others k (up n) d in (suc r.0, subst (λ x. IsDeep new r.0 x) (sym (others n e)) r.1)
    ]

pub rooted-out : (up new : Up) (c : ℕ) → new c ≡ None → ((n : ℕ) → (n ≡ c → ⊥) → new n ≡ up n) → IsRooted up → IsRooted new
rooted-out up new c gone others r = λ n. deep-out up new c gone others (r n).0 (Some n) (r n).1

-- a way that does not meet the node stays when that node gets a parent
abbrev meets : ℕ → List ℕ → Bool
meets c ns = list_any (λ m. m == c) ns

deep-apart : (up new : Up) (c : ℕ) → ((n : ℕ) → (n ≡ c → ⊥) → new n ≡ up n) → (k f : ℕ) (x : Option ℕ) → k ≤ f → IsDeep up k x → meets c (way f up x) ≡ false → IsDeep new k x
deep-apart up new c others zero f None h d m = tt
deep-apart up new c others zero f (Some n) h d m = absurd d
deep-apart up new c others (suc k) f None h d m = absurd d
deep-apart up new c others (suc k) zero (Some n) h d m = absurd (omega (arith, h))
deep-apart up new c others (suc k) (suc f) (Some n) h d m =
    let p = or_parts (n == c) (meets c (way f up (up n))) m in
    subst (λ x. IsDeep new k x) (sym (others n (eqb-false n c p.0))) (deep-apart up new c others k f (up n) (omega (arith, h)) d p.1)

deep-in : (up new : Up) (c p kp : ℕ) → new c ≡ Some p → ((n : ℕ) → (n ≡ c → ⊥) → new n ≡ up n) → IsDeep new kp (Some p) → (k : ℕ) (x : Option ℕ) → IsDeep up k x → (j : ℕ) × IsDeep new j x
deep-in up new c p kp goes others dp zero None d = (0, tt)
deep-in up new c p kp goes others dp zero (Some n) d = absurd d
deep-in up new c p kp goes others dp (suc k) None d = absurd d
deep-in up new c p kp goes others dp (suc k) (Some n) d =
    elim (cases_eq n c) [
      | inl e ↦ (suc kp, subst (λ x. IsDeep new kp x) (sym (ap new e ∙ goes)) dp)
      | inr e ↦ let r = deep-in up new c p kp goes others dp k (up n) d in (suc r.0, subst (λ x. IsDeep new r.0 x) (sym (others n e)) r.1)
    ]

-- a node with another parent, from which the way up does not meet it
pub rooted-in : (up new : Up) (c p count : ℕ) → IsRooted up → ((n p : ℕ) → up n ≡ Some p → p < count) → p < count → meets c (way count up (Some p)) ≡ false → new c ≡ Some p → ((n : ℕ) → (n ≡ c → ⊥) → new n ≡ up n) → IsRooted new
rooted-in up new c p count r known h m goes others =
    λ n. deep-in up new c p (r p).0 goes others
    (deep-apart up new c others (r p).0 count (Some p) (deep-within up count known (r p).0 p h (r p).1) (r p).1 m)
    (r n).0 (Some n) (r n).1

-- no node is above its own parent
pub not-above : (up : Up) → IsRooted up → (n p f : ℕ) → up n ≡ Some p → meets n (way f up (Some p)) ≡ false
not-above up r n p f e =
    let d : IsDeep up (r p).0 (Some p) = (r p).1 in
    clear (r p).0 f (Some p) d (λ m h. less m h)
  where
    less : (m : ℕ) → Has m (way (r p).0 up (Some p)) → (m ≡ n → ⊥)
    less m h s =
        let w = way-depth up (r p).0 (Some p) (r p).1 m h in
        let own : IsDeep up (suc (r p).0) (Some n) = subst (λ x. IsDeep up (r p).0 x) (sym e) (r p).1 in
        let same = deep-unique up w.0 (suc (r p).0) (Some n) (subst (λ k. IsDeep up w.0 (Some k)) s w.2) own in
        omega (arith, w.1, same)

    clear : (k f : ℕ) (x : Option ℕ) → IsDeep up k x → ((m : ℕ) → Has m (way k up x) → (m ≡ n → ⊥)) → meets n (way f up x) ≡ false
    clear k zero x d h = refl
    clear k (suc f) None d h = refl
    clear zero (suc f) (Some m) d h = absurd d
    clear (suc k) (suc f) (Some m) d h = ap₂ (λ a b. a || b) (ne_eqb m n (h m (inl refl))) (clear k f (up m) d (λ j g. h j (inr g)))

-- the way up of a tree is that by its parents
way-is : (t : Tree) (up : Up) → ((n : ℕ) → parent_of t n ≡ up n) → (k : ℕ) (x : Option ℕ) → way_up k t x ≡ way k up x
way-is t up e zero x = refl
way-is t up e (suc k) None = refl
way-is t up e (suc k) (Some n) = ap (λ ns. n ∷ ns) (ap (way_up k t) (e n) ∙ way-is t up e k (up n))

pub above-is : (t : Tree) (up : Up) (count c p : ℕ) → ((n : ℕ) → parent_of t n ≡ up n) → length t.nodes ≡ count → is_above t c p ≡ meets c (way count up (Some p))
above-is t up count c p e n = ap (meets c) (way-is t up e (length t.nodes) (Some p) ∙ ap (λ k. way k up (Some p)) n)
