-- Entries that are counted.
use Rattle.std.proofs.Common.{◌≡◌, ◌∙◌, ℕ, ◌+◌, ◌<◌, ◌≤◌, Bool, true, false, List, [], ◌∷◌, map, length, take, get_or, count_by, refl, sym, ap, cond, arith}
use Rattle.std.specs.List.{fold}
use Rattle.std.proofs.lemmas.List.Sums.{count_by_more_no, count_by_more_yes}
use Rattle.rip_log.specs.Entries.{Recorded, recorded_of}
use Rattle.rip_log.specs.declared.entry.Entry.{Entry}
use Rattle.rip_gen.specs.Counts.{is_of, many}
use Rattle.rip_gen.specs.declared.generate.count.Kind.{Kind}

fold_map : {A B C : Type 0} (g : C → B → C) (f : A → B) (a : C) (xs : List A) → fold g a (map f xs) ≡ fold (λ b x. g b (f x)) a xs
fold_map g f a [] = refl
fold_map g f a (x ∷ xs) = fold_map g f (g a (f x)) xs

-- an entry of the kind
abbrev pub counts : Kind → Entry → Bool
counts kind e = is_of kind (recorded_of e)

many_are : (kind : Kind) (entries : List Entry) → many kind (map recorded_of entries) ≡ count_by (counts kind) entries
many_are kind entries = fold_map (λ (n : ℕ) (r : Recorded). n + cond (is_of kind r) 1 0) recorded_of 0 entries

-- so many of the first entries are of the kind
pub record Counted (kind : Kind) (entries : List Entry) (index n : ℕ) : Type 0 where
  pub is : n ≡ count_by (counts kind) (take index entries)
  pub few : n ≤ index

pub many_none : (kind : Kind) (entries : List Entry) → Counted kind entries 0 0
many_none kind entries = record { is = refl; few = omega arith }

pub many_more : (kind : Kind) (entries : List Entry) (index n : ℕ) (e : Entry) → Counted kind entries index n → index < length entries → e ≡ get_or entries index e → counts kind e ≡ true → Counted kind entries (index + 1) (n + 1)
many_more kind entries index n e c low at is =
    let here : counts kind (get_or entries index e) ≡ true = ap (counts kind) (sym at) ∙ is in
    record { is = ap (λ m. m + 1) c.is ∙ sym (count_by_more_yes (counts kind) entries index e low here); few = omega (arith, c.few) }

pub many_same : (kind : Kind) (entries : List Entry) (index n : ℕ) (e : Entry) → Counted kind entries index n → index < length entries → e ≡ get_or entries index e → counts kind e ≡ false → Counted kind entries (index + 1) n
many_same kind entries index n e c low at is =
    let here : counts kind (get_or entries index e) ≡ false = ap (counts kind) (sym at) ∙ is in
    record { is = c.is ∙ sym (count_by_more_no (counts kind) entries index e low here); few = omega (arith, c.few) }

take_all : {A : Type 0} (xs : List A) → take (length xs) xs ≡ xs
take_all [] = refl
take_all (x ∷ xs) = ap (λ ys. x ∷ ys) (take_all xs)

pub many_all : (kind : Kind) (entries : List Entry) (n : ℕ) → Counted kind entries (length entries) n → n ≡ many kind (map recorded_of entries)
many_all kind entries n c = c.is ∙ ap (count_by (counts kind)) (take_all entries) ∙ sym (many_are kind entries)
