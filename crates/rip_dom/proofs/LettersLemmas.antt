-- A text that is put behind all others unit by unit, each in other letters.
use Rattle.std.proofs.Common.{◌≡◌, ℕ, suc, ◌+◌, ◌<◌, ◌≤◌, List, [], ◌∷◌, ◌++◌, length, map, take, get_or, refl, sym, ap, ap₂, ◌∙◌, arith}
use Rattle.std.proofs.lemmas.List.{append_assoc, length-map}
use Rattle.rip_base.specs.declared.value.Span.{Span}
use Rattle.rip_values.specs.Pool.{Texts, IsSpan, text_at, with_text, span_behind, held as held_span}
use Rattle.rip_dom.specs.declared.letters.Letters.{Letters}
use Rattle.rip_dom.specs.Letters.{text_in, unit_in}
use Rattle.rip_dom.proofs.CreationLemmas.{stands-still, take-all, take-none, take-one}

push : (letters : Letters) (xs : List ℕ) (u : ℕ) → text_in letters (xs ++ u ∷ []) ≡ text_in letters xs ++ unit_in letters u ∷ []
push letters [] u = refl
push letters (x ∷ xs) u = ap (λ l. unit_in letters x ∷ l) (push letters xs u)

texts-more : (p : Texts) (a b : List ℕ) (n m : ℕ) → with_text (with_text p a n) b m ≡ with_text p (a ++ b) (n + m)
texts-more p a b n m =
    let used : p.used + n + m ≡ p.used + (n + m) = omega arith in
    ap₂ (λ us k. record p { units = us; used = k }) (append_assoc p.units a b) used

-- so many units of the text are behind all others, in these letters
pub record Copied (letters : Letters) (old now : Texts) (held : Span) (text : List ℕ) (i : ℕ) : Type 0 where
  pub count : held.count ≡ length text
  pub lies : IsSpan old held
  pub stands : text_at old held ≡ text
  pub texts : now ≡ with_text old (text_in letters (take i text)) i
  pub room : old.used + length text ≤ old.limit

pub copied-none : (letters : Letters) (old now : Texts) (name held : Span) → held ≡ held_span old name → IsSpan old held → text_at old held ≡ text_at old name → old.used + length (text_at old name) ≤ old.limit → now ≡ with_text old [] 0
    → Copied letters old now held (text_at old name) 0
copied-none letters old now name held e lies stands room n = record {
  count = ap (λ (s : Span). s.count) e;
  lies = lies;
  stands = stands;
  texts = n ∙ ap (λ us. with_text old (text_in letters us) 0) (sym (take-none (text_at old name)));
  room = room;
}

pub copied-unit : (letters : Letters) (old now : Texts) (held : Span) (text : List ℕ) (i u : ℕ) → Copied letters old now held text i → u ≡ get_or (text_at now held) i 0 → u ≡ get_or text i 0
copied-unit letters old now held text i u l e =
    e ∙ ap (λ us. get_or us i 0) (stands-still old now (text_in letters (take i text)) held (ap (λ (t : Texts). t.units) l.texts) l.lies ∙ l.stands)

-- the next unit is there to be charged
pub copied-room : (letters : Letters) (old now : Texts) (held : Span) (text : List ℕ) (i : ℕ) → Copied letters old now held text i → i < held.count → now.used + 1 ≤ now.limit
copied-room letters old now held text i l h =
    let used : now.used ≡ old.used + i = ap (λ (t : Texts). t.used) l.texts in
    let limit : now.limit ≡ old.limit = ap (λ (t : Texts). t.limit) l.texts in
    omega (arith, used, limit, l.room, l.count, h)

pub copied-more : (letters : Letters) (old now new : Texts) (held : Span) (text : List ℕ) (i unit u : ℕ) → Copied letters old now held text i → i < held.count → u ≡ get_or text i 0 → unit ≡ unit_in letters u → new ≡ with_text now (unit ∷ []) 1
    → Copied letters old new held text (i + 1)
copied-more letters old now new held text i unit u l h f s n =
    let below : i < length text = omega (arith, l.count, h) in
    let next : i + 1 ≡ suc i = omega arith in
    let taken : take (i + 1) text ≡ take i text ++ get_or text i 0 ∷ [] = ap (λ k. take k text) next ∙ take-one text i below in
    record {
      count = l.count;
      lies = l.lies;
      stands = l.stands;
      texts =
          n ∙ ap₂ (λ t v. with_text t (v ∷ []) 1) l.texts (s ∙ ap (unit_in letters) f)
          ∙ texts-more old (text_in letters (take i text)) (unit_in letters (get_or text i 0) ∷ []) i 1
          ∙ ap (λ us. with_text old us (i + 1)) (sym (push letters (take i text) (get_or text i 0)) ∙ ap (text_in letters) (sym taken));
      room = l.room;
    }

pub copied-all : (letters : Letters) (old now : Texts) (held : Span) (text : List ℕ) (i : ℕ) → Copied letters old now held text i → i ≡ held.count → now ≡ with_text old (text_in letters text) (length text)
copied-all letters old now held text i l e =
    let whole : i ≡ length text = e ∙ l.count in
    let enough : length text ≤ i = omega (arith, whole) in
    l.texts ∙ ap₂ (λ us k. with_text old (text_in letters us) k) (take-all text i enough) whole

pub copied-span : (letters : Letters) (old : Texts) (text : List ℕ) (end held : Span) → end ≡ span_behind old [] → held.count ≡ length text → record { start = end.start; count = held.count } ≡ span_behind old (text_in letters text)
copied-span letters old text end held e c =
    let at : ℕ → ℕ → Span = λ s k. record { start = s; count = k } in
    ap₂ at (ap (λ (s : Span). s.start) e) (c ∙ sym (length-map text (unit_in letters)))
