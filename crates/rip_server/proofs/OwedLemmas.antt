-- An answer that is owed is sent.
use Rattle.std.proofs.Common.{◌≡◌, ℕ, zero, suc, ◌<◌, ◌≤◌, Bool, true, false, cond, ◌||◌, eqb, List, [], ◌∷◌, length, Option, Some, None, refl, sym, ap, subst, ◌∙◌, arith}
use Rattle.std.specs.Prelude.{slice_get, slice_set, Result, Ok, Err, OnOk}
use Rattle.std.specs.List.{AllByRecursion}
use Rattle.rip_http.specs.Answers.{answer_text}
use Rattle.rip_http.specs.declared.answer.HttpAnswer.{HttpAnswer}
use Rattle.rip_history.specs.Connections.{Connection as Link, Connections as Links, without, changed, answer_acts}
use Rattle.rip_history.specs.Run.{answered_there}
use Rattle.rip_server.specs.Acts.{Seen, Acted}
use Rattle.rip_server.specs.Links.{AreRising, AreLinks, answered_with}
use Rattle.rip_server.specs.Sending.{found_gone, is_gone}
use Rattle.rip_server.specs.declared.connection.Connection.{Connection}
use Rattle.rip_server.specs.declared.halt.Halt.{Halt}
use Rattle.rip_server.specs.declared.send.Reached.{Reached}
use Rattle.rip_server.proofs.LinkLemmas.{without-changed}

-- ---- a change that keeps the numbers

kept : (n : ℕ) (f : Link → Link) → ((c : Link) → (f c).number ≡ c.number) → (c : Link) (t : Bool) → (let d = cond t (f c) c in d.number) ≡ c.number
kept n f keeps c true = keeps c
kept n f keeps c false = refl

all-changed : (P : ℕ → Type 0) (n : ℕ) (f : Link → Link) → ((c : Link) → (f c).number ≡ c.number) → (cs : List Link)
    → AllByRecursion (λ (c : Link). P c.number) cs → AllByRecursion (λ (c : Link). P c.number) (changed n f cs)
all-changed P n f keeps [] all = tt
all-changed P n f keeps (c ∷ cs) all = (subst P (sym (kept n f keeps c (eqb c.number n))) all.0, all-changed P n f keeps cs all.1)

pub rising-changed : (n high : ℕ) (f : Link → Link) → ((c : Link) → (f c).number ≡ c.number) → (cs : List Link) → AreRising cs high → AreRising (changed n f cs) high
rising-changed n high f keeps [] rising = tt
rising-changed n high f keeps (c ∷ cs) rising = (
  subst (λ (m : ℕ). m < high) (sym (kept n f keeps c (eqb c.number n))) rising.0,
  subst (λ (m : ℕ). AllByRecursion (λ (d : Link). m < d.number) (changed n f cs)) (sym (kept n f keeps c (eqb c.number n)))
      (all-changed (λ (m : ℕ). c.number < m) n f keeps cs rising.1),
  rising-changed n high f keeps cs rising.2,
)

length-changed : (n : ℕ) (f : Link → Link) (cs : List Link) → length (changed n f cs) ≡ length cs
length-changed n f [] = refl
length-changed n f (c ∷ cs) = ap suc (length-changed n f cs)

pub links_changed : (P : ℕ → Type 0) (opened n : ℕ) (f : Link → Link) → ((c : Link) → (f c).number ≡ c.number) → (cs now : List Link) → now ≡ changed n f cs
    → AreLinks P (record { opened = opened; there = cs }) → AreLinks P (record { opened = opened; there = now })
links_changed P opened n f keeps cs now is links =
    subst (λ (t : List Link). AreLinks P (record { opened = opened; there = t })) (sym is) (record {
      rising = rising-changed n opened f keeps cs links.rising;
      each = all-changed P n f keeps cs links.each;
      few = omega (arith, links.few, length-changed n f cs);
    })

pub get_set : (cs : List Connection) (place : ℕ) (d : Connection) → place < length cs → slice_get (slice_set cs place d) place ≡ Some d
get_set [] place d below = absurd (omega (arith, below))
get_set (c ∷ cs) zero d below = refl
get_set (c ∷ cs) (suc place) d below = get_set cs place d (omega (arith, below))

-- ---- what becomes of the connection, and what is done

pub answered_so : (r : Result Reached Halt) (new : List Link) (n : ℕ) (close told : Bool) (there now : List Link) (o : Option (ℕ × Bool)) → o ≡ Some (n, close)
    → told ≡ close → now ≡ changed n (λ (c : Link). record c { owed = None }) there → OnOk r (new ≡ cond (is_gone r || told) (without n now) now)
    → OnOk r (new ≡ answered_there (is_gone r) o there)
answered_so (Err halt) new n close told there now o is same left h = tt
answered_so (Ok reached) new n close told there now o is same left h =
    subst (λ (x : Option (ℕ × Bool)). new ≡ answered_there (found_gone reached) x there) (sym is)
    (h ∙ ap (λ (t : Bool). cond (found_gone reached || t) (without n now) now) same ∙ by_test (found_gone reached || close))
  where
    by_test : (t : Bool) → cond t (without n now) now ≡ cond t (without n there) (changed n (λ (c : Link). record c { owed = None }) there)
    by_test true = ap (without n) left ∙ without-changed n (λ (c : Link). record c { owed = None }) (λ c. refl) there
    by_test false = left

pub acted_owed : (r : Result Reached Halt) (o : Option (ℕ × Bool)) (n : ℕ) (close : Bool) (sent a : HttpAnswer) (x y : Seen) → o ≡ Some (n, close)
    → sent ≡ record a { close = close } → Acted r (answer_acts (is_gone r) sent.close n (answer_text sent)) x y → Acted r (answered_with (is_gone r) o a) x y
acted_owed r o n close sent a x y is same acted =
    subst (λ (p : Option (ℕ × Bool)). Acted r (answered_with (is_gone r) p a) x y) (sym is)
    (subst (λ (b : HttpAnswer). Acted r (answer_acts (is_gone r) b.close n (answer_text b)) x y) same acted)
