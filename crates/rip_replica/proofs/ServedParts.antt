-- The served calls of parts, one after another.
use Rattle.std.proofs.Common.{◌≡◌, ℕ, suc, List, [], ◌∷◌, ◌++◌, length, map, Option, if◌then◌else◌, refl, ap, sym, subst, ◌∙◌, arith, append-nil, append_assoc}
use Rattle.std.specs.List.{zip}
use Rattle.rip_data.specs.Datum.{Tree}
use Rattle.rip_wire.specs.Answers.{served_of}
use Rattle.rip_wire.specs.declared.ending.Ending.{Ending}
use Rattle.rip_log.specs.Entries.{recorded_of}
use Rattle.rip_history.specs.Parts.{Fact, passes, serves, finishes, Part, Given, served_count, serves_call}
use Rattle.rip_history.specs.Services.{Called, Service, Serving, called_in, replies_to, serving_of, servings_in, served_entry, served_entries, answered_call, answered_calls}
use Rattle.rip_history.specs.declared.sessions.Made.{Made}
use Rattle.rip_history.specs.declared.sessions.Slice.{Slice}
use Rattle.rip_replica.specs.Serving.{IsServed, given_to}
use Rattle.rip_replica.specs.Slices.{AreServed}
use Rattle.rip_replica.specs.Standing.{ServeNone}

-- parts that serve no call

quiet_none : (qs : List Part) → ServeNone qs → servings_in qs ≡ []
quiet_none [] h = refl
quiet_none (q ∷ qs) h = ap (λ f. serving_of q.batch f ++ servings_in qs) h.0 ∙ quiet_none qs h.1

servings_append : (ps qs : List Part) → servings_in (ps ++ qs) ≡ servings_in ps ++ servings_in qs
servings_append [] qs = refl
servings_append (p ∷ ps) qs = ap (λ xs. serving_of p.batch p.fact ++ xs) (servings_append ps qs) ∙ sym (append_assoc (serving_of p.batch p.fact) (servings_in ps) (servings_in qs))

servings_quiet : (ps qs : List Part) → ServeNone qs → servings_in (ps ++ qs) ≡ servings_in ps
servings_quiet ps qs h = servings_append ps qs ∙ ap (λ xs. servings_in ps ++ xs) (quiet_none qs h) ∙ append-nil (servings_in ps)

-- how many there are
count_of_fact : (p : Part) (f : Fact) (ps : List Part) → p.fact ≡ f → length (servings_in ps) ≡ served_count ps → length (serving_of p.batch f ++ servings_in ps) ≡ (if serves_call f then suc (served_count ps) else served_count ps)
count_of_fact p passes ps is h = h
count_of_fact p (serves number name args) ps is h = ap suc h
count_of_fact p (finishes how) ps is h = h

servings_count : (ps : List Part) → length (servings_in ps) ≡ served_count ps
servings_count [] = refl
servings_count (p ∷ ps) = count_of_fact p p.fact ps refl (servings_count ps)

-- parts of which the same calls are served
served_same : (service : Service) (calls : List Called) (slice : Slice) (old new : Made) (Replies : List Called → Type 0) (ps qs : List Part) (gs : List Given) → servings_in ps ≡ servings_in qs
    → AreServed service calls slice old new Replies ps gs → AreServed service calls slice old new Replies qs gs
served_same service calls slice old new Replies ps qs gs same are =
    let R : List Serving → Type 0 = λ xs. Replies (calls ++ map (λ (s : Serving). (s.name, s.args)) xs) in
    record {
      replied = are.replied ∙ ap (λ xs. map (λ reply. record { time = slice.time; reply = reply }) (replies_to service calls (map (λ (s : Serving). (s.name, s.args)) xs))) same;
      replies = subst R same are.replies;
      entries = are.entries ∙ ap (λ xs. map recorded_of old.entries.items ++ map (served_entry slice.turn slice.session) (zip xs gs)) same;
      served = are.served ∙ ap (λ xs. map served_of old.served.items ++ map answered_call (zip xs gs)) same;
      each = sym (servings_count qs) ∙ ap length (sym same) ∙ servings_count ps ∙ are.each;
    }

pub served_quiet : (service : Service) (calls : List Called) (slice : Slice) (old new : Made) (Replies : List Called → Type 0) (ps qs : List Part) (gs : List Given) → ServeNone qs
    → AreServed service calls slice old new Replies ps gs → AreServed service calls slice old new Replies (ps ++ qs) gs
served_quiet service calls slice old new Replies ps qs gs quiet are = served_same service calls slice old new Replies ps (ps ++ qs) gs (sym (servings_quiet ps qs quiet)) are

-- a part that ends its batch serves no call
pub served_last : (service : Service) (calls : List Called) (slice : Slice) (old new : Made) (Replies : List Called → Type 0) (ps : List Part) (gs : List Given) (b n c : ℕ) (how : Option Ending)
    → AreServed service calls slice old new Replies ps gs → AreServed service calls slice old new Replies (ps ++ record { batch = b; item = n; cost = c; fact = finishes how } ∷ []) gs
served_last service calls slice old new Replies ps gs b n c how are =
    let p : Part = record { batch = b; item = n; cost = c; fact = finishes how } in
    served_same service calls slice old new Replies ps (ps ++ p ∷ []) gs (sym (servings_append ps (p ∷ []) ∙ append-nil (servings_in ps))) are

-- one call more

map_more : {A B : Type 0} (f : A → B) (xs : List A) (x : A) → map f (xs ++ x ∷ []) ≡ map f xs ++ f x ∷ []
map_more f [] x = refl
map_more f (y ∷ xs) x = ap (λ ys. f y ∷ ys) (map_more f xs x)

zip_more : {A B : Type 0} (xs : List A) (ys : List B) (x : A) (y : B) → length xs ≡ length ys → zip (xs ++ x ∷ []) (ys ++ y ∷ []) ≡ zip xs ys ++ (x, y) ∷ []
zip_more [] [] x y same = refl
zip_more [] (b ∷ ys) x y same = absurd (omega (arith, same))
zip_more (a ∷ xs) [] x y same = absurd (omega (arith, same))
zip_more (a ∷ xs) (b ∷ ys) x y same = ap (λ zs. (a, b) ∷ zs) (zip_more xs ys x y (omega (arith, same)))

replies_more : (service : Service) (calls cs : List Called) (c : Called) → replies_to service calls (cs ++ c ∷ []) ≡ replies_to service calls cs ++ service (calls ++ cs) c ∷ []
replies_more service calls [] c = ap (λ before. service before c ∷ []) (sym (append-nil calls))
replies_more service calls (b ∷ cs) c =
    ap (λ rs. service calls b ∷ rs) (replies_more service (calls ++ b ∷ []) cs c)
    ∙ ap (λ before. service calls b ∷ (replies_to service (calls ++ b ∷ []) cs ++ service before c ∷ [])) (append_assoc calls (b ∷ []) cs)

length_more : {A : Type 0} (xs : List A) (x : A) → length (xs ++ x ∷ []) ≡ suc (length xs)
length_more [] x = refl
length_more (y ∷ xs) x = ap suc (length_more xs x)

pub served_call : (service : Service) (calls : List Called) (slice : Slice) (old middle new : Made) (Before Replies : List Called → Type 0) (ps : List Part) (gs : List Given) (p : Part)
    (number : ℕ) (name : List ℕ) (args : List Tree) → p.fact ≡ serves number name args
    → IsServed slice p.batch number name args (given_to service (calls ++ called_in ps) slice.time name args) (calls ++ called_in ps) middle new Replies
    → AreServed service calls slice old middle Before ps gs
    → AreServed service calls slice old new Replies (ps ++ p ∷ []) (gs ++ given_to service (calls ++ called_in ps) slice.time name args ∷ [])
served_call service calls slice old middle new Before Replies ps gs p number name args fact served are =
    let g : Given = given_to service (calls ++ called_in ps) slice.time name args in
    let x : Serving = record { batch = p.batch; number = number; name = name; args = args } in
    let xs : List Serving = servings_in ps in
    let more : servings_in (ps ++ p ∷ []) ≡ xs ++ x ∷ [] = servings_append ps (p ∷ []) ∙ ap (λ f. xs ++ (serving_of p.batch f ++ [])) fact in
    let same : length xs ≡ length gs = servings_count ps ∙ are.each in
    let call : Serving → Called = λ s. (s.name, s.args) in
    let called : called_in (ps ++ p ∷ []) ≡ called_in ps ++ (name, args) ∷ [] = ap (λ ys. map call ys) more ∙ map_more call xs x in
    record {
      replied =
          ap (λ ys. ys ++ g ∷ []) are.replied
          ∙ sym (map_more (λ reply. record { time = slice.time; reply = reply }) (replies_to service calls (called_in ps)) (service (calls ++ called_in ps) (name, args)))
          ∙ ap (λ rs. map (λ reply. record { time = slice.time; reply = reply }) rs) (sym (replies_more service calls (called_in ps) (name, args)))
          ∙ ap (λ cs. map (λ reply. record { time = slice.time; reply = reply }) (replies_to service calls cs)) (sym called);
      replies = (let R : List Called → Type 0 = Replies in
          subst R (append_assoc calls (called_in ps) ((name, args) ∷ []) ∙ ap (λ cs. calls ++ cs) (sym called)) served.replies);
      entries = served.entries ∙ ap (λ es. es ++ served_entry slice.turn slice.session (x, g) ∷ []) are.entries
          ∙ append_assoc (map recorded_of old.entries.items) (served_entries slice.turn slice.session ps gs) (served_entry slice.turn slice.session (x, g) ∷ [])
          ∙ ap (λ es. map recorded_of old.entries.items ++ es) (sym (map_more (served_entry slice.turn slice.session) (zip xs gs) (x, g)))
          ∙ ap (λ zs. map recorded_of old.entries.items ++ map (served_entry slice.turn slice.session) zs) (sym (zip_more xs gs x g same))
          ∙ ap (λ ys. map recorded_of old.entries.items ++ map (served_entry slice.turn slice.session) (zip ys (gs ++ g ∷ []))) (sym more);
      served = served.served ∙ ap (λ es. es ++ answered_call (x, g) ∷ []) are.served
          ∙ append_assoc (map served_of old.served.items) (answered_calls ps gs) (answered_call (x, g) ∷ [])
          ∙ ap (λ es. map served_of old.served.items ++ es) (sym (map_more answered_call (zip xs gs) (x, g)))
          ∙ ap (λ zs. map served_of old.served.items ++ map answered_call zs) (sym (zip_more xs gs x g same))
          ∙ ap (λ ys. map served_of old.served.items ++ map answered_call (zip ys (gs ++ g ∷ []))) (sym more);
      each = sym (servings_count (ps ++ p ∷ [])) ∙ ap length more ∙ length_more xs x ∙ ap suc same ∙ sym (length_more gs g);
    }
