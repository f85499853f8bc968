-- What is done at the door, while the sink holds what it holds, and what is put to the sink.
use Rattle.std.proofs.Common.{◌≡◌, inl, inr, ◌⊎◌, ℕ, List, [], ◌∷◌, ◌++◌, Option, refl, sym, ap, subst, ◌∙◌, append-nil}
use Rattle.std.specs.Prelude.{Result, Ok, Err}
use Rattle.rip_outer.specs.Connections.{Told}
use Rattle.rip_outer.specs.Outside.{also, Front}
use Rattle.rip_outer.specs.declared.connections.TraceKnock.{TraceKnock}
use Rattle.rip_outer.proofs.Composing.{also-nil, also-also}
use Rattle.rip_log.specs.Entries.{Recorded, entry_text}
use Rattle.rip_log.specs.Histories.{history_text}
use Rattle.rip_history.specs.Connections.{Act, puts, sends, loses, shuts, put_in, sent_in, lost_in, all_put}
use Rattle.rip_server.specs.Acts.{Seen, left_by, shut_by, Did, InPart, Stopped, Acted}
use Rattle.rip_server.specs.Puts.{Logged, Counts}
use Rattle.rip_server.specs.declared.halt.Halt.{Halt}
use Rattle.rip_server.specs.declared.halt.Halt.TheVariants.{Outside, Memory}
use Rattle.rip_server.proofs.ActLemmas.{did_none, did_then, stopped_then, stopped_more, stopped_same}
use Rattle.rip_server.specs.Turning.{Faults}

-- ---- what the sink holds stays

did_held : (acts : List Act) (a b : Seen) (held : Option (List ℕ)) → put_in acts ≡ [] → Did acts a b
    → Did acts (record a { held = held }) (record b { held = held })
did_held acts a b held none d = record {
  sent = d.sent;
  told = d.told;
  left = d.left;
  shut = d.shut;
  asked = d.asked;
  held = also-nil held ∙ ap (λ (es : List Recorded). also (history_text es) held) (sym none);
}

part_held : (acts : List Act) (a b : Seen) (held : Option (List ℕ)) → put_in acts ≡ [] → InPart acts a b
    → InPart acts (record a { held = held }) (record b { held = held })
part_held [] a b held none d = did_held [] a b held refl d
part_held (puts e ∷ acts) a b held none d = cc
part_held (sends c bytes ∷ acts) a b held none (more, rest, is, d) = (more, rest, is, did_held (sends c more ∷ []) a b held refl d)
part_held (loses c ∷ acts) a b held none d = did_held [] a b held refl d
part_held (shuts c ∷ acts) a b held none d = did_held [] a b held refl d

none_first : (xs ys : List Act) → put_in (xs ++ ys) ≡ [] → put_in xs ≡ []
none_first [] ys e = refl
none_first (puts x ∷ xs) ys e = cc
none_first (sends c bytes ∷ xs) ys e = none_first xs ys e
none_first (loses c ∷ xs) ys e = none_first xs ys e
none_first (shuts c ∷ xs) ys e = none_first xs ys e

none_then : (xs ys : List Act) → put_in (xs ++ ys) ≡ [] → put_in ys ≡ []
none_then [] ys e = e
none_then (puts x ∷ xs) ys e = cc
none_then (sends c bytes ∷ xs) ys e = none_then xs ys e
none_then (loses c ∷ xs) ys e = none_then xs ys e
none_then (shuts c ∷ xs) ys e = none_then xs ys e

stopped_held : (acts : List Act) (a b : Seen) (held : Option (List ℕ)) → put_in acts ≡ [] → Stopped acts a b
    → Stopped acts (record a { held = held }) (record b { held = held })
stopped_held acts a b held none s =
    let both : put_in (s.done ++ s.others) ≡ [] = ap put_in (sym s.parts) ∙ none in
    record {
      done = s.done;
      others = s.others;
      parts = s.parts;
      mid = record s.mid { held = held };
      did = did_held s.done a s.mid held (none_first s.done s.others both) s.did;
      in_part = part_held s.others s.mid b held (none_then s.done s.others both) s.in_part;
    }

-- what is done where nothing is put is done whatever the sink holds
pub acted_held : {A : Type 0} (r : Result A Halt) (acts : List Act) (a b : Seen) (held : Option (List ℕ)) → put_in acts ≡ [] → Acted r acts a b
    → Acted r acts (record a { held = held }) (record b { held = held })
acted_held (Ok x) acts a b held none d = did_held acts a b held none d
acted_held (Err halt) acts a b held none s = stopped_held acts a b held none s

-- ---- one after another

pub acted_then : {A : Type 0} (r : Result A Halt) (xs ys : List Act) (a b c : Seen) → Did xs a b → Acted r ys b c → Acted r (xs ++ ys) a c
acted_then (Ok x) xs ys a b c d e = did_then xs ys a b c d e
acted_then (Err halt) xs ys a b c d s = stopped_then xs ys a b c d s

pub acted_as : {A : Type 0} (r : Result A Halt) (acts same : List Act) (a b : Seen) → same ≡ acts → Acted r acts a b → Acted r same a b
acted_as r acts same a b e h = subst (λ (t : List Act). Acted r t a b) (sym e) h

-- ---- entries are put

puts-all : (es : List Recorded) → put_in (all_put es) ≡ es
puts-all [] = refl
puts-all (e ∷ es) = ap (λ (t : List Recorded). e ∷ t) (puts-all es)

sent-none : (c : ℕ) (es : List Recorded) → sent_in c (all_put es) ≡ []
sent-none c [] = refl
sent-none c (e ∷ es) = sent-none c es

lost-none : (es : List Recorded) → lost_in (all_put es) ≡ []
lost-none [] = refl
lost-none (e ∷ es) = lost-none es

left-same : (es : List Recorded) (left : Option (List TraceKnock)) → left_by (all_put es) left ≡ left
left-same [] left = refl
left-same (e ∷ es) left = left-same es left

shut-same : (es : List Recorded) (told : Option (List Told)) (shut : Option (List (ℕ × ℕ))) → shut_by (all_put es) told shut ≡ shut
shut-same [] told shut = refl
shut-same (e ∷ es) told shut = shut-same es told shut

pub did_put : (es : List Recorded) (a : Seen) (held : Option (List ℕ)) → held ≡ also (history_text es) a.held
    → Did (all_put es) a (record a { held = held })
did_put es a held e = record {
  sent = λ c. also-nil (a.sent c) ∙ ap (λ (t : List ℕ). also t (a.sent c)) (sym (sent-none c es));
  told = also-nil a.telling.told ∙ ap (λ (t : List Told). also t a.telling.told) (sym (lost-none es));
  left = sym (left-same es a.telling.left);
  shut = sym (shut-same es a.telling.told a.shut);
  asked = refl;
  held = e ∙ ap (λ (t : List Recorded). also (history_text t) a.held) (sym (puts-all es));
}

-- ---- a front of entries is put

abbrev Cuts : List ℕ → List ℕ → List ℕ → List ℕ → Type 0
Cuts xs ys front rest = ((r : List ℕ) × (xs ≡ front ++ r)) ⊎ ((f : List ℕ) × (front ≡ xs ++ f) × (ys ≡ f ++ rest))

-- a front of two texts is one of the first, or the first and a front of the second
cuts : (xs ys front rest : List ℕ) → xs ++ ys ≡ front ++ rest → Cuts xs ys front rest
cuts [] ys front rest e = inr (front, refl, e)
cuts (x ∷ xs) ys [] rest e = inl (x ∷ xs, refl)
cuts (x ∷ xs) ys (y ∷ front) rest e = step (cuts xs ys front rest cc) cc
  where
    step : Cuts xs ys front rest → x ≡ y → Cuts (x ∷ xs) ys (y ∷ front) rest
    step (inl (r, is)) same = inl (r, ap (λ (t : List ℕ). x ∷ t) is ∙ ap (λ (z : ℕ). z ∷ (front ++ r)) same)
    step (inr (f, is, more)) same = inr (f, ap (λ (t : List ℕ). y ∷ t) is ∙ ap (λ (z : ℕ). z ∷ (xs ++ f)) (sym same), more)

no_front : (front rest : List ℕ) → [] ≡ front ++ rest → front ≡ []
no_front [] rest e = refl
no_front (x ∷ front) rest e = cc

pub put_stopped : (es : List Recorded) (a : Seen) (held : Option (List ℕ)) → Front (history_text es) a.held held
    → Stopped (all_put es) a (record a { held = held })
put_stopped [] a held f =
    let none : held ≡ also [] a.held = f.added ∙ ap (λ (t : List ℕ). also t a.held) (no_front f.front f.rest f.parts) in
    stopped_same [] a (record a { held = held }) (did_put [] a held none)
put_stopped (e ∷ es) a held f = step (cuts (entry_text e) (history_text es) f.front f.rest f.parts) (put_stopped es (record a { held = also (entry_text e) a.held }) held)
  where
    step : Cuts (entry_text e) (history_text es) f.front f.rest
        → (Front (history_text es) (also (entry_text e) a.held) held → Stopped (all_put es) (record a { held = also (entry_text e) a.held }) (record a { held = held }))
        → Stopped (all_put (e ∷ es)) a (record a { held = held })
    step (inl (r, is)) more = record {
      done = [];
      others = all_put (e ∷ es);
      parts = refl;
      mid = a;
      did = did_none a;
      in_part = (held, record { front = f.front; rest = r; parts = is; added = f.added }, did_none (record a { held = held }));
    }
    step (inr (g, is, rest_is)) more =
        let mid : Seen = record a { held = also (entry_text e) a.held } in
        stopped_then (puts e ∷ []) (all_put es) a mid (record a { held = held })
        (did_put (e ∷ []) a (also (entry_text e) a.held) (ap (λ (t : List ℕ). also t a.held) (sym (append-nil (entry_text e)))))
        (more (record {
          front = g;
          rest = f.rest;
          parts = rest_is;
          added = f.added ∙ ap (λ (t : List ℕ). also t a.held) is ∙ sym (also-also (entry_text e) g a.held);
        }))

pub acted_put : {A : Type 0} (r : Result A Halt) (es : List Recorded) (a : Seen) (held : Option (List ℕ)) → Logged r es a.held held
    → Acted r (all_put es) a (record a { held = held })
acted_put (Ok x) es a held e = did_put es a held e
acted_put (Err halt) es a held f = put_stopped es a held f

-- entries are put, or the turn stops before what follows
pub put_cut_short : {A : Type 0} (r : Result A Halt) (es : List Recorded) (ys : List Act) (a : Seen) (held : Option (List ℕ)) → (halt : Halt) → r ≡ Err halt
    → Logged r es a.held held → Acted r (all_put es ++ ys) a (record a { held = held })
put_cut_short (Ok x) es ys a held halt e f = cc
put_cut_short (Err h) es ys a held halt e f = stopped_more (all_put es) ys a (record a { held = held }) (put_stopped es a held f)

-- ---- what failed

pub faults_door : {A : Type 0} (r : Result A Halt) (door door_new sink : ℕ) → Counts r door door_new → Faults r door door_new sink sink
faults_door (Ok x) door door_new sink e = (e, refl)
faults_door (Err Outside) door door_new sink e = inl (e, refl)
faults_door (Err Memory) door door_new sink e = (e, refl)

pub faults_sink : {A : Type 0} (r : Result A Halt) (door sink sink_new : ℕ) → Counts r sink sink_new → Faults r door door sink sink_new
faults_sink (Ok x) door sink sink_new e = (refl, e)
faults_sink (Err Outside) door sink sink_new e = inr (refl, e)
faults_sink (Err Memory) door sink sink_new e = (refl, e)
