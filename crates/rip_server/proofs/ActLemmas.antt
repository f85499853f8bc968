-- How acts join.
use Rattle.std.proofs.Common.{◌≡◌, ℕ, zero, suc, ◌+◌, Bool, true, false, cond, eqb, List, [], ◌∷◌, ◌++◌, length, Option, Some, None, refl, sym, ap, subst, ◌∙◌, append_assoc, append-nil, arith}
use Rattle.std.specs.Prelude.{option_map, count_by, Result, Ok, Err, IsErr}
use Rattle.std.specs.List.{fold}
use Rattle.std.proofs.lemmas.List.Concat.{flat_map-append}
use Rattle.rip_outer.specs.Connections.{Told, knocked, lost, Telling, is_knock, hushed, also_shut}
use Rattle.rip_outer.specs.Outside.{also, Front}
use Rattle.rip_outer.specs.declared.connections.TraceKnock.{TraceKnock}
use Rattle.rip_outer.proofs.Composing.{also-nil, also-also, Front-none}
use Rattle.rip_log.specs.Entries.{Recorded, entry_text}
use Rattle.rip_log.specs.Histories.{history_text}
use Rattle.rip_history.specs.Connections.{Act, puts, sends, loses, shuts, put_in, sent_in, lost_in, answer_acts}
use Rattle.rip_server.specs.Acts.{Seen, left_by, shut_by, Did, InPart, Stopped, Acted}
use Rattle.rip_server.specs.Sending.{found_gone, is_gone}
use Rattle.rip_server.specs.declared.halt.Halt.{Halt}
use Rattle.rip_server.specs.declared.send.Reached.{Reached}

-- ---- what is in acts one after another

more_bytes : (t : Bool) (b x y xy : List ℕ) → xy ≡ x ++ y → cond t (b ++ xy) xy ≡ cond t (b ++ x) x ++ y
more_bytes true b x y xy e = ap (λ (z : List ℕ). b ++ z) e ∙ sym (append_assoc b x y)
more_bytes false b x y xy e = e

sent_in-append : (c : ℕ) (xs ys : List Act) → sent_in c (xs ++ ys) ≡ sent_in c xs ++ sent_in c ys
sent_in-append c [] ys = refl
sent_in-append c (puts e ∷ xs) ys = sent_in-append c xs ys
sent_in-append c (sends d bytes ∷ xs) ys = more_bytes (eqb d c) bytes (sent_in c xs) (sent_in c ys) (sent_in c (xs ++ ys)) (sent_in-append c xs ys)
sent_in-append c (loses d ∷ xs) ys = sent_in-append c xs ys
sent_in-append c (shuts d ∷ xs) ys = sent_in-append c xs ys

put_in-append : (xs ys : List Act) → put_in (xs ++ ys) ≡ put_in xs ++ put_in ys
put_in-append [] ys = refl
put_in-append (puts e ∷ xs) ys = ap (λ (z : List Recorded). e ∷ z) (put_in-append xs ys)
put_in-append (sends d bytes ∷ xs) ys = put_in-append xs ys
put_in-append (loses d ∷ xs) ys = put_in-append xs ys
put_in-append (shuts d ∷ xs) ys = put_in-append xs ys

lost_in-append : (xs ys : List Act) → lost_in (xs ++ ys) ≡ lost_in xs ++ lost_in ys
lost_in-append [] ys = refl
lost_in-append (puts e ∷ xs) ys = lost_in-append xs ys
lost_in-append (sends d bytes ∷ xs) ys = lost_in-append xs ys
lost_in-append (loses d ∷ xs) ys = ap (λ (z : List Told). lost d ∷ z) (lost_in-append xs ys)
lost_in-append (shuts d ∷ xs) ys = lost_in-append xs ys

left_by-append : (xs ys : List Act) (left : Option (List TraceKnock)) → left_by (xs ++ ys) left ≡ left_by ys (left_by xs left)
left_by-append [] ys left = refl
left_by-append (puts e ∷ xs) ys left = left_by-append xs ys left
left_by-append (sends d bytes ∷ xs) ys left = left_by-append xs ys left
left_by-append (loses d ∷ xs) ys left = left_by-append xs ys (option_map (hushed d) left)
left_by-append (shuts d ∷ xs) ys left = left_by-append xs ys (option_map (hushed d) left)

shut_by-append : (xs ys : List Act) (told : Option (List Told)) (shut : Option (List (ℕ × ℕ)))
    → shut_by (xs ++ ys) told shut ≡ shut_by ys told (shut_by xs told shut)
shut_by-append [] ys told shut = refl
shut_by-append (puts e ∷ xs) ys told shut = shut_by-append xs ys told shut
shut_by-append (sends d bytes ∷ xs) ys told shut = shut_by-append xs ys told shut
shut_by-append (loses d ∷ xs) ys told shut = shut_by-append xs ys told shut
shut_by-append (shuts d ∷ xs) ys told shut = shut_by-append xs ys told (also_shut d told shut)

-- ---- a loss is no knock

fold-lost : (n : ℕ) (xs : List Act) → fold (λ (a : ℕ) (x : Told). a + cond (is_knock x) 1 0) n (lost_in xs) ≡ n
fold-lost n [] = refl
fold-lost n (puts e ∷ xs) = fold-lost n xs
fold-lost n (sends d bytes ∷ xs) = fold-lost n xs
fold-lost n (loses d ∷ xs) = fold-lost (n + 0) xs ∙ omega arith
fold-lost n (shuts d ∷ xs) = fold-lost n xs

fold-knocks : (n : ℕ) (old : List Told) (xs : List Act)
    → fold (λ (a : ℕ) (x : Told). a + cond (is_knock x) 1 0) n (old ++ lost_in xs) ≡ fold (λ (a : ℕ) (x : Told). a + cond (is_knock x) 1 0) n old
fold-knocks n [] xs = fold-lost n xs
fold-knocks n (t ∷ old) xs = fold-knocks (n + cond (is_knock t) 1 0) old xs

knocks-lost : (old : List Told) (xs : List Act) → count_by is_knock (old ++ lost_in xs) ≡ count_by is_knock old
knocks-lost old xs = fold-knocks 0 old xs

also_shut-lost : (c : ℕ) (xs : List Act) (told : Option (List Told)) (shut : Option (List (ℕ × ℕ)))
    → also_shut c (also (lost_in xs) told) shut ≡ also_shut c told shut
also_shut-lost c xs None shut = refl
also_shut-lost c xs (Some old) shut = ap (λ (n : ℕ). also ((c, n) ∷ []) shut) (knocks-lost old xs)

shut_by-lost : (xs ys : List Act) (told : Option (List Told)) (shut : Option (List (ℕ × ℕ)))
    → shut_by ys (also (lost_in xs) told) shut ≡ shut_by ys told shut
shut_by-lost xs [] told shut = refl
shut_by-lost xs (puts e ∷ ys) told shut = shut_by-lost xs ys told shut
shut_by-lost xs (sends d bytes ∷ ys) told shut = shut_by-lost xs ys told shut
shut_by-lost xs (loses d ∷ ys) told shut = shut_by-lost xs ys told shut
shut_by-lost xs (shuts d ∷ ys) told shut =
    shut_by-lost xs ys told (also_shut d (also (lost_in xs) told) shut)
    ∙ ap (λ (s : Option (List (ℕ × ℕ))). shut_by ys told s) (also_shut-lost d xs told shut)

-- ---- acts that were done

pub did_none : (s : Seen) → Did [] s s
did_none s = record {
  sent = λ c. also-nil (s.sent c);
  told = also-nil s.telling.told;
  left = refl;
  shut = refl;
  asked = refl;
  held = also-nil s.held;
}

pub did_then : (xs ys : List Act) (a b c : Seen) → Did xs a b → Did ys b c → Did (xs ++ ys) a c
did_then xs ys a b c x y = record {
  sent = λ k. y.sent k ∙ ap (also (sent_in k ys)) (x.sent k) ∙ also-also (sent_in k xs) (sent_in k ys) (a.sent k)
      ∙ ap (λ (t : List ℕ). also t (a.sent k)) (sym (sent_in-append k xs ys));
  told = y.told ∙ ap (also (lost_in ys)) x.told ∙ also-also (lost_in xs) (lost_in ys) a.telling.told
      ∙ ap (λ (t : List Told). also t a.telling.told) (sym (lost_in-append xs ys));
  left = y.left ∙ ap (left_by ys) x.left ∙ sym (left_by-append xs ys a.telling.left);
  shut = y.shut ∙ ap (λ (t : Option (List Told)). shut_by ys t b.shut) x.told ∙ shut_by-lost xs ys a.telling.told b.shut
      ∙ ap (λ (s : Option (List (ℕ × ℕ))). shut_by ys a.telling.told s) x.shut ∙ sym (shut_by-append xs ys a.telling.told a.shut);
  asked = y.asked ∙ x.asked;
  held = y.held ∙ ap (also (history_text (put_in ys))) x.held ∙ also-also (history_text (put_in xs)) (history_text (put_in ys)) a.held
      ∙ ap (λ (t : List ℕ). also t a.held) (sym (ap history_text (put_in-append xs ys) ∙ flat_map-append entry_text (put_in xs) (put_in ys)));
}

-- ---- a front of acts

nothing_sent : (t : Bool) (none : List ℕ) → none ≡ [] → none ≡ cond t (none ++ []) []
nothing_sent true none e = sym (append-nil none)
nothing_sent false none e = e

sends_nothing : (c : ℕ) (a b : Seen) → Did [] a b → Did (sends c [] ∷ []) a b
sends_nothing c a b d = record {
  sent = λ k. d.sent k ∙ ap (λ (t : List ℕ). also t (a.sent k)) (nothing_sent (eqb c k) [] refl);
  told = d.told;
  left = d.left;
  shut = d.shut;
  asked = d.asked;
  held = d.held;
}

pub in_part_none : (acts : List Act) (a b : Seen) → Did [] a b → InPart acts a b
in_part_none [] a b d = d
in_part_none (puts e ∷ acts) a b d = (a.held, Front-none (entry_text e) a.held a.held refl, d)
in_part_none (sends c bytes ∷ acts) a b d = let none : List ℕ = [] in (none, bytes, refl, sends_nothing c a b d)
in_part_none (loses c ∷ acts) a b d = d
in_part_none (shuts c ∷ acts) a b d = d

pub stopped_none : (acts : List Act) (a : Seen) → Stopped acts a a
stopped_none acts a = record {
  done = [];
  others = acts;
  parts = refl;
  mid = a;
  did = did_none a;
  in_part = in_part_none acts a a (did_none a);
}

pub stopped_then : (xs ys : List Act) (a b c : Seen) → Did xs a b → Stopped ys b c → Stopped (xs ++ ys) a c
stopped_then xs ys a b c x y = record {
  done = xs ++ y.done;
  others = y.others;
  parts = ap (λ (t : List Act). xs ++ t) y.parts ∙ sym (append_assoc xs y.done y.others);
  mid = y.mid;
  did = did_then xs y.done a b y.mid x y.did;
  in_part = y.in_part;
}

more_part : (xs ys : List Act) (a b : Seen) → InPart xs a b → InPart (xs ++ ys) a b
more_part [] ys a b i = in_part_none ys a b i
more_part (puts e ∷ xs) ys a b i = i
more_part (sends c bytes ∷ xs) ys a b i = i
more_part (loses c ∷ xs) ys a b i = i
more_part (shuts c ∷ xs) ys a b i = i

pub stopped_more : (xs ys : List Act) (a b : Seen) → Stopped xs a b → Stopped (xs ++ ys) a b
stopped_more xs ys a b s = record {
  done = s.done;
  others = s.others ++ ys;
  parts = ap (λ (t : List Act). t ++ ys) s.parts ∙ append_assoc s.done s.others ys;
  mid = s.mid;
  did = s.did;
  in_part = more_part s.others ys s.mid b s.in_part;
}

-- nothing is done where nothing has changed
pub stopped_same : (acts : List Act) (a b : Seen) → Did [] a b → Stopped acts a b
stopped_same acts a b d = record {
  done = [];
  others = acts;
  parts = refl;
  mid = b;
  did = d;
  in_part = in_part_none acts b b (did_none b);
}

-- what stops stops in its acts
pub acted_err : {A : Type 0} (r : Result A Halt) (acts : List Act) (a b : Seen) → IsErr r → Stopped acts a b → Acted r acts a b
acted_err (Ok x) acts a b e s = cc
acted_err (Err halt) acts a b e s = s

pub did_nothing : (acts : List Act) (a : Seen) → acts ≡ [] → Did acts a a
did_nothing acts a e = subst (λ (t : List Act). Did t a a) (sym e) (did_none a)

-- ---- an answer on a connection

pub answer_stopped : (r : Result Reached Halt) (n m : ℕ) (close : Bool) (text : List ℕ) (a b : Seen) → IsErr r → n ≡ m
    → Stopped (answer_acts false close n text) a b → Acted r (answer_acts (is_gone r) close m text) a b
answer_stopped (Ok x) n m close text a b e same s = cc
answer_stopped (Err halt) n m close text a b e same s = subst (λ (k : ℕ). Stopped (answer_acts false close k text) a b) same s

pub answer_done : (r x : Reached) (n m : ℕ) (close : Bool) (text : List ℕ) (a b : Seen) → r ≡ x → n ≡ m
    → Did (answer_acts (found_gone r) close n text) a b → Did (answer_acts (found_gone x) close m text) a b
answer_done r x n m close text a b is same d =
    subst (λ (k : ℕ). Did (answer_acts (found_gone x) close k text) a b) same (subst (λ (t : Reached). Did (answer_acts (found_gone t) close n text) a b) is d)

pub did_as : (acts same : List Act) (a b : Seen) → acts ≡ same → Did same a b → Did acts a b
did_as acts same a b e d = subst (λ (t : List Act). Did t a b) (sym e) d
