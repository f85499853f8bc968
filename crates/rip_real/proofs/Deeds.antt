-- What one deed more tells.
use Rattle.std.proofs.Common.{◌≡◌, ◌≢◌, ◌+◌, ℕ, Bool, cond, List, [], ◌∷◌, ◌++◌, map, take, drop, flat_map, count_by, Some, refl, sym, ap, ◌∙◌, arith, append-nil}
use Rattle.std.proofs.lemmas.Grind.{flat_map-append}
use Rattle.std.proofs.lemmas.List.{take-append-drop}
use Rattle.std.proofs.lemmas.List.Sums.{sum_by-append}
use Rattle.rip_outer.specs.Outside.{also, Front}
use Rattle.rip_outer.specs.Connections.{Told, Goes, knocked, is_knock, telling, loses, busy_told, Sends}
use Rattle.rip_outer.specs.declared.connections.Knock.{Knock}
use Rattle.rip_outer.specs.declared.connections.Sent.{Sent}
use Rattle.rip_outer.specs.declared.connections.Sent.TheVariants as answer
use Rattle.rip_real.specs.History.{Deed, next, send, shut, read, put, give, told_of, told_in, telling_of, busy_of, busy_in, sent_of, sent_in, taken, shuts_after, shuts_in, written_of, written_in}

-- what each deed gives, and then what one more gives
pub one_more_deed : {A : Type 0} (f : Deed → List A) (deeds : List Deed) (d : Deed) → flat_map f (deeds ++ d ∷ []) ≡ flat_map f deeds ++ f d
one_more_deed f deeds d = flat_map-append f deeds (d ∷ []) ∙ ap (λ more. flat_map f deeds ++ more) (append-nil (f d))

-- a front of bytes that was written
pub front_written : (deeds : List Deed) (bytes : List ℕ) (n : ℕ) → Front bytes (written_in deeds) (written_in (deeds ++ put (take n bytes) ∷ []))
front_written deeds bytes n = record {
  front = take n bytes;
  rest = drop n bytes;
  parts = sym (take-append-drop n bytes);
  added = ap Some (one_more_deed written_of deeds (put (take n bytes)));
}

-- A KNOCK

pub told_next : (deeds : List Deed) (k : Knock) (room : List ℕ) (busy : Bool) → told_in (deeds ++ next k room busy ∷ []) ≡ told_in deeds ++ map knocked (telling k room)
told_next deeds k room busy = one_more_deed told_of deeds (next k room busy)

pub goes_next : (deeds : List Deed) (k : Knock) (room : List ℕ) (busy : Bool) → Goes (telling_of deeds) (telling_of (deeds ++ next k room busy ∷ [])) (telling k room)
goes_next deeds k room busy = record { told = ap Some (told_next deeds k room busy); left = refl }

pub busy_next : (deeds : List Deed) (k : Knock) (room : List ℕ) (busy : Bool) → busy_in (deeds ++ next k room busy ∷ []) ≡ also (busy_told k busy) (busy_in deeds)
busy_next deeds k room busy = ap Some (one_more_deed busy_of deeds (next k room busy))

pub sent_next : (deeds : List Deed) (k : Knock) (room : List ℕ) (busy : Bool) (c : ℕ) → sent_in (deeds ++ next k room busy ∷ []) c ≡ sent_in deeds c
sent_next deeds k room busy c = ap Some (one_more_deed (sent_of c) deeds (next k room busy) ∙ append-nil (flat_map (sent_of c) deeds))

-- the shuts of calls, and then those of one more
shut_of : ℕ → Deed → List (ℕ × ℕ)
shut_of n d = shuts_after n (d ∷ [])

knocks_of : Deed → ℕ
knocks_of d = count_by is_knock (told_of d)

pub shuts_next_after : (n : ℕ) (deeds : List Deed) (k : Knock) (room : List ℕ) (busy : Bool) → shuts_after n (deeds ++ next k room busy ∷ []) ≡ shuts_after n deeds
shuts_next_after n [] k room busy = refl
shuts_next_after n (next j r b ∷ deeds) k room busy = shuts_next_after (n + count_by is_knock (told_of (next j r b))) deeds k room busy
shuts_next_after n (send s c bytes ∷ deeds) k room busy = shuts_next_after n deeds k room busy
shuts_next_after n (shut c ∷ deeds) k room busy = ap (λ more. (c, n) ∷ more) (shuts_next_after n deeds k room busy)
shuts_next_after n (read name ∷ deeds) k room busy = shuts_next_after n deeds k room busy
shuts_next_after n (put bytes ∷ deeds) k room busy = shuts_next_after n deeds k room busy
shuts_next_after n (give m ∷ deeds) k room busy = shuts_next_after n deeds k room busy

pub shuts_next : (deeds : List Deed) (k : Knock) (room : List ℕ) (busy : Bool) → shuts_in (deeds ++ next k room busy ∷ []) ≡ shuts_in deeds
shuts_next = shuts_next_after 0

-- A SEND

pub told_send : (deeds : List Deed) (s : Sent) (c : ℕ) (bytes : List ℕ) → told_in (deeds ++ send s c bytes ∷ []) ≡ told_in deeds ++ loses s c
told_send deeds s c bytes = one_more_deed told_of deeds (send s c bytes)

pub busy_send : (deeds : List Deed) (s : Sent) (c : ℕ) (bytes : List ℕ) → busy_in (deeds ++ send s c bytes ∷ []) ≡ busy_in deeds
busy_send deeds s c bytes = ap Some (one_more_deed busy_of deeds (send s c bytes) ∙ append-nil (flat_map busy_of deeds))

taken_here : (s : Sent) (c : ℕ) (bytes : List ℕ) → sent_of c (send s c bytes) ≡ taken s bytes
taken_here s c bytes = grind arith

pub sent_here : (deeds : List Deed) (s : Sent) (c : ℕ) (bytes : List ℕ) → sent_in (deeds ++ send s c bytes ∷ []) c ≡ also (taken s bytes) (sent_in deeds c)
sent_here deeds s c bytes = ap Some (one_more_deed (sent_of c) deeds (send s c bytes) ∙ ap (λ more. flat_map (sent_of c) deeds ++ more) (taken_here s c bytes))

nothing_sent : (deeds : List Deed) (s : Sent) (c : ℕ) (bytes : List ℕ) → taken s bytes ≡ [] → sent_in (deeds ++ send s c bytes ∷ []) c ≡ sent_in deeds c
nothing_sent deeds s c bytes none = sent_here deeds s c bytes ∙ ap Some (ap (λ more. flat_map (sent_of c) deeds ++ more) none ∙ append-nil (flat_map (sent_of c) deeds))

pub sends : (deeds : List Deed) (s : Sent) (c : ℕ) (bytes : List ℕ) → Sends s bytes (sent_in deeds c) (sent_in (deeds ++ send s c bytes ∷ []) c)
sends deeds answer.Done c bytes = sent_here deeds answer.Done c bytes
sends deeds answer.Gone c bytes = nothing_sent deeds answer.Gone c bytes refl
sends deeds answer.Failed c bytes = record { front = []; rest = bytes; parts = refl; added = sent_here deeds answer.Failed c bytes }
sends deeds answer.Memory c bytes = nothing_sent deeds answer.Memory c bytes refl

taken_elsewhere : (s : Sent) (c d : ℕ) (bytes : List ℕ) → d ≢ c → sent_of d (send s c bytes) ≡ []
taken_elsewhere s c d bytes other = grind arith

pub sent_elsewhere : (deeds : List Deed) (s : Sent) (c d : ℕ) (bytes : List ℕ) → d ≢ c → sent_in (deeds ++ send s c bytes ∷ []) d ≡ sent_in deeds d
sent_elsewhere deeds s c d bytes other = ap Some (one_more_deed (sent_of d) deeds (send s c bytes) ∙ ap (λ more. flat_map (sent_of d) deeds ++ more) (taken_elsewhere s c d bytes other) ∙ append-nil (flat_map (sent_of d) deeds))

pub shuts_send_after : (n : ℕ) (deeds : List Deed) (s : Sent) (c : ℕ) (bytes : List ℕ) → shuts_after n (deeds ++ send s c bytes ∷ []) ≡ shuts_after n deeds
shuts_send_after n [] s c bytes = refl
shuts_send_after n (next j r b ∷ deeds) s c bytes = shuts_send_after (n + count_by is_knock (told_of (next j r b))) deeds s c bytes
shuts_send_after n (send t d more ∷ deeds) s c bytes = shuts_send_after n deeds s c bytes
shuts_send_after n (shut d ∷ deeds) s c bytes = ap (λ more. (d, n) ∷ more) (shuts_send_after n deeds s c bytes)
shuts_send_after n (read name ∷ deeds) s c bytes = shuts_send_after n deeds s c bytes
shuts_send_after n (put more ∷ deeds) s c bytes = shuts_send_after n deeds s c bytes
shuts_send_after n (give m ∷ deeds) s c bytes = shuts_send_after n deeds s c bytes

pub shuts_send : (deeds : List Deed) (s : Sent) (c : ℕ) (bytes : List ℕ) → shuts_in (deeds ++ send s c bytes ∷ []) ≡ shuts_in deeds
shuts_send = shuts_send_after 0

-- A SHUT

pub told_shut : (deeds : List Deed) (c : ℕ) → told_in (deeds ++ shut c ∷ []) ≡ told_in deeds
told_shut deeds c = one_more_deed told_of deeds (shut c) ∙ append-nil (told_in deeds)

pub busy_shut : (deeds : List Deed) (c : ℕ) → busy_in (deeds ++ shut c ∷ []) ≡ busy_in deeds
busy_shut deeds c = ap Some (one_more_deed busy_of deeds (shut c) ∙ append-nil (flat_map busy_of deeds))

pub sent_shut : (deeds : List Deed) (c d : ℕ) → sent_in (deeds ++ shut c ∷ []) d ≡ sent_in deeds d
sent_shut deeds c d = ap Some (one_more_deed (sent_of d) deeds (shut c) ∙ append-nil (flat_map (sent_of d) deeds))

count_two : (xs ys : List Told) → count_by is_knock (xs ++ ys) ≡ count_by is_knock xs + count_by is_knock ys
count_two xs ys = sum_by-append (λ x. cond (is_knock x) 1 0) xs ys

no_knocks_lost : (s : Sent) (c : ℕ) → count_by is_knock (loses s c) ≡ 0
no_knocks_lost answer.Done c = refl
no_knocks_lost answer.Gone c = refl
no_knocks_lost answer.Failed c = refl
no_knocks_lost answer.Memory c = refl

pub shuts_shut_after : (n m : ℕ) (deeds : List Deed) (c : ℕ) → m ≡ n + count_by is_knock (told_in deeds) → shuts_after n (deeds ++ shut c ∷ []) ≡ shuts_after n deeds ++ (c, m) ∷ []
shuts_shut_after n m [] c e = ap (λ k. (c, k) ∷ []) (sym (e ∙ omega arith))
shuts_shut_after n m (next j r b ∷ deeds) c e = shuts_shut_after (n + count_by is_knock (told_of (next j r b))) m deeds c (omega (arith, e, count_two (told_of (next j r b)) (told_in deeds)))
shuts_shut_after n m (send t d more ∷ deeds) c e = shuts_shut_after n m deeds c (omega (arith, e, count_two (loses t d) (told_in deeds), no_knocks_lost t d))
shuts_shut_after n m (shut d ∷ deeds) c e = ap (λ more. (d, n) ∷ more) (shuts_shut_after n m deeds c e)
shuts_shut_after n m (read name ∷ deeds) c e = shuts_shut_after n m deeds c e
shuts_shut_after n m (put more ∷ deeds) c e = shuts_shut_after n m deeds c e
shuts_shut_after n m (give k ∷ deeds) c e = shuts_shut_after n m deeds c e

pub shuts_shut : (deeds : List Deed) (c : ℕ) → shuts_in (deeds ++ shut c ∷ []) ≡ shuts_in deeds ++ (c, count_by is_knock (told_in deeds)) ∷ []
shuts_shut deeds c = shuts_shut_after 0 (count_by is_knock (told_in deeds)) deeds c (omega arith)
