-- How lines that are put join.
use Rattle.std.proofs.Common.{◌≡◌, ℕ, zero, suc, ◌+◌, ◌<◌, List, [], ◌∷◌, ◌++◌, length, take, drop, map, get_or, Option, refl, sym, ap, subst, ◌∙◌, append-nil, append_assoc, arith}
use Rattle.std.specs.Prelude.{Result, Ok, Err, IsErr}
use Rattle.std.proofs.lemmas.List.{take_more, map_push, map-append}
use Rattle.std.proofs.lemmas.List.Concat.{flat_map-append}
use Rattle.rip_outer.specs.Outside.{also, Front}
use Rattle.rip_outer.proofs.Composing.{also-also, Front-after, Front-longer}
use Rattle.rip_log.specs.Entries.{Recorded, recorded_of, entry_text}
use Rattle.rip_log.specs.Histories.{history_text}
use Rattle.rip_log.specs.declared.entry.Entry.{Entry}
use Rattle.rip_server.specs.Puts.{IsPut}
use Rattle.rip_server.specs.declared.halt.Halt.{Halt}

pub history-append : (xs ys : List Recorded) → history_text (xs ++ ys) ≡ history_text xs ++ history_text ys
history-append xs ys = flat_map-append entry_text xs ys

history-push : (xs : List Recorded) (e : Recorded) → history_text (xs ++ e ∷ []) ≡ history_text xs ++ entry_text e
history-push xs e = history-append xs (e ∷ []) ∙ ap (λ (t : List ℕ). history_text xs ++ t) (append-nil (entry_text e))

-- one line more
pub put_more : (xs : List Recorded) (e : Recorded) (first second third : Option (List ℕ)) → second ≡ also (history_text xs) first
    → third ≡ also (entry_text e) second → third ≡ also (history_text (xs ++ e ∷ [])) first
put_more xs e first second third before line =
    line ∙ ap (also (entry_text e)) before ∙ also-also (history_text xs) (entry_text e) first
    ∙ ap (λ (t : List ℕ). also t first) (sym (history-push xs e))

-- a front of a line, where more was to come
pub put_cut : (xs : List Recorded) (e : Recorded) (ys : List Recorded) (first second third : Option (List ℕ)) → second ≡ also (history_text xs) first
    → Front (entry_text e) second third → Front (history_text (xs ++ e ∷ ys)) first third
put_cut xs e ys first second third before line =
    let all : history_text (xs ++ e ∷ ys) ≡ (history_text xs ++ entry_text e) ++ history_text ys =
    history-append xs (e ∷ ys) ∙ sym (append_assoc (history_text xs) (entry_text e) (history_text ys)) in
    subst (λ (t : List ℕ). Front t first third) (sym all)
    (Front-longer (history_text xs ++ entry_text e) (history_text ys) first third (Front-after (history_text xs) (entry_text e) first second third before line))

-- the elements up to a place and with it
take_with : (es : List Entry) (i : ℕ) (e : Entry) → i < length es → get_or es i e ≡ e → take (i + 1) es ≡ take i es ++ e ∷ []
take_with es i e below is = take_more es i e below ∙ ap (λ (d : Entry). take i es ++ d ∷ []) is

split_at : (es : List Entry) (i : ℕ) (e : Entry) → i < length es → get_or es i e ≡ e → es ≡ take i es ++ e ∷ drop (suc i) es
split_at [] i e below is = absurd (omega (arith, below))
split_at (x ∷ es) zero e below is = ap (λ (t : Entry). t ∷ es) is
split_at (x ∷ es) (suc i) e below is = ap (λ (t : List Entry). x ∷ t) (split_at es i e (omega (arith, below)) is)

pub entries_more : (es : List Entry) (i : ℕ) (e : Entry) → i < length es → get_or es i e ≡ e
    → map recorded_of (take (i + 1) es) ≡ map recorded_of (take i es) ++ recorded_of e ∷ []
entries_more es i e below is = ap (map recorded_of) (take_with es i e below is) ∙ map_push recorded_of (take i es) e

pub entries_at : (es : List Entry) (i : ℕ) (e : Entry) → i < length es → get_or es i e ≡ e
    → map recorded_of (take i es) ++ recorded_of e ∷ map recorded_of (drop (suc i) es) ≡ map recorded_of es
entries_at es i e below is =
    sym (ap (map recorded_of) (split_at es i e below is) ∙ map-append recorded_of (take i es) (e ∷ drop (suc i) es))

-- what stops has put a front
pub put_err : {A : Type 0} (r : Result A Halt) (bytes : List ℕ) (old new : Option (List ℕ)) → IsErr r → Front bytes old new → IsPut r bytes old new
put_err (Ok x) bytes old new e f = cc
put_err (Err halt) bytes old new e f = f
