-- Histories and their logs.
use Rattle.std.proofs.Common.{◌≡◌, ◌≢◌, ℕ, suc, ◌+◌, ◌<◌, ◌≤◌, List, [], ◌∷◌, ◌++◌, length, map, refl, sym, ap, ◌∙◌, arith, append_assoc, append-nil, length-append}
use Rattle.rip_log.specs.Entries.{Recorded, recorded_of, entry_text}
use Rattle.rip_log.specs.Histories.{history_text, IsHistory, IsRefusedAt, LogTellsHistory, RefusalIsOne}
use Rattle.rip_log.specs.Ranges.{IsRecorded}
use Rattle.rip_log.specs.declared.entry.Entry.{Entry}
use Rattle.rip_log.proofs.LineLemmas.{line_of, words_of_line, line_no_feed, feed_cut, cut_line}
use Rattle.rip_log.proofs.SameLemmas.{recorded_same}

-- two entries whose lines begin one text are equal, and so is what is behind them
pub entry_same : (r s : Recorded) (a b : List ℕ) → IsRecorded r → IsRecorded s → entry_text r ++ a ≡ entry_text s ++ b → (r ≡ s) × (a ≡ b)
entry_same r s a b h g e =
    let cut = feed_cut (line_of r) (line_of s) a b (line_no_feed r h) (line_no_feed s g) (sym (cut_line r a) ∙ e ∙ cut_line s b) in
    let words = sym (words_of_line r h) ∙ ap Rattle.rip_log.specs.Words.words cut.0 ∙ words_of_line s g in
    (recorded_same r s h g words, cut.1)

line_some : (a rest : List ℕ) → a ++ 10 ∷ rest ≢ []
line_some [] rest e = cc
line_some (x ∷ a) rest e = cc

-- no line is empty
pub some_line : (r : Recorded) (rest : List ℕ) → entry_text r ++ rest ≡ [] → ⊥
some_line r rest e = line_some (line_of r) rest (sym (cut_line r rest) ∙ e)

more : (r s : Recorded) (g h : List Recorded) → r ≡ s → g ≡ h → r ∷ g ≡ s ∷ h
more r s g h e f = cc

pub logs : LogTellsHistory
logs [] [] hg hh e = refl
logs [] (s ∷ h) hg hh e = absurd (some_line s (history_text h) (sym e))
logs (r ∷ g) [] hg hh e = absurd (some_line r (history_text g) e)
logs (r ∷ g) (s ∷ h) hg hh e =
    let first = entry_same r s (history_text g) (history_text h) hg.0 hh.0 e in
    more r s g h first.0 (logs g h hg.1 hh.1 first.1)

-- ---- refusals

-- behind entries stands something that begins with no entry's line
pub record Stops (text : List ℕ) (g : List Recorded) (behind : List ℕ) : Type 0 where
  pub is : text ≡ history_text g ++ behind
  pub none : (r : Recorded) (rest : List ℕ) → IsRecorded r → behind ≢ entry_text r ++ rest

apart : (r : Recorded) (a b : List ℕ) → entry_text r ++ a ++ b ≡ entry_text r ++ (a ++ b)
apart r a b = append_assoc (entry_text r) a b

stops_same : (g h : List Recorded) (text behind other : List ℕ) → IsHistory g → IsHistory h → Stops text g behind → Stops text h other → length g ≡ length h
stops_same [] [] text behind other hg hh sg sh = refl
stops_same [] (s ∷ h) text behind other hg hh sg sh =
    absurd (sg.none s (history_text h ++ other) hh.0 (sym sg.is ∙ sh.is ∙ apart s (history_text h) other))
stops_same (r ∷ g) [] text behind other hg hh sg sh =
    absurd (sh.none r (history_text g ++ behind) hg.0 (sym sh.is ∙ sg.is ∙ apart r (history_text g) behind))
stops_same (r ∷ g) (s ∷ h) text behind other hg hh sg sh =
    let first = entry_same r s (history_text g ++ behind) (history_text h ++ other) hg.0 hh.0 (sym (apart r (history_text g) behind) ∙ sym sg.is ∙ sh.is ∙ apart s (history_text h) other) in
    ap suc (stops_same g h (history_text g ++ behind) behind other hg.1 hh.1 (record { is = refl; none = sg.none }) (record { is = first.1; none = sh.none }))

stops : (text : List ℕ) (n : ℕ) (r : IsRefusedAt text n) → Stops text r.before r.behind
stops text n r = record { is = r.is; none = r.none }

one_line : (text : List ℕ) (m n : ℕ) → IsRefusedAt text m → IsRefusedAt text n → m ≡ n
one_line text m n r s =
    r.number ∙ ap (λ k. k + 1) (stops_same r.before s.before text r.behind s.behind r.in_range s.in_range (stops text m r) (stops text n s)) ∙ sym s.number

-- a log goes on with no entry's line behind its last, and with nothing
no_log_stops : (g h : List Recorded) (behind : List ℕ) → IsHistory g → IsHistory h → Stops (history_text h) g behind → behind ≢ [] → ⊥
no_log_stops [] [] behind hg hh s some = some (sym s.is)
no_log_stops [] (r ∷ h) behind hg hh s some = s.none r (history_text h) hh.0 (sym s.is)
no_log_stops (r ∷ g) [] behind hg hh s some = some_line r (history_text g ++ behind) (sym (apart r (history_text g) behind) ∙ sym s.is)
no_log_stops (r ∷ g) (q ∷ h) behind hg hh s some =
    let first = entry_same q r (history_text h) (history_text g ++ behind) hh.0 hg.0 (s.is ∙ apart r (history_text g) behind) in
    no_log_stops g h behind hg.1 hh.1 (record { is = first.1; none = s.none }) some

pub refusals : RefusalIsOne
refusals = record {
  line = one_line;
  no_log = λ h n g r. no_log_stops r.before h r.behind r.in_range g (stops (history_text h) n r) r.some;
}

-- ---- reading

-- the entries that were read, and what is left of the text
pub record Progress (text : List ℕ) (entries : List Entry) (rest : List ℕ) : Type 0 where
  pub is : text ≡ history_text (map recorded_of entries) ++ rest
  pub in_range : IsHistory (map recorded_of entries)
  pub count : length entries + length rest ≤ length text

pub progress_none : (text : List ℕ) → Progress text [] text
progress_none text = record { is = refl; in_range = tt; count = omega arith }

history_push : (entries : List Entry) (e : Entry) (rest : List ℕ) → history_text (map recorded_of (entries ++ e ∷ [])) ++ rest ≡ history_text (map recorded_of entries) ++ (entry_text (recorded_of e) ++ rest)
history_push [] e rest = append_assoc (entry_text (recorded_of e)) [] rest
history_push (f ∷ entries) e rest =
    append_assoc (entry_text (recorded_of f)) (history_text (map recorded_of (entries ++ e ∷ []))) rest
    ∙ ap (λ bs. entry_text (recorded_of f) ++ bs) (history_push entries e rest)
    ∙ sym (append_assoc (entry_text (recorded_of f)) (history_text (map recorded_of entries)) (entry_text (recorded_of e) ++ rest))

all_push : (entries : List Entry) (e : Entry) → IsHistory (map recorded_of entries) → IsRecorded (recorded_of e) → IsHistory (map recorded_of (entries ++ e ∷ []))
all_push [] e h g = (g, tt)
all_push (f ∷ entries) e h g = (h.0, all_push entries e h.1 g)

pub progress_more : (text : List ℕ) (entries : List Entry) (rest : List ℕ) (e : Entry) (behind : List ℕ) → Progress text entries rest → rest ≡ entry_text (recorded_of e) ++ behind → IsRecorded (recorded_of e) → length behind < length rest → Progress text (entries ++ e ∷ []) behind
progress_more text entries rest e behind p is h shorter = record {
  is = p.is ∙ ap (λ bs. history_text (map recorded_of entries) ++ bs) is ∙ sym (history_push entries e behind);
  in_range = all_push entries e p.in_range h;
  count = omega (arith, p.count, length-append entries (e ∷ []));
}

pub progress_end : (text : List ℕ) (entries : List Entry) (rest : List ℕ) → Progress text entries rest → rest ≡ [] → text ≡ history_text (map recorded_of entries)
progress_end text entries rest p none =
    p.is ∙ ap (λ bs. history_text (map recorded_of entries) ++ bs) none ∙ append-nil (history_text (map recorded_of entries))

count_map : (entries : List Entry) → length (map recorded_of entries) ≡ length entries
count_map [] = refl
count_map (e ∷ entries) = ap suc (count_map entries)

pub progress_refused : (text : List ℕ) (entries : List Entry) (rest : List ℕ) (n : ℕ) → Progress text entries rest → rest ≢ [] → ((r : Recorded) (behind : List ℕ) → IsRecorded r → rest ≡ entry_text r ++ behind → ⊥) → n ≡ length entries + 1 → IsRefusedAt text n
progress_refused text entries rest n p some none number = record {
  before = map recorded_of entries;
  behind = rest;
  in_range = p.in_range;
  is = p.is;
  number = number ∙ ap (λ k. k + 1) (sym (count_map entries));
  some = some;
  none = none;
}
