-- A start tag as it was read is one.
use Rattle.std.proofs.Common.{◌≡◌, ℕ, ◌+◌, ◌-◌, Bool, true, List, ◌++◌, length, take, drop, Option, sym, ap, ◌∙◌, subst}
use Rattle.std.specs.List.{prefix_len, list_all}
use Rattle.rip_base.specs.Units.{small_text, begins}
use Rattle.rip_markup.specs.Units.{is_letter, is_name_unit}
use Rattle.rip_markup.specs.Tags.{tag_end, tag_fault, AreRead, IsStartTag}
use Rattle.rip_markup.specs.Ends.{has_solidus, end_count}
use Rattle.rip_markup.specs.declared.fault.Fault.{Fault}
use Rattle.rip_markup.specs.declared.tag.TagEnd.{TagEnd}
use Rattle.rip_base.specs.declared.page.Attribute.{Attribute}
use Rattle.rip_markup.proofs.Runs.{run_all, run_stops, run_splits, run_begins_by}
use Rattle.rip_markup.proofs.Classes.{letter_name}
use Rattle.rip_markup.proofs.Turns.{read_end}

pub tag_stands : (behind spelled after : List ℕ) (count : ℕ) (name name' : List ℕ) (pairs : List Attribute) (found : Option Fault) (against : Bool) (place : ℕ) (rest' : List ℕ) (end : TagEnd) (name'' : List ℕ) (fault : Option Fault) (solidus : Bool) (ends : ℕ) →
    begins is_letter behind ≡ true → count ≡ prefix_len is_name_unit behind → spelled ≡ take count behind → after ≡ drop count behind → name ≡ small_text spelled → name' ≡ name →
    ((rest : List ℕ) × AreRead name' (1 + length spelled) after rest pairs found against place) → rest' ≡ drop (place - (1 + length spelled)) after →
    end ≡ tag_end rest' → name'' ≡ name → fault ≡ tag_fault name'' against found place end → solidus ≡ has_solidus end → ends ≡ end_count end →
    IsStartTag behind (record { name = name; attributes = pairs; solidus = solidus; fault = fault }) (place + ends)
tag_stands behind spelled after count name name' pairs found against place rest' end name'' fault solidus ends letter count-is spelled-is after-is name-is name'-is read rest-is end-is name''-is fault-is solidus-is ends-is =
    let front = spelled-is ∙ ap (λ n. take n behind) count-is in
    let back = after-is ∙ ap (λ n. drop n behind) count-is in
    let same = name'-is ∙ name-is in
    let rests : rest' ≡ read.0 = rest-is ∙ sym (read_end name' (1 + length spelled) after read.0 pairs found against place read.1) in
    let ended : end ≡ tag_end read.0 = end-is ∙ ap tag_end rests in
    let names = name''-is ∙ name-is in
    record {
      name = spelled;
      after = after;
      splits = run_splits is_name_unit behind ∙ (λ i. sym front i ++ sym back i);
      letter = ap (begins is_letter) front ∙ run_begins_by is_name_unit is_letter behind letter_name letter;
      each = ap (list_all is_name_unit) front ∙ run_all is_name_unit behind;
      longest = ap (begins is_name_unit) back ∙ run_stops is_name_unit behind;
      name-is = name-is;
      rest = read.0;
      found = found;
      against = against;
      place = place;
      read = subst (λ n. AreRead n (1 + length spelled) after read.0 pairs found against place) same read.1;
      fault-is = fault-is ∙ (λ i. tag_fault (names i) against found place (ended i));
      solidus-is = solidus-is ∙ ap has_solidus ended;
      count-is = ap (λ n. place + n) (ends-is ∙ ap end_count ended);
    }
