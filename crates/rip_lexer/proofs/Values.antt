-- The units that a text stands for, and the loop that puts them into a list.
use Rattle.std.proofs.Common.{◌≡◌, ℕ, List, [], ◌∷◌, ◌++◌, drop, Option, Some, None, filter_map, option_to_list, refl, sym, ap, ◌∙◌, subst, append-nil, append_assoc, get_or}
use Rattle.std.specs.List.{cons_option}
use Rattle.std.proofs.lemmas.Option.{none-some, same_Some}
use Rattle.rip_lexer.specs.Units.{class_of}
use Rattle.rip_lexer.specs.Text.{spell, width, spell_all, AreCharacters, character_value, StandsFor}
use Rattle.rip_lexer.specs.View.{first_character}
use Rattle.rip_lexer.specs.declared.units.UnitClass.TheVariants.{Quote}
use Rattle.rip_lexer.specs.declared.character.Character.{Character}
use Rattle.rip_lexer.proofs.Texts.{character_stands, sees_character, spell_cancels, ends_none}
use Rattle.rip_lexer.proofs.Longest.{one_reading_of_text, quote_ends}

-- the text stands for units of which those of the characters in the rest are to be put yet
pub record Remains (spelling : List ℕ) (quote : ℕ) (rest was now : List ℕ) : Type 0 where
  pub units : List ℕ
  pub stands : StandsFor spelling units
  pub characters : List Character
  pub is_quote : class_of quote ≡ Quote
  pub rest-is : rest ≡ spell_all characters (quote ∷ [])
  pub each : AreCharacters quote characters (quote ∷ [])
  pub whole : now ++ filter_map character_value characters ≡ was ++ units

-- a text stands for one list of units
pub one_value : (spelling units others : List ℕ) → StandsFor spelling units → StandsFor spelling others → units ≡ others
one_value spelling units others a b =
    let one = one_reading_of_text spelling a.quote b.quote a.characters b.characters (a.quote ∷ []) (b.quote ∷ []) a.reads b.reads in
    a.value ∙ ap (filter_map character_value) one.1 ∙ sym b.value

pub remains_all : (spelling units was : List ℕ) → StandsFor spelling units → Remains spelling (get_or spelling 0 0) (drop 1 spelling) was was
remains_all spelling units was stands =
    let first : get_or spelling 0 0 ≡ stands.quote = ap (λ u. get_or u 0 0) stands.reads.spelled in
    let rest : drop 1 spelling ≡ spell_all stands.characters (stands.quote ∷ []) = ap (λ u. drop 1 u) stands.reads.spelled in
    subst (λ q. Remains spelling q (drop 1 spelling) was was) (sym first) (record {
      units = units;
      stands = stands;
      characters = stands.characters;
      is_quote = stands.reads.is_quote;
      rest-is = rest;
      each = stands.reads.each;
      whole = ap (λ u. was ++ u) (sym stands.value);
    })

pub remains_none : (spelling : List ℕ) (quote : ℕ) (rest was now : List ℕ) → Remains spelling quote rest was now → first_character quote rest ≡ None → (units : List ℕ) → StandsFor spelling units → now ≡ was ++ units
remains_none spelling quote rest was now it none units stands = by it.characters it.rest-is it.each it.whole ∙ ap (λ u. was ++ u) (one_value spelling it.units units it.stands stands)
  where
    by : (cs : List Character) → rest ≡ spell_all cs (quote ∷ []) → AreCharacters quote cs (quote ∷ []) → now ++ filter_map character_value cs ≡ was ++ it.units → now ≡ was ++ it.units
    by [] splits each whole = sym (append-nil now) ∙ whole
    by (c ∷ cs) splits each whole = absurd (none-some c (sym none ∙ ap (first_character quote) splits ∙ sees_character quote it.is_quote c (spell_all cs (quote ∷ [])) each.0))

cons_is : (o : Option ℕ) (units : List ℕ) → cons_option o units ≡ option_to_list o ++ units
cons_is None units = refl
cons_is (Some u) units = refl

filter_map-cons : (c : Character) (cs : List Character) → filter_map character_value (c ∷ cs) ≡ option_to_list (character_value c) ++ filter_map character_value cs
filter_map-cons c cs = cons_is (character_value c) (filter_map character_value cs)

pub remains_more : (spelling : List ℕ) (quote : ℕ) (rest was now : List ℕ) (character : Character) → Remains spelling quote rest was now → first_character quote rest ≡ Some character → Remains spelling quote (drop (width character) rest) was (now ++ option_to_list (character_value character))
remains_more spelling quote rest was now character it first = by it.characters it.rest-is it.each it.whole
  where
    by : (cs : List Character) → rest ≡ spell_all cs (quote ∷ []) → AreCharacters quote cs (quote ∷ []) → now ++ filter_map character_value cs ≡ was ++ it.units → Remains spelling quote (drop (width character) rest) was (now ++ option_to_list (character_value character))
    by [] splits each whole = absurd (none-some character (sym (ends_none quote it.is_quote (quote ∷ []) (quote_ends quote [])) ∙ ap (first_character quote) (sym splits) ∙ first))
    by (c ∷ cs) splits each whole =
        let same : c ≡ character = same_Some c character (sym (sees_character quote it.is_quote c (spell_all cs (quote ∷ [])) each.0) ∙ ap (first_character quote) (sym splits) ∙ first) in
        let stands = character_stands quote rest character first in
        let tail : stands.rest ≡ spell_all cs (quote ∷ []) = spell_cancels character _ _ (sym stands.splits ∙ splits ∙ ap (λ (x : Character). spell x (spell_all cs (quote ∷ []))) same) in
        record {
          units = it.units;
          stands = it.stands;
          characters = cs;
          is_quote = it.is_quote;
          rest-is = sym stands.rest-is ∙ tail;
          each = each.1;
          whole = append_assoc now (option_to_list (character_value character)) (filter_map character_value cs) ∙ ap (λ u. now ++ u) (sym (filter_map-cons character cs)) ∙ ap (λ (x : Character). now ++ filter_map character_value (x ∷ cs)) (sym same) ∙ whole;
        }

-- a turn of the loop over characters
pub value_turn : (spelling : List ℕ) (quote : ℕ) (rest after was now next : List ℕ) (character : Character) (unit : Option ℕ) (step : ℕ) → Remains spelling quote rest was now → Some character ≡ first_character quote rest → after ≡ drop step rest → step ≡ width character → unit ≡ character_value character → next ≡ now ++ option_to_list unit → Remains spelling quote after was next
value_turn spelling quote rest after was now next character unit step it first after-is step-is unit-is next-is =
    subst (λ u. Remains spelling quote u was next) (sym (after-is ∙ ap (λ n. drop n rest) step-is))
    (subst (λ u. Remains spelling quote (drop (width character) rest) was u) (sym (next-is ∙ ap (λ o. now ++ option_to_list o) unit-is)) (remains_more spelling quote rest was now character it (sym first)))
