-- Lexemes that are read as literals.
use Rattle.std.proofs.Common.{◌≡◌, lt-ltb, bytes_eq, Bool, true, false, ltb, ltb-true, ltb-false, ℕ, ◌+◌, ◌-◌, ◌<◌, ◌≤◌, List, [], ◌∷◌, ◌++◌, length, take, drop, All, refl, sym, ap, ◌∙◌, subst, arith, get_or, append_assoc}
use Rattle.std.specs.Prelude.{IsTrue, ◌↔◌}
use Rattle.std.proofs.Math.Seq.{drop-append_seam, take-append_seam, take-length}
use Rattle.rip_lexer.specs.Tokens.{IsTokenOf, IsSpelling}
use Rattle.rip_lexer.specs.Text.{StandsFor}
use Rattle.rip_lexer.specs.declared.token.Token.{Token}
use Rattle.rip_lexer.specs.declared.token.TokenKind.{TokenKind}
use Rattle.rip_tree.specs.Branches.{units_at}
use Rattle.rip_tree.specs.declared.node.Piece.{Piece}
use Rattle.rip_grammar.specs.declared.word.Lexeme.{Lexeme}
use Rattle.rip_parser.specs.Shows.{IsText, spelling_of}
use Rattle.rip_parser.specs.Listed.{AreInOrder, IsListed, IsTextToken}
use Rattle.std.proofs.lemmas.Slice.Eq.{bytes_eq-Decides}
use Rattle.std.specs.List.Sorted.{IsPartitionPoint, IsPartitionedBy}

-- a listed text stands for units
pub text_stands : (script : List ℕ) (tokens : List Token) (t : Lexeme) (d : Token) → All (IsTokenOf script) tokens → IsListed tokens t → (units : List ℕ) × StandsFor (spelling_of script t) units
text_stands script tokens t d all listed =
    let token = get_or tokens listed.0 d in
    let is : IsTextToken t token = listed.2 d in
    let spelled : IsSpelling token.kind (take token.count (drop token.start script)) = (all listed.0 d listed.1).spelled in
    let same : take token.count (drop token.start script) ≡ spelling_of script t = ap (λ n. take n (drop token.start script)) is.2 ∙ ap (λ n. take t.count (drop n script)) is.1 in
    subst (λ (u : List ℕ). (units : List ℕ) × StandsFor u units) same (subst (λ (k : TokenKind). IsSpelling k (take token.count (drop token.start script))) is.0 spelled)

-- the units that a piece behind others stands for stay when more units are put behind
pub units_at-behind : (units added more : List ℕ) (start count : ℕ) → start ≡ length units → count ≡ length added → units_at ((units ++ added) ++ more) (record { start = start; count = count }) ≡ added
units_at-behind units added more start count start-is count-is =
    let all = (units ++ added) ++ more in
    let long : (start + count) - start ≡ length added = omega arith in
    let from : drop start all ≡ added ++ more = ap (λ n. drop n all) start-is ∙ ap (λ u. drop (length units) u) (append_assoc units added more) ∙ drop-append_seam units (added ++ more) in
    ap (λ n. take n (drop start all)) long ∙ ap (take (length added)) from ∙ take-append_seam added more

-- a listed text stands where the tokens that begin before it end
pub listed_place : (tokens : List Token) (t : Lexeme) (i : ℕ) (d : Token) → IsPartitionPoint (λ (y : Token). ltb y.start t.start ≡ true) (λ (y : Token). ltb y.start t.start ≡ false) tokens i
    → AreInOrder tokens → (listed : IsListed tokens t) → listed.0 ≡ i
listed_place tokens t i d parts order listed = by (ltb j i) refl
  where
    j : ℕ
    j = listed.0

    here : (get_or tokens j d).start ≡ t.start
    here = (listed.2 d).1

    by : (b : Bool) → ltb j i ≡ b → j ≡ i
    by true before =
        let less : (get_or tokens j d).start < t.start = ltb-true _ _ (parts.0 j d (omega arith) (ltb-true j i before)) in
        absurd (omega (arith, here))
    by false not_before = behind (ltb i j) refl
      where
        behind : (b : Bool) → ltb i j ≡ b → j ≡ i
        behind true after =
            let less : (get_or tokens i d).start < (get_or tokens j d).start = order i j d (ltb-true i j after) listed.1 in
            let more : t.start ≤ (get_or tokens i d).start = ltb-false _ _ (parts.1 i d (omega arith) (omega (arith, ltb-true i j after, listed.1))) in
            absurd (omega (arith, here))
        behind false not_after =
            let low = ltb-false i j not_after in
            let high = ltb-false j i not_before in
            omega arith

-- a text is read, its units put behind the others
pub text_read : (before added after more spelling : List ℕ) (piece : Piece) (is_plain : Bool) → after ≡ before ++ added → piece ≡ record { start = length before; count = length added } → StandsFor spelling added
    → IsTrue is_plain ↔ ((quote : ℕ) × (spelling ≡ quote ∷ (added ++ quote ∷ []))) → IsText (after ++ more) spelling (record { value = piece; is_plain = is_plain })
text_read before added after more spelling piece is_plain after-is piece-is stands plain =
    let same : units_at (after ++ more) piece ≡ added =
    ap (λ u. units_at (u ++ more) piece) after-is ∙ units_at-behind before added more piece.start piece.count (ap (λ (p : Piece). p.start) piece-is) (ap (λ (p : Piece). p.count) piece-is) in
    record {
      stands = subst (λ u. StandsFor spelling u) (sym same) stands;
      plain = subst (λ u. IsTrue is_plain ↔ ((quote : ℕ) × (spelling ≡ quote ∷ (u ++ quote ∷ [])))) (sym same) plain;
    }

-- the units behind the first are these and the first again
pub closed_by_first : (s units : List ℕ) (r : Bool) → 1 ≤ length s → r ≡ bytes_eq (take (length s - 1) (drop 1 s)) (units ++ get_or s 0 0 ∷ []) → IsTrue r ↔ ((quote : ℕ) × (s ≡ quote ∷ (units ++ quote ∷ [])))
closed_by_first [] units r long is = absurd (omega arith)
closed_by_first (q ∷ s) units r long is =
    let decides = bytes_eq-Decides s (units ++ q ∷ []) in
    let one : length (q ∷ s) - 1 ≡ length s = omega arith in
    let behind : take (length (q ∷ s) - 1) s ≡ s = ap (λ n. take n s) one ∙ take-length s in
    let same : r ≡ bytes_eq s (units ++ q ∷ []) = is ∙ ap (λ u. bytes_eq u (units ++ q ∷ [])) behind in (
      λ true_. (q, ap (λ u. q ∷ u) (decides.0 (sym same ∙ true_))),
      λ plain.
          let first : q ≡ plain.0 = ap (λ u. get_or u 0 0) plain.1 in
          let rest : s ≡ units ++ plain.0 ∷ [] = ap (λ u. drop 1 u) plain.1 in
          same ∙ decides.1 (rest ∙ ap (λ c. units ++ c ∷ []) (sym first)),
    )

-- the tokens that begin before a place come first
pub begin_before : (tokens : List Token) (place : ℕ) → AreInOrder tokens → IsPartitionedBy (λ (y : Token). ltb y.start place) tokens
begin_before tokens place order i j d before within later = by (ltb i j) refl
  where
    by : (b : Bool) → ltb i j ≡ b → ltb (get_or tokens i d).start place ≡ true
    by true less =
        let first : (get_or tokens i d).start < (get_or tokens j d).start = order i j d (ltb-true i j less) within in
        let second : (get_or tokens j d).start < place = ltb-true _ _ later in
        lt-ltb _ _ (omega arith)
    by false not_less =
        let same : i ≡ j = omega (arith, ltb-false i j not_less) in
        ap (λ k. ltb (get_or tokens k d).start place) same ∙ later
