-- How the blocks that go to a sink make a text.
use Rattle.std.proofs.Common.{◌≡◌, ℕ, zero, suc, ◌+◌, ◌<◌, ◌≤◌, List, [], ◌∷◌, ◌++◌, length, map, drop, get_or, Option, refl, sym, ◌∙◌, ap, subst, append_assoc, append-nil, drop-cons, add-one, arith}
use Rattle.std.specs.Prelude.{Result, Ok, Err, IsErr, OnOk}
use Rattle.rip_outer.specs.declared.writing.SinkError.{SinkError}
use Rattle.rip_lexer.specs.declared.token.Token.{Token}
use Rattle.rip_script.specs.Texts.{token_line}
use Rattle.rip_outer.specs.Outside.{also, Front}
use Rattle.rip_outer.proofs.Composing.{also-nil, also-also, Front-after, Front-longer}
use Rattle.rip_script.specs.Lines.{line_text, lines_text}
use Rattle.rip_script.specs.Steps.{Moved, Passes, Puts}

-- of the text a front went to the sink, and the rest is the block
pub record Holds (text block : List ℕ) (old now : Option (List ℕ)) : Type 0 where
  pub front : List ℕ
  pub parts : text ≡ front ++ block
  pub put : now ≡ also front old

-- before anything is written
pub holds_nothing : (old : Option (List ℕ)) → Holds [] [] old old
holds_nothing old = record { front = []; parts = refl; put = also-nil old }

-- more is written to the block
pub holds_more : {text block : List ℕ} {old now : Option (List ℕ)} (more block' : List ℕ) → Holds text block old now → block' ≡ block ++ more → Holds (text ++ more) block' old now
holds_more {text} {block} more block' h e = record {
  front = h.front;
  parts = ap (λ t. t ++ more) h.parts ∙ append_assoc h.front block more ∙ ap (λ b. h.front ++ b) (sym e);
  put = h.put;
}

-- a front of the block goes to the sink
pub holds_moved : {text block : List ℕ} {old now : Option (List ℕ)} (block' : List ℕ) (new : Option (List ℕ)) → Holds text block old now → Moved block block' now new → Holds text block' old new
holds_moved {text} {block} {old} block' new h m = record {
  front = h.front ++ m.front;
  parts = h.parts ∙ ap (λ b. h.front ++ b) m.parts ∙ sym (append_assoc h.front m.front block');
  put = m.put ∙ ap (also m.front) h.put ∙ also-also h.front m.front old;
}

-- the sink stopped within the block
pub holds_stopped : {text block : List ℕ} {old now : Option (List ℕ)} (new : Option (List ℕ)) → Holds text block old now → Front block now new → Front text old new
holds_stopped {text} {block} {old} {now} new h f =
    subst (λ t. Front t old new) (sym h.parts) (Front-after h.front block old now new h.put f)

-- the run stopped: what went to the sink is a front
pub holds_front : {text block : List ℕ} {old now : Option (List ℕ)} → Holds text block old now → Front text old now
holds_front {text} {block} {old} {now} h = record { front = h.front; rest = block; parts = h.parts; added = h.put }

-- all went to the sink
pub holds_all : {text block : List ℕ} {old now : Option (List ℕ)} → Holds text block old now → block ≡ [] → now ≡ also text old
holds_all {text} {block} {old} {now} h e =
    h.put ∙ ap (λ t. also t old) (sym (h.parts ∙ ap (λ b. h.front ++ b) e ∙ append-nil h.front))

-- a front of a text is one of a longer text
pub front_of_more : (text more whole : List ℕ) (old new : Option (List ℕ)) → Front text old new → whole ≡ text ++ more → Front whole old new
front_of_more text more whole old new f e =
    subst (λ t. Front t old new) (sym e) (Front-longer text more old new f)

-- of a whole text all but the lines that are due is written, and a front of it went to the sink
pub record Draws (whole : List ℕ) (due : List (List (List ℕ))) (block : List ℕ) (old now : Option (List ℕ)) : Type 0 where
  pub written : List ℕ
  pub holds : Holds written block old now
  pub rest : whole ≡ written ++ lines_text due

-- before anything is written all lines are due
pub draws_all : (whole : List ℕ) (due : List (List (List ℕ))) (old : Option (List ℕ)) → lines_text due ≡ whole → Draws whole due [] old old
draws_all whole due old e = record { written = []; holds = holds_nothing old; rest = sym e }

-- the first line that is due is written
pub draws_line : {whole block : List ℕ} {old now : Option (List ℕ)} (line : List (List ℕ)) (due all : List (List (List ℕ))) (block' : List ℕ)
    → Draws whole all block old now → all ≡ line ∷ due → block' ≡ block ++ line_text line → Draws whole due block' old now
draws_line {whole} line due all block' d next e = record {
  written = d.written ++ line_text line;
  holds = holds_more (line_text line) block' d.holds e;
  rest = d.rest ∙ ap (λ ls. d.written ++ lines_text ls) next ∙ sym (append_assoc d.written (line_text line) (lines_text due));
}

-- a front of the block goes to the sink
pub draws_moved : {whole block : List ℕ} {due : List (List (List ℕ))} {old now : Option (List ℕ)} (block' : List ℕ) (new : Option (List ℕ))
    → Draws whole due block old now → Moved block block' now new → Draws whole due block' old new
draws_moved block' new d m = record { written = d.written; holds = holds_moved block' new d.holds m; rest = d.rest }

-- the sink stopped within the block
pub draws_stopped : {whole block : List ℕ} {due : List (List (List ℕ))} {old now : Option (List ℕ)} (new : Option (List ℕ))
    → Draws whole due block old now → Front block now new → Front whole old new
draws_stopped {whole} {block} {due} {old} {now} new d f =
    front_of_more d.written (lines_text due) whole old new (holds_stopped new d.holds f) d.rest

-- the run stopped: what went to the sink is a front
pub draws_front : {whole block : List ℕ} {due : List (List (List ℕ))} {old now : Option (List ℕ)} → Draws whole due block old now → Front whole old now
draws_front {whole} {block} {due} {old} {now} d = front_of_more d.written (lines_text due) whole old now (holds_front d.holds) d.rest

-- no line is due, and the block is put
pub draws_whole : {whole block : List ℕ} {old now : Option (List ℕ)} (due : List (List (List ℕ))) (block' : List ℕ) (new : Option (List ℕ))
    → Draws whole due block old now → due ≡ [] → Moved block block' now new → block' ≡ [] → new ≡ also whole old
draws_whole {whole} {block} {old} {now} due block' new d none m e =
    holds_all (holds_moved block' new d.holds m) e
    ∙ ap (λ t. also t old) (sym (d.rest ∙ ap (λ ls. d.written ++ lines_text ls) none ∙ append-nil d.written))

-- how putting ends
pub puts_stopped : {A : Type 0} (r : Result A SinkError) (text : List ℕ) (old new : Option (List ℕ)) → IsErr r → Front text old new → Puts r text old new
puts_stopped (Ok done) text old new failed h = cc
puts_stopped (Err e) text old new failed h = h

pub puts_last : {A : Type 0} (r : Result A SinkError) (whole block block' : List ℕ) (due : List (List (List ℕ))) (old now new : Option (List ℕ))
    → Draws whole due block old now → due ≡ [] → Passes r block block' now new → OnOk r (block' ≡ []) → Puts r whole old new
puts_last (Ok done) whole block block' due old now new d none passes all = draws_whole due block' new d none passes all
puts_last (Err e) whole block block' due old now new d none passes all = draws_stopped new d passes

-- TOKENS

-- the line of the next token is written
pub draws_token : {whole block : List ℕ} {old now : Option (List ℕ)} (tokens : List Token) (i : ℕ) (token : Token) (block' : List ℕ) → i < length tokens
    → Draws whole (map token_line (drop i tokens)) block old now → block' ≡ block ++ line_text (token_line (get_or tokens i token))
    → Draws whole (map token_line (drop (i + 1) tokens)) block' old now
draws_token tokens i token block' within d e =
    let next : map token_line (drop i tokens) ≡ token_line (get_or tokens i token) ∷ map token_line (drop (i + 1) tokens) =
    rw (add-one) (ap (map token_line) (drop-cons tokens i token within)) in
    draws_line (token_line (get_or tokens i token)) (map token_line (drop (i + 1) tokens)) (map token_line (drop i tokens)) block' d next e

-- behind the last token no line is due
pub none_ahead : (tokens : List Token) (i : ℕ) → length tokens ≤ i → map token_line (drop i tokens) ≡ []
none_ahead tokens i h = ap (map token_line) (drop_past tokens i h)
  where
    drop_past : (ts : List Token) (k : ℕ) → length ts ≤ k → drop k ts ≡ []
    drop_past [] zero g = refl
    drop_past [] (suc k) g = refl
    drop_past (t ∷ ts) zero g = absurd (omega arith)
    drop_past (t ∷ ts) (suc k) g = drop_past ts k (omega arith)
