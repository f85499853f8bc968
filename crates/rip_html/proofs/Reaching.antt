-- What is refused of tokens stands before a place that the tokens stay before.
use Rattle.std.proofs.Common.{◌≡◌, ℕ, zero, suc, ◌<◌, ◌≤◌, length, get_or, sym, Bool, true, false, cond, List, [], ◌∷◌, drop, Option, Some, None, option_map, subst, arith}
use Rattle.std.specs.List.{AllByRecursion}
use Rattle.rip_base.specs.declared.page.PageKind.{PageKind}
use Rattle.rip_markup.specs.Fault.{fault}
use Rattle.rip_markup.specs.Within.{FaultWithin, TokenWithin, PlacedWithin}
use Rattle.rip_markup.specs.declared.fault.Fault.{Fault}
use Rattle.rip_markup.specs.declared.token.Token.{Token}
use Rattle.rip_markup.specs.declared.token.Token.TheVariants as T
use Rattle.rip_markup.specs.declared.token.Placed.{Placed}
use Rattle.rip_html.specs.Standings.{Standing}
use Rattle.rip_html.specs.Refusals.{kind_at, own_fault, is_before, least_fault, refusal_at}

least_by : (b : Bool) (x y : Fault) (n : ℕ) → x.offset ≤ n → y.offset ≤ n → FaultWithin (cond b (Some y) (Some x)) n
least_by true x y n h k = k
least_by false x y n h k = h

least_within : (n m : ℕ) (kind : Option PageKind) (own : Option Fault) → m ≤ n → FaultWithin own n → FaultWithin (least_fault (option_map (fault m) kind) own) n
least_within n m None own h k = k
least_within n m (Some kind) None h k = h
least_within n m (Some kind) (Some x) h k = least_by (is_before (fault m kind) x) (fault m kind) x n h k

end_within : (b : Bool) (n : ℕ) (x : Fault) → x.offset ≤ n → FaultWithin (cond b None (Some x)) n
end_within true n x h = tt
end_within false n x h = h

pub refusal_within : (s : Standing) (t : Token) (n : ℕ) → TokenWithin n t → FaultWithin (refusal_at s t) n
refusal_within s (T.Text run) n h = least_within n run.space (kind_at s.part s.open_names (T.Text run)) run.fault h.0 h.1
refusal_within s (T.StartTag tag) n h = least_within n 0 (kind_at s.part s.open_names (T.StartTag tag)) tag.fault (omega arith) h
refusal_within s (T.EndTag end) n h = least_within n 0 (kind_at s.part s.open_names (T.EndTag end)) (own_fault (T.EndTag end)) (omega arith) (end_within end.whole n _ (omega arith))
refusal_within s (T.Comment units) n h = least_within n 0 (kind_at s.part s.open_names (T.Comment units)) None (omega arith) tt
refusal_within s T.OpenComment n h = least_within n 0 (kind_at s.part s.open_names T.OpenComment) (own_fault T.OpenComment) (omega arith) (omega arith)
refusal_within s T.Doctype n h = least_within n 0 (kind_at s.part s.open_names T.Doctype) None (omega arith) tt
refusal_within s T.Stray n h = least_within n 0 (kind_at s.part s.open_names T.Stray) (own_fault T.Stray) (omega arith) (omega arith)
refusal_within s T.End n h = least_within n 0 (kind_at s.part s.open_names T.End) None (omega arith) tt

-- a place that is further on serves too
pub further : (n m : ℕ) (tokens : List Placed) → n ≤ m → AllByRecursion (PlacedWithin n) tokens → AllByRecursion (PlacedWithin m) tokens
further n m [] h k = tt
further n m (t ∷ others) h k = let first = k.0 in let here = first.1 in ((first.0, omega arith, first.2), further n m others h k.1)

-- the token at a place of the list
pub placed_there : (end : ℕ) (tokens : List Placed) (i : ℕ) (x : Placed) → i < length tokens → x ≡ get_or tokens i x → AllByRecursion (PlacedWithin end) (drop i tokens) → PlacedWithin end x
placed_there end [] i x h e k = absurd (omega arith)
placed_there end (t ∷ others) zero x h e k = subst (λ (y : Placed). PlacedWithin end y) (sym e) k.0
placed_there end (t ∷ others) (suc i) x h e k = placed_there end others i x (omega arith) e k
