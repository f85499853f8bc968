-- Nodes that are made token by token are those of a page.
use Rattle.std.proofs.Common.{◌≡◌, ℕ, suc, ◌+◌, ◌<◌, ◌≤◌, Bool, true, false, cond, ◌&&◌, nat_lt, List, [], ◌∷◌, ◌++◌, length, drop, sym, ap, ◌∙◌, subst, arith, lit<, ◌^◌, length-append}
use Rattle.std.specs.List.{AllByRecursion}
use Rattle.rip_base.specs.Page.{ParentsPrecede, IsPage}
use Rattle.rip_base.specs.declared.page.PageNode.{PageNode}
use Rattle.rip_markup.specs.declared.token.Token.{Token}
use Rattle.rip_markup.specs.declared.token.Token.TheVariants as T
use Rattle.rip_markup.specs.declared.token.Placed.{Placed}
use Rattle.rip_html.specs.Tags.{is_script, is_void}
use Rattle.rip_html.specs.Nodes.{document_node, element_node, text_nodes, comment_node}
use Rattle.rip_html.specs.Scripts.{is_element, is_parent, text_number, script_numbers}
use Rattle.rip_html.specs.Building.{parent_of, token_nodes, open_after, built}

precede_append : (first : ℕ) (xs ys : List PageNode) → ParentsPrecede first xs → ParentsPrecede (first + length xs) ys → ParentsPrecede first (xs ++ ys)
precede_append first [] ys h k = subst (λ n. ParentsPrecede n ys) (omega arith) k
precede_append first (x ∷ xs) ys h k = (h.0, precede_append (suc first) xs ys h.1 (subst (λ n. ParentsPrecede n ys) (omega arith) k))

precede_text : (first parent : ℕ) (units : List ℕ) → parent < first → ParentsPrecede first (text_nodes parent units)
precede_text first parent [] h = tt
precede_text first parent (c ∷ units) h = (h, tt)

precede_kept : (b : Bool) (first : ℕ) (nodes : List PageNode) → ParentsPrecede first nodes → ParentsPrecede first (cond b nodes [])
precede_kept true first nodes h = h
precede_kept false first nodes h = tt

precede_token : (first parent : ℕ) (t : Token) → parent < first → ParentsPrecede first (token_nodes parent t)
precede_token first parent (T.Text run) h = precede_kept (nat_lt 2 parent) first (text_nodes parent run.units) (precede_text first parent run.units h)
precede_token first parent (T.Comment units) h = precede_kept (nat_lt 2 parent) first (comment_node parent units ∷ []) (h, tt)
precede_token first parent (T.StartTag tag) h = (h, tt)
precede_token first parent (T.EndTag end) h = tt
precede_token first parent T.OpenComment h = tt
precede_token first parent T.Doctype h = tt
precede_token first parent T.Stray h = tt
precede_token first parent T.End h = tt

-- the open elements have nodes
abbrev pub AllBelow : ℕ → List ℕ → Type 0
AllBelow n numbers = AllByRecursion (λ k. k < n) numbers

below_more : (n m : ℕ) (numbers : List ℕ) → n ≤ m → AllBelow n numbers → AllBelow m numbers
below_more n m [] h k = tt
below_more n m (x ∷ numbers) h k = let first = k.0 in (omega arith, below_more n m numbers h k.1)

parent_below : (n : ℕ) (numbers : List ℕ) → 0 < n → AllBelow n numbers → parent_of numbers < n
parent_below n [] h k = h
parent_below n (x ∷ numbers) h k = k.0

below_drop : (n : ℕ) (numbers : List ℕ) → AllBelow n numbers → AllBelow n (drop 1 numbers)
below_drop n [] k = tt
below_drop n (x ∷ numbers) k = k.1

below_choice : (b : Bool) (n : ℕ) (numbers others : List ℕ) → AllBelow n numbers → AllBelow n others → AllBelow n (cond b numbers others)
below_choice true n numbers others h k = h
below_choice false n numbers others h k = k

open_below : (numbers : List ℕ) (nodes : List PageNode) (t : Token) → AllBelow (length nodes) numbers → AllBelow (length (nodes ++ token_nodes (parent_of numbers) t)) (open_after numbers (length nodes) t)
open_below numbers nodes (T.StartTag tag) h =
    let long : length (nodes ++ (element_node (parent_of numbers) tag ∷ [])) ≡ suc (length nodes) = length-append nodes (element_node (parent_of numbers) tag ∷ []) ∙ omega arith in
    subst (λ n. AllBelow n (open_after numbers (length nodes) (T.StartTag tag))) (sym long)
    (below_choice (is_void tag.name) (suc (length nodes)) numbers (length nodes ∷ numbers) (below_more (length nodes) (suc (length nodes)) numbers (omega arith) h)
    (omega arith, below_more (length nodes) (suc (length nodes)) numbers (omega arith) h))
open_below numbers nodes (T.EndTag end) h = below_more (length nodes) _ (drop 1 numbers) (omega (arith, length-append nodes (token_nodes (parent_of numbers) (T.EndTag end)))) (below_drop (length nodes) numbers h)
open_below numbers nodes (T.Text run) h = below_more (length nodes) _ numbers (omega (arith, length-append nodes (token_nodes (parent_of numbers) (T.Text run)))) h
open_below numbers nodes (T.Comment units) h = below_more (length nodes) _ numbers (omega (arith, length-append nodes (token_nodes (parent_of numbers) (T.Comment units)))) h
open_below numbers nodes T.OpenComment h = below_more (length nodes) _ numbers (omega (arith, length-append nodes (token_nodes (parent_of numbers) T.OpenComment))) h
open_below numbers nodes T.Doctype h = below_more (length nodes) _ numbers (omega (arith, length-append nodes (token_nodes (parent_of numbers) T.Doctype))) h
open_below numbers nodes T.Stray h = below_more (length nodes) _ numbers (omega (arith, length-append nodes (token_nodes (parent_of numbers) T.Stray))) h
open_below numbers nodes T.End h = below_more (length nodes) _ numbers (omega (arith, length-append nodes (token_nodes (parent_of numbers) T.End))) h

built_precede : (numbers : List ℕ) (nodes : List PageNode) (tokens : List Placed) → 0 < length nodes → AllBelow (length nodes) numbers → ParentsPrecede 0 nodes → ParentsPrecede 0 (built numbers nodes tokens)
built_precede numbers nodes [] some below h = h
built_precede numbers nodes (t ∷ others) some below h =
    let more = token_nodes (parent_of numbers) t.token in
    built_precede (open_after numbers (length nodes) t.token) (nodes ++ more) others (omega (arith, length-append nodes more)) (open_below numbers nodes t.token below)
    (precede_append 0 nodes more h (subst (λ n. ParentsPrecede n more) (omega arith) (precede_token (length nodes) (parent_of numbers) t.token (parent_below (length nodes) numbers some below))))

-- each script has a node
text_by : (b : Bool) (number n : ℕ) → suc number < n → cond b (suc number) number < n
text_by true number n h = h
text_by false number n h = omega arith

text_within : (number : ℕ) (others : List PageNode) → text_number number others < number + suc (length others)
text_within number [] = omega arith
text_within number (x ∷ others) = text_by (is_parent number x.parent) number (number + suc (suc (length others))) (omega arith)

within_more : (n m : ℕ) (numbers : List ℕ) → n ≡ m → AllBelow n numbers → AllBelow m numbers
within_more n m numbers e h = subst (λ k. AllBelow k numbers) e h

scripts_by : (b : Bool) (n x : ℕ) (numbers : List ℕ) → x < n → AllBelow n numbers → AllBelow n (cond b (x ∷ numbers) numbers)
scripts_by true n x numbers h k = (h, k)
scripts_by false n x numbers h k = k

pub scripts_within : (number : ℕ) (nodes : List PageNode) → AllBelow (number + length nodes) (script_numbers number nodes)
scripts_within number [] = tt
scripts_within number (x ∷ others) =
    scripts_by (is_element x.kind && is_script x.name) (number + suc (length others)) (text_number number others) (script_numbers (suc number) others) (text_within number others)
    (within_more (suc number + length others) (number + suc (length others)) (script_numbers (suc number) others) (omega arith) (scripts_within (suc number) others))

few_by : (b : Bool) (n x : ℕ) (numbers : List ℕ) → length numbers ≤ n → length (cond b (x ∷ numbers) numbers) ≤ suc n
few_by true n x numbers h = omega arith
few_by false n x numbers h = omega arith

scripts_few : (number : ℕ) (nodes : List PageNode) → length (script_numbers number nodes) ≤ length nodes
scripts_few number [] = omega arith
scripts_few number (x ∷ others) = few_by (is_element x.kind && is_script x.name) (length others) (text_number number others) (script_numbers (suc number) others) (scripts_few (suc number) others)

pub is_page : (tokens : List Placed) (nodes : List PageNode) (scripts : List ℕ) → nodes ≡ built [] (document_node ∷ []) tokens → scripts ≡ script_numbers 0 nodes → length nodes < 2 ^ 32 → IsPage nodes scripts
is_page tokens nodes scripts nodes-is scripts-is counted = record {
  precede = subst (ParentsPrecede 0) (sym nodes-is) (built_precede [] (document_node ∷ []) tokens (lit< tt) tt (tt, tt));
  within = subst (λ l. AllBelow (length nodes) l) (sym scripts-is) (within_more (0 + length nodes) (length nodes) (script_numbers 0 nodes) (omega arith) (scripts_within 0 nodes));
  counted = counted;
  few = let short = scripts_few 0 nodes in let same = ap length scripts-is in omega arith;
}
