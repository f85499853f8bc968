-- The nodes that tokens make one by one are those of the page's parts, numbered in document order.
use Rattle.std.proofs.Common.{◌≡◌, ℕ, suc, ◌+◌, ◌<◌, true, false, cond, nat_lt, List, [], ◌∷◌, ◌++◌, length, refl, sym, ap, ◌∙◌, arith, lit<, append_assoc, length-append}
use Rattle.std.proofs.lemmas.List.{append-nil}
use Rattle.std.proofs.lemmas.Bool.{lt-ltb}
use Rattle.std.specs.Prelude.{codes}
use Rattle.std.specs.List.{AllByRecursion}
use Rattle.rip_base.specs.declared.page.PageNode.{PageNode}
use Rattle.rip_markup.specs.declared.tag.StartTag.{StartTag}
use Rattle.rip_markup.specs.declared.token.Token.{Token}
use Rattle.rip_markup.specs.declared.token.Token.TheVariants as T
use Rattle.rip_markup.specs.declared.token.Placed.{Placed}
use Rattle.rip_html.specs.Tags.{is_void}
use Rattle.rip_html.specs.Forests.{Forest, Nothing, Words, Remark, Void, Nested, end_of, forest_tokens, followed, elements}
use Rattle.rip_html.specs.Grammar.{IsContent, IsHead, IsScripts, IsDropped, IsDoctype, Parts, end_tokens, body_tokens, head_tokens, page_tokens, AreParts}
use Rattle.rip_html.specs.Nodes.{document_node, element_node, text_nodes, comment_node, forest_nodes, page_nodes}
use Rattle.rip_html.specs.Building.{parent_of, if_kept, token_nodes, open_after, built}
use Rattle.rip_html.specs.Pages.{bare}
use Rattle.rip_html.proofs.Choice.{script_opens, html_opens, head_opens, body_opens}

-- `built`, over tokens without their places
abbrev pub grown : List ℕ → List PageNode → List Token → List PageNode
grown numbers nodes [] = nodes
grown numbers nodes (t ∷ ts) = grown (open_after numbers (length nodes) t) (nodes ++ token_nodes (parent_of numbers) t) ts

pub built_is : (numbers : List ℕ) (nodes : List PageNode) (tokens : List Placed) → built numbers nodes tokens ≡ grown numbers nodes (bare tokens)
built_is numbers nodes [] = refl
built_is numbers nodes (t ∷ others) = built_is (open_after numbers (length nodes) t.token) (nodes ++ token_nodes (parent_of numbers) t.token) others

-- Void elements have no content, and others have.
abbrev pub IsShaped : Forest → Type 0
IsShaped Nothing = Unit {0}
IsShaped (Words run others) = IsShaped others
IsShaped (Remark units others) = IsShaped others
IsShaped (Void tag others) = (is_void tag.name ≡ true) × IsShaped others
IsShaped (Nested tag content others) = (is_void tag.name ≡ false) × IsShaped content × IsShaped others

content_shaped : (depth : ℕ) (f : Forest) → IsContent depth f → IsShaped f
content_shaped depth Nothing h = tt
content_shaped depth (Words run others) h = content_shaped depth others h.1
content_shaped depth (Remark units others) h = content_shaped depth others h
content_shaped depth (Void tag others) h = (h.3, content_shaped depth others h.4)
content_shaped depth (Nested tag content others) h = (h.3, content_shaped (suc depth) content h.5, content_shaped depth others h.6)

head_shaped : (f : Forest) → IsHead f → IsShaped f
head_shaped Nothing h = tt
head_shaped (Words run others) h = head_shaped others h.1
head_shaped (Remark units others) h = head_shaped others h
head_shaped (Void tag others) h = (h.2, head_shaped others h.3)
head_shaped (Nested tag content others) h = (h.2, content_shaped 3 content h.3, head_shaped others h.4)

scripts_shaped : (f : Forest) → IsScripts f → IsShaped f
scripts_shaped Nothing h = tt
scripts_shaped (Words run others) h = scripts_shaped others h.1
scripts_shaped (Remark units others) h = absurd h
scripts_shaped (Void tag others) h = absurd h
scripts_shaped (Nested tag content others) h = (script_opens tag.name h.1, content_shaped 3 content h.2, scripts_shaped others h.3)

followed_shaped : (f g : Forest) → IsShaped f → IsShaped g → IsShaped (followed f g)
followed_shaped Nothing g h k = k
followed_shaped (Words run others) g h k = followed_shaped others g h k
followed_shaped (Remark units others) g h k = followed_shaped others g h k
followed_shaped (Void tag others) g h k = (h.0, followed_shaped others g h.1 k)
followed_shaped (Nested tag content others) g h k = (h.0, h.1, followed_shaped others g h.2 k)

followed_tokens : (f g : Forest) (rest : List Token) → forest_tokens (followed f g) rest ≡ forest_tokens f (forest_tokens g rest)
followed_tokens Nothing g rest = refl
followed_tokens (Words run others) g rest = ap (λ (l : List Token). T.Text run ∷ l) (followed_tokens others g rest)
followed_tokens (Remark units others) g rest = ap (λ (l : List Token). T.Comment units ∷ l) (followed_tokens others g rest)
followed_tokens (Void tag others) g rest = ap (λ (l : List Token). T.StartTag tag ∷ l) (followed_tokens others g rest)
followed_tokens (Nested tag content others) g rest = ap (λ (l : List Token). T.StartTag tag ∷ forest_tokens content (end_of tag.name ∷ l)) (followed_tokens others g rest)

-- nodes that come behind others in two steps
regroup : (nodes one : List PageNode) (f : ℕ → List PageNode) (n : ℕ) → n ≡ length nodes + length one → (nodes ++ one) ++ f (length (nodes ++ one)) ≡ nodes ++ (one ++ f n)
regroup nodes one f n e = append_assoc nodes one (f (length (nodes ++ one))) ∙ ap (λ k. nodes ++ (one ++ f k)) (length-append nodes one ∙ sym e)

-- an element and its content come behind nodes, and then what follows it
regroup_nested : (nodes inner : List PageNode) (x : PageNode) (f : ℕ → List PageNode) (g : ℕ → List PageNode) → inner ≡ g (length (nodes ++ (x ∷ []))) → (((nodes ++ (x ∷ [])) ++ inner) ++ []) ++ f (length (((nodes ++ (x ∷ [])) ++ inner) ++ [])) ≡ nodes ++ (x ∷ (g (suc (length nodes)) ++ f (suc (length nodes) + length (g (suc (length nodes))))))
regroup_nested nodes inner x f g e =
    let one : length (nodes ++ (x ∷ [])) ≡ suc (length nodes) = length-append nodes (x ∷ []) ∙ omega arith in
    let inner-is : inner ≡ g (suc (length nodes)) = e ∙ ap g one in
    let whole = (nodes ++ (x ∷ [])) ++ g (suc (length nodes)) in
    let long : length whole ≡ suc (length nodes) + length (g (suc (length nodes))) = length-append (nodes ++ (x ∷ [])) (g (suc (length nodes))) ∙ ap (λ k. k + length (g (suc (length nodes)))) one in
    let flat : ((nodes ++ (x ∷ [])) ++ inner) ++ [] ≡ whole = append-nil ((nodes ++ (x ∷ [])) ++ inner) ∙ ap (λ (l : List PageNode). (nodes ++ (x ∷ [])) ++ l) inner-is in
    ap (λ (l : List PageNode). l ++ f (length l)) flat
    ∙ ap (λ k. whole ++ f k) long
    ∙ append_assoc (nodes ++ (x ∷ [])) (g (suc (length nodes))) (f (suc (length nodes) + length (g (suc (length nodes)))))
    ∙ append_assoc nodes (x ∷ []) (g (suc (length nodes)) ++ f (suc (length nodes) + length (g (suc (length nodes)))))

kept : (parent : ℕ) (nodes : List PageNode) → nat_lt 2 parent ≡ true → if_kept parent nodes ≡ nodes
kept parent nodes h = ap (λ b. cond b nodes []) h

left_out : (parent : ℕ) (nodes : List PageNode) → nat_lt 2 parent ≡ false → if_kept parent nodes ≡ []
left_out parent nodes h = ap (λ b. cond b nodes []) h

-- the tokens of a forest make its nodes, in an element that keeps texts
pub grown_forest : (f : Forest) (numbers : List ℕ) (nodes : List PageNode) (rest : List Token) → IsShaped f → nat_lt 2 (parent_of numbers) ≡ true → 2 < length nodes → grown numbers nodes (forest_tokens f rest) ≡ grown numbers (nodes ++ forest_nodes (parent_of numbers) (length nodes) f) rest
grown_forest Nothing numbers nodes rest h k m = ap (λ (l : List PageNode). grown numbers l rest) (sym (append-nil nodes))
grown_forest (Words run others) numbers nodes rest h k m =
    let parent = parent_of numbers in
    let one = text_nodes parent run.units in
    let more : 2 < length (nodes ++ one) = omega (arith, length-append nodes one) in
    ap (λ (l : List PageNode). grown numbers (nodes ++ l) (forest_tokens others rest)) (kept parent one k)
    ∙ grown_forest others numbers (nodes ++ one) rest h k more
    ∙ ap (λ (l : List PageNode). grown numbers l rest) (regroup nodes one (λ n. forest_nodes parent n others) (length nodes + length one) refl)
grown_forest (Remark units others) numbers nodes rest h k m =
    let parent = parent_of numbers in
    let one : List PageNode = comment_node parent units ∷ [] in
    let more : 2 < length (nodes ++ one) = omega (arith, length-append nodes one) in
    let next : suc (length nodes) ≡ length nodes + length one = omega arith in
    ap (λ (l : List PageNode). grown numbers (nodes ++ l) (forest_tokens others rest)) (kept parent one k)
    ∙ grown_forest others numbers (nodes ++ one) rest h k more
    ∙ ap (λ (l : List PageNode). grown numbers l rest) (regroup nodes one (λ n. forest_nodes parent n others) (suc (length nodes)) next)
grown_forest (Void tag others) numbers nodes rest h k m =
    let parent = parent_of numbers in
    let one : List PageNode = element_node parent tag ∷ [] in
    let more : 2 < length (nodes ++ one) = omega (arith, length-append nodes one) in
    let next : suc (length nodes) ≡ length nodes + length one = omega arith in
    ap (λ b. grown (cond b numbers (length nodes ∷ numbers)) (nodes ++ one) (forest_tokens others rest)) h.0
    ∙ grown_forest others numbers (nodes ++ one) rest h.1 k more
    ∙ ap (λ (l : List PageNode). grown numbers l rest) (regroup nodes one (λ n. forest_nodes parent n others) (suc (length nodes)) next)
grown_forest (Nested tag content others) numbers nodes rest h k m =
    let parent = parent_of numbers in
    let n = length nodes in
    let x = element_node parent tag in
    let one : List PageNode = nodes ++ (x ∷ []) in
    let deep : 2 < length one = omega (arith, length-append nodes (x ∷ [])) in
    let inner = forest_nodes n (length one) content in
    let long : 2 < length ((one ++ inner) ++ []) = omega (arith, length-append (one ++ inner) [], length-append one inner) in
    ap (λ b. grown (cond b numbers (n ∷ numbers)) one (forest_tokens content (end_of tag.name ∷ forest_tokens others rest))) h.0
    ∙ grown_forest content (n ∷ numbers) one (end_of tag.name ∷ forest_tokens others rest) h.1 (lt-ltb 2 n m) deep
    ∙ grown_forest others numbers ((one ++ inner) ++ []) rest h.2 k long
    ∙ ap (λ (l : List PageNode). grown numbers l rest) (regroup_nested nodes inner x (λ j. forest_nodes parent j others) (λ j. forest_nodes n j content) refl)

-- and the elements of the head
pub grown_head : (f : Forest) (numbers : List ℕ) (nodes : List PageNode) (rest : List Token) → IsShaped f → nat_lt 2 (parent_of numbers) ≡ false → 2 < length nodes → grown numbers nodes (forest_tokens f rest) ≡ grown numbers (nodes ++ forest_nodes (parent_of numbers) (length nodes) (elements f)) rest
grown_head Nothing numbers nodes rest h k m = ap (λ (l : List PageNode). grown numbers l rest) (sym (append-nil nodes))
grown_head (Words run others) numbers nodes rest h k m =
    ap (λ (l : List PageNode). grown numbers l (forest_tokens others rest)) (ap (λ (l : List PageNode). nodes ++ l) (left_out (parent_of numbers) (text_nodes (parent_of numbers) run.units) k) ∙ append-nil nodes)
    ∙ grown_head others numbers nodes rest h k m
grown_head (Remark units others) numbers nodes rest h k m =
    ap (λ (l : List PageNode). grown numbers l (forest_tokens others rest)) (ap (λ (l : List PageNode). nodes ++ l) (left_out (parent_of numbers) (comment_node (parent_of numbers) units ∷ []) k) ∙ append-nil nodes)
    ∙ grown_head others numbers nodes rest h k m
grown_head (Void tag others) numbers nodes rest h k m =
    let parent = parent_of numbers in
    let one : List PageNode = element_node parent tag ∷ [] in
    let more : 2 < length (nodes ++ one) = omega (arith, length-append nodes one) in
    let next : suc (length nodes) ≡ length nodes + length one = omega arith in
    ap (λ b. grown (cond b numbers (length nodes ∷ numbers)) (nodes ++ one) (forest_tokens others rest)) h.0
    ∙ grown_head others numbers (nodes ++ one) rest h.1 k more
    ∙ ap (λ (l : List PageNode). grown numbers l rest) (regroup nodes one (λ n. forest_nodes parent n (elements others)) (suc (length nodes)) next)
grown_head (Nested tag content others) numbers nodes rest h k m =
    let parent = parent_of numbers in
    let n = length nodes in
    let x = element_node parent tag in
    let one : List PageNode = nodes ++ (x ∷ []) in
    let deep : 2 < length one = omega (arith, length-append nodes (x ∷ [])) in
    let inner = forest_nodes n (length one) content in
    let long : 2 < length ((one ++ inner) ++ []) = omega (arith, length-append (one ++ inner) [], length-append one inner) in
    ap (λ b. grown (cond b numbers (n ∷ numbers)) one (forest_tokens content (end_of tag.name ∷ forest_tokens others rest))) h.0
    ∙ grown_forest content (n ∷ numbers) one (end_of tag.name ∷ forest_tokens others rest) h.1 (lt-ltb 2 n m) deep
    ∙ grown_head others numbers ((one ++ inner) ++ []) rest h.2 k long
    ∙ ap (λ (l : List PageNode). grown numbers l rest) (regroup_nested nodes inner x (λ j. forest_nodes parent j (elements others)) (λ j. forest_nodes n j content) refl)

-- what is dropped makes no node
dropped_one : (numbers : List ℕ) (nodes : List PageNode) (t : Token) (rest : List Token) → nat_lt 2 (parent_of numbers) ≡ false → IsDropped t → grown numbers nodes (t ∷ rest) ≡ grown numbers nodes rest
dropped_one numbers nodes (T.Text run) rest k h = ap (λ (l : List PageNode). grown numbers l rest) (ap (λ (l : List PageNode). nodes ++ l) (left_out (parent_of numbers) (text_nodes (parent_of numbers) run.units) k) ∙ append-nil nodes)
dropped_one numbers nodes (T.Comment units) rest k h = ap (λ (l : List PageNode). grown numbers l rest) (ap (λ (l : List PageNode). nodes ++ l) (left_out (parent_of numbers) (comment_node (parent_of numbers) units ∷ []) k) ∙ append-nil nodes)
dropped_one numbers nodes (T.StartTag tag) rest k h = absurd h
dropped_one numbers nodes (T.EndTag end) rest k h = absurd h
dropped_one numbers nodes T.OpenComment rest k h = absurd h
dropped_one numbers nodes T.Doctype rest k h = absurd h
dropped_one numbers nodes T.Stray rest k h = absurd h
dropped_one numbers nodes T.End rest k h = absurd h

grown_dropped : (numbers : List ℕ) (nodes : List PageNode) (d rest : List Token) → nat_lt 2 (parent_of numbers) ≡ false → AllByRecursion IsDropped d → grown numbers nodes (d ++ rest) ≡ grown numbers nodes rest
grown_dropped numbers nodes [] rest k h = refl
grown_dropped numbers nodes (t ∷ d) rest k h = dropped_one numbers nodes t (d ++ rest) k h.0 ∙ grown_dropped numbers nodes d rest k h.1

-- a token that makes no node, as an end tag or a doctype
grown_doctype : (nodes : List PageNode) (d rest : List Token) → IsDoctype d → grown [] nodes (d ++ rest) ≡ grown [] nodes rest
grown_doctype nodes [] rest h = refl
grown_doctype nodes (T.Doctype ∷ behind) rest h = ap (λ (l : List PageNode). grown [] l (behind ++ rest)) (append-nil nodes) ∙ grown_dropped [] nodes behind rest refl h
grown_doctype nodes (T.Text run ∷ behind) rest h = absurd h
grown_doctype nodes (T.Comment units ∷ behind) rest h = absurd h
grown_doctype nodes (T.StartTag tag ∷ behind) rest h = absurd h
grown_doctype nodes (T.EndTag end ∷ behind) rest h = absurd h
grown_doctype nodes (T.OpenComment ∷ behind) rest h = absurd h
grown_doctype nodes (T.Stray ∷ behind) rest h = absurd h
grown_doctype nodes (T.End ∷ behind) rest h = absurd h

grown_close : (numbers : List ℕ) (n : ℕ) (nodes : List PageNode) (name : List ℕ) (rest : List Token) → grown (n ∷ numbers) nodes (end_of name ∷ rest) ≡ grown numbers nodes rest
grown_close numbers n nodes name rest = ap (λ (l : List PageNode). grown numbers l rest) (append-nil nodes)

grown_open : (numbers : List ℕ) (nodes : List PageNode) (tag : StartTag) (rest : List Token) → is_void tag.name ≡ false → grown numbers nodes (T.StartTag tag ∷ rest) ≡ grown (length nodes ∷ numbers) (nodes ++ (element_node (parent_of numbers) tag ∷ [])) rest
grown_open numbers nodes tag rest void = ap (λ b. grown (cond b numbers (length nodes ∷ numbers)) (nodes ++ (element_node (parent_of numbers) tag ∷ [])) rest) void

-- behind the content of the body
grown_end : (p : Parts) (n : ℕ) (nodes : List PageNode) → AreParts p → grown (n ∷ 1 ∷ []) nodes (end_tokens p) ≡ nodes
grown_end p n nodes h =
    let last : List Token = p.behind_html ++ (T.End ∷ []) in
    grown_close (1 ∷ []) n nodes (codes "body") (p.behind_body ++ (end_of (codes "html") ∷ last))
    ∙ grown_dropped (1 ∷ []) nodes p.behind_body (end_of (codes "html") ∷ last) refl h.behind_body
    ∙ grown_close [] 1 nodes (codes "html") last
    ∙ grown_dropped [] nodes p.behind_html (T.End ∷ []) refl h.behind_html
    ∙ append-nil nodes

-- the body, behind at least the document, html and head
grown_body : (p : Parts) (nodes : List PageNode) → AreParts p → 2 < length nodes → grown (1 ∷ []) nodes (body_tokens p) ≡ nodes ++ forest_nodes 1 (length nodes) (Nested p.body_tag (followed p.content p.scripts) Nothing)
grown_body p nodes h m =
    let n = length nodes in
    let x = element_node 1 p.body_tag in
    let one : List PageNode = nodes ++ (x ∷ []) in
    let all = followed p.content p.scripts in
    let deep : 2 < length one = omega (arith, length-append nodes (x ∷ [])) in
    let shaped : IsShaped all = followed_shaped p.content p.scripts (content_shaped 2 p.content h.content) (scripts_shaped p.scripts h.scripts) in
    let within = forest_nodes n (length one) all in
    let behind : ℕ → List PageNode = λ j. [] in
    grown_open (1 ∷ []) nodes p.body_tag (forest_tokens p.content (forest_tokens p.scripts (end_tokens p))) (body_opens p.body_tag.name h.body_tag.1)
    ∙ ap (grown (n ∷ 1 ∷ []) one) (sym (followed_tokens p.content p.scripts (end_tokens p)))
    ∙ grown_forest all (n ∷ 1 ∷ []) one (end_tokens p) shaped (lt-ltb 2 n m) deep
    ∙ grown_end p n (one ++ within) h
    ∙ sym (append-nil (one ++ within) ∙ refl)
    ∙ sym (append-nil ((one ++ within) ++ []))
    ∙ regroup_nested nodes within x behind (λ j. forest_nodes n j all) refl

-- a page's tokens make the page's nodes
pub grown_page : (p : Parts) → AreParts p → grown [] (document_node ∷ []) (page_tokens p) ≡ page_nodes p
grown_page p h =
    let x = element_node 0 p.html in
    let y = element_node 1 p.head_tag in
    let two : List PageNode = document_node ∷ x ∷ [] in
    let three : List PageNode = document_node ∷ x ∷ y ∷ [] in
    let heads = forest_nodes 2 3 (elements p.head) in
    let nodes : List PageNode = three ++ heads in
    let rest = p.before_head ++ head_tokens p in
    let more : 2 < length nodes = omega (arith, length-append three heads) in
    let long : length nodes ≡ 3 + length heads = length-append three heads in
    let body : ℕ → List PageNode = λ n. forest_nodes 1 n (Nested p.body_tag (followed p.content p.scripts) Nothing) in
    let tail : List Token = end_of (codes "head") ∷ (p.before_body ++ body_tokens p) in
    grown_dropped [] (document_node ∷ []) p.beginning (p.doctype ++ (T.StartTag p.html ∷ rest)) refl h.beginning
    ∙ grown_doctype (document_node ∷ []) p.doctype (T.StartTag p.html ∷ rest) h.doctype
    ∙ grown_open [] (document_node ∷ []) p.html rest (html_opens p.html.name h.html.1)
    ∙ grown_dropped (1 ∷ []) two p.before_head (head_tokens p) refl h.before_head
    ∙ grown_open (1 ∷ []) two p.head_tag (forest_tokens p.head tail) (head_opens p.head_tag.name h.head_tag.1)
    ∙ grown_head p.head (2 ∷ 1 ∷ []) three tail (head_shaped p.head h.head) refl (lit< tt)
    ∙ grown_close (1 ∷ []) 2 nodes (codes "head") (p.before_body ++ body_tokens p)
    ∙ grown_dropped (1 ∷ []) nodes p.before_body (body_tokens p) refl h.before_body
    ∙ grown_body p nodes h more
    ∙ append_assoc three heads (body (length nodes))
    ∙ ap (λ n. three ++ (heads ++ body n)) long
    ∙ ap (λ (l : List PageNode). document_node ∷ x ∷ l) (sym (append-nil (y ∷ (heads ++ body (3 + length heads)))))

pub built_page : (tokens : List Placed) (p : Parts) → bare tokens ≡ page_tokens p → AreParts p → built [] (document_node ∷ []) tokens ≡ page_nodes p
built_page tokens p spelled h = built_is [] (document_node ∷ []) tokens ∙ ap (grown [] (document_node ∷ [])) spelled ∙ grown_page p h
