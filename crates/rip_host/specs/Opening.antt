-- How a browser begins, and what the call that makes an event answers.
use Rattle.std.specs.Prelude.{◌≡◌, ℕ, ℤ, suc, ◌+◌, ◌&&◌, Bool, nat_eq, codes, if◌then◌else◌, Option, None, Some, List, [], ◌∷◌, Result, Ok, Err}
use Rattle.std.specs.Cmp.Lexicographic.{pointwise}
use Rattle.rip_limits.specs.declared.limits.Limits.{Limits}
use Rattle.rip_base.specs.declared.page.PageNode.{PageNode}
use Rattle.rip_base.specs.declared.value.Limit.TheVariants.{Cells}
use Rattle.rip_base.specs.declared.value.Refused.{Refused}
use Rattle.rip_base.specs.declared.value.Refused.TheVariants.{Limit as At, Memory}
use Rattle.rip_values.specs.Pool.{Texts, span_behind, with_text}
use Rattle.rip_heap.specs.World.{World}
use Rattle.rip_calls.specs.Calls.{none_made}
use Rattle.rip_dom.specs.Opening.{Opens as OpensDocument}
use Rattle.rip_dom.specs.Tree.{is_element}
use Rattle.rip_forms.specs.States.{no_states}
use Rattle.rip_host.specs.declared.browser.Browser.{Browser}
use Rattle.rip_host.specs.Waiting.{none_waits}

-- THE BROWSER

-- the node is an element with the name `body`
abbrev pub is_body : PageNode → Bool
is_body x = is_element x.kind && pointwise nat_eq x.name (codes "body")

-- the number of the first body, where the first of these nodes has this number
abbrev pub body_from : ℕ → List PageNode → Option ℕ
body_from n [] = None
body_from n (x ∷ xs) = if is_body x then Some n else body_from (suc n) xs

-- the browser of a page: its document, no listener, no event and no call yet, no state of a control set, room for so many
-- replies as the limits say, the seed as random word and the moment; the text `class` stands behind those of the page
pub record IsNew (nodes : List PageNode) (limits : Limits) (old middle : Texts) (seed : ℕ) (time : ℤ) (s : Browser) (new : Texts) : Type 0 where
  pub document : OpensDocument nodes limits.nodes old (Ok s.dom) middle
  pub texts : new ≡ with_text middle (codes "class") 0
  pub class : s.class ≡ span_behind middle (codes "class")
  pub body : s.body ≡ body_from 0 nodes
  pub forms : s.forms ≡ no_states s.dom.limit
  pub listeners : s.listeners ≡ record { limit = limits.cells + 1; nodes = s.dom.limit; registered = []; standing = [] }
  pub events : s.events ≡ record { limit = limits.cells; events = [] }
  pub calls : s.calls ≡ none_made limits.queue
  pub undelivered : s.undelivered ≡ none_waits limits.replies
  pub random : s.random ≡ seed
  pub moment : s.moment ≡ time

-- what the maker answers: a limit comes exactly where the document's does
abbrev pub Begins : List PageNode → Limits → Texts → ℕ → ℤ → Result Browser Refused → Texts → Type 0
Begins nodes limits old seed time (Ok s) new = (middle : Texts) × IsNew nodes limits old middle seed time s new
Begins nodes limits old seed time (Err (At limit)) new = OpensDocument nodes limits.nodes old (Err (At limit)) new
Begins nodes limits old seed time (Err Memory) new = Unit {0}

-- EVENTS

-- the object, with the world and the browser after it; the limit of cells comes exactly where there is none. What is
-- refused changes nothing
abbrev pub Opens : Option (ℕ × World × Browser) → World → Browser → Result ℕ Refused → World → Browser → Type 0
Opens step w s (Ok object) x r = step ≡ Some (object, x, r)
Opens step w s (Err (At limit)) x r = (limit ≡ Cells) × (step ≡ None) × (x ≡ w) × (r ≡ s)
Opens step w s (Err Memory) x r = (x ≡ w) × (r ≡ s)

-- the refusal is a limit
abbrev pub IsLimit : Refused → Type 0
IsLimit (At limit) = Unit {0}
IsLimit Memory = ⊥
