-- What a browser goes with, and what each answer keeps.
use Rattle.std.proofs.Common.{◌≡◌, ℕ, ◌+◌, nat_le, Bool, true, false, cond, Option, List, length, refl, sym, ap, subst, arith}
use Rattle.std.specs.Prelude.{All, IfSome}
use Rattle.std.proofs.lemmas.List.Elements.{All-push}
use Rattle.rip_base.specs.declared.value.Limit.TheVariants.{Cells, Queue}
use Rattle.rip_base.specs.declared.value.Value.TheVariants.{Undefined, Object}
use Rattle.rip_base.specs.declared.value.Value.{Value as ScriptValue}
use Rattle.rip_values.specs.Pool.{Texts}
use Rattle.rip_heap.specs.declared.host.HostDone.{HostDone}
use Rattle.rip_heap.specs.declared.host.HostDone.TheVariants.{Value, TypeFault, Dom, Fault, Limit, Memory}
use Rattle.rip_heap.specs.Growth.{Belongs}
use Rattle.rip_heap.specs.Host.{Keeps, LeavesOnRefusal}
use Rattle.rip_heap.specs.World.{World, paid}
use Rattle.rip_dom.specs.Tree.{Tree}
use Rattle.rip_nodes.specs.Answers.{AddsTexts, IsAnswered, KeepsTree}
use Rattle.rip_host.specs.declared.browser.Browser.{Browser}
use Rattle.rip_calls.specs.Calls.{Calls, used, with_call}
use Rattle.rip_host.specs.Waiting.{Waiting}
use Rattle.rip_host.specs.Listening.{is_spent}
use Rattle.rip_host.specs.Ripley.{call_made, of_calls}
use Rattle.rip_host.specs.Stays.{fits-stays}
use Rattle.rip_host.specs.Visit.{Fits, KeepsBrowser, with_tree}

-- so it is with another tree of the same limit
pub fits-tree : (s : Browser) (w : World) (u : Tree) → Fits s w → u.limit ≡ s.dom.limit → Fits (with_tree s u) w
fits-tree s w u f e = record {
  nodes = omega (arith, e, f.nodes);
  body = f.body;
  class = f.class;
  class_stands = f.class_stands;
  form_room = omega (arith, e, f.form_room);
  listener_room = f.listener_room;
  listener_nodes = omega (arith, e, f.listener_nodes);
  listeners_charged = f.listeners_charged;
  event_room = f.event_room;
  events_charged = f.events_charged;
  events_made = f.events_made;
  event_nodes = f.event_nodes;
  listeners_on_nodes = f.listeners_on_nodes;
  callbacks = f.callbacks;
  reply_callbacks = f.reply_callbacks;
}

-- where only texts are added, no function is made
pub keeps-texts : (old new : World) → AddsTexts old new → Keeps old new
keeps-texts old new a = record {
  grows = a.grows;
  functions = λ i d h k. let same : length new.objects ≡ length old.objects = ap length a.objects in absurd (omega (arith, h, k, same));
}

adds-nothing : (w : World) → AddsTexts w w
adds-nothing w = record {
  grows = record {
    limit = refl;
    unit_limit = refl;
    text_limit = refl;
    cells = omega arith;
    units = omega arith;
    texts = λ s h. refl;
    spans = omega arith;
    made = omega arith;
    objects = λ i d h. (refl, refl, refl);
    opened = omega arith;
    scopes = λ i d h. (refl, refl);
  };
  objects = refl;
}

-- the texts are as they were
pub adds-same : (w : World) (p : Texts) → p ≡ w.pool → AddsTexts w (record w { pool = p })
adds-same w p e = let P : Texts → Type 0 = λ q. AddsTexts w (record w { pool = q }) in subst P (sym e) (adds-nothing w)

refused-nodes : (old new : World) (s : Browser) (done : HostDone) (u : Tree) → IsAnswered old done new → KeepsTree s.dom done u → LeavesOnRefusal old s done new (with_tree s u)
refused-nodes old new s (Value v) u a k = tt
refused-nodes old new s TypeFault u a k = tt
refused-nodes old new s (Dom code) u a k = tt
refused-nodes old new s (Fault fault) u a k = (a, ap (with_tree s) k)
refused-nodes old new s (Limit limit) u a k = (a, ap (with_tree s) k)
refused-nodes old new s Memory u a k = absurd a

tree-limit : (s : Browser) (done : HostDone) (u : Tree) → KeepsTree s.dom done u → u.limit ≡ s.dom.limit
tree-limit s (Value v) u k = k
tree-limit s TypeFault u k = ap (λ (t : Tree). t.limit) k
tree-limit s (Dom code) u k = ap (λ (t : Tree). t.limit) k
tree-limit s (Fault fault) u k = ap (λ (t : Tree). t.limit) k
tree-limit s (Limit limit) u k = ap (λ (t : Tree). t.limit) k
tree-limit s Memory u k = ap (λ (t : Tree). t.limit) k

-- an answer of the nodes
pub keeps-nodes : (old new : World) (s : Browser) (done : HostDone) (u : Tree) → Fits s old → AddsTexts old new → IsAnswered old done new → KeepsTree s.dom done u → KeepsBrowser old s done new (with_tree s u)
keeps-nodes old new s done u f a d k = record {
  fits = fits-tree s new u (fits-stays s old new f a.grows) (tree-limit s done u k);
  keeps = keeps-texts old new a;
  answered = d;
  refused = refused-nodes old new s done u d k;
}

tree-stays : (s : Browser) (done : HostDone) → KeepsTree s.dom done s.dom
tree-stays s (Value v) = refl
tree-stays s TypeFault = refl
tree-stays s (Dom code) = refl
tree-stays s (Fault fault) = refl
tree-stays s (Limit limit) = refl
tree-stays s Memory = refl

-- an answer that leaves the browser as it is
pub keeps-reading : (old new : World) (s : Browser) (done : HostDone) → Fits s old → AddsTexts old new → IsAnswered old done new → KeepsBrowser old s done new s
keeps-reading old new s done f a d = keeps-nodes old new s done s.dom f a d (tree-stays s done)

-- an answer that leaves all as it is
pub keeps-all : (w : World) (s : Browser) (done : HostDone) → Fits s w → IsAnswered w done w → KeepsBrowser w s done w s
keeps-all w s done f d = keeps-reading w w s done f (adds-nothing w) d

-- a value that is answered by another browser that fits
pub keeps-value : (old new : World) (s r : Browser) (v : ScriptValue) → Fits r new → AddsTexts old new → Belongs new v → KeepsBrowser old s (Value v) new r
keeps-value old new s r v f a b = record { fits = f; keeps = keeps-texts old new a; answered = b; refused = tt }

pub keeps-value-here : (w : World) (s r : Browser) (v : ScriptValue) → Fits r w → Belongs w v → KeepsBrowser w s (Value v) w r
keeps-value-here w s r v f b = keeps-value w w s r v f (adds-nothing w) b

-- so it is with one call more, whose callback is of the world
pub fits-call : (s : Browser) (w : World) (text : List ℕ) (callback : Option ℕ) → Fits s w → IfSome callback (λ f. Belongs w (Object f)) → Fits (record s { calls = with_call s.calls text callback }) w
fits-call s w text callback f b = record {
  nodes = f.nodes;
  body = f.body;
  class = f.class;
  class_stands = f.class_stands;
  form_room = f.form_room;
  listener_room = f.listener_room;
  listener_nodes = f.listener_nodes;
  listeners_charged = f.listeners_charged;
  event_room = f.event_room;
  events_charged = f.events_charged;
  events_made = f.events_made;
  event_nodes = f.event_nodes;
  listeners_on_nodes = f.listeners_on_nodes;
  callbacks = All-push (λ m. IfSome m.callback (λ f. Belongs w (Object f))) s.calls.made (record { text = text; callback = callback }) f.callbacks b;
  reply_callbacks = f.reply_callbacks;
}

-- and with other calls of the same callbacks, and other replies whose callbacks are of the world
pub fits-served : (s : Browser) (w : World) (c : Calls) (u : Waiting) → Fits s w → c.made ≡ s.calls.made → All (λ r. Belongs w (Object r.callback)) u.replies → Fits (record s { calls = c; undelivered = u }) w
fits-served s w c u f e all = record {
  nodes = f.nodes;
  body = f.body;
  class = f.class;
  class_stands = f.class_stands;
  form_room = f.form_room;
  listener_room = f.listener_room;
  listener_nodes = f.listener_nodes;
  listeners_charged = f.listeners_charged;
  event_room = f.event_room;
  events_charged = f.events_charged;
  events_made = f.events_made;
  event_nodes = f.event_nodes;
  listeners_on_nodes = f.listeners_on_nodes;
  callbacks = subst (All (λ m. IfSome m.callback (λ f. Belongs w (Object f)))) (sym e) f.callbacks;
  reply_callbacks = all;
}

-- a cell more is charged
charged : (w : World) → AddsTexts w (paid 1 w)
charged w = record {
  grows = record {
    limit = refl;
    unit_limit = refl;
    text_limit = refl;
    cells = omega arith;
    units = omega arith;
    texts = λ s h. refl;
    spans = omega arith;
    made = omega arith;
    objects = λ i d h. (refl, refl, refl);
    opened = omega arith;
    scopes = λ i d h. (refl, refl);
  };
  objects = refl;
}

-- what is answered where a call is put behind those that were made
abbrev put-call : World → Browser → List ℕ → Option ℕ → Bool → Bool → HostDone × World × Calls
put-call w s text callback spent room = cond spent (Limit Cells, w, s.calls) (cond room (Value Undefined, paid 1 w, with_call s.calls text callback) (Limit Queue, w, s.calls))

-- an answer of the calls
pub keeps-call : (w : World) (s : Browser) (text : List ℕ) (callback : Option ℕ) → Fits s w → IfSome callback (λ f. Belongs w (Object f)) → KeepsBrowser w s (call_made w s callback text).0 (call_made w s callback text).1 (call_made w s callback text).2
keeps-call w s text callback f b = by (is_spent w) (nat_le (used s.calls + (length text + 1)) s.calls.limit)
  where
    by : (x y : Bool) → KeepsBrowser w s (of_calls (put-call w s text callback x y) s).0 (of_calls (put-call w s text callback x y) s).1 (of_calls (put-call w s text callback x y) s).2
    by true y = keeps-all w s (Limit Cells) f refl
    by false true =
        keeps-value w (paid 1 w) s (record s { calls = with_call s.calls text callback }) Undefined
        (fits-stays (record s { calls = with_call s.calls text callback }) w (paid 1 w) (fits-call s w text callback f b) (charged w).grows) (charged w) tt
    by false false = keeps-all w s (Limit Queue) f refl
