-- What a session keeps of its browser and its heap: that they go together, as a fact that holds in one way.
use Rattle.std.specs.Prelude.{◌≡◌, ℕ, ◌+◌, ◌<◌, ◌≤◌, ◌||◌, Bool, true, false, nat_lt, nat_le, codes, All, Option, None, Some, IfSome, length, slice_index_or, refl}
use Rattle.std.proofs.Common.{inl, inr, sym, true≢false}
use Rattle.std.proofs.lemmas.Bool.{le-leb, leb-true, lt-ltb, ltb-true, or_left, or_right}
use Rattle.rip_values.specs.Pool.{text_at}
use Rattle.rip_base.specs.declared.value.Value.TheVariants.{Object}
use Rattle.rip_heap.specs.Growth.{Belongs}
use Rattle.rip_heap.specs.World.{World, first_node, first_object}
use Rattle.rip_host.specs.declared.browser.Browser.{Browser}
use Rattle.rip_host.specs.Visit.{AreNodes, Fits}

-- the object is one of the heap, a built-in or a node
abbrev pub is_kept : World → ℕ → Bool
is_kept w f = nat_lt f (first_object + length w.objects) || nat_le first_node f

-- the browser goes with the heap
pub record GoesWith (s : Browser) (w : World) : Type 0 where
  pub nodes : s.dom.limit ≤ first_node
  pub body : IfSome s.body (λ b. b < first_node)
  pub class : text_at w.pool s.class ≡ codes "class"
  pub class_stands : s.class.start + s.class.count ≤ length w.pool.units
  pub form_room : s.dom.limit ≤ length s.forms.nodes
  pub listener_room : w.limit < s.listeners.limit
  pub listener_nodes : s.dom.limit ≤ s.listeners.nodes
  pub listeners_charged : length s.listeners.registered ≤ w.cells
  pub event_room : w.limit ≤ s.events.limit
  pub events_charged : length s.events.events ≤ w.cells
  pub events_made : All (λ e. e.object < first_object + length w.objects) s.events.events
  pub event_nodes : All AreNodes s.events.events
  pub listeners_on_nodes : All (λ l. l.node < first_node) s.listeners.registered
  pub callbacks : All (λ m. IfSome m.callback (λ f. is_kept w f ≡ true)) s.calls.made
  pub reply_callbacks : All (λ r. is_kept w r.callback ≡ true) s.undelivered.replies

kept-belongs : (w : World) (f : ℕ) → Belongs w (Object f) → is_kept w f ≡ true
kept-belongs w f (inl made) = or_left _ _ (lt-ltb f (first_object + length w.objects) made)
kept-belongs w f (inr node) = or_right _ _ (le-leb first_node f node)

belongs-by : (w : World) (f : ℕ) (a b : Bool) → (a ≡ true → f < first_object + length w.objects) → (b ≡ true → first_node ≤ f) → (a || b) ≡ true → Belongs w (Object f)
belongs-by w f true b x y e = inl (x refl)
belongs-by w f false true x y e = inr (y refl)
belongs-by w f false false x y e = absurd (true≢false (sym e))

belongs-kept : (w : World) (f : ℕ) → is_kept w f ≡ true → Belongs w (Object f)
belongs-kept w f e =
    belongs-by w f (nat_lt f (first_object + length w.objects)) (nat_le first_node f) (ltb-true f (first_object + length w.objects)) (leb-true first_node f) e

some-kept : (w : World) (o : Option ℕ) → IfSome o (λ f. Belongs w (Object f)) → IfSome o (λ f. is_kept w f ≡ true)
some-kept w None h = h
some-kept w (Some f) h = kept-belongs w f h

some-belongs : (w : World) (o : Option ℕ) → IfSome o (λ f. is_kept w f ≡ true) → IfSome o (λ f. Belongs w (Object f))
some-belongs w None h = h
some-belongs w (Some f) h = belongs-kept w f h

-- it goes with the heap exactly where it fits
pub goes-fits : (s : Browser) (w : World) → Fits s w → GoesWith s w
goes-fits s w f = record {
  nodes = f.nodes;
  body = f.body;
  class = f.class;
  class_stands = f.class_stands;
  form_room = f.form_room;
  listener_room = f.listener_room;
  listener_nodes = f.listener_nodes;
  listeners_charged = f.listeners_charged;
  event_room = f.event_room;
  events_charged = f.events_charged;
  events_made = f.events_made;
  event_nodes = f.event_nodes;
  listeners_on_nodes = f.listeners_on_nodes;
  callbacks = λ k d lt. some-kept w (slice_index_or s.calls.made k d).callback (f.callbacks k d lt);
  reply_callbacks = λ k d lt. kept-belongs w (slice_index_or s.undelivered.replies k d).callback (f.reply_callbacks k d lt);
}

pub fits-goes : (s : Browser) (w : World) → GoesWith s w → Fits s w
fits-goes s w g = record {
  nodes = g.nodes;
  body = g.body;
  class = g.class;
  class_stands = g.class_stands;
  form_room = g.form_room;
  listener_room = g.listener_room;
  listener_nodes = g.listener_nodes;
  listeners_charged = g.listeners_charged;
  event_room = g.event_room;
  events_charged = g.events_charged;
  events_made = g.events_made;
  event_nodes = g.event_nodes;
  listeners_on_nodes = g.listeners_on_nodes;
  callbacks = λ k d lt. some-belongs w (slice_index_or s.calls.made k d).callback (g.callbacks k d lt);
  reply_callbacks = λ k d lt. belongs-kept w (slice_index_or s.undelivered.replies k d).callback (g.reply_callbacks k d lt);
}
