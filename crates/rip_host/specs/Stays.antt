-- A heap that only grew is still one that a browser goes with.
use Rattle.std.specs.Prelude.{◌≡◌, ℕ, ◌<◌, ◌≤◌, Option, None, Some, IfSome, slice_index_or}
use Rattle.std.proofs.Common.{sym, ◌∙◌, subst, inl, inr}
use Rattle.std.proofs.Math.Nat.{le_trans, le_refl, add-le-add}
use Rattle.rip_base.specs.declared.value.Value.TheVariants.{Object}
use Rattle.rip_heap.specs.Growth.{Belongs, Grows}
use Rattle.rip_heap.specs.World.{World, first_object}
use Rattle.rip_host.specs.declared.browser.Browser.{Browser}
use Rattle.rip_host.specs.Visit.{Fits}

-- what was made for one limit is made for the same one
room-stays : (a b room : ℕ) → b ≡ a → a ≤ room → b ≤ room
room-stays a b room e h = let P : ℕ → Type 0 = λ n. n ≤ room in subst P (sym e) h

more-stays : (a b room : ℕ) → b ≡ a → a < room → b < room
more-stays a b room e h = let P : ℕ → Type 0 = λ n. n < room in subst P (sym e) h

-- an object of a heap is one of the heap that grew
belongs-stays : (n : ℕ) (old new : World) → Belongs old (Object n) → Grows old new → Belongs new (Object n)
belongs-stays n old new (inl made) g = inl (le_trans made (add-le-add (le_refl first_object) g.made))
belongs-stays n old new (inr node) g = inr node

callback-stays : (callback : Option ℕ) (old new : World) → IfSome callback (λ f. Belongs old (Object f)) → Grows old new → IfSome callback (λ f. Belongs new (Object f))
callback-stays None old new h g = h
callback-stays (Some n) old new h g = belongs-stays n old new h g

pub fits-stays : (s : Browser) (old new : World) → Fits s old → Grows old new → Fits s new
fits-stays s old new f g = record {
  nodes = f.nodes;
  body = f.body;
  class = g.texts s.class f.class_stands ∙ f.class;
  class_stands = le_trans f.class_stands g.spans;
  form_room = f.form_room;
  listener_room = more-stays old.limit new.limit s.listeners.limit g.limit f.listener_room;
  listener_nodes = f.listener_nodes;
  listeners_charged = le_trans f.listeners_charged g.cells;
  event_room = room-stays old.limit new.limit s.events.limit g.limit f.event_room;
  events_charged = le_trans f.events_charged g.cells;
  events_made = λ k d h. le_trans (f.events_made k d h) (add-le-add (le_refl first_object) g.made);
  event_nodes = f.event_nodes;
  listeners_on_nodes = f.listeners_on_nodes;
  callbacks = λ k d h. callback-stays (slice_index_or s.calls.made k d).callback old new (f.callbacks k d h) g;
  reply_callbacks = λ k d h. belongs-stays (slice_index_or s.undelivered.replies k d).callback old new (f.reply_callbacks k d h) g;
}
