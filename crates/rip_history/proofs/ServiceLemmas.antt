-- A store that is called once more.
use Rattle.std.proofs.Common.{◌≡◌, List, [], ◌∷◌, ◌++◌, Result, Ok, Err, OnOk, refl, sym, ap, ◌∙◌, subst}
use Rattle.rip_manifest.specs.declared.function.Function.{Function}
use Rattle.rip_store.specs.Apply.{apply, fold}
use Rattle.rip_store.specs.Held.{functions_of, stored_of}
use Rattle.rip_store.specs.Kept.{IsKept}
use Rattle.rip_store.specs.Places.{Stored}
use Rattle.rip_store.specs.declared.store.Store.{Store}
use Rattle.rip_history.specs.Services.{Called, Service, service_of, RepliesAs}

-- the store after calls and one more
pub fold-last : (fs : List Function) (s : Stored) (calls : List Called) (c : Called)
    → (fold fs s (calls ++ c ∷ [])).0 ≡ (apply fs (fold fs s calls).0 c.0 c.1).0
fold-last fs s [] c = refl
fold-last fs s (d ∷ calls) c = fold-last fs (apply fs s d.0 d.1).0 calls c

-- what holds on success changes with what it says
pub on-success : {A B : Type 0} {P Q : Type 0} (r : Result A B) → (P → Q) → OnOk r P → OnOk r Q
on-success (Ok v) f p = f p
on-success (Err e) f p = p

-- a store that replied to one more call replies as the same service after it
pub replies_on : (old new : Store) (service : Service) (calls : List Called) (c : Called) → RepliesAs old service calls
    → functions_of new ≡ functions_of old → IsKept (stored_of new)
    → stored_of new ≡ (apply (functions_of old) (stored_of old) c.0 c.1).0
    → RepliesAs new service (calls ++ c ∷ [])
replies_on old new service calls c r same kept stored =
    let fs = functions_of old in
    let whole : stored_of new ≡ (fold fs [] (calls ++ c ∷ [])).0 =
    stored ∙ ap (λ (s : Stored). (apply fs s c.0 c.1).0) r.stored ∙ sym (fold-last fs [] calls c) in
    record {
      replies = r.replies ∙ ap service_of (sym same);
      stored = subst (λ (gs : List Function). stored_of new ≡ (fold gs [] (calls ++ c ∷ [])).0) (sym same) whole;
      kept = kept;
    }
