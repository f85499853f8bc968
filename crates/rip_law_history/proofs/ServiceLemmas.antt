-- The functions of an application reply in range.
use Rattle.std.proofs.Common.{List, [], ◌∷◌}
use Rattle.std.specs.List.{AllByRecursion}
use Rattle.rip_manifest.specs.declared.function.Function.{Function}
use Rattle.rip_data.specs.Datum.{Tree}
use Rattle.rip_wire.specs.Items.{AreArgs}
use Rattle.rip_log.specs.Parts.{IsReply}
use Rattle.rip_store.specs.Apply.{apply, fold}
use Rattle.rip_store.specs.Kept.{IsAccepted, AreAccepted, IsKept}
use Rattle.rip_store.specs.Places.{Stored}
use Rattle.rip_store.proofs.KeptLemmas.{empty_kept, stays_kept}
use Rattle.rip_history.specs.Services.{Called}
use Rattle.rip_law_history.specs.Ranged.{IsCalled, FunctionsReplyInRange}

accepted : (args : List Tree) → AreArgs args → AreAccepted args
accepted args a = record { made = a.are; shallow = a.shallow; short = a.short }

kept-after : (fs : List Function) (s : Stored) (calls : List Called) → IsKept s → AllByRecursion IsCalled calls
    → IsKept (let r = fold fs s calls in r.0)
kept-after fs s [] kept all = kept
kept-after fs s ((name, args) ∷ calls) kept all =
    kept-after fs (apply fs s name args).0 calls (stays_kept fs s name args kept (accepted args all.0.1)).0 all.1

reply : {t : Tree} → IsAccepted t → IsReply t
reply a = record { are = a.made; shallow = a.shallow; short = a.short }

pub functions_reply_in_range : FunctionsReplyInRange
functions_reply_in_range fs calls (name, args) all called =
    reply (stays_kept fs (fold fs [] calls).0 name args (kept-after fs [] calls empty_kept all) (accepted args called.1)).1
