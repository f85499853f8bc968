-- What a browser keeps in each answer.
use Rattle.std.specs.Prelude.{◌≡◌}
use Rattle.std.specs.List.{AllByRecursion}
use Rattle.rip_calls.specs.Calls.{Calls, MadeCall}
use Rattle.rip_heap.specs.Host.{Request}
use Rattle.rip_heap.specs.World.{World}
use Rattle.rip_host.specs.Answers.{answers}
use Rattle.rip_host.specs.declared.browser.Browser.{Browser}
use Rattle.rip_wire.specs.Calls.{IsCallText}

-- no answer of a browser changes the limit of the nodes of its document, nor that of the bytes of the calls that wait, nor that
-- of the replies that wait
abbrev pub LimitsStay : Type 0
LimitsStay = (s : Browser) (w : World) (r : Request)
    → ((let a = answers s w r in let t = a.2 in let d = t.dom in d.limit) ≡ (let d = s.dom in d.limit))
    × ((let a = answers s w r in let t = a.2 in let c = t.calls in c.limit) ≡ (let c = s.calls in c.limit))
    × ((let a = answers s w r in let t = a.2 in let u = t.undelivered in u.most) ≡ (let u = s.undelivered in u.most))

-- each call that was made has the text of a call in range
abbrev pub AreMadeInRange : Calls → Type 0
AreMadeInRange c = AllByRecursion (λ (m : MadeCall). IsCallText m.text) c.made

-- where all calls that were made have the text of a call in range, they have after each answer of a browser too
abbrev pub CallsStayInRange : Type 0
CallsStayInRange = (s : Browser) (w : World) (r : Request)
    → AreMadeInRange s.calls → AreMadeInRange (let a = answers s w r in let t = a.2 in t.calls)
