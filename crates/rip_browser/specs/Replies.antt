-- The delivery of a reply: it is due once, in a batch behind that in which its call was served; `ripley.now` tells its
-- moment from then on, and its value is made for the callback.
use Rattle.std.specs.Prelude.{ℕ, Option, None, Some, Ok, Err}
use Rattle.rip_base.specs.declared.value.Value.{Value}
use Rattle.rip_heap.specs.declared.outcome.Halt.{Halt}
use Rattle.rip_heap.specs.declared.outcome.Halt.TheVariants.{Fault as HaltFault, Limit as HaltLimit}
use Rattle.rip_heap.specs.World.{World}
use Rattle.rip_eval_rows.specs.declared.completion.Stop.{Stop}
use Rattle.rip_eval_rows.specs.declared.completion.Stop.TheVariants.{Fault as AtFault, Limit as AtLimit}
use Rattle.rip_convert.specs.Values.{Made, made_value}
use Rattle.rip_host.specs.declared.browser.Browser.{Browser}
use Rattle.rip_host.specs.declared.replies.WaitingReply.{WaitingReply}
use Rattle.rip_host.specs.Replies.{due, without_reply_to}
use Rattle.rip_replica.specs.Rules.{CallsBack, Delivered, NotDue, ReplyStops}

-- the browser in which a reply was taken to be delivered: it is the moment of that reply
abbrev pub taken_out : ℕ → ℕ → WaitingReply → Browser → Browser
taken_out number batch r s = record s { undelivered = without_reply_to number batch s.undelivered; moment = r.time }

-- the browser in which the reply that is due was taken, if there is one
abbrev pub without_by : Option WaitingReply → ℕ → ℕ → Browser → Browser
without_by None number batch s = record s { undelivered = without_reply_to number batch s.undelivered }
without_by (Some r) number batch s = taken_out number batch r s

abbrev pub without_reply : ℕ → ℕ → Browser → Browser
without_reply number batch s = without_by (due number batch s.undelivered.replies) number batch s

-- how an item stops where the making of a value halts
abbrev pub stop_of : Halt → Stop
stop_of (HaltFault fault) = AtFault fault
stop_of (HaltLimit limit) = AtLimit limit

-- the callback is called with the value that was made; or it has a fault, or a limit would be passed while it is made
abbrev pub handed : ℕ → Made Value → Browser → Delivered Browser
handed callback (Ok v, w) s = CallsBack callback v w s
handed callback (Err halt, w) s = ReplyStops (stop_of halt) w s

abbrev pub delivery : Option WaitingReply → Browser → World → ℕ → ℕ → Delivered Browser
delivery None s w batch number = NotDue
delivery (Some r) s w batch number = handed r.callback (made_value r.reply w) (taken_out number batch r s)

-- the delivery of the reply to the call of this number, in this batch
abbrev pub delivered : Browser → World → ℕ → ℕ → Delivered Browser
delivered s w batch number = delivery (due number batch s.undelivered.replies) s w batch number
