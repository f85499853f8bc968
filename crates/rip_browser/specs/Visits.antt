-- What items come to over a browser.
use Rattle.std.specs.Prelude.{length}
use Rattle.rip_replica.specs.Rules.{Rules}
use Rattle.rip_host.specs.declared.browser.Browser.{Browser}
use Rattle.rip_browser.specs.declared.flow.Flow.{Flow}
use Rattle.rip_browser.specs.Calls.{has_callback, made_texts, position_of}
use Rattle.rip_browser.specs.Events.{event_plan, left_of}
use Rattle.rip_browser.specs.Replies.{delivered}

abbrev pub browser_rules : Rules Flow Browser
browser_rules = record {
  event = event_plan;
  flow = left_of;
  delivered = delivered;
  position = position_of;
  made = λ s. made_texts s.calls;
  calls_back = λ s. has_callback s.calls;
  taken = λ s. s.calls.taken;
  undelivered = λ s. length s.undelivered.replies;
  most_undelivered = λ s. s.undelivered.most;
}
