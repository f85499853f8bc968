-- What is noted of a call.
use Rattle.rip_real.specs.History.{Deed, next, send, shut, read, put, give}
use Rattle.rip_real.specs.declared.history.Deed.{Deed as Call}
use Rattle.rip_real.specs.declared.history.Deed.TheVariants as call

-- the call with what its references point to
abbrev pub noted : Call → Deed
noted (call.Next k room busy) = next k room.now busy
noted (call.Send s c bytes) = send s c bytes.now
noted (call.Shut c) = shut c
noted (call.Read name) = read name.now
noted (call.Put bytes) = put bytes.now
noted (call.Give n) = give n
