-- What becomes of a connection on which an answer is sent.
use Rattle.std.specs.Prelude.{Bool, true, false, Result, Ok, Err}
use Rattle.rip_server.specs.declared.halt.Halt.{Halt}
use Rattle.rip_server.specs.declared.send.Reached.{Reached}
use Rattle.rip_server.specs.declared.send.Reached.TheVariants.{Stays, Shut, Gone}

-- it was found gone
abbrev pub found_gone : Reached → Bool
found_gone Stays = false
found_gone Shut = false
found_gone Gone = true

abbrev pub is_gone : Result Reached Halt → Bool
is_gone (Ok reached) = found_gone reached
is_gone (Err halt) = false
