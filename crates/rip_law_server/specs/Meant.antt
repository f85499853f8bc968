-- What a line of a trace asks for, as a server takes it.
use Rattle.std.specs.Prelude.{ℕ, ◌≤◌, List, [], ◌∷◌, length, false, ⊤}
use Rattle.uuid.specs.Text.{hyphenated_text, lower}
use Rattle.rip_http.specs.Stream.{waits, Requests}
use Rattle.rip_http.specs.declared.request.Message.{Message}
use Rattle.rip_http.specs.declared.request.Route.TheVariants.{Page, Events, Quit}
use Rattle.rip_trace.specs.Lines.{Asked, page, report, quit}
use Rattle.rip_trace.specs.Requests.{identifier_of, request}

-- the message that is meant: where it goes, the text of the session's identifier, and the body; the connection stays
abbrev pub meant : List ℕ → Asked → Message
meant words page = record { route = Page; segment = []; body = []; close = false }
meant words (report s body) = record { route = Events; segment = hyphenated_text lower (identifier_of words s); body = body; close = false }
meant words (quit s) = record { route = Quit; segment = hyphenated_text lower (identifier_of words s); body = []; close = false }

-- a body of at most 65,536 bytes: a longer one is refused
abbrev pub HasFit : Asked → Type 0
HasFit page = ⊤
HasFit (report s body) = length body ≤ 65536
HasFit (quit s) = ⊤

-- the requests in the bytes that a line stands for are the one that it means, whose size is that of the bytes
abbrev pub RequestsAreMeant : Type 0
RequestsAreMeant = (words : List ℕ) (a : Asked) → HasFit a → Requests (request words a) (record { message = meant words a; size = length (request words a) } ∷ []) waits
