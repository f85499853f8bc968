-- The lines that were read, as a trace has them.
use Rattle.rip_trace.specs.Lines.{Asked, page, report, quit, Line, comment, moment, word, opens, sends, goes, quiet, says}
use Rattle.rip_trace.specs.declared.say.Asked.{Asked as Read}
use Rattle.rip_trace.specs.declared.say.Asked.TheVariants as A
use Rattle.rip_trace.specs.declared.line.Line.{Line as ReadLine}
use Rattle.rip_trace.specs.declared.line.Line.TheVariants as L

abbrev pub asked_of : Read → Asked
asked_of A.Page = page
asked_of (A.Report session body) = report session body.now
asked_of (A.Quit session) = quit session

abbrev pub line_of : ReadLine → Line
line_of (L.Comment text) = comment text.now
line_of (L.Moment m) = moment m
line_of (L.Word w) = word w
line_of (L.Opened c) = opens c
line_of (L.Sent c piece) = sends c piece
line_of (L.Gone c) = goes c
line_of L.Quiet = quiet
line_of (L.Said c asked) = says c (asked_of asked)
