use Rattle.std.proofs.Common.{◌≡◌, ◌==◌, length, true, false, Ok, None}
use Rattle.std.specs.Prelude.{All, codes}
use Rattle.httparse.specs.Spans.{IsHeaderWithin}
use Rattle.rip_http.specs.Fields.{pairs, values_of}
use Rattle.rip_http.proofs.SaidLemmas.{host_with, length_with, uncoded_with, close_with}
use Rattle.rip_http.proofs.field.said_in.Given as goal

abbrev pub invariant-loop-left : goal.invariant-loop-left
invariant-loop-left l = record {
  hosts : host_with l.seen l.host (values_of (codes "host") (pairs l.head l.left)) ≡ host_with false (l.fn.minor == 0) (values_of (codes "host") (pairs l.head l.fn.fields));
  lengths : length_with l.length (values_of (codes "content-length") (pairs l.head l.left)) ≡ length_with (Ok None) (values_of (codes "content-length") (pairs l.head l.fn.fields));
  codings : uncoded_with l.uncoded (values_of (codes "transfer-encoding") (pairs l.head l.left)) ≡ uncoded_with true (values_of (codes "transfer-encoding") (pairs l.head l.fn.fields));
  closings : close_with l.close (values_of (codes "connection") (pairs l.head l.left)) ≡ close_with (l.fn.minor == 0) (values_of (codes "connection") (pairs l.head l.fn.fields));
  within : All (IsHeaderWithin (length l.head)) l.left;
}

abbrev pub decreases-loop-left : goal.decreases-loop-left
decreases-loop-left l = length l.left
