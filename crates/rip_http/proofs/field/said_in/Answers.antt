use Rattle.std.proofs.Common.{◌≡◌, ◌∙◌, ◌==◌, sym, ap, List, [], length, arith}
use Rattle.std.specs.Prelude.{codes}
use Rattle.httparse.specs.declared.spans.HeaderSpan.{HeaderSpan}
use Rattle.rip_http.specs.Fields.{pairs, values_of}
use Rattle.rip_http.proofs.SaidLemmas.{host_with, length_with, uncoded_with, close_with, hosts_are, lengths_are, codings_are, closings_are, nothing}
use Rattle.rip_http.proofs.field.said_in.Goals as goal

pub returns : goal.returns
returns c =
    let head = c.args.head.now in
    let l = c.loop-left in
    let fields = pairs head c.args.fields.now in
    let none : [] ≡ l.left.now = sym (nothing l.left.now (omega (arith, c.in_default.len_below))) in record {
      host_is = ap (λ (xs : List HeaderSpan). host_with l.seen l.host (values_of (codes "host") (pairs head xs))) none ∙ l.invariant.hosts ∙ hosts_are c.args.minor (values_of (codes "host") fields);
      length_is = ap (λ (xs : List HeaderSpan). length_with l.length (values_of (codes "content-length") (pairs head xs))) none ∙ l.invariant.lengths ∙ lengths_are (values_of (codes "content-length") fields);
      uncoded_is = ap (λ (xs : List HeaderSpan). uncoded_with l.uncoded (values_of (codes "transfer-encoding") (pairs head xs))) none ∙ l.invariant.codings ∙ codings_are (values_of (codes "transfer-encoding") fields);
      close_is = ap (λ (xs : List HeaderSpan). close_with l.close (values_of (codes "connection") (pairs head xs))) none ∙ l.invariant.closings ∙ closings_are (c.args.minor == 0) (values_of (codes "connection") fields);
    }
