use Rattle.std.proofs.Common.{◌≡◌, ◌∙◌, ap, take, drop, arith}
use Rattle.httparse.specs.Spans.{span_bytes}
use Rattle.rip_http.specs.Heads.{head_at}
use Rattle.rip_http.specs.Routes.{segment_of}
use Rattle.rip_http.proofs.StageLemmas.{body_takes}
use Rattle.rip_http.proofs.stage.Awaited.message.Goals as goal

pub returns : goal.returns
returns c =
    let a = c.args.self.now in
    let bytes = c.args.bytes.now in
    let segment : c.in_ok-from_slice.field-0 ≡ segment_of (span_bytes (head_at bytes a.end) a.target) =
    c.in_ok-from_slice.ensures ∙ c.segment_of-segment.ensures ∙ ap segment_of (c.of.ensures ∙ ap (λ head. span_bytes head a.target) c.head_of.ensures) in
    let body : c.in_ok-from_slice-2.field-0 ≡ take a.going.size (drop a.end bytes) =
    c.in_ok-from_slice-2.ensures ∙ ap (λ k. take k (drop a.end bytes)) (omega arith) in
    body_takes bytes _ _ a c.requires.stage c.requires.come segment body
