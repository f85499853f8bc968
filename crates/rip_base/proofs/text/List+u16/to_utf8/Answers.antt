use Rattle.std.proofs.Common.{◌≡◌, sym, subst}
use Rattle.std.specs.String.{string_bytes}
use Rattle.std.proofs.lemmas.Str.{IsUtf8-string_bytes}
use Rattle.rip_base.specs.Text.{IsSameText}
use Rattle.rip_base.proofs.TextLemmas.{IsSameText-read, IsSameText-bytes, no_surrogate_alone}
use Rattle.rip_base.proofs.text.List+u16.to_utf8.Goals as goal

pub returns-in-Ok-Ok-clause-text : goal.returns-in-Ok-Ok-clause-text
returns-in-Ok-Ok-clause-text c =
    let made : c.from_vec.result ≡ string_bytes c.in-Ok-Ok.text = cc in
    let read : IsSameText (string_bytes c.in-Ok-Ok.text) c.args.self.now = IsSameText-read c.args.self.now (string_bytes c.in-Ok-Ok.text) (IsUtf8-string_bytes c.in-Ok-Ok.text) (rw c.as_slice.ensures at (rw c.in-Ok-Ok.field-0-is at c.in-Ok-Ok.ensures.ok)) in
    subst (λ bytes. IsSameText bytes c.args.self.now) (sym made) read

pub returns-in-Ok-Ok-clause-only : goal.returns-in-Ok-Ok-clause-only
returns-in-Ok-Ok-clause-only c bytes other =
    sym (IsSameText-bytes c.args.self.now c.from_vec.result bytes (returns-in-Ok-Ok-clause-text c) other)

pub returns-in-Ok-Err-clause-unpaired : goal.returns-in-Ok-Err-clause-unpaired
returns-in-Ok-Err-clause-unpaired c = no_surrogate_alone c.args.self.now

pub returns-in-Err-clause-unpaired : goal.returns-in-Err-clause-unpaired
returns-in-Err-clause-unpaired c = no_surrogate_alone c.args.self.now
