use Rattle.std.proofs.Common.{arith}
use Rattle.rip_store.proofs.KeyLemmas.{key_text-read, key_text-not}
use Rattle.rip_store.proofs.places.key_text.Goals as goal

pub returns-in-Ok : goal.returns-in-Ok
returns-in-Ok c = key_text-read c.args.bytes.now c.in-Ok.key (omega arith) (λ not. cc (c.in-Ok.ensures.not_utf8.1 not)) c.in-Ok.ensures.only

pub returns-in-Err-NotUtf8 : goal.returns-in-Err-NotUtf8
returns-in-Err-NotUtf8 c = key_text-not c.args.bytes.now (c.in-Err-NotUtf8.ensures.not_utf8.0 (cc))
