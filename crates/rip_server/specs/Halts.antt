-- Why a turn stops before its end.
use Rattle.rip_outer.specs.declared.writing.SinkError.{SinkError}
use Rattle.rip_outer.specs.declared.writing.SinkError.TheVariants as sink
use Rattle.rip_server.specs.declared.halt.Halt.{Halt}
use Rattle.rip_server.specs.declared.halt.Halt.TheVariants.{Outside, Memory}

-- a sink that failed is the outside; one without memory wants it
abbrev pub halt_of : SinkError → Halt
halt_of sink.Failed = Outside
halt_of sink.Memory = Memory
