-- Why a run stops where a device failed.
use Rattle.qtt_edge.specs.declared.line_cutter.LineError.{LineError}
use Rattle.qtt_edge.specs.declared.line_cutter.LineError.TheVariants as line
use Rattle.qtt_edge.specs.declared.sink.SinkError.{SinkError}
use Rattle.qtt_edge.specs.declared.sink.SinkError.TheVariants as sink
use Rattle.qtt_edge.specs.declared.tapes.TapeError.{TapeError}
use Rattle.qtt_edge.specs.declared.tapes.TapeError.TheVariants as tape
use Rattle.qtt_run.specs.declared.stop.Stop.{Stop}
use Rattle.qtt_run.specs.declared.stop.Stop.TheVariants as stop
use Rattle.qtt_base.specs.declared.errors.MemoryError.{MemoryError}
use Rattle.qtt_run.specs.Front.{Failure}

abbrev pub of_line : LineError → Stop
of_line line.Fault = stop.Source
of_line line.Memory = stop.Memory

abbrev pub of_sink : SinkError → Stop
of_sink sink.Failed = stop.Sink
of_sink sink.Memory = stop.Memory

abbrev pub of_tape : TapeError → Stop
of_tape tape.Failed = stop.Tape
of_tape tape.Memory = stop.Memory

-- ---- what failed
abbrev pub failure : Stop → Failure
failure stop.Source = Failure.source
failure stop.Sink = Failure.sink
failure stop.Tape = Failure.tape
failure stop.Memory = Failure.memory

abbrev pub line_failure : LineError → Failure
line_failure e = failure (of_line e)

abbrev pub sink_failure : SinkError → Failure
sink_failure e = failure (of_sink e)

abbrev pub tape_failure : TapeError → Failure
tape_failure e = failure (of_tape e)

abbrev pub memory_failure : MemoryError → Failure
memory_failure e = Failure.memory
