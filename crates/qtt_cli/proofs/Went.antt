-- What running a program answers, from what the run answers.
use Rattle.std.proofs.Common.{◌≡◌, ℕ, List, Option, Result, Ok, Err, subst}
use Rattle.qtt_prims.specs.Tapes.{Taped}
use Rattle.qtt_base.specs.declared.place.GlobalId.{GlobalId}
use Rattle.qtt_base.specs.declared.errors.MemoryError.{MemoryError}
use Rattle.qtt_term.specs.Signature.{Env}
use Rattle.qtt_term.specs.FullRun.{full}
use Rattle.qtt_run.specs.Front.{Outside}
use Rattle.qtt_run.specs.Program.{Did, RunsAsFull, outcome}
use Rattle.qtt_run.specs.declared.program.RunEnd.{RunEnd}
use Rattle.qtt_run.specs.declared.program.RunHow.{RunHow}
use Rattle.qtt_run.specs.declared.program.RunHow.TheVariants as how
use Rattle.qtt_cli.specs.declared.device.Device.TheVariants as device
use Rattle.qtt_cli.specs.declared.running.Went.{Went}
use Rattle.qtt_cli.specs.declared.stop.Stop.{Stop}
use Rattle.qtt_cli.specs.declared.stop.Stop.TheVariants as stop
use Rattle.qtt_cli.specs.declared.verdict.Verdict.TheVariants as verdict
use Rattle.qtt_cli.specs.Running as running
use Rattle.qtt_cli.specs.Running.{RunsAs}

abbrev pub went_of : RunHow → ℕ → Result Went Stop
went_of how.Ended used = Ok (record { verdict = verdict.Ended; used = used })
went_of (how.Trapped k) used = Ok (record { verdict = verdict.Trapped k; used = used })
went_of how.Bound used = Ok (record { verdict = verdict.Running; used = used })
went_of how.SourceFault used = Err (stop.Failed device.Input)
went_of how.SinkFault used = Err (stop.Failed device.Output)
went_of how.TapeFault used = Err (stop.Failed device.Tape)

abbrev pub at_run : (output_before output : Option (List ℕ)) (tapes_before tapes : Option (List Taped)) → Outside
at_run output_before output tapes_before tapes =
    record { output_before = output_before; output = output; tapes_before = tapes_before; tapes = tapes }

module _ (steps : ℕ) (E : Env) (main : GlobalId) (content : Option (List ℕ)) (o : Outside) where
  pub ran-so : (end : RunEnd) (h : RunHow) → end.how ≡ h → RunsAsFull steps E main content o (Ok end) →
      RunsAs steps E main content o (went_of h end.used)
  ran-so end h e f = record {
    input = f.input;
    told = f.told;
    did = by h (subst (λ (x : RunHow). Did (full steps E main f.input) (outcome x) end.used o) e f.answers);
  }
    where
      by : (x : RunHow) → Did (full steps E main f.input) (outcome x) end.used o →
          running.Did (full steps E main f.input) o (went_of x end.used)
      by how.Ended d = d
      by (how.Trapped k) d = d
      by how.Bound d = d
      by how.SourceFault d = d.0
      by how.SinkFault d = d.0
      by how.TapeFault d = d.0

  pub ran-out : (e : MemoryError) → RunsAsFull steps E main content o (Err e) →
      RunsAs steps E main content o (Err stop.Memory)
  ran-out e f = record { input = f.input; told = f.told; did = f.answers }
