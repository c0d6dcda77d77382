-- What running a program answers.
use Rattle.std.specs.Prelude.{◌≡◌, ℕ, List, Option, IfSome, Result, Ok, Err}
use Rattle.qtt_base.specs.declared.place.GlobalId.{GlobalId}
use Rattle.qtt_term.specs.Signature.{Env}
use Rattle.qtt_term.specs.FullRun.{Run, full}
use Rattle.qtt_run.specs.Front.{Failure, Outside, DidFront}
use Rattle.qtt_run.specs.Program.{DidAll}
use Rattle.qtt_cli.specs.declared.device.Device.{Device}
use Rattle.qtt_cli.specs.declared.device.Device.TheVariants as device
use Rattle.qtt_cli.specs.declared.running.Went.{Went}
use Rattle.qtt_cli.specs.declared.stop.Stop.{Stop}
use Rattle.qtt_cli.specs.declared.stop.Stop.TheVariants as stop
use Rattle.qtt_cli.specs.Views.{verdict_of}

-- what was done of a run
abbrev pub Did : Run → Outside → Result Went Stop → Type 0
Did r o (Ok w) = DidAll r (verdict_of w.verdict) w.used o
Did r o (Err stop.Usage) = ⊥
Did r o (Err (stop.Absent a)) = ⊥
Did r o (Err (stop.Refused x)) = ⊥
Did r o (Err (stop.Failed device.Vault)) = ⊥
Did r o (Err (stop.Failed device.Input)) = DidFront r.last.events Failure.source o
Did r o (Err (stop.Failed device.Output)) = DidFront r.last.events Failure.sink o
Did r o (Err (stop.Failed device.Tape)) = DidFront r.last.events Failure.tape o
Did r o (Err stop.Memory) = DidFront r.last.events Failure.memory o

-- of the full run over what the source tells; over a source that does not tell, over some input
pub record RunsAs (steps : ℕ) (E : Env) (main : GlobalId) (content : Option (List ℕ)) (o : Outside)
    (result : Result Went Stop) : Type 0 where
  pub input : List ℕ
  pub told : IfSome content (λ bytes. input ≡ bytes)
  pub did : Did (full steps E main input) o result

abbrev pub Fails : {X : Type 0} → Device → Result X Stop → Type 0
Fails d result = result ≡ Err (stop.Failed d)
