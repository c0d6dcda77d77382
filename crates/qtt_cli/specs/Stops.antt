-- Why what was asked for is not carried out, and answers that end so.
use Rattle.std.specs.Prelude.{◌≡◌, Option, IfSome, Result, Ok, Err}
use Rattle.qtt_load.specs.Reading.{Texts}
use Rattle.qtt_module.specs.Refused.{refused_of}
use Rattle.qtt_module.specs.declared.errors.ModuleError.{ModuleError}
use Rattle.qtt_module.specs.declared.errors.ModuleError.TheVariants as judging
use Rattle.qtt_build.specs.declared.errors.BuildError.{BuildError}
use Rattle.qtt_build.specs.declared.errors.BuildError.TheVariants as building
use Rattle.qtt_outcome.specs.Stop as outcome
use Rattle.qtt_outcome.specs.Stop.{Answer}
use Rattle.qtt_cli.specs.declared.device.Device.TheVariants as device
use Rattle.qtt_cli.specs.declared.stop.Stop.{Stop}
use Rattle.qtt_cli.specs.declared.stop.Stop.TheVariants as stop

-- ---- why a build or a module stops it
abbrev pub of_build : BuildError → Stop
of_build (building.Refused r) = stop.Refused r
of_build (building.Absent a) = stop.Absent a
of_build building.VaultFault = stop.Failed device.Vault
of_build building.Memory = stop.Memory

abbrev pub of_module : ModuleError → Stop
of_module (judging.Refused r) = stop.Refused r
of_module judging.Memory = stop.Memory

-- ---- answers
-- it is this value, or this refusal; of want of memory nothing is said
abbrev pub Gives : {A X : Type 0} → (X → A) → Result X Stop → Answer A → Type 0
Gives view (Ok x) answer = answer ≡ Ok (view x)
Gives view (Err stop.Usage) answer = ⊥
Gives view (Err (stop.Absent a)) answer = ⊥
Gives view (Err (stop.Refused r)) answer = answer ≡ Err (outcome.Stop.refused (refused_of r))
Gives view (Err (stop.Failed d)) answer = ⊥
Gives view (Err stop.Memory) answer = Unit {0}

-- over some texts it is this; where texts are told, over these
abbrev pub Comes : {A : Type 0} → Option Texts → (Texts → Answer A) → Answer A → Type 0
Comes told answer a = (texts : Texts) × IfSome told (λ f. f ≡ texts) × (answer texts ≡ a)

-- over some texts, or those that are told, it is this value, or there is none for this; or the vault failed; of want of
-- memory nothing is said
abbrev pub AnswersOver : {A X : Type 0} → Option Texts → (Texts → Answer A) → (X → A) → Result X Stop → Type 0
AnswersOver told answer view (Ok x) = Comes told answer (Ok (view x))
AnswersOver told answer view (Err stop.Usage) = ⊥
AnswersOver told answer view (Err (stop.Absent a)) = Comes told answer (Err (outcome.Stop.absent a))
AnswersOver told answer view (Err (stop.Refused r)) = Comes told answer (Err (outcome.Stop.refused (refused_of r)))
AnswersOver told answer view (Err (stop.Failed device.Vault)) = Unit {0}
AnswersOver told answer view (Err (stop.Failed device.Input)) = ⊥
AnswersOver told answer view (Err (stop.Failed device.Output)) = ⊥
AnswersOver told answer view (Err (stop.Failed device.Tape)) = ⊥
AnswersOver told answer view (Err stop.Memory) = Unit {0}

-- ---- which count rose
abbrev pub IsAbsent : {X : Type 0} → Result X Stop → Type 0
IsAbsent (Ok x) = ⊥
IsAbsent (Err stop.Usage) = ⊥
IsAbsent (Err (stop.Absent a)) = Unit {0}
IsAbsent (Err (stop.Refused r)) = ⊥
IsAbsent (Err (stop.Failed d)) = ⊥
IsAbsent (Err stop.Memory) = ⊥
