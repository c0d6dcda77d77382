-- What of an outcome is done: all of it, nothing, or a part, where a device fails or memory runs out.
use Rattle.std.specs.Prelude.{◌≡◌, ℕ, List, [], ◌++◌, take, Bool, true, false, option_map, Ok}
use Rattle.qtt_edge.specs.Sink.{Adds, AddsFront}
use Rattle.qtt_term.specs.FullRun.{Run, text_of}
use Rattle.qtt_words.specs.Asked.{Work, Asked}
use Rattle.qtt_run.specs.Front.{Failure, Outside, DidFront}
use Rattle.qtt_load.specs.Reading.{Texts}
use Rattle.qtt_build.specs.Built.{Built}
use Rattle.qtt_outcome.specs.Stop.{no_holes, Runnable, runnable}
use Rattle.qtt_outcome.specs.Outcome.{Outcome, root_of, built_for, run_of, counts, worked}
use Rattle.qtt_cli.specs.declared.device.Device.{Device}
use Rattle.qtt_cli.specs.declared.device.Device.TheVariants as device

pub record DoesNothing (s : Outside) : Type 0 where
  pub output : Adds s.output_before s.output []
  pub tapes : s.tapes ≡ s.tapes_before

pub record DoesAll (o : Outcome) (s : Outside) : Type 0 where
  pub output : Adds s.output_before s.output o.out
  pub tapes : s.tapes ≡ option_map (λ _. o.tapes) s.tapes_before

-- ---- parts
-- the command puts a text
abbrev pub prints : Work → Bool
prints (Work.check a) = true
prints (Work.core a) = true
prints (Work.code a) = true
prints (Work.run a) = false
prints (Work.gen n) = false

-- the command reads the vault; generated modules have one of their own
abbrev pub asks_vault : Work → Bool
asks_vault (Work.check a) = true
asks_vault (Work.core a) = true
asks_vault (Work.code a) = true
asks_vault (Work.run a) = true
asks_vault (Work.gen n) = false

-- a run of the main of what is built
pub record IsRunOf (texts : Texts) (input : List ℕ) (r : Asked) (R : Run) : Type 0 where
  pub built : Built
  pub is_built : built_for texts r ≡ Ok built
  pub no_hole : no_holes built ≡ Ok tt
  pub program : Runnable
  pub is_program : runnable r.budget (root_of r.work) built ≡ Ok program
  pub run : R ≡ run_of r.steps built program input

-- a put may fail so
abbrev pub IsOfPut : Failure → Type 0
IsOfPut Failure.source = ⊥
IsOfPut Failure.sink = Unit {0}
IsOfPut Failure.tape = ⊥
IsOfPut Failure.memory = Unit {0}

-- and then some bytes of these were put
pub record PutsFrontBehind (R : Run) (more : List ℕ) (s : Outside) : Type 0 where
  pub count : ℕ
  pub output : Adds s.output_before s.output (text_of R.last.events ++ take count more)
  pub tapes : s.tapes ≡ option_map (λ _. R.last.tapes) s.tapes_before

-- a front of what a request comes to, at whose end this failed
pub data Part (texts : Texts) (input : List ℕ) (r : Asked) (why : Failure) (s : Outside) : Type 0 where
  -- of the text of a command; tapes stay
  text : {o : Outcome} → prints r.work ≡ true → IsOfPut why → worked texts input r ≡ Ok o →
      AddsFront s.output_before s.output o.out → s.tapes ≡ s.tapes_before → Part texts input r why s
  -- of the events of a run
  run : {R : Run} → IsRunOf texts input r R → DidFront R.last.events why s → Part texts input r why s
  -- a whole run, and of the lines behind it
  behind : {R : Run} (n : ℕ) → r.work ≡ Work.gen n → IsOfPut why → (q : IsRunOf texts input r R) →
      PutsFrontBehind R (counts q.built R R.verdict) s → Part texts input r why s

-- what is done where this device fails; the vault fails only a command that reads it
abbrev pub Breaks : Texts → List ℕ → Asked → Device → Outside → Type 0
Breaks texts input r device.Vault s = (asks_vault r.work ≡ true) × DoesNothing s
Breaks texts input r device.Input s = Part texts input r Failure.source s
Breaks texts input r device.Output s = Part texts input r Failure.sink s
Breaks texts input r device.Tape s = Part texts input r Failure.tape s
