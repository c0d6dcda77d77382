-- What carrying out a request comes to, and what the whole work does.
use Rattle.std.specs.Prelude.{◌≡◌, ◌≤◌, ℕ, Bool, true, List, ◌⊎◌, Option, Some, None, Result, Ok, Err, String}
use Rattle.std.specs.declared.alloc.Global.{Global}
use Rattle.qtt_words.specs.Asked.{Work, Asked, asked}
use Rattle.qtt_run.specs.Front.{Failure, Outside}
use Rattle.qtt_load.specs.Reading.{Texts}
use Rattle.qtt_outcome.specs.Headline.{came}
use Rattle.qtt_cli.specs.declared.device.Device.{Device}
use Rattle.qtt_cli.specs.declared.stop.Stop.{Stop}
use Rattle.qtt_cli.specs.declared.stop.Stop.TheVariants as stop
use Rattle.qtt_cli.specs.declared.verdict.Verdict.{Verdict}
use Rattle.qtt_cli.specs.Seen.{Seen, one_of, Over}
use Rattle.qtt_cli.specs.Parts.{DoesNothing, DoesAll, Part, prints, Breaks}
use Rattle.qtt_cli.specs.Told.{status_of, line_of}

-- over some texts and input the request comes to this, and all of that is done
pub record ComesTo (s : Seen) (r : Asked) (went : Result Verdict Stop) : Type 0 where
  pub over : Over s
  pub status : (came over.texts over.input r).status ≡ status_of went
  pub told : (came over.texts over.input r).err ≡ line_of went
  pub done : DoesAll (came over.texts over.input r) s.outside

-- a part of it is done
pub record ComesToPart (s : Seen) (r : Asked) (why : Failure) : Type 0 where
  pub over : Over s
  pub part : Part over.texts over.input r why s.outside

pub record Broke (s : Seen) (r : Asked) (d : Device) : Type 0 where
  pub failed : s.failed d
  pub over : Over s
  pub done : Breaks over.texts over.input r d s.outside

-- it is about generated modules
pub record Generates (r : Asked) : Type 0 where
  pub number : ℕ
  pub is : r.work ≡ Work.gen number
  pub positive : 1 ≤ number
  pub bounded : number ≤ 200

abbrev pub Carries : Seen → Asked → Result Verdict Stop → Type 0
Carries s r (Ok v) = ComesTo s r (Ok v)
Carries s r (Err stop.Usage) = ⊥
Carries s r (Err (stop.Absent a)) = ComesTo s r (Err (stop.Absent a)) × (s.missed ⊎ Generates r)
Carries s r (Err (stop.Refused x)) = ComesTo s r (Err (stop.Refused x))
Carries s r (Err (stop.Failed d)) = Broke s r d
Carries s r (Err stop.Memory) = DoesNothing s.outside ⊎ ComesToPart s r Failure.memory

-- carrying out a request about generated modules, over whatever texts: no vault is asked
abbrev pub RunsGenerated : Asked → Option (List ℕ) → Outside → Result Verdict Stop → Type 0
RunsGenerated r input o went = (texts : Texts) → Carries (record {
  texts = Some texts;
  input = input;
  outside = o;
  failed = one_of ⊥ (Unit {0}) (Unit {0}) (Unit {0});
  missed = ⊥;
}) r went

-- what the words ask for runs nothing
abbrev pub leaves_input : Option Asked → Bool
leaves_input None = true
leaves_input (Some r) = prints r.work

-- the work of these words
pub data Works (words : List (String Global)) (s : Seen) : Result Verdict Stop → Type 0 where
  usage : asked words ≡ None → DoesNothing s.outside → Works words s (Err stop.Usage)
  memory : DoesNothing s.outside → Works words s (Err stop.Memory)
  carried : {r : Asked} {went : Result Verdict Stop} → asked words ≡ Some r → Carries s r went → Works words s went
