-- What the calls of a build answer.
use Rattle.std.specs.Prelude.{◌≡◌, ℕ, ◌+◌, List, [], ◌∷◌, map, length, slice_get, Option, Some, IfSome, option_map, Result, Ok, Err, Vec}
use Rattle.std.specs.Global.{Global}
use Rattle.qtt_base.specs.declared.place.GlobalId.{GlobalId}
use Rattle.qtt_base.specs.declared.place.ModuleId.{ModuleId}
use Rattle.qtt_syntax.specs.Tree.{Module}
use Rattle.qtt_syntax.specs.View.{module_of}
use Rattle.qtt_graph.specs.Graph.{Name}
use Rattle.qtt_term.specs.Term.{Term}
use Rattle.qtt_term.specs.Signature.{definition_at}
use Rattle.qtt_term.specs.Environment.{WellFormed}
use Rattle.qtt_term.specs.Entries.{env, entries}
use Rattle.qtt_load.specs.Reading.{Texts, read_in}
use Rattle.qtt_load.specs.Loading.{module_name}
use Rattle.qtt_load.specs.declared.errors.LoadError.{LoadError}
use Rattle.qtt_load.specs.declared.errors.LoadError.TheVariants as load
use Rattle.qtt_module.specs.declared.checked.Checked as checked
use Rattle.qtt_module.specs.declared.errors.ModuleError.{ModuleError}
use Rattle.qtt_module.specs.declared.errors.ModuleError.TheVariants as judging
use Rattle.qtt_module.specs.Refused.{refused_of, Answer}
use Rattle.qtt_module.specs.Text.{Accepted, judged_text}
use Rattle.qtt_module.specs.TextCalls.{accepted_of}
use Rattle.qtt_accepted.specs.Texts.{IsSpent}
use Rattle.qtt_build.specs.declared.building.Building.{Building}
use Rattle.qtt_build.specs.declared.built.Built as code
use Rattle.qtt_build.specs.declared.errors.BuildError.{BuildError}
use Rattle.qtt_build.specs.declared.errors.BuildError.TheVariants as error
use Rattle.qtt_build.specs.declared.worker.Job.{Job}
use Rattle.qtt_build.specs.Built.{Built, imports_for}
use Rattle.qtt_build.specs.Build.{Stop, Outcome, build}
use Rattle.qtt_build.specs.Judged.{DeclaresBuild, RefusesBuild}
use Rattle.qtt_build.specs.Laws.{FollowsClauses, BuildFailsSo}

-- ---- values of the code
abbrev pub accepted_list : Vec checked.Checked Global → List Accepted
accepted_list v = map accepted_of v.items

abbrev pub building_of : Building → Built
building_of b = record { globals = entries b.globals; order = map accepted_of b.order.items }

abbrev pub built_of : code.Built → Built
built_of b = record { globals = entries b.env; order = map accepted_of b.order.items }

abbrev pub places_of : List (Vec ℕ Global) → List (List ℕ)
places_of levels = map (λ level. level.items) levels

-- how many stand in all of them
abbrev pub total : {X : Type 0} → List (List X) → ℕ
total [] = 0
total (xs ∷ more) = length xs + total more

-- ---- the modules of a rank
-- a module under its number
pub record Task : Type 0 where
  pub id : ModuleId
  pub text : Module

abbrev pub task_of : Job → Task
task_of j = record { id = j.id; text = module_of j.text.now }

-- from this number on
abbrev pub tasks_from : ℕ → List Module → List Task
tasks_from k [] = []
tasks_from k (m ∷ ms) = record { id = record { 0 = k }; text = m } ∷ tasks_from (k + 1) ms

-- its judgement over what is built, where each question has n contractions
abbrev pub answer_to : ℕ → Built → Task → Answer Accepted
answer_to n B t = judged_text t.id n (module_name t.text) (imports_for B.order t.text) B.globals t.text

abbrev pub answers_to : ℕ → Built → List Task → List (Answer Accepted)
answers_to n B ts = map (answer_to n B) ts

-- ---- why nothing is built
abbrev pub of_load : LoadError → BuildError
of_load (load.Refused r) = error.Refused r
of_load (load.Absent a) = error.Absent a
of_load load.VaultFault = error.VaultFault
of_load load.Memory = error.Memory

abbrev pub of_module : ModuleError → BuildError
of_module (judging.Refused r) = error.Refused r
of_module judging.Memory = error.Memory

-- ---- the whole
-- of some texts the build of the named module is this; where the vault tells its texts, it is of these
abbrev pub Comes : Option Texts → Name → ℕ → Outcome Built → Type 0
Comes told root n outcome = (texts : Texts) × IfSome told (λ f. f ≡ texts) × (build (read_in texts) root n ≡ outcome)

-- the named module stands there
abbrev pub StandsAt : List Accepted → Name → ℕ → Type 0
StandsAt order root k = option_map (λ (A : Accepted). A.exports.name) (slice_get order k) ≡ Some root

-- the answer is this build, and the place of the named module, or why there is none; of want of memory and of a fault
-- of the vault nothing is said
abbrev pub IsBuild : Option Texts → Name → ℕ → Result code.Built BuildError → Type 0
IsBuild told root n (Ok b) = Comes told root n (Ok (built_of b)) × StandsAt (map accepted_of b.order.items) root b.root
IsBuild told root n (Err (error.Refused r)) = Comes told root n (Err (Stop.refused (refused_of r)))
IsBuild told root n (Err (error.Absent a)) = Comes told root n (Err (Stop.absent a))
IsBuild told root n (Err error.VaultFault) = Unit {0}
IsBuild told root n (Err error.Memory) = Unit {0}

-- the same, where it is known that the vault answered
abbrev pub IsJudged : Option Texts → Name → ℕ → Result code.Built ModuleError → Type 0
IsJudged told root n (Ok b) = IsBuild told root n (Ok b)
IsJudged told root n (Err e) = IsBuild told root n (Err (of_module e))

-- ---- in the relation
-- the modules declare what is built, in a well-formed environment, and each body of it is by clauses of one of them
pub record IsDerived (texts : Texts) (root : Name) (B : Built) : Type 0 where
  pub declares : DeclaresBuild (read_in texts) root B
  pub formed : WellFormed (env B.globals)
  pub clauses : (d : GlobalId) (body : Term) → (definition_at (env B.globals) d).body ≡ Some body →
      FollowsClauses declares.modules B d body

-- the reason why there is none; a premise that fails is false with convertible terms in place of contractions and
-- comparisons
pub record IsStopped (texts : Texts) (root : Name) (n : ℕ) (s : Stop) : Type 0 where
  pub refuses : RefusesBuild (read_in texts) root n s
  pub false_so : BuildFailsSo refuses

-- of some texts, or of those that the vault tells
abbrev pub Tells : Option Texts → (Texts → Type 0) → Type 0
Tells told P = (texts : Texts) × IfSome told (λ f. f ≡ texts) × P texts

abbrev pub IsMeant : Option Texts → Name → ℕ → Result code.Built BuildError → Type 0
IsMeant told root n (Ok b) = Tells told (λ texts. IsDerived texts root (built_of b))
IsMeant told root n (Err (error.Refused r)) =
    Tells told (λ texts. IsStopped texts root n (Stop.refused (refused_of r)))
IsMeant told root n (Err (error.Absent a)) = Tells told (λ texts. IsStopped texts root n (Stop.absent a))
IsMeant told root n (Err error.VaultFault) = Unit {0}
IsMeant told root n (Err error.Memory) = Unit {0}

-- over modules that declare B the answer is B, or the first question that takes more than the budget; of want of memory
-- and of a fault of the vault nothing is said
abbrev pub ComesTo : Built → Result code.Built BuildError → Type 0
ComesTo B (Ok b) = built_of b ≡ B
ComesTo B (Err (error.Refused r)) = IsSpent (refused_of r).kept.detail
ComesTo B (Err (error.Absent a)) = ⊥
ComesTo B (Err error.VaultFault) = Unit {0}
ComesTo B (Err error.Memory) = Unit {0}

abbrev pub IsComplete : Option Texts → Name → Result code.Built BuildError → Type 0
IsComplete told root result =
    IfSome told (λ texts. (B : Built) → DeclaresBuild (read_in texts) root B → ComesTo B result)

-- it is said that a module is not there
abbrev pub IsAbsent : {X : Type 0} → Result X BuildError → Type 0
IsAbsent (Ok x) = ⊥
IsAbsent (Err (error.Refused r)) = ⊥
IsAbsent (Err (error.Absent a)) = Unit {0}
IsAbsent (Err error.VaultFault) = ⊥
IsAbsent (Err error.Memory) = ⊥
