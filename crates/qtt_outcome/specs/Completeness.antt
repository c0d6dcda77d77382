-- Completeness: over what the modules of a request declare by the rules the request goes on, unless a question takes
-- more than the budget.
use Rattle.std.specs.Prelude.{◌≡◌, ◌⊎◌, ℕ, true, List, All, Some, None}
use Rattle.qtt_base.specs.declared.place.GlobalId.{GlobalId}
use Rattle.qtt_graph.specs.Graph.{Name}
use Rattle.qtt_lower.specs.Compiled.{excess_of}
use Rattle.qtt_words.specs.Asked.{Asked}
use Rattle.qtt_load.specs.Reading.{Texts}
use Rattle.qtt_module.specs.Text.{Accepted}
use Rattle.qtt_module.specs.ModuleRules.{IsMain}
use Rattle.qtt_build.specs.Built.{Built}
use Rattle.qtt_build.specs.Build as builds
use Rattle.qtt_build.specs.Laws.{HasNoHoles, StoppedByBudget}
use Rattle.qtt_outcome.specs.Stop.{module_named, program_of}
use Rattle.qtt_outcome.specs.Outcome.{Outcome, root_of, put, worked}
use Rattle.qtt_outcome.specs.Headline.{came, Declares, IsGoing, IsRefused, wants_no_hole, wants_main}

-- the named module has a main of the type of a main
pub record HasMain (B : Built) (root : Name) : Type 0 where
  pub accepted : Accepted
  pub named : module_named B root ≡ Some accepted
  pub main : GlobalId
  pub is_main : IsMain B.globals accepted.checked.main main

-- what is listed as code or run has no hole, a main, and code within its limits
pub record IsReady (r : Asked) (B : Built) : Type 0 where
  pub no_hole : wants_no_hole r.work ≡ true → All HasNoHoles B.order
  pub main : wants_main r.work ≡ true → HasMain B (root_of r.work)
  pub within : wants_main r.work ≡ true → excess_of (program_of B.globals) ≡ None

-- the request comes to what is put over this
pub record GoesOn (texts : Texts) (input : List ℕ) (r : Asked) (B : Built) : Type 0 where
  pub going : IsGoing (came texts input r).status
  pub comes : worked texts input r ≡ put input r B r.work

-- it is refused for the first question that takes more than the budget
pub record IsOverBudget (texts : Texts) (r : Asked) (o : Outcome) : Type 0 where
  pub refused : IsRefused texts r o
  pub spent : StoppedByBudget (builds.Stop.refused refused.refusal)

-- what has derivations goes on
abbrev pub DerivedGoesOn : Type 0
DerivedGoesOn = (texts : Texts) (input : List ℕ) (r : Asked) (B : Built) → Declares texts r B → IsReady r B →
    GoesOn texts input r B ⊎ IsOverBudget texts r (came texts input r)
