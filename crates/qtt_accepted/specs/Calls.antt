-- What the judgement of a text promises by the rules.
use Rattle.std.specs.Prelude.{◌≡◌, ℕ, List, [], IfOk, Result, Ok, Err}
use Rattle.qtt_base.specs.declared.place.ModuleId.{ModuleId}
use Rattle.qtt_syntax.specs.Tree.{Module}
use Rattle.qtt_names.specs.Exports.{Exports}
use Rattle.qtt_term.specs.Environment.{WellFormed, Complete}
use Rattle.qtt_term.specs.Entries.{Entries, env}
use Rattle.qtt_module.specs.declared.checked.Checked.{Checked}
use Rattle.qtt_module.specs.declared.errors.ModuleError.{ModuleError}
use Rattle.qtt_module.specs.declared.errors.ModuleError.TheVariants as error
use Rattle.qtt_module.specs.Answer.{WhereRefused}
use Rattle.qtt_module.specs.Declarations.{declarations}
use Rattle.qtt_module.specs.Refused.{refused_of}
use Rattle.qtt_module.specs.Text.{Accepted, home_of, items_in}
use Rattle.qtt_module.specs.TextCalls.{accepted_of, DeclaresText, RefusesText}
use Rattle.qtt_accepted.specs.Stages.{FreshFrom, Marked}
use Rattle.qtt_accepted.specs.Texts.{adopted, IsSpent}
use Rattle.qtt_accepted.specs.Refusals.{IsFalseSo}

-- a text is judged over a well-formed environment, under ids that are new there, and its signatures are marked 0 or not
-- at all
pub record IsOver (id : ModuleId) (m : Module) (G : Entries) : Type 0 where
  pub formed : WellFormed (env G)
  pub fresh : FreshFrom (home_of id m) 0 G
  pub marked : Marked (declarations (items_in m))

-- with its part the environment is well formed, and complete where it was so before and the text has no hole
pub record KeepsForm (G : Entries) (A : Accepted) : Type 0 where
  pub formed : WellFormed (env (adopted G A.checked.part))
  pub complete : Complete (env G) → A.checked.holes ≡ [] → Complete (env (adopted G A.checked.part))

-- the answer is what is declared, or the first question that takes more than the budget; of want of memory nothing is
-- said
abbrev pub ComesTo : Accepted → Result Checked ModuleError → Type 0
ComesTo A (Ok c) = accepted_of c ≡ A
ComesTo A (Err (error.Refused r)) = IsSpent (refused_of r).kept.detail
ComesTo A (Err error.Memory) = Unit {0}

pub record Promises (id : ModuleId) (n : ℕ) (asked : List ℕ) (imports : List Exports) (G : Entries) (m : Module)
    (result : Result Checked ModuleError) : Type 0 where
  pub keeps : IfOk result (λ c. KeepsForm G (accepted_of c))
  pub complete : (A : Accepted) → DeclaresText id asked imports G m A → ComesTo A result
  pub false_so : WhereRefused result (λ r. (x : RefusesText id n asked imports G m r) → IsFalseSo x)
