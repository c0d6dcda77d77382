-- What the code's divisions stand for, and what is stuck.
use Rattle.std.specs.Prelude.{ℕ, Bool, true, false, length}
use Rattle.qtt_rules.specs.Refusal.{Cause}
use Rattle.qtt_term.specs.Judgement.{Ctx}
use Rattle.qtt_term.specs.View.{term}
use Rattle.qtt_term.specs.Entries.{entries, env}
use Rattle.qtt_term.specs.Signature.{Constructor, con_sig, family_at}
use Rattle.qtt_unify.specs.View.{all_terms}
use Rattle.qtt_unify.specs.Equations.{Verdict, constructor_verdict}
use Rattle.qtt_rules.specs.Asks.{Asks}
use Rattle.qtt_split.specs.declared.planner.Planner.{Planner}
use Rattle.qtt_split.specs.declared.division.Division as code
use Rattle.qtt_split.specs.declared.division.FamilyAt as code_family
use Rattle.qtt_split.specs.declared.verdicts.Stuck.{Stuck}
use Rattle.qtt_split.specs.Split.{Division, FamilyAt, results_of}
use Rattle.qtt_split.specs.Tests.{Test, at}

abbrev pub family_seen : code_family.FamilyAt → FamilyAt
family_seen F = record { family = F.family; params = all_terms F.params.items; indices = all_terms F.indices.items }

-- in a node of this context
abbrev pub division_of : Ctx → code.Division → Division
division_of Γ D = record {
  span = D.span;
  mult = D.mult;
  family = D.family;
  over = record {
    context = Γ;
    variable = D.variable;
    params = all_terms D.params.items;
    indices = all_terms D.indices.items;
    targets = all_terms D.targets.items;
  };
}

abbrev pub stuck_cause : Stuck → Cause
stuck_cause s = Cause.pattern_stuck s.depth (term s.left.now) (term s.right.now)

abbrev pub stuck_at_once : Verdict → Bool
stuck_at_once (Verdict.stuck n u t) = true
stuck_at_once _ = false

-- the question for one constructor of a split, by its number
abbrev pub verdict_asked : {C : Type 0} → Planner C → Division → ℕ → Constructor → Asks Verdict
verdict_asked K D c d =
    let E = env (entries K.unifier.globals.now) in
    let sig = con_sig D.family (length (family_at E D.family).params) c d in
    constructor_verdict E (at D.span Test.equations) D.over (length d.fields) (results_of D.over.params sig)
