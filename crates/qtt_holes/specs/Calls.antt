-- What the parts of the call that walks ensure.
use Rattle.std.specs.Prelude.{◌≡◌, ℕ, Bool, true, List, [], ◌++◌, map, None, Result, MatchResult}
use Rattle.qtt_usage.specs.declared.mult.Mult.{Mult}
use Rattle.qtt_usage.specs.Usage.{usage_at}
use Rattle.qtt_term.specs.declared.rule.Rule.TheVariants as rule
use Rattle.qtt_term.specs.Term.{Term}
use Rattle.qtt_term.specs.View.{term}
use Rattle.qtt_term.specs.Signature.{Env}
use Rattle.qtt_term.specs.Contexts.{part}
use Rattle.qtt_term.specs.Judgement.{Ctx, Part, mult_at}
use Rattle.qtt_term.specs.Entries.{Entries, env}
use Rattle.qtt_term.specs.Scope.{Scope, depth}
use Rattle.qtt_rules.specs.declared.errors.ElabError.{ElabError}
use Rattle.qtt_rules.specs.Refusal.{Cause, at}
use Rattle.qtt_rules.specs.Asks.{Asks, need}
use Rattle.qtt_rules.specs.Report.{Report, uses_number}
use Rattle.qtt_bidi.specs.Answers.{Reaches, Refuses}
use Rattle.qtt_bidi.specs.Calls.{entries_of}
use Rattle.qtt_bidi.specs.Seen.{locals}
use Rattle.qtt_holes.specs.declared.hole.Hole as code_hole
use Rattle.qtt_holes.specs.declared.remains.Remains.{Remains}
use Rattle.qtt_holes.specs.declared.walker.Found.{Found}
use Rattle.qtt_holes.specs.declared.walker.Walker.{Walker}
use Rattle.qtt_holes.specs.Hole.{Seen, fits_before, all_left, left_at, in_sight}
use Rattle.qtt_holes.specs.View.{seen, hole}
use Rattle.qtt_holes.specs.Walk.{Walked, hole_of}

-- ---- names in sight, before it is told what is left of them, and then
abbrev pub untold : Seen → Seen
untold x = record { name = x.name; type = x.type; stands = x.stands; left = None }

abbrev pub told : List Mult → Seen → Seen
told us x = record { name = x.name; type = x.type; stands = x.stands; left = left_at us x.stands }

abbrev pub untold_sight : List (List ℕ) → List (Term × Term) → List Seen
untold_sight ns xs = map untold (in_sight [] ns xs)

-- what is left of the variables at a hole
abbrev pub all_remains : Remains → List Mult
all_remains r = r.left.now ++ all_left (part r.sigma) (locals r.scope.now).vars r.uses.now

-- ---- tests of uses
abbrev pub fitting_before : Part → (used declared : Mult) → Bool
fitting_before Part.erased u q = true
fitting_before Part.run u q = fits_before u q

-- a pattern variable fits where it was used at most once before the hole
abbrev pub tests_use : Ctx → List Mult → Report → Asks (Unit {0})
tests_use Γ us r = need (fits_before (usage_at us r.variable) (mult_at Γ r.variable))
    (Cause.wrong_usage r.name (mult_at Γ r.variable) (usage_at us r.variable)) (at r.place rule.Clauses uses_number)

-- ---- what a walk finds
-- the code holds this of it
pub record Stands (w : Walked) (f : Found) : Type 0 where
  pub name : f.name ≡ w.name
  pub span : f.span ≡ w.span
  pub goal : term f.goal ≡ w.goal
  pub depth : f.depth ≡ depth w.scope
  pub seen : map seen f.seen.items ≡ untold_sight w.names w.scope.names
  pub uses : f.uses ≡ w.uses
  pub left : f.left.items ≡ w.left

-- the way ends so within n contractions
pub record Ended (E : Env) (n : ℕ) (m : Asks Walked) (f : Found) : Type 0 where
  pub walked : Walked
  pub reaches : Reaches E n m walked
  pub stands : Stands walked f

abbrev pub Finds : Env → ℕ → Asks Walked → Result Found ElabError → Type 0
Finds E n m result = MatchResult result (λ f. Ended E n m f) (λ e. Refuses E n m e)

-- a call goes this way
abbrev pub Goes : {C : Type 0} → Walker C → (Entries → Part → Asks Walked) → Result Found ElabError → Type 0
Goes K m result =
    Finds (env (entries_of K.elaborator)) K.elaborator.budget (m (entries_of K.elaborator) (part K.sigma)) result

-- the hole that a walk from this scope found
abbrev pub IsHole : Part → Scope → Walked → code_hole.Hole → Type 0
IsHole p S w h = hole h ≡ hole_of p S w
