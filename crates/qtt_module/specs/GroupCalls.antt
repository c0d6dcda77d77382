-- What the calls that judge a group of clauses ensure.
use Rattle.std.specs.Prelude.{◌≡◌, ℕ, List, [], ◌∷◌, ◌++◌, length, map, Option, Some, None, reverse, Result, MatchResult}
use Rattle.std.specs.Borrow.{Bor}
use Rattle.qtt_base.specs.declared.place.Span.{Span}
use Rattle.qtt_usage.specs.declared.mult.Mult.{Mult}
use Rattle.qtt_usage.specs.Mult.{fits}
use Rattle.qtt_usage.specs.Usage.{usage_at}
use Rattle.qtt_syntax.specs.Tree.{Tree}
use Rattle.qtt_syntax.specs.View.{tree_of}
use Rattle.qtt_term.specs.declared.term.Term as code_term
use Rattle.qtt_term.specs.declared.rule.Rule.TheVariants as rule
use Rattle.qtt_term.specs.Term.{Term, Terms, ◌▸◌}
use Rattle.qtt_term.specs.Signature.{Env}
use Rattle.qtt_term.specs.Contexts.{part}
use Rattle.qtt_term.specs.Judgement.{Ctx, Part, mult_at}
use Rattle.qtt_term.specs.Ask.{◌>>=◌}
use Rattle.qtt_term.specs.Ask as ask
use Rattle.qtt_term.specs.Entries.{Entries, env}
use Rattle.qtt_term.specs.Scope.{name_of}
use Rattle.qtt_term.specs.View.{term}
use Rattle.qtt_core_check.specs.declared.refusal.CoreRefusal.{CoreRefusal}
use Rattle.qtt_core_check.specs.declared.refusal.CoreRefusal.TheVariants as core_refusal
use Rattle.qtt_rules.specs.declared.detail.Detail.TheVariants as detail
use Rattle.qtt_rules.specs.declared.errors.ElabError.{ElabError}
use Rattle.qtt_rules.specs.declared.errors.ElabError.TheVariants as error
use Rattle.qtt_rules.specs.Refusal.{Cause}
use Rattle.qtt_rules.specs.Refusal as refusal
use Rattle.qtt_rules.specs.Asks.{Asks, need, alike}
use Rattle.qtt_rules.specs.Judged.{Mode}
use Rattle.qtt_rules.specs.Report.{Report, uses_number, uses_pass}
use Rattle.qtt_bidi.specs.Answers.{Reaches, Refuses, Told}
use Rattle.qtt_bidi.specs.Calls as elaborator
use Rattle.qtt_bidi.specs.Elaboration.{judge}
use Rattle.qtt_split.specs.declared.tree.Leaf as code_leaf
use Rattle.qtt_split.specs.Group.{Defined, scope_at, Numbered, or_body_refused}
use Rattle.qtt_split.specs.Node.{Clause}
use Rattle.qtt_split.specs.Planned.{group_with}
use Rattle.qtt_split.specs.Tests.{Test, number_of, at}
use Rattle.qtt_split.specs.Tree.{Leaf}
use Rattle.qtt_split.specs.View.{leaf_of}
use Rattle.qtt_holes.specs.Hole.{Hole}
use Rattle.qtt_holes.specs.View.{hole}
use Rattle.qtt_holes.specs.Walk.{walk}
use Rattle.qtt_module.specs.declared.groups.Given as code_given
use Rattle.qtt_module.specs.declared.groups.Given.TheVariants as given
use Rattle.qtt_module.specs.declared.groups.Group.{Group}
use Rattle.qtt_module.specs.declared.pattern_parts.Dot.{Dot}
use Rattle.qtt_module.specs.declared.sides.RightSide.{RightSide}
use Rattle.qtt_module.specs.declared.sides.Side as code_side
use Rattle.qtt_module.specs.declared.sides.Side.TheVariants as side
use Rattle.qtt_module.specs.declared.sides.Sides.{Sides}
use Rattle.qtt_module.specs.Sides.{names_of, Side, holes_from, cores, Given}

-- ---- values
abbrev pub globals_of : {C : Type 0} → Group C → Entries
globals_of K = elaborator.entries_of K.elaborator

abbrev pub defined_of : {C : Type 0} → Group C → Defined
defined_of K = record {
  group = group_with (globals_of K) (part K.sigma) K.clauses.now;
  name = K.name.now;
  type = term K.ty.now;
  labels = map name_of K.labels.now;
  may_miss = K.may_miss;
}

abbrev pub leaf_at : Bor code_leaf.Leaf → Leaf
leaf_at l = leaf_of l.now

abbrev pub dot_of : Dot → Tree × Span
dot_of d = (tree_of d.value.now, d.span)

abbrev pub column_of : code_term.Term × code_term.Term → Term × Term
column_of c = (term c.0, term c.1)

abbrev pub right_side : RightSide → ℕ × Term
right_side s = (s.leaf, term s.core)

abbrev pub side_of : code_side.Side → Side
side_of (side.Core t) = Side.core (term t)
side_of (side.Hole h) = Side.hole (hole h)

abbrev pub given_of : code_given.Given → Given
given_of (given.Body t) = Given.body (term t)
given_of (given.Holes hs) = Given.holes (map hole hs.items)

-- ---- answers
-- a call answers as this list of questions ends within the group's budget
abbrev pub Answers : {C X A : Type 0} → Group C → Asks A → (X → A) → Result X ElabError → Type 0
Answers K m view result = elaborator.Answers K.elaborator m view result

-- ---- a clause at a leaf, part by part
-- what was found for a dot pattern at s is the term of its column
abbrev pub same_asks : Leaf → (found expected : Term) → Span → Asks (Unit {0})
same_asks l t u s = do
  same ← alike (at s Test.dots) (length l.context) t u
  need same (Cause.dot_mismatch (length l.context) u t) (at s Test.dots)

abbrev pub use_asks : Ctx → List Mult → Report → Asks (Unit {0})
use_asks Γ us r = need (fits (usage_at us r.variable) (mult_at Γ r.variable))
    (Cause.wrong_usage r.name (mult_at Γ r.variable) (usage_at us r.variable))
    (refusal.at r.place rule.Clauses uses_number)

-- behind the dots
abbrev pub core_asks : Entries → Part → Clause → Leaf → Asks Term
core_asks G p c l = do
  e ← judge G p (scope_at l) (Mode.check l.goal) c.side
  u ← uses_pass fits p l.context e.uses l.reported
  ask.Ask.done e.core

abbrev pub hole_asks : Entries → Part → Clause → Leaf → Asks Hole
hole_asks G p c l = walk G p (scope_at l) (reverse (names_of c.patterns)) l.reported c.side l.goal

-- ---- what was collected: cores of right sides, and holes
pub record Collected : Type 0 where
  pub cores : Numbered Term
  pub holes : List Hole

abbrev pub collected : Sides → Collected
collected s = record { cores = map right_side s.cores.items; holes = map hole s.holes.items }

abbrev pub none_collected : Collected
none_collected = record { cores = []; holes = [] }

abbrev pub with_sides : Collected → Numbered Side → Collected
with_sides T xs = record { cores = T.cores ++ cores xs; holes = holes_from T.holes xs }

-- the list ends with sides, which are collected behind others
pub record Gathered (E : Env) (n : ℕ) (m : Asks (Numbered Side)) (before after : Collected) : Type 0 where
  pub sides : Numbered Side
  pub reaches : Reaches E n m sides
  pub are : after ≡ with_sides before sides

abbrev pub Gathers : {C : Type 0} → Group C → Asks (Numbered Side) → Collected → Result Sides ElabError → Type 0
Gathers K m before result =
    MatchResult result
    (λ more. Gathered (env (globals_of K)) K.elaborator.budget m before (collected more))
    (λ e. Refuses (env (globals_of K)) K.elaborator.budget m e)

-- one side more
abbrev pub IsWith : Sides → ℕ → code_side.Side → Sides → Type 0
IsWith s k x more = collected more ≡ with_sides (collected s) ((k, side_of x) ∷ [])

-- ---- the body
abbrev pub or_before : Option (Bor code_term.Term) → Terms → Terms
or_before None ts = ts
or_before (Some t) ts = term t.now ▸ ts

-- what is told where the body is not accepted
abbrev pub BodyTold : Defined → ℕ → CoreRefusal → ElabError → Type 0
BodyTold D n (core_refusal.Fails r k) e =
    Told (Cause.core_refused D.name) (refusal.at D.group.first r k) e
BodyTold D n (core_refusal.Spent q) e =
    e ≡ error.Refused (detail.BudgetSpent n q) D.group.first rule.Clauses (number_of Test.body)
BodyTold D n core_refusal.Memory e = e ≡ error.Memory

-- the type of the body, compared with the definition's
abbrev pub typed_asks : Defined → Term → Asks (Unit {0})
typed_asks D A = alike (at D.group.first Test.body) 0 A D.type >>= or_body_refused D
