-- Patterns whose names stand for constructors, and environments in which a constructor's id stands for the same one.
use Rattle.std.specs.Prelude.{◌≡◌, List, [], ◌∷◌, Some}
use Rattle.qtt_base.specs.declared.place.GlobalId.{GlobalId}
use Rattle.qtt_syntax.specs.Tree.{Shape, Shapes, shapes}
use Rattle.qtt_syntax.specs.Tree.Shape.{variable, wildcard, constructor, dot}
use Rattle.qtt_syntax.specs.Tree.Shapes.{no_shape, shape_and}
use Rattle.qtt_term.specs.declared.term.ConId.{ConId}
use Rattle.qtt_term.specs.Signature.{There}
use Rattle.qtt_term.specs.Items.{constructor_of}
use Rattle.qtt_term.specs.Ask.{Ending, Ends}
use Rattle.qtt_term.specs.Entries.{Entries, env}
use Rattle.qtt_match.specs.Constructors.{named_constructor}
use Rattle.qtt_preserve.specs.Grows.{Grows, FamiliesStay}
use Rattle.qtt_split.specs.Node.{Clause}
use Rattle.qtt_split.specs.Plan.{Planned}
use Rattle.qtt_split.specs.Group.{Defined, tree_of}
use Rattle.qtt_clause_laws.specs.Larger.{Larger}

-- each name in a pattern stands for a constructor
abbrev mutual
  pub IsNamed : Entries → Shape → Type 0
  IsNamed K (variable m n s) = Unit {0}
  IsNamed K (wildcard m s) = Unit {0}
  IsNamed K (dot m e s) = Unit {0}
  IsNamed K (constructor m h ps s) = There (named_constructor K.families h.target) × AllNamed K ps

  pub AllNamed : Entries → Shapes → Type 0
  AllNamed K no_shape = Unit {0}
  AllNamed K (shape_and p ps) = IsNamed K p × AllNamed K ps

abbrev pub ClausesNamed : Entries → List Clause → Type 0
ClausesNamed K [] = Unit {0}
ClausesNamed K (c ∷ cs) = AllNamed K (shapes c.patterns) × ClausesNamed K cs

-- each clause of an accepted tree has a leaf, so its patterns name constructors
abbrev pub ReachedAreNamed : Type 0
ReachedAreNamed = (D : Defined) (P : Planned) → Ends (env D.group.globals) (tree_of D) (Ending.ok P) →
    ClausesNamed D.group.globals D.group.clauses

-- the id of a constructor stands for the same one
abbrev pub ConstructorsStay : Entries → Entries → Type 0
ConstructorsStay K L = (g : GlobalId) (c : ConId) → constructor_of K.families g ≡ Some c →
    constructor_of L.families g ≡ Some c

-- so an environment in which all stays is larger, for such clauses
abbrev pub NamedStay : Type 0
NamedStay = (K L : Entries) (cs : List Clause) → ClausesNamed K cs → Grows (env K) (env L) →
    FamiliesStay (env K) (env L) → ConstructorsStay K L → Larger K L cs
