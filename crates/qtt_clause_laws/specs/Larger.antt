-- A group in a larger environment than the one in which it was accepted: items may be added, and bodies set.
use Rattle.std.specs.Prelude.{◌≡◌, List, [], ◌∷◌, None}
use Rattle.qtt_base.specs.declared.place.GlobalId.{GlobalId}
use Rattle.qtt_syntax.specs.Tree.{Shape, Shapes}
use Rattle.qtt_syntax.specs.Tree.Shape.{variable, wildcard, constructor, dot}
use Rattle.qtt_syntax.specs.Tree.Shapes.{no_shape, shape_and}
use Rattle.qtt_term.specs.Term.{Term}
use Rattle.qtt_term.specs.Signature.{definition_at}
use Rattle.qtt_term.specs.Keyed.{with_id}
use Rattle.qtt_term.specs.Items.{FamilyEntry, DefinitionEntry, family_id, definition_id}
use Rattle.qtt_term.specs.Entries.{Entries, env, with_family, with_definition, with_body}
use Rattle.qtt_preserve.specs.Grows.{Grows, FamiliesStay}
use Rattle.qtt_match.specs.Constructors.{named_constructor}
use Rattle.qtt_split.specs.Node.{Clause}

-- each name in a pattern stands for the same constructor in both environments, or for none in both
abbrev mutual
  pub NamedAlike : Entries → Entries → Shape → Type 0
  NamedAlike K L (variable m n s) = Unit {0}
  NamedAlike K L (wildcard m s) = Unit {0}
  NamedAlike K L (dot m e s) = Unit {0}
  NamedAlike K L (constructor m h ps s) =
      (named_constructor K.families h.target ≡ named_constructor L.families h.target) × AllNamedAlike K L ps

  pub AllNamedAlike : Entries → Entries → Shapes → Type 0
  AllNamedAlike K L no_shape = Unit {0}
  AllNamedAlike K L (shape_and p ps) = NamedAlike K L p × AllNamedAlike K L ps

abbrev pub PatternsAlike : Entries → Entries → List Shape → Type 0
PatternsAlike K L [] = Unit {0}
PatternsAlike K L (p ∷ ps) = NamedAlike K L p × PatternsAlike K L ps

abbrev pub ClausesAlike : Entries → Entries → List Clause → Type 0
ClausesAlike K L [] = Unit {0}
ClausesAlike K L (c ∷ cs) = PatternsAlike K L c.patterns × ClausesAlike K L cs

-- what is in K stays so in L, and the patterns of these clauses mean the same
pub record Larger (K L : Entries) (cs : List Clause) : Type 0 where
  pub grows : Grows (env K) (env L)
  pub stays : FamiliesStay (env K) (env L)
  pub names : ClausesAlike K L cs

-- what may be added: a body to a definition that has none, and definitions and families with ids of their own, no
-- constructor of which is named in a pattern
pub record EnvironmentsAreLarger : Type 0 where
  pub itself : (K : Entries) (cs : List Clause) → Larger K K cs
  pub thence : (K L M : Entries) (cs : List Clause) → Larger K L cs → Larger L M cs → Larger K M cs
  pub body_added : (K : Entries) (d : GlobalId) (b : Term) (cs : List Clause) →
      (definition_at (env K) d).body ≡ None → Larger K (with_body d b K) cs
  pub definition_added : (K : Entries) (D : DefinitionEntry) (cs : List Clause) →
      with_id definition_id D.id K.definitions ≡ None → Larger K (with_definition D K) cs
  pub family_added : (K : Entries) (F : FamilyEntry) (cs : List Clause) →
      with_id family_id F.id K.families ≡ None → ClausesAlike K (with_family F K) cs → Larger K (with_family F K) cs
