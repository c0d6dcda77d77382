-- Literals in the range of 64 bits. Numbers of the definitions have no bound of their own; those of the code have
-- this one, and primitives keep it, so that a number and what the machine holds for it are the same at every
-- moment.
use Rattle.std.specs.Prelude.{◌≡◌, Some, FitsSigned}
use Rattle.std.specs.Int.{w64}
use Rattle.qtt_base.specs.declared.place.GlobalId.{GlobalId}
use Rattle.qtt_prims.specs.declared.lit.Lit.{Lit}
use Rattle.qtt_prims.specs.declared.lit.Lit.TheVariants as literal
use Rattle.qtt_term.specs.Term.{Named, Form, Term, Terms, var, node, ε, ◌▸◌}
use Rattle.qtt_term.specs.Signature.{Env, definition_at}
use Rattle.qtt_term.specs.Contraction.{Step}

abbrev pub InRange : Lit → Type 0
InRange (literal.Int z) = FitsSigned w64 z
InRange (literal.Text s) = Unit {0}

abbrev pub FormInRange : Form → Type 0
FormInRange (Form.named (Named.lit l)) = InRange l
FormInRange F = Unit {0}

-- every literal in a term
abbrev mutual
  pub LiteralsInRange : Term → Type 0
  LiteralsInRange (var i) = Unit {0}
  LiteralsInRange (node F ts) = FormInRange F × AllInRange ts

  pub AllInRange : Terms → Type 0
  AllInRange ε = Unit {0}
  AllInRange (t ▸ ts) = LiteralsInRange t × AllInRange ts

abbrev pub BodiesInRange : Env → Type 0
BodiesInRange E = (d : GlobalId) (b : Term) → (definition_at E d).body ≡ Some b → LiteralsInRange b

-- a contraction anywhere brings in no literal out of range
abbrev pub StepsKeepRange : Type 0
StepsKeepRange = (E : Env) → BodiesInRange E → (t s : Term) → Step E t s → LiteralsInRange t → LiteralsInRange s
