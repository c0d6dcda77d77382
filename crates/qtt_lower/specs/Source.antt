-- Which erased terms are lowered: no variable is free in them, no tape stands in them, each function has one
-- body, and what has a value of its own has no components. Erasure gives such terms.
use Rattle.std.specs.Prelude.{◌≡◌, List, [], ◌∷◌, Some, None}
use Rattle.qtt_base.specs.declared.place.GlobalId.{GlobalId}
use Rattle.qtt_term.specs.Term.{Form, Term, Terms, var, node, ε, ◌▸◌}
use Rattle.qtt_term.specs.Signature.{Env, definition_at}
use Rattle.qtt_term.specs.Judgement.{Part, Usable}
use Rattle.qtt_erase.specs.Binding.{Tree, ∅, ◌◂◌, Below}
use Rattle.qtt_erase.specs.Operator.{Operator}
use Rattle.qtt_erase.specs.Lean.{Abstraction, Lean, Leans, binders}
use Rattle.qtt_erase.specs.Erasure.{Fate, fates}
use Rattle.qtt_closure.specs.StandsFor.{Formed}
use Rattle.qtt_lower.specs.Lowerable.{IsNone}

abbrev pub IsPlainOperator : Operator Abstraction → Leans → Type 0
IsPlainOperator (Operator.def d) ts = IsNone ts
IsPlainOperator (Operator.lit l) ts = IsNone ts
IsPlainOperator Operator.trap ts = IsNone ts
IsPlainOperator Operator.ty ts = IsNone ts
IsPlainOperator (Operator.tape n) ts = ⊥
IsPlainOperator _ ts = Unit {0}

abbrev mutual
  pub IsPlain : Lean → Type 0
  IsPlain (Tree.var i) = Unit {0}
  IsPlain (Tree.node F ts) = IsPlainOperator F ts × ArePlain ts

  pub ArePlain : Leans → Type 0
  ArePlain ∅ = Unit {0}
  ArePlain (t ◂ ts) = IsPlain t × ArePlain ts

pub record IsSource (t : Lean) : Type 0 where
  pub closed : Below binders 0 t
  pub formed : Formed t
  pub plain : IsPlain t

-- ---- core terms: outside the parts that go each function has a body, and no tape stands
abbrev pub HasBody : Terms → Type 0
HasBody ε = ⊥
HasBody (A ▸ ε) = ⊥
HasBody (A ▸ b ▸ ts) = Unit {0}

abbrev pub IsWholeForm : Form → Terms → Type 0
IsWholeForm (Form.lam q) ts = HasBody ts
IsWholeForm (Form.tape n) ts = ⊥
IsWholeForm _ ts = Unit {0}

abbrev mutual
  pub IsWhole : Env → Term → Type 0
  IsWhole E (var i) = Unit {0}
  IsWhole E (node F ts) = IsWholeForm F ts × AreWhole E (fates E F) ts

  pub AreWhole : Env → List Fate → Terms → Type 0
  AreWhole E fs ε = Unit {0}
  AreWhole E [] (t ▸ ts) = Unit {0}
  AreWhole E (None ∷ fs) (t ▸ ts) = AreWhole E fs ts
  AreWhole E (Some ss ∷ fs) (t ▸ ts) = IsWhole E t × AreWhole E fs ts

-- the bodies of the definitions that are not 0 are so
abbrev pub HasWholeBodies : Env → Type 0
HasWholeBodies E = (d : GlobalId) (b : Term) → Usable Part.run (definition_at E d).mult →
    (definition_at E d).body ≡ Some b → IsWhole E b
