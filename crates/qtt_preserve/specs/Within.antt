-- The judgement with a bound on the use: a term has a type, and its use is at most this one. It is what proofs go
-- over, since a greater use may always be given, and conversion is part of each rule.
use Rattle.std.specs.Prelude.{◌≡◌, ℕ, List, [], ◌∷◌, length}
use Rattle.qtt_usage.specs.Uses.{Key, Use, unit}
use Rattle.qtt_term.specs.Term.{Form, binders, first, rest, Term, Terms, var, node, ε, ◌▸◌}
use Rattle.qtt_term.specs.Signature.{Env}
use Rattle.qtt_term.specs.Contraction.{Conv}
use Rattle.qtt_term.specs.Judgement.{Ctx, InScope, mult_at, type_at, ext, Part, under, InRun, Usable, AtMost, Judged, BindersFit, total, Rule}

mutual
  pub data Has (E : Env) : Part → Ctx → Term → Term → Use → Type 0 where
    at_var : {p : Part} {Γ : Ctx} {i : ℕ} {C : Term} {u : Use} →
        InScope Γ i → Usable p (mult_at Γ i) → Conv E (type_at Γ i) C → InRun p (AtMost Γ (unit (Key.v i)) u) →
        Has E p Γ (var i) C u
    at_node : {p : Part} {Γ : Ctx} {F : Form} {ts : Terms} {C : Term} {u : Use} {js : List Judged} {R : Term}
        {own : Use} →
        Rule E p F ts js R own → HasAll E p Γ (binders F) ts js → Conv E R C →
        InRun p (AtMost Γ (total own js) u) → Has E p Γ (node F ts) C u

  pub data HasAll (E : Env) : Part → Ctx → List ℕ → Terms → List Judged → Type 0 where
    none : {p : Part} {Γ : Ctx} {ns : List ℕ} → HasAll E p Γ ns ε []
    more : {p : Part} {Γ : Ctx} {ns : List ℕ} {t : Term} {ts : Terms} {j : Judged} {js : List Judged} →
        first ns ≡ length j.binds →
        Has E (under p j.mult) (ext Γ j.binds) t j.type j.uses → InRun (under p j.mult) (BindersFit j.binds j.uses) →
        HasAll E p Γ (rest ns) ts js → HasAll E p Γ ns (t ▸ ts) (j ∷ js)
