-- The judgement that a checker accepts by: the core judgement, in which dead terms use nothing.
-- A run that reaches a Trap is over, so the core judgement lets it use anything. Here this choice is made: a Trap
-- uses nothing, what is dead is not asked to use its binders, and a dead branch has no part in the join of a
-- Case. A derivation then tells all that is found without any choice, and a Sort has a level that a number of 32
-- bits can count up.
use Rattle.std.specs.Prelude.{◌≡◌, ℕ, ◌<◌, ◌^◌, ◌-◌, Bool, true, false, ◌&&◌, cond, List, [], ◌∷◌, length}
use Rattle.qtt_usage.specs.Uses.{Key, Use, zero_use, unit}
use Rattle.qtt_term.specs.Term.{Form, binders, first, rest, Term, Terms, var, node, ε, ◌▸◌, Lam, Trap}
use Rattle.qtt_term.specs.Signature.{Env}
use Rattle.qtt_term.specs.Contraction.{Conv}
use Rattle.qtt_term.specs.Judgement.{Ctx, InScope, mult_at, type_at, ext, Part, under, InRun, Usable, UseIs, Judged, BindersFit, total, Rule}

-- nothing is used by what is dead: a Trap, or a function whose body is dead
abbrev pub is_dead : Term → Bool
is_dead (Trap A) = true
is_dead (Lam q A b) = is_dead b
is_dead _ = false

-- the components that are no dead branches
abbrev pub live : Terms → List Judged → List Judged
live ε js = []
live (t ▸ ts) [] = []
live (t ▸ ts) (j ∷ js) = cond (j.branch && is_dead t) (live ts js) (j ∷ live ts js)

-- what a form uses of its own: a Tape itself, and all others nothing, a Trap too
abbrev pub own_of : Form → Use
own_of (Form.tape n) = unit (Key.h n)
own_of _ = zero_use

-- the Sort above a Sort has a level of 32 bits
abbrev pub IsSmall : Form → Type 0
IsSmall (Form.sort l) = l < 2 ^ 32 - 1
IsSmall _ = Unit {0}

mutual
  pub data Accepts (E : Env) : Part → Ctx → Term → Term → Use → Type 0 where
    variable : {p : Part} {Γ : Ctx} {i : ℕ} {u : Use} →
        InScope Γ i → Usable p (mult_at Γ i) → UseIs p Γ (unit (Key.v i)) u → Accepts E p Γ (var i) (type_at Γ i) u
    -- a rule of the core judgement, and the use of its form and of its live components
    by_rule : {p : Part} {Γ : Ctx} {F : Form} {ts : Terms} {u : Use} {js : List Judged} {R : Term} {own : Use} →
        Rule E p F ts js R own → IsSmall F → AcceptsAll E p Γ (binders F) ts js →
        UseIs p Γ (total (own_of F) (live ts js)) u →
        Accepts E p Γ (node F ts) R u
    conversion : {p : Part} {Γ : Ctx} {t A B : Term} {u : Use} → Accepts E p Γ t A u → Conv E A B → Accepts E p Γ t B u

  -- each component as the rule asks, in its part, under its binders, whose uses fit in the run part unless the
  -- component is dead
  pub data AcceptsAll (E : Env) : Part → Ctx → List ℕ → Terms → List Judged → Type 0 where
    none : {p : Part} {Γ : Ctx} {ns : List ℕ} → AcceptsAll E p Γ ns ε []
    more : {p : Part} {Γ : Ctx} {ns : List ℕ} {t : Term} {ts : Terms} {j : Judged} {js : List Judged} →
        first ns ≡ length j.binds →
        Accepts E (under p j.mult) (ext Γ j.binds) t j.type j.uses →
        InRun (under p j.mult) (is_dead t ≡ false → BindersFit j.binds j.uses) →
        AcceptsAll E p Γ (rest ns) ts js → AcceptsAll E p Γ ns (t ▸ ts) (j ∷ js)
