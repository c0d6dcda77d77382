-- In shape: each id in a term names a family, a constructor or a definition of the environment, as its form asks,
-- and each list has its table's length.
use Rattle.std.specs.Prelude.{◌≡◌, ◌⊎◌, ℕ, suc, ◌+◌, List, length, Option, Some, None, Bool, true, false, ◌&&◌, eqb, IsTrue, slice_get}
use Rattle.std.specs.List.{list_all}
use Rattle.qtt_base.specs.declared.place.GlobalId.{GlobalId}
use Rattle.qtt_usage.specs.declared.mult.Mult.{Mult}
use Rattle.qtt_term.specs.declared.context.Ctx as code_ctx
use Rattle.qtt_term.specs.Term.{Form, Term, Terms, node, skip}
use Rattle.qtt_term.specs.Substitution.{ren, sub}
use Rattle.qtt_term.specs.Each.{Each, EachIn, each, each_in}
use Rattle.qtt_term.specs.Signature.{Tele, Constructor, Family, Definition, Env, There, signature, family_at, fam_at}
use Rattle.qtt_term.specs.Contraction.{scrutinee, contract, Step}
use Rattle.qtt_term.specs.Environment.{HasPrim}
use Rattle.qtt_term.specs.Items.{results_counted}
use Rattle.qtt_term.specs.View.{term}
use Rattle.qtt_term.specs.Infer.{is_there, named_there, case_shaped}
use Rattle.qtt_term.specs.PrimEnvironment.{prim_env}

-- ---- forms
-- a constructor that is there, of a family with p parameters: k of its n components are parameters, and the
-- others its fields
abbrev pub made_in_shape : ℕ → Option Constructor → ℕ → ℕ → Bool
made_in_shape p None k n = false
made_in_shape p (Some c) k n = eqb k p && eqb n (p + length c.fields)

-- whether the environment has what a form names, and the form has n components
abbrev pub form_in_shape : Env → Form → ℕ → Bool
form_in_shape E (Form.sort l) n = eqb n 0
form_in_shape E (Form.pi q) n = eqb n 2
form_in_shape E (Form.lam q) n = eqb n 2
form_in_shape E (Form.app q) n = eqb n 2
form_in_shape E (Form.fam f) n =
    is_there (E.family f) && eqb n (length (family_at E f).params + length (family_at E f).indices)
form_in_shape E (Form.con f c k) n =
    made_in_shape (length (family_at E f).params) (slice_get (family_at E f).constructors c) k n
form_in_shape E (Form.case q f k m ns) n = is_there (E.family f) && case_shaped (fam_at E f) k m ns n
form_in_shape E (Form.delete q) n = eqb n 5
form_in_shape E (Form.named m) n = named_there E m && eqb n (length (signature E m).arguments)
form_in_shape E Form.trap n = eqb n 1
form_in_shape E (Form.tape i) n = eqb n 0

abbrev pub FormInShape : Env → Form → ℕ → Type 0
FormInShape E F n = IsTrue (form_in_shape E F n)

-- ---- terms
abbrev pub InShape : Env → Term → Type 0
InShape E = Each (FormInShape E)

abbrev pub AllInShape : Env → Terms → Type 0
AllInShape E = EachIn (FormInShape E)

abbrev pub in_shape : Env → Term → Bool
in_shape E = each (form_in_shape E)

abbrev pub all_in_shape : Env → Terms → Bool
all_in_shape E = each_in (form_in_shape E)

-- ---- contexts and environments
abbrev pub binds_in_shape : Env → Tele → Bool
binds_in_shape E = list_all (λ b. in_shape E b.1)

-- the types of the variables, and the terms and types that names stand for
abbrev pub ctx_in_shape : Env → code_ctx.Ctx → Bool
ctx_in_shape E c =
    list_all (λ v. in_shape E (term v.1)) c.vars.items && list_all
    (λ n. in_shape E (term n.0) && in_shape E (term n.1)) c.names.items

abbrev pub constructor_in_shape : Env → Constructor → Bool
constructor_in_shape E c = binds_in_shape E c.fields && all_in_shape E c.results

abbrev pub family_in_shape : Env → Family → Bool
family_in_shape E F =
    binds_in_shape E F.params &&
    (list_all (in_shape E) F.indices &&
    (list_all (constructor_in_shape E) F.constructors && results_counted F))

abbrev pub definition_in_shape : Env → Definition → Bool
definition_in_shape E D = in_shape E D.type && elim D.body [ None ↦ true | Some b ↦ in_shape E b ]

-- an environment has Prim, and all its terms are in shape; the result of each constructor has one term for each
-- index
pub record EnvInShape (E : Env) : Type 0 where
  pub prims : HasPrim E
  pub families : (f : GlobalId) (F : Family) → E.family f ≡ Some F → IsTrue (family_in_shape E F)
  pub definitions : (d : GlobalId) (D : Definition) → E.definition d ≡ Some D → IsTrue (definition_in_shape E D)

-- ---- laws
-- all families of D, and all its definitions, which may have got bodies
pub record Extends (D E : Env) : Type 0 where
  pub families : (f : GlobalId) (F : Family) → D.family f ≡ Some F → E.family f ≡ Some F
  pub definitions : (d : GlobalId) (A : Definition) → D.definition d ≡ Some A →
      (B : Definition) × (E.definition d ≡ Some B) × (A.type ≡ B.type)

-- what is new is in shape
pub record AddsInShape (D E : Env) : Type 0 where
  pub families : (f : GlobalId) (F : Family) → E.family f ≡ Some F →
      (D.family f ≡ Some F) ⊎ IsTrue (family_in_shape E F)
  pub definitions : (d : GlobalId) (A : Definition) → E.definition d ≡ Some A →
      (D.definition d ≡ Some A) ⊎ IsTrue (definition_in_shape E A)

pub record ShapeLaws : Type 0 where
  pub renaming : (E : Env) (ρ : ℕ → ℕ) (t : Term) → InShape E t → InShape E (ren ρ t)
  pub substitution : (E : Env) (σ : ℕ → Term) (t : Term) → ((i : ℕ) → InShape E (σ i)) → InShape E t →
      InShape E (sub σ t)
  pub contraction : (E : Env) → EnvInShape E → (t s : Term) → Step E t s → InShape E t → InShape E s
  pub growth : (D E : Env) → Extends D E → (t : Term) → InShape D t → InShape E t
  pub environments : (D E : Env) → EnvInShape D → Extends D E → AddsInShape D E → EnvInShape E
  pub prim : EnvInShape prim_env

-- of a Case in shape: the branch of a constructor stands under as many binders as the constructor has fields, and
-- a Case of a constructor of its family contracts
pub record CasesLaws : Type 0 where
  pub branches : (E : Env) (q : Mult) (f : GlobalId) (k m : ℕ) (ns : List ℕ) (ts : Terms) →
      InShape E (node (Form.case q f k m ns) ts) →
      (c : ℕ) (d : Constructor) → slice_get (family_at E f).constructors c ≡ Some d →
      slice_get ns c ≡ Some (length d.fields)
  pub contract : (E : Env) (q : Mult) (f : GlobalId) (k m : ℕ) (ns : List ℕ) (ts : Terms) →
      InShape E (node (Form.case q f k m ns) ts) →
      (c l : ℕ) (xs : Terms) → scrutinee ns (skip (suc k) ts) ≡ Some (node (Form.con f c l) xs) →
      There (contract E (Form.case q f k m ns) ts)
