-- The core judgement as a list of questions: the type and the use of a term, premise by premise.
-- Components are taken in their order, and each question is asked as soon as its terms are known: for a head
-- where a type must be a function type, a Sort or a family, and for a comparison of the found type with the
-- wanted one where a type must be a given type.
use Rattle.std.specs.Prelude.{ℕ, suc, max, ◌+◌, ◌^◌, ◌-◌, nat_lt, Bool, true, false, ◌&&◌, cond, eqb, List, [], ◌∷◌, ◌++◌, length, drop, Option, Some, None, slice_get}
use Rattle.qtt_base.specs.declared.place.GlobalId.{GlobalId}
use Rattle.qtt_usage.specs.declared.mult.Mult.{Mult}
use Rattle.qtt_usage.specs.Mult.{𝟘, fits, same_mult}
use Rattle.qtt_usage.specs.Usage.{usage_sum, usage_join, usage_scale, no_usage, usage_unit, usage_at}
use Rattle.qtt_term.specs.Term.{Named, Form, Term, Terms, var, node, ε, ◌▸◌, size, skip, ◌+++◌, Sort, Pi, same_id}
use Rattle.qtt_term.specs.Substitution.{sub, cons, push, inst, closed}
use Rattle.qtt_term.specs.Signature.{Tele, Env, ConSig, FamSig, type_arguments, signature, fam_at, EqTy, Refl, HandleTy}
use Rattle.qtt_term.specs.Question.{same_counts}
use Rattle.qtt_term.specs.Judgement.{Ctx, Part, mult_at, type_at, ext, sub_binds, scale, erase_binds, under, branch_type}
use Rattle.qtt_term.specs.Accepted.{is_dead}
use Rattle.qtt_term.specs.Ask.{Ask, ◌>>=◌}
use Rattle.qtt_term.specs.Forms.{as_sort, Function, as_function}
use Rattle.qtt_term.specs.Premises.{need, head_as}
use Rattle.qtt_term.specs.Premises as premises
use Rattle.qtt_term.specs.declared.rule.Rule.{Rule}
use Rattle.qtt_term.specs.declared.rule.Rule.TheVariants as rule

-- a false premise: its rule, and its number there from 1
pub record Premise : Type 0 where
  pub rule : Rule
  pub number : ℕ

abbrev pub Asks : Type 0 → Type 0
Asks A = Ask Premise (Unit {0}) A

abbrev pub at : Rule → ℕ → Premise
at r k = record { rule = r; number = k }

-- the type of a term and the uses of the context's variables, the newest first
pub record Inferred : Type 0 where
  pub type : Term
  pub uses : List Mult

abbrev pub inferred : Term → List Mult → Inferred
inferred A u = record { type = A; uses = u }

-- ---- premises
-- what was found compares Equal to what is wanted
unfoldable pub agree : Ctx → Term → Term → Premise → Asks (Unit {0})
agree Γ found wanted p = premises.agree tt (length Γ) found wanted p

-- the head of a type is a Sort
unfoldable pub sort_of : Ctx → Term → Premise → Asks ℕ
sort_of Γ A p = head_as as_sort tt (length Γ) A p

-- the head of a type is a function type
unfoldable pub function_of : Ctx → Term → Premise → Asks Function
function_of Γ A p = head_as as_function tt (length Γ) A p

-- a family of this id with so many components
abbrev pub as_family : GlobalId → ℕ → Term → Option Terms
as_family f n (node (Form.fam g) ts) = cond (same_id f g && eqb (size ts) n) (Some ts) None
as_family f n _ = None

-- the head of a type is this family, and its components
unfoldable pub family_of : Ctx → GlobalId → ℕ → Term → Premise → Asks Terms
family_of Γ f n A p = head_as (as_family f n) tt (length Γ) A p

-- ---- tests
abbrev pub is_there : {A : Type 0} → Option A → Bool
is_there None = false
is_there (Some a) = true

-- in the run part what is declared 0 may not be used
abbrev pub usable : Part → Mult → Bool
usable Part.run 𝟘 = false
usable _ _ = true

abbrev pub named_there : Env → Named → Bool
named_there E (Named.def d) = is_there (E.definition d)
named_there E (Named.lit l) = true
named_there E (Named.prim_ty p) = true
named_there E (Named.prim p) = true
named_there E (Named.act a k) = eqb k (type_arguments a)

-- one use of a variable, in the run part
abbrev pub use_at : Part → ℕ → ℕ → List Mult
use_at Part.run n i = usage_unit n i
use_at Part.erased n i = no_usage n

-- the uses of the newest binders fit, the newest first
abbrev pub binders_fit : List Mult → List Mult → Bool
binders_fit [] us = true
binders_fit (q ∷ qs) us = fits (usage_at us 0) q && binders_fit qs (drop 1 us)

-- the multiplicities of further binders, the newest first, before those of the older ones
abbrev pub mults_onto : List Mult → Tele → List Mult
mults_onto qs [] = qs
mults_onto qs (b ∷ Θ) = mults_onto (b.0 ∷ qs) Θ

-- the uses of a component without its binders, each of which fits in the run part but where the component is dead
unfoldable pub unbound : Part → Tele → Term → List Mult → Premise → Asks (List Mult)
unbound Part.erased Θ t u p = Ask.done (drop (length Θ) u)
unbound Part.run Θ t u p = do
  fit ← need (cond (is_dead t) true (binders_fit (mults_onto [] Θ) u)) p
  Ask.done (drop (length Θ) u)

-- the join of the branches that are not dead; none of them yet, or their join so far
abbrev pub joined_with : List Mult → Option (List Mult) → Option (List Mult)
joined_with u None = Some u
joined_with u (Some w) = Some (usage_join w u)

abbrev pub with_branch : Term → List Mult → Option (List Mult) → Option (List Mult)
with_branch b u joined = cond (is_dead b) joined (joined_with u joined)

abbrev pub joined_use : ℕ → Option (List Mult) → List Mult
joined_use n None = no_usage n
joined_use n (Some u) = u

-- ---- components
-- what is judged has this type; its uses
abbrev pub has : Ctx → Asks Inferred → Term → Premise → Asks (List Mult)
has Γ judged A p = do
  j ← judged
  same ← agree Γ j.type A p
  Ask.done j.uses

-- what is judged in the erased part is a type; its level
abbrev pub type_of : Ctx → Asks Inferred → Premise → Asks ℕ
type_of Γ judged p = do
  j ← judged
  sort_of Γ j.type p

-- what is asked of an argument: the premise that it is, its multiplicity and its type
pub record Wanted : Type 0 where
  pub premise : Premise
  pub mult : Mult
  pub type : Term

abbrev pub wanted : Premise → Tele → List Wanted
wanted p [] = []
wanted p (b ∷ Θ) = record { premise = p; mult = b.0; type = b.1 } ∷ wanted p Θ

-- parameters and indices, erased
abbrev pub family_wants : FamSig → List Wanted
family_wants S = wanted (at rule.Fam 1) (erase_binds (S.params ++ S.indices))

-- parameters, erased, and fields
abbrev pub constructor_wants : FamSig → ConSig → List Wanted
constructor_wants S c = wanted (at rule.Con 1) (erase_binds S.params) ++ wanted (at rule.Con 2) c.fields

abbrev pub rule_of : Named → Rule
rule_of (Named.def d) = rule.Def
rule_of (Named.lit l) = rule.Lit
rule_of (Named.prim_ty p) = rule.PrimTy
rule_of (Named.prim p) = rule.Prim
rule_of (Named.act a k) = rule.Act

-- the rule of a form whose list of components has another length than its table's
abbrev pub rule_at : Form → Rule
rule_at (Form.sort l) = rule.Sort
rule_at (Form.pi q) = rule.Pi
rule_at (Form.lam q) = rule.Lam
rule_at (Form.app q) = rule.App
rule_at (Form.fam f) = rule.Fam
rule_at (Form.con f c k) = rule.Con
rule_at (Form.case q f k m ns) = rule.Case
rule_at (Form.delete q) = rule.Delete
rule_at (Form.named n) = rule_of n
rule_at Form.trap = rule.Trap
rule_at (Form.tape n) = rule.Tape

abbrev pub constructor_at : Option ConSig → (ConSig → Asks Inferred) → Asks Inferred
constructor_at None k = Ask.fail (at rule.Con 1)
constructor_at (Some c) k = k c

abbrev pub field_counts : List ConSig → List ℕ
field_counts [] = []
field_counts (c ∷ cs) = length c.fields ∷ field_counts cs

-- a Case has its family's numbers of parameters and of binders of motive and branches, one branch for each
-- constructor, and a scrutinee
abbrev pub case_shaped : FamSig → ℕ → ℕ → List ℕ → ℕ → Bool
case_shaped S k m ns n =
    eqb k (length S.params) &&
    (eqb m (length S.motive) && (same_counts ns (field_counts S.constructors) && eqb n (k + (2 + length ns))))

-- a Case's multiplicity and family, and what stands for the family's parameters
pub record CaseOf : Type 0 where
  pub mult : Mult
  pub id : GlobalId
  pub family : FamSig

abbrev mutual
  pub infer : Env → Part → Ctx → Term → Asks Inferred
  infer E p Γ (var i) = do
    found ← need (nat_lt i (length Γ) && usable p (mult_at Γ i)) (at rule.Var 1)
    Ask.done (inferred (type_at Γ i) (use_at p (length Γ) i))
  infer E p Γ (node (Form.sort l) ε) = do
    within ← need (nat_lt l (2 ^ 32 - 1)) (at rule.Sort 1)
    Ask.done (inferred (Sort (suc l)) (no_usage (length Γ)))
  infer E p Γ (node (Form.pi q) (A ▸ B ▸ ε)) = do
    i ← type_of Γ (infer E Part.erased Γ A) (at rule.Pi 1)
    j ← type_of ((q, A) ∷ Γ) (infer E Part.erased ((q, A) ∷ Γ) B) (at rule.Pi 2)
    Ask.done (inferred (Sort (max i j)) (no_usage (length Γ)))
  infer E p Γ (node (Form.lam q) (A ▸ b ▸ ε)) = do
    i ← type_of Γ (infer E Part.erased Γ A) (at rule.Lam 1)
    j ← infer E p ((q, A) ∷ Γ) b
    u ← unbound p ((q, A) ∷ []) b j.uses (at rule.Lam 3)
    Ask.done (inferred (Pi q A j.type) u)
  infer E p Γ (node (Form.app q) (f ▸ a ▸ ε)) = do
    j ← infer E p Γ f
    F ← function_of Γ j.type (at rule.App 1)
    same ← need (same_mult q F.mult) (at rule.App 1)
    u ← has Γ (infer E (under p q) Γ a) F.domain (at rule.App 2)
    Ask.done (inferred (inst F.codomain a) (usage_sum j.uses (usage_scale q u)))
  infer E p Γ (node (Form.fam f) ts) = do
    there ← need (is_there (E.family f) && eqb (size ts) (length (family_wants (fam_at E f)))) (at rule.Fam 1)
    u ← arguments E p Γ (family_wants (fam_at E f)) closed ts
    Ask.done (inferred (Sort (fam_at E f).level) u)
  infer E p Γ (node (Form.con f n k) ts) = constructor_at (slice_get (fam_at E f).constructors n) (λ c. do
    shaped ← need (eqb k (length (fam_at E f).params) && eqb (size ts)
        (length (constructor_wants (fam_at E f) c))) (at rule.Con 1)
    u ← arguments E p Γ (constructor_wants (fam_at E f) c) closed ts
    Ask.done (inferred (sub (push ts closed) c.result) u))
  infer E p Γ (node (Form.case q f k m ns) ts) = do
    shaped ← need (is_there (E.family f) && (usable p q && case_shaped (fam_at E f) k m ns (size ts))) (at rule.Case 1)
    case_params E p Γ (record { mult = q; id = f; family = fam_at E f }) (fam_at E f).params closed ts
  infer E p Γ (node (Form.delete q) (A ▸ s ▸ P ▸ b ▸ e ▸ ε)) = do
    used ← need (usable p q) (at rule.Delete 1)
    x ← has Γ (infer E Part.erased Γ A) (Sort 0) (at rule.Delete 2)
    y ← has Γ (infer E Part.erased Γ s) A (at rule.Delete 3)
    l ← type_of ((q, EqTy A s s) ∷ Γ) (infer E Part.erased ((q, EqTy A s s) ∷ Γ) P) (at rule.Delete 4)
    u ← has Γ (infer E p Γ b) (inst P (Refl A s)) (at rule.Delete 5)
    w ← has Γ (infer E (under p q) Γ e) (EqTy A s s) (at rule.Delete 6)
    Ask.done (inferred (inst P e) (usage_sum (usage_scale q w) u))
  infer E p Γ (node (Form.named n) ts) = do
    there ← need (named_there E n &&
        (usable p (signature E n).mult && eqb (size ts) (length (signature E n).arguments))) (at (rule_of n) 1)
    u ← arguments E p Γ (wanted (at (rule_of n) 1) (signature E n).arguments) closed ts
    Ask.done (inferred (sub (push ts closed) (signature E n).type) u)
  infer E p Γ (node Form.trap (A ▸ ε)) = do
    i ← type_of Γ (infer E Part.erased Γ A) (at rule.Trap 1)
    Ask.done (inferred A (no_usage (length Γ)))
  infer E p Γ (node (Form.tape n) ε) = Ask.done (inferred HandleTy (no_usage (length Γ)))
  infer E p Γ (node F ts) = Ask.fail (at (rule_at F) 1)

  -- the sum of the uses of arguments, σ being what stands for the variables before them
  pub arguments : Env → Part → Ctx → List Wanted → (ℕ → Term) → Terms → Asks (List Mult)
  arguments E p Γ (x ∷ xs) σ (a ▸ ts) = do
    u ← has Γ (infer E (under p x.mult) Γ a) (sub σ x.type) x.premise
    w ← arguments E p Γ xs (cons a σ) ts
    Ask.done (usage_sum (usage_scale x.mult u) w)
  arguments E p Γ _ σ _ = Ask.done (no_usage (length Γ))

  pub case_params : Env → Part → Ctx → CaseOf → Tele → (ℕ → Term) → Terms → Asks Inferred
  case_params E p Γ c (b ∷ Θ) σ (a ▸ ts) = do
    u ← has Γ (infer E Part.erased Γ a) (sub σ b.1) (at rule.Case 2)
    case_params E p Γ c Θ (cons a σ) ts
  case_params E p Γ c [] σ (P ▸ ts) = do
    l ← type_of (ext Γ (sub_binds σ c.family.motive))
        (infer E Part.erased (ext Γ (sub_binds σ c.family.motive)) P) (at rule.Case 3)
    case_branches E p Γ c σ P c.family.constructors ts None
  case_params E p Γ c Θ σ ε = Ask.fail (at rule.Case 1)

  -- branches in order, with the join of those before, and then the scrutinee
  pub case_branches : Env → Part → Ctx → CaseOf → (ℕ → Term) → Term → List ConSig → Terms → Option (List Mult) →
      Asks Inferred
  case_branches E p Γ c σ P (d ∷ ds) (b ▸ ts) joined = do
    j ← infer E p (ext Γ (sub_binds σ (scale c.mult d.fields))) b
    same ← agree (ext Γ (sub_binds σ (scale c.mult d.fields))) j.type (branch_type σ d P) (at rule.Case 4)
    u ← unbound p (sub_binds σ (scale c.mult d.fields)) b j.uses (at rule.Case 5)
    case_branches E p Γ c σ P ds ts (with_branch b u joined)
  case_branches E p Γ c σ P [] (s ▸ ε) joined = do
    j ← infer E (under p c.mult) Γ s
    xs ← family_of Γ c.id (length (family_wants c.family)) j.type (at rule.Case 6)
    same ← agree Γ j.type (sub (push (skip (length c.family.params) xs) σ) c.family.self) (at rule.Case 6)
    Ask.done (inferred (sub (push (skip (length c.family.params) xs +++ (s ▸ ε)) var) P)
        (usage_sum (usage_scale c.mult j.uses) (joined_use (length Γ) joined)))
  case_branches E p Γ c σ P _ _ joined = Ask.fail (at rule.Case 1)
