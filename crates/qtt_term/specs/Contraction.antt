-- Contraction, and conversion as its equivalence closure.
use Rattle.std.specs.Prelude.{◌≡◌, ℕ, zero, suc, List, [], ◌∷◌, Option, Some, None, ◌&&◌, cond, eqb}
use Rattle.qtt_base.specs.declared.place.GlobalId.{GlobalId}
use Rattle.qtt_usage.specs.declared.mult.Mult.{Mult}
use Rattle.qtt_usage.specs.Mult.{same_mult}
use Rattle.qtt_prims.specs.declared.prim.Primitive.{Primitive}
use Rattle.qtt_prims.specs.declared.lit.Lit.{Lit}
use Rattle.qtt_prims.specs.declared.answer.PrimAnswer.{PrimAnswer}
use Rattle.qtt_prims.specs.declared.answer.PrimAnswer.TheVariants as answer
use Rattle.qtt_prims.specs.Apply.{apply}
use Rattle.qtt_term.specs.Term.{Named, Form, Term, Terms, var, node, ε, ◌▸◌, size, skip, Lam, same_id}
use Rattle.qtt_term.specs.Substitution.{sub, push, inst, Closed}
use Rattle.qtt_term.specs.Signature.{Env, definition_at, eq_id, truth}

abbrev pub chain : {A B : Type 0} → Option A → (A → Option B) → Option B
chain None g = None
chain (Some a) g = g a

-- ---- beta: a function applied at its own multiplicity
pub data Function : Type 0 where
  function : Mult → Term → Function

abbrev pub as_lam : Term → Option Function
as_lam (Lam q A b) = Some (Function.function q b)
as_lam _ = None

abbrev pub call : Mult → Term → Function → Option Term
call p a (Function.function q b) = cond (same_mult p q) (Some (inst b a)) None

abbrev pub beta : Mult → Terms → Option Term
beta p (g ▸ a ▸ ε) = chain (as_lam g) (call p a)
beta p _ = None

-- ---- iota: a Case of a Con of its family, all fields at once
-- a family, the constructor's place in it, and the fields
pub data Made : Type 0 where
  made : GlobalId → ℕ → Terms → Made

abbrev pub as_con : Term → Option Made
as_con (node (Form.con f c k) ts) = Some (Made.made f c (skip k ts))
as_con _ = None

-- what follows the branches
abbrev pub scrutinee : List ℕ → Terms → Option Term
scrutinee [] (s ▸ ε) = Some s
scrutinee (n ∷ ns) (b ▸ ts) = scrutinee ns ts
scrutinee _ _ = None

-- branch c, which stands under as many binders as there are fields, with the fields in their place
abbrev pub branch_at : ℕ → List ℕ → Terms → Terms → Option Term
branch_at zero (n ∷ ns) (b ▸ ts) fs = cond (eqb (size fs) n) (Some (sub (push fs var) b)) None
branch_at (suc c) (n ∷ ns) (b ▸ ts) fs = branch_at c ns ts fs
branch_at _ _ _ fs = None

abbrev pub select : GlobalId → List ℕ → Terms → Made → Option Term
select f ns bs (Made.made g c fs) = cond (same_id f g) (branch_at c ns bs fs) None

-- of a motive, branches and a scrutinee
abbrev pub iota : GlobalId → List ℕ → Terms → Option Term
iota f ns (P ▸ ts) = chain (scrutinee ns ts) (λ s. chain (as_con s) (select f ns ts))
iota f ns ε = None

-- ---- deletion: a Delete of a Con of Refl becomes its branch
abbrev pub when_refl : Term → Made → Option Term
when_refl b (Made.made f c fs) = cond (same_id f eq_id && eqb c 0) (Some b) None

abbrev pub deletion : Terms → Option Term
deletion (A ▸ s ▸ P ▸ b ▸ e ▸ ε) = chain (as_con e) (when_refl b)
deletion _ = None

-- ---- delta: a definition with a body
abbrev pub delta : Env → GlobalId → Terms → Option Term
delta E d ε = (definition_at E d).body
delta E d _ = None

-- ---- a primitive on literals
abbrev pub as_lit : Term → Option Lit
as_lit (node (Form.named (Named.lit l)) ε) = Some l
as_lit _ = None

abbrev pub literals : Terms → Option (List Lit)
literals ε = Some []
literals (t ▸ ts) = chain (as_lit t) (λ l. chain (literals ts) (λ ls. Some (l ∷ ls)))

abbrev pub literal_term : Lit → Term
literal_term l = node (Form.named (Named.lit l)) ε

-- the term that an answer gives; a division by 0, and literals of other kinds or another number than the table's,
-- give none
abbrev pub answer_term : PrimAnswer → Option Term
answer_term (answer.Value l) = Some (literal_term l)
answer_term (answer.Truth b) = Some (truth b)
answer_term answer.DivisionByZero = None
answer_term answer.IllTyped = None

abbrev pub computed : Primitive → List Lit → Option Term
computed p ls = answer_term (apply p ls)

-- ---- the contraction of a term itself
unfoldable pub contract : Env → Form → Terms → Option Term
contract E (Form.app q) ts = beta q ts
contract E (Form.case q f k m ns) ts = iota f ns (skip k ts)
contract E (Form.delete q) ts = deletion ts
contract E (Form.named (Named.def d)) ts = delta E d ts
contract E (Form.named (Named.prim p)) ts = chain (literals ts) (computed p)
contract E _ ts = None

-- one contraction, anywhere
mutual
  pub data Step (E : Env) : Term → Term → Type 0 where
    here : {F : Form} {ts : Terms} {t : Term} → contract E F ts ≡ Some t → Step E (node F ts) t
    inside : {F : Form} {ts ss : Terms} → Steps E ts ss → Step E (node F ts) (node F ss)

  pub data Steps (E : Env) : Terms → Terms → Type 0 where
    at : {t s : Term} {ts : Terms} → Step E t s → Steps E (t ▸ ts) (s ▸ ts)
    after : {t : Term} {ts ss : Terms} → Steps E ts ss → Steps E (t ▸ ts) (t ▸ ss)

-- so many contractions, one after the other
pub data Reduces (E : Env) : Term → Term → Type 0 where
  done : {t : Term} → Reduces E t t
  then : {t s r : Term} → Step E t s → Reduces E s r → Reduces E t r

-- conversion: the equivalence closure
pub data Conv (E : Env) : Term → Term → Type 0 where
  same : {t : Term} → Conv E t t
  by_step : {t s : Term} → Step E t s → Conv E t s
  back : {t s : Term} → Conv E t s → Conv E s t
  thence : {t s r : Term} → Conv E t s → Conv E s r → Conv E t r

-- no variable is free in a body
abbrev pub BodiesClosed : Env → Type 0
BodiesClosed E = (d : GlobalId) (b : Term) → (definition_at E d).body ≡ Some b → Closed b
