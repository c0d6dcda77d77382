-- Weak head normal forms, and readings: by what a form waits for, and not by how its head is found.
use Rattle.std.specs.Prelude.{◌≡◌, ℕ, suc, ◌+◌, ◌≤◌, List, length, None, true}
use Rattle.qtt_base.specs.declared.place.GlobalId.{GlobalId}
use Rattle.qtt_usage.specs.declared.mult.Mult.{Mult}
use Rattle.qtt_prims.specs.declared.prim.Primitive.{Primitive}
use Rattle.qtt_prims.specs.declared.lit.Lit.{Lit}
use Rattle.qtt_term.specs.Term.{Named, Form, Term, Terms, var, node, ◌▸◌}
use Rattle.qtt_term.specs.Signature.{Env, family_at}
use Rattle.qtt_term.specs.Contraction.{as_lit, literal_term, contract}
use Rattle.qtt_term.specs.Reading.{is_plain}

-- a stands behind n components
pub data Behind : ℕ → Terms → Term → Type 0 where
  here : {a : Term} {ts : Terms} → Behind 0 (a ▸ ts) a
  past : {n : ℕ} {t a : Term} {ts : Terms} → Behind n ts a → Behind (suc n) (t ▸ ts) a

-- a is the first component that is no literal
pub data FirstOpen : Terms → Term → Type 0 where
  here : {a : Term} {ts : Terms} → as_lit a ≡ None → FirstOpen (a ▸ ts) a
  past : {l : Lit} {a : Term} {ts : Terms} → FirstOpen ts a → FirstOpen (literal_term l ▸ ts) a

-- a is what a term of this form waits for: an application for its function, a Case for its scrutinee, which stands
-- behind k parameters, a motive and the branches, a Delete for its proof, and a primitive for its first argument that
-- is no literal; no other form waits
pub data WaitsFor : Form → Terms → Term → Type 0 where
  function : {q : Mult} {a : Term} {ts : Terms} → Behind 0 ts a → WaitsFor (Form.app q) ts a
  scrutinee : {q : Mult} {f : GlobalId} {k m : ℕ} {ns : List ℕ} {a : Term} {ts : Terms} →
      Behind (k + suc (length ns)) ts a → WaitsFor (Form.case q f k m ns) ts a
  proof : {q : Mult} {a : Term} {ts : Terms} → Behind 4 ts a → WaitsFor (Form.delete q) ts a
  argument : {p : Primitive} {a : Term} {ts : Terms} → FirstOpen ts a → WaitsFor (Form.named (Named.prim p)) ts a

-- a weak head normal form: no rule contracts the term itself, and what it waits for is a weak head normal form
pub data WeakHeadNormal (E : Env) : Term → Type 0 where
  variable : {i : ℕ} → WeakHeadNormal E (var i)
  form : {F : Form} {ts : Terms} → contract E F ts ≡ None → ((a : Term) → WaitsFor F ts a → WeakHeadNormal E a) →
      WeakHeadNormal E (node F ts)

-- a is a field of a constructor of a plain family: at least its k parameters stand before it
pub data PlainField (E : Env) : Form → Terms → Term → Type 0 where
  field : {f : GlobalId} {c k n : ℕ} {a : Term} {ts : Terms} → is_plain (family_at E f) ≡ true → k ≤ n →
      Behind n ts a → PlainField E (Form.con f c k) ts a

-- a term that is read: a weak head normal form, and at a constructor of a plain family each field is read
pub data IsRead (E : Env) : Term → Type 0 where
  variable : {i : ℕ} → IsRead E (var i)
  form : {F : Form} {ts : Terms} → WeakHeadNormal E (node F ts) →
      ((a : Term) → PlainField E F ts a → IsRead E a) →
      IsRead E (node F ts)
