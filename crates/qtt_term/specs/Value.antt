-- Values, and which components of a form are evaluated.
use Rattle.std.specs.Prelude.{ℕ, zero, suc, List, [], ◌∷◌, length}
use Rattle.qtt_base.specs.declared.place.GlobalId.{GlobalId}
use Rattle.qtt_usage.specs.declared.mult.Mult.{Mult}
use Rattle.qtt_usage.specs.Mult.{𝟘, 𝟙, ω}
use Rattle.qtt_prims.specs.declared.lit.Lit.{Lit}
use Rattle.qtt_term.specs.Term.{PrimTy, Action, Named, Form, Term, Terms, node, ε, ◌▸◌, Act}
use Rattle.qtt_term.specs.Signature.{Tele, Constructor, Env, family_at, signature}

abbrev pub mults : Tele → List Mult
mults [] = []
mults (b ∷ Θ) = b.0 ∷ mults Θ

abbrev pub field_mults : List Constructor → ℕ → List Mult
field_mults [] c = []
field_mults (d ∷ ds) zero = mults d.fields
field_mults (d ∷ ds) (suc c) = field_mults ds c

-- so many components that are kept first
abbrev pub kept : ℕ → List Mult → List Mult
kept zero ms = ms
kept (suc k) ms = 𝟘 ∷ kept k ms

-- at which multiplicity each component is evaluated, in order; at 0, and past the end, it is kept as it is.
-- Kept are arguments and fields at 0, parameters, type arguments, domains, motives, branches, the type of a Trap,
-- the type and the point of a Delete, and all components of types
abbrev pub demanded : Env → Form → List Mult
demanded E (Form.app q) = 𝟙 ∷ q ∷ []
demanded E (Form.con f c k) = kept k (field_mults (family_at E f).constructors c)
demanded E (Form.case q f k m ns) = kept k (𝟘 ∷ kept (length ns) (𝟙 ∷ []))
demanded E (Form.delete q) = kept 4 (𝟙 ∷ [])
demanded E (Form.named n) = mults (signature E n).arguments
demanded E _ = []

-- a Lam, a type, a literal, a Tape, and a Con or an action whose parts that are not at 0 are values
mutual
  pub data Value (E : Env) : Term → Type 0 where
    sort : {l : ℕ} {ts : Terms} → Value E (node (Form.sort l) ts)
    pi : {q : Mult} {ts : Terms} → Value E (node (Form.pi q) ts)
    fam : {f : GlobalId} {ts : Terms} → Value E (node (Form.fam f) ts)
    prim_ty : {p : PrimTy} {ts : Terms} → Value E (node (Form.named (Named.prim_ty p)) ts)
    lam : {q : Mult} {ts : Terms} → Value E (node (Form.lam q) ts)
    lit : {l : Lit} {ts : Terms} → Value E (node (Form.named (Named.lit l)) ts)
    tape : {n : ℕ} {ts : Terms} → Value E (node (Form.tape n) ts)
    con : {f : GlobalId} {c k : ℕ} {ts : Terms} → Values E (demanded E (Form.con f c k)) ts →
        Value E (node (Form.con f c k) ts)
    act : {a : Action} {k : ℕ} {ts : Terms} → Values E (demanded E (Form.named (Named.act a k))) ts →
        Value E (Act a k ts)

  -- the components that are not at 0
  pub data Values (E : Env) : List Mult → Terms → Type 0 where
    none : {ts : Terms} → Values E [] ts
    no_more : {ms : List Mult} → Values E ms ε
    kept_one : {ms : List Mult} {t : Term} {ts : Terms} → Values E ms ts → Values E (𝟘 ∷ ms) (t ▸ ts)
    one : {ms : List Mult} {t : Term} {ts : Terms} → Value E t → Values E ms ts → Values E (𝟙 ∷ ms) (t ▸ ts)
    many : {ms : List Mult} {t : Term} {ts : Terms} → Value E t → Values E ms ts → Values E (ω ∷ ms) (t ▸ ts)
