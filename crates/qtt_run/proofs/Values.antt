-- Which values of the machine stand for literals, tapes and actions; and which values of core terms are actions.
use Rattle.std.proofs.Common.{◌≡◌, ◌∙◌, ap, subst, refl, sym, [], ℕ}
use Rattle.qtt_usage.specs.Uses.{Use}
use Rattle.qtt_prims.specs.declared.lit.Lit.{Lit}
use Rattle.qtt_prims.specs.declared.lit.Lit.TheVariants as literal
use Rattle.qtt_term.specs.Term.{Io, PrimTy, Action, Named, Form, Term, Terms, node, Act}
use Rattle.qtt_term.specs.Signature.{Env, IoTy, act_signature}
use Rattle.qtt_term.specs.Contraction.{BodiesClosed}
use Rattle.qtt_term.specs.FullStep.{Outcome, full_step}
use Rattle.qtt_term.specs.Value as core
use Rattle.qtt_term.specs.Value.{mults}
use Rattle.qtt_term.specs.Judgement.{Part}
use Rattle.qtt_term.proofs.Evaluation.{kept-value}
use Rattle.qtt_confluence.proofs.Injective.{stiff-prim_ty}
use Rattle.qtt_preserve.specs.Within.{Has}
use Rattle.qtt_preserve.proofs.Progress.{Kind, value_kind, value_at}
use Rattle.qtt_erase.specs.Binding.{Tree, ∅, ◌◂◌}
use Rattle.qtt_erase.specs.Operator.{Operator}
use Rattle.qtt_erase.specs.Lean.{Abstraction, Lean, Leans}
use Rattle.qtt_closure.specs.Flat.{FlatTerm, FlatTerms, Program}
use Rattle.qtt_closure.specs.Conversion.{other}
use Rattle.qtt_closure.specs.StandsFor.{IsOther, StandsFor, AllStandFor}
use Rattle.qtt_code.specs.Value.{Value, Values, ◌▹◌}
use Rattle.qtt_lower.specs.Represents.{flat_value, flat_values}

-- ---- values that stand for erased terms
abbrev operator_at : Lean → Operator Abstraction
operator_at (Tree.var i) = Operator.ty
operator_at (Tree.node F ts) = F

-- what stands for an operator that is no function is the same operator
record Parts (P : Program) (F : Operator Abstraction) (ts : Leans) (u : FlatTerm) : Type 0 where
  components : FlatTerms
  is : u ≡ Tree.node (other F) components
  stand : AllStandFor P ts components

parts : {P : Program} {F : Operator Abstraction} {ts : Leans} {u : FlatTerm} → IsOther F →
    StandsFor P (Tree.node F ts) u → Parts P F ts u
parts o (StandsFor.operator {us = us} i h) = record { components = us; is = refl; stand = h }
parts o (StandsFor.closure a b c d e f g h) = absurd (subst IsOther (ap operator_at h) o)

is-literal : (l : Lit) (us : FlatTerms) (v : Value) → flat_value v ≡ Tree.node (Operator.lit l) us → v ≡ Value.literal l
is-literal l us (Value.literal m) e = cc e
is-literal l us (Value.con c vs) e = absurd (cc e)
is-literal l us (Value.closure b vs) e = absurd (cc e)
is-literal l us (Value.action a vs) e = absurd (cc e)
is-literal l us (Value.tape n) e = absurd (cc e)
is-literal l us Value.type e = absurd (cc e)

is-tape : (h : ℕ) (us : FlatTerms) (v : Value) → flat_value v ≡ Tree.node (Operator.tape h) us → v ≡ Value.tape h
is-tape h us (Value.literal m) e = absurd (cc e)
is-tape h us (Value.con c vs) e = absurd (cc e)
is-tape h us (Value.closure b vs) e = absurd (cc e)
is-tape h us (Value.action a vs) e = absurd (cc e)
is-tape h us (Value.tape n) e = cc e
is-tape h us Value.type e = absurd (cc e)

is-action : (a : Action) (us : FlatTerms) (v : Value) → flat_value v ≡ Tree.node (Operator.act a) us →
    (vs : Values) × (v ≡ Value.action a vs) × (flat_values vs ≡ us)
is-action a us (Value.literal m) e = absurd (cc e)
is-action a us (Value.con c vs) e = absurd (cc e)
is-action a us (Value.closure b vs) e = absurd (cc e)
is-action a us (Value.action b vs) e = (vs, cc e, cc e)
is-action a us (Value.tape n) e = absurd (cc e)
is-action a us Value.type e = absurd (cc e)

pub literal-value : {P : Program} (l : Lit) (v : Value) →
    StandsFor P (Tree.node (Operator.lit l) ∅) (flat_value v) → v ≡ Value.literal l
literal-value l v h = let p = parts tt h in is-literal l p.components v p.is

pub tape-value : {P : Program} (n : ℕ) (v : Value) → StandsFor P (Tree.node (Operator.tape n) ∅) (flat_value v) →
    v ≡ Value.tape n
tape-value n v h = let p = parts tt h in is-tape n p.components v p.is

pub action-value : {P : Program} (a : Action) (ts : Leans) (v : Value) →
    StandsFor P (Tree.node (Operator.act a) ts) (flat_value v) →
    (vs : Values) × (v ≡ Value.action a vs) × AllStandFor P ts (flat_values vs)
action-value {P} a ts v h =
    let p = parts tt h in
    let q = is-action a p.components v p.is in
    (q.0, q.1, subst (AllStandFor P ts) (sym q.2) p.stand)

pub no-values : {P : Program} (vs : Values) → AllStandFor P ∅ (flat_values vs) → vs ≡ Values.none
no-values Values.none h = refl
no-values (v ▹ vs) h = elim h [ ]

pub one-value : {P : Program} (t : Lean) (vs : Values) → AllStandFor P (t ◂ ∅) (flat_values vs) →
    (v : Value) × (vs ≡ v ▹ Values.none) × StandsFor P t (flat_value v)
one-value t Values.none h = elim h [ ]
one-value t (v ▹ vs) (AllStandFor.more h hs) = (v, ap (λ vs. v ▹ vs) (no-values vs hs), h)

pub two-values : {P : Program} (t u : Lean) (vs : Values) → AllStandFor P (t ◂ u ◂ ∅) (flat_values vs) →
    (v : Value) × (w : Value) × (vs ≡ v ▹ w ▹ Values.none) × StandsFor P t (flat_value v) × StandsFor P u (flat_value w)
two-values t u Values.none h = elim h [ ]
two-values t u (v ▹ vs) (AllStandFor.more h hs) = let p = one-value u vs hs in (v, p.0, ap (λ vs. v ▹ vs) p.1, h, p.2)

-- ---- a value of an IO type is an action, whose parts that are not at 0 are values
acts : {E : Env} (m : Io) {F : Form} {ts : Terms} → core.Value E (node F ts) →
    value_kind F ≡ Kind.primitive (PrimTy.io_of m) →
    (a : Action) × (j : ℕ) × (F ≡ Form.named (Named.act a j)) × core.Values E (mults (act_signature a).arguments) ts
acts m core.Value.sort e = absurd (cc e)
acts m core.Value.pi e = absurd (cc e)
acts m core.Value.fam e = absurd (cc e)
acts m core.Value.prim_ty e = absurd (cc e)
acts m core.Value.lam e = absurd (cc e)
acts m (core.Value.lit {l = literal.Int z}) e = absurd (cc e)
acts m (core.Value.lit {l = literal.Text s}) e = absurd (cc e)
acts m core.Value.tape e = absurd (cc e)
acts m (core.Value.con h) e = absurd (cc e)
acts m (core.Value.act {a = a} {k = j} h) e = (a, j, refl, h)

pub action_value : {E : Env} → BodiesClosed E → {t A : Term} {m : Io} {u : Use} → Has E Part.run [] t (IoTy m A) u →
    full_step E t ≡ Outcome.value →
    (a : Action) × (j : ℕ) × (ts : Terms) × (t ≡ Act a j ts) × core.Values E (mults (act_signature a).arguments) ts
action_value {E} bodies {t} {A} {m} h v =
    let (F, ts, e, k) = value_at bodies h v (stiff-prim_ty E (PrimTy.io_of m)) in
    let (a, j, d, vs) = acts m (kept-value E (node F ts) (subst (λ t. full_step E t ≡ Outcome.value) e v)) k in
    (a, j, ts, e ∙ ap (λ F. node F ts) d, vs)
