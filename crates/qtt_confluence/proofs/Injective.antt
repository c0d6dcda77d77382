-- Forms that are never contracted are injective, types among them.
use Rattle.std.proofs.Common.{◌≡◌, ℕ, refl}
use Rattle.qtt_base.specs.declared.place.GlobalId.{GlobalId}
use Rattle.qtt_usage.specs.declared.mult.Mult.{Mult}
use Rattle.qtt_term.specs.Term.{Io, PrimTy, Named, Form, Term, ε, ◌▸◌}
use Rattle.qtt_term.specs.Signature.{Env}
use Rattle.qtt_term.specs.Contraction.{BodiesClosed, contract, Conv}
use Rattle.qtt_confluence.specs.Injective.{Convs, Rigid, RigidInjective, SortInjective, PiInjective, FamInjective, ConInjective, PrimTyInjective, IoInjective, Injective}
use Rattle.qtt_confluence.proofs.Confluence.{Stiff, stiff-nodes}

pub rigid-stiff : (E : Env) (F : Form) → Rigid F → Stiff E F
unfolding contract
rigid-stiff E (Form.sort l) r ts = refl
rigid-stiff E (Form.pi q) r ts = refl
rigid-stiff E (Form.lam q) r ts = refl
rigid-stiff E (Form.app q) r ts = absurd r
rigid-stiff E (Form.fam f) r ts = refl
rigid-stiff E (Form.con f c k) r ts = refl
rigid-stiff E (Form.case q f k m ns) r ts = absurd r
rigid-stiff E (Form.delete q) r ts = absurd r
rigid-stiff E (Form.named (Named.def d)) r ts = absurd r
rigid-stiff E (Form.named (Named.lit l)) r ts = refl
rigid-stiff E (Form.named (Named.prim_ty p)) r ts = refl
rigid-stiff E (Form.named (Named.prim p)) r ts = absurd r
rigid-stiff E (Form.named (Named.act a k)) r ts = refl
rigid-stiff E Form.trap r ts = refl
rigid-stiff E (Form.tape n) r ts = refl

pub stiff-sort : (E : Env) (l : ℕ) → Stiff E (Form.sort l)
stiff-sort E l = rigid-stiff E (Form.sort l) tt

pub stiff-pi : (E : Env) (q : Mult) → Stiff E (Form.pi q)
stiff-pi E q = rigid-stiff E (Form.pi q) tt

pub stiff-fam : (E : Env) (f : GlobalId) → Stiff E (Form.fam f)
stiff-fam E f = rigid-stiff E (Form.fam f) tt

pub stiff-prim_ty : (E : Env) (p : PrimTy) → Stiff E (Form.named (Named.prim_ty p))
stiff-prim_ty E p = rigid-stiff E (Form.named (Named.prim_ty p)) tt

pub rigid_injective : (E : Env) → BodiesClosed E → RigidInjective E
rigid_injective E bodies F G ts ss r s h = stiff-nodes bodies (rigid-stiff E F r) (rigid-stiff E G s) h

-- ---- the fixed parts of forms
sort-level : {l k : ℕ} → Form.sort l ≡ Form.sort k → l ≡ k
sort-level e = cc e

pi-mult : {q r : Mult} → Form.pi q ≡ Form.pi r → q ≡ r
pi-mult e = cc e

fam-id : {f g : GlobalId} → Form.fam f ≡ Form.fam g → f ≡ g
fam-id e = cc e

con-id : {f g : GlobalId} {c d k l : ℕ} → Form.con f c k ≡ Form.con g d l → (f ≡ g) × (c ≡ d) × (k ≡ l)
con-id e = (cc e, cc e, cc e)

prim_ty-of : {p r : PrimTy} → Form.named (Named.prim_ty p) ≡ Form.named (Named.prim_ty r) → p ≡ r
prim_ty-of e = cc e

io-of : {m n : Io} → Form.named (Named.prim_ty (PrimTy.io_of m)) ≡ Form.named (Named.prim_ty (PrimTy.io_of n)) → m ≡ n
io-of e = cc e

one-conv : {E : Env} {A B : Term} → Convs E (A ▸ ε) (B ▸ ε) → Conv E A B
one-conv (Convs.more h Convs.none) = h

two-convs : {E : Env} {A B C D : Term} → Convs E (A ▸ B ▸ ε) (C ▸ D ▸ ε) → Conv E A C × Conv E B D
two-convs (Convs.more h (Convs.more k Convs.none)) = (h, k)

-- ---- the laws
module _ (E : Env) (bodies : BodiesClosed E) where
  pub sort_injective : SortInjective E
  sort_injective l k h = sort-level (rigid_injective E bodies (Form.sort l) (Form.sort k) ε ε tt tt h).0

  pub pi_injective : PiInjective E
  pi_injective q r A B C D h =
      let s = rigid_injective E bodies (Form.pi q) (Form.pi r) _ _ tt tt h in
      let c = two-convs s.1 in
      (pi-mult s.0, c.0, c.1)

  pub fam_injective : FamInjective E
  fam_injective f g ts ss h =
      let s = rigid_injective E bodies (Form.fam f) (Form.fam g) ts ss tt tt h in (fam-id s.0, s.1)

  pub con_injective : ConInjective E
  con_injective f g c d k l ts ss h =
      let s = rigid_injective E bodies (Form.con f c k) (Form.con g d l) ts ss tt tt h in
      let e = con-id s.0 in
      (e.0, e.1, e.2, s.1)

  pub prim_ty_injective : PrimTyInjective E
  prim_ty_injective p r ts ss h =
      let s = rigid_injective E bodies (Form.named (Named.prim_ty p)) (Form.named (Named.prim_ty r)) ts ss tt tt h
      in (prim_ty-of s.0, s.1)

  pub io_injective : IoInjective E
  io_injective m n A B h =
      let s = rigid_injective E bodies (Form.named (Named.prim_ty (PrimTy.io_of m)))
      (Form.named (Named.prim_ty (PrimTy.io_of n))) _ _ tt tt h in
      (io-of s.0, one-conv s.1)

  pub injective : Injective E
  injective = record {
    rigid = rigid_injective E bodies;
    sorts = sort_injective;
    functions = pi_injective;
    families = fam_injective;
    constructors = con_injective;
    primitive_types = prim_ty_injective;
    actions = io_injective;
  }
