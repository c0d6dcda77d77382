-- Injectivity: what the conversion of two terms whose forms are never contracted says of their fixed parts and
-- components.
use Rattle.std.specs.Prelude.{◌≡◌, ℕ}
use Rattle.qtt_base.specs.declared.place.GlobalId.{GlobalId}
use Rattle.qtt_usage.specs.declared.mult.Mult.{Mult}
use Rattle.qtt_term.specs.Term.{Io, PrimTy, Named, Form, Term, Terms, node, ε, ◌▸◌, Sort, Pi, Fam, TypeOf}
use Rattle.qtt_term.specs.Signature.{Env, IoTy}
use Rattle.qtt_term.specs.Contraction.{Conv}

-- as many on both sides, convertible one by one
pub data Convs (E : Env) : Terms → Terms → Type 0 where
  none : Convs E ε ε
  more : {t s : Term} {ts ss : Terms} → Conv E t s → Convs E ts ss → Convs E (t ▸ ts) (s ▸ ss)

-- no rule contracts a term of this form
abbrev pub Rigid : Form → Type 0
Rigid (Form.app q) = ⊥
Rigid (Form.case q f k m ns) = ⊥
Rigid (Form.delete q) = ⊥
Rigid (Form.named (Named.def d)) = ⊥
Rigid (Form.named (Named.prim p)) = ⊥
Rigid _ = Unit {0}

abbrev pub RigidInjective : Env → Type 0
RigidInjective E = (F G : Form) (ts ss : Terms) → Rigid F → Rigid G → Conv E (node F ts) (node G ss) →
    (F ≡ G) × Convs E ts ss

abbrev pub SortInjective : Env → Type 0
SortInjective E = (l k : ℕ) → Conv E (Sort l) (Sort k) → l ≡ k

abbrev pub PiInjective : Env → Type 0
PiInjective E = (q r : Mult) (A B C D : Term) → Conv E (Pi q A B) (Pi r C D) → (q ≡ r) × Conv E A C × Conv E B D

abbrev pub FamInjective : Env → Type 0
FamInjective E = (f g : GlobalId) (ts ss : Terms) → Conv E (Fam f ts) (Fam g ss) → (f ≡ g) × Convs E ts ss

abbrev pub ConInjective : Env → Type 0
ConInjective E =
    (f g : GlobalId) (c d k l : ℕ) (ts ss : Terms) → Conv E (node (Form.con f c k) ts) (node (Form.con g d l) ss) →
    (f ≡ g) × (c ≡ d) × (k ≡ l) × Convs E ts ss

abbrev pub PrimTyInjective : Env → Type 0
PrimTyInjective E = (p r : PrimTy) (ts ss : Terms) → Conv E (TypeOf p ts) (TypeOf r ss) → (p ≡ r) × Convs E ts ss

-- IO and IO1 differ, and each is injective
abbrev pub IoInjective : Env → Type 0
IoInjective E = (m n : Io) (A B : Term) → Conv E (IoTy m A) (IoTy n B) → (m ≡ n) × Conv E A B

pub record Injective (E : Env) : Type 0 where
  pub rigid : RigidInjective E
  pub sorts : SortInjective E
  pub functions : PiInjective E
  pub families : FamInjective E
  pub constructors : ConInjective E
  pub primitive_types : PrimTyInjective E
  pub actions : IoInjective E
