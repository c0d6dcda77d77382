-- One split: what a typed closed value of the split's family is.
use Rattle.std.specs.Prelude.{◌≡◌, ℕ, List, [], ◌∷◌, length}
use Rattle.qtt_base.specs.declared.place.GlobalId.{GlobalId}
use Rattle.qtt_usage.specs.Uses.{Use}
use Rattle.qtt_term.specs.Term.{Form, Term, Terms, node, size, ◌+++◌, Fam}
use Rattle.qtt_term.specs.Substitution.{sub, subs, push, closed}
use Rattle.qtt_term.specs.Signature.{Constructor, con_sig, family_at, fam_at, Env, EqTy, Refl}
use Rattle.qtt_term.specs.Contraction.{Conv, BodiesClosed}
use Rattle.qtt_term.specs.Judgement.{IsCon, Part, Judged, Args, Typed}
use Rattle.qtt_term.specs.Environment.{HasPrim}
use Rattle.qtt_term.specs.Value.{Value}
use Rattle.qtt_preserve.specs.Within.{HasAll}
use Rattle.qtt_split.specs.Relation.{Convs, Clash, Solves}
use Rattle.qtt_split.specs.Split.{results_of}

-- a value of family f at parameters ps and indices is: a constructor of it, with all its fields, at convertible
-- parameters and indices
pub record Met (E : Env) (f : GlobalId) (ps is : Terms) (v : Term) : Type 0 where
  pub place : ℕ
  pub constructor_is : Constructor
  pub there : IsCon (fam_at E f).constructors place (con_sig f (length (family_at E f).params) place constructor_is)
  pub own : Terms
  pub fields : Terms
  pub shape : v ≡ node (Form.con f place (length (family_at E f).params)) (own +++ fields)
  pub own_sized : size own ≡ length (family_at E f).params
  pub sized : size fields ≡ length constructor_is.fields
  pub params_agree : Convs E own ps
  pub asked : List Judged
  pub args : Args constructor_is.fields (push own closed) fields asked
  pub typed : HasAll E Part.erased [] [] fields asked
  pub indices_agree : Convs E (subs [] (push fields (push own closed)) constructor_is.results) is

-- the result indices of a constructor that is met, under its fields, at parameters ps
abbrev pub results_met : Env → GlobalId → Terms → ℕ → Constructor → Terms
results_met E f ps c d = results_of ps (con_sig f (length (family_at E f).params) c d)

-- every solution is convertible to what it solves, σ giving the node's variables and π those of the branch
pub data Hold (E : Env) (σ π : ℕ → Term) : List (ℕ × Term) → Type 0 where
  none : Hold E σ π []
  more : {i : ℕ} {u : Term} {s : List (ℕ × Term)} → Conv E (sub π u) (σ i) → Hold E σ π s → Hold E σ π ((i, u) ∷ s)

-- A value of the type of a variable that is split, where σ gives the node's variables and the indices were read to the
-- targets: its constructor does not clash, and where it is solved, the solutions hold.
abbrev pub OneSplit : Type 0
OneSplit =
    (E : Env) → BodiesClosed E → (p : Part) (f : GlobalId) (ps is targets : Terms) (σ : ℕ → Term) (v : Term)
    (u : Use) →
    size ps ≡ length (family_at E f).params → Convs E is targets → Value E v →
    Typed E p [] v (sub σ (Fam f (ps +++ is))) u →
    (m : Met E f (subs [] σ ps) (subs [] σ is) v)
    × (Clash E targets (results_met E f ps m.place m.constructor_is) → ⊥)
    × ((s : List (ℕ × Term)) → Solves E targets (results_met E f ps m.place m.constructor_is) s →
    Hold E σ (push m.fields σ) s)

-- a value of Eq of Prim is a Refl of convertible type and point, and the point is convertible to the index
pub record IsRefl (E : Env) (A s i v : Term) : Type 0 where
  pub type : Term
  pub point : Term
  pub is : v ≡ Refl type point
  pub same_type : Conv E type A
  pub same_point : Conv E point s
  pub same_index : Conv E point i

abbrev pub OneDeletion : Type 0
OneDeletion =
    (E : Env) → HasPrim E → BodiesClosed E → (p : Part) (A s i v : Term) (u : Use) → Value E v →
    Typed E p [] v (EqTy A s i) u → IsRefl E A s i v
