-- The motive of a split: the goal under the reverted binders, where the split variable and the indices that are
-- variables are the motive's own binders; at an index that is a constructor form, an erased Case on that index.
use Rattle.std.specs.Prelude.{ℕ, zero, suc, ◌+◌, Bool, true, false, ◌||◌, cond, eqb, List, [], ◌∷◌, ◌++◌, length, map, drop}
use Rattle.qtt_base.specs.declared.place.GlobalId.{GlobalId}
use Rattle.qtt_usage.specs.declared.mult.Mult.{Mult}
use Rattle.qtt_usage.specs.Mult.{𝟘}
use Rattle.qtt_term.specs.Term.{Form, Term, Terms, var, node, ε, ◌▸◌, size, ◌+++◌, Sort, Pi, Lam, App, Fam}
use Rattle.qtt_term.specs.Substitution.{ren, sub, subs, shift, above}
use Rattle.qtt_term.specs.Signature.{Tele, Constructor, Env, family_at, UnitTy}
use Rattle.qtt_term.specs.Judgement.{Ctx}
use Rattle.qtt_term.specs.Forms.{front}
use Rattle.qtt_split.specs.Branch.{put, raised, made, again, bound_again}

abbrev pub pis : Tele → Term → Term
pis [] A = A
pis (b ∷ Θ) A = Pi b.0 b.1 (pis Θ A)

-- the goal under the reverted binders, in the node's context
abbrev pub reverted_goal : Ctx → List (Mult × ℕ) → Term → Term
reverted_goal Γ rs A = pis (again Γ rs var) (sub (bound_again rs var) A)

-- Unit at level 0, and above it the Sort below
abbrev pub fallback : ℕ → Term
fallback zero = UnitTy
fallback (suc l) = Sort l

abbrev pub is_form : Term → Bool
is_form (node (Form.con f c k) ts) = true
is_form _ = false

-- whether some index is a constructor form
abbrev pub some_form : Terms → Bool
some_form ε = false
some_form (t ▸ ts) = is_form t || some_form ts

-- ---- on the way through the targets
-- So many binders below the node: what stands for the node's variables; the indices of the scrutinee's type; the
-- variables at which the targets stand that are still to be gone through; the scrutinee.
pub record Way : Type 0 where
  pub depth : ℕ
  pub stands : ℕ → Term
  pub indices : Terms
  pub places : List ℕ
  pub scrutinee : ℕ

abbrev pub first_place : List ℕ → ℕ
first_place [] = 0
first_place (p ∷ ps) = p

-- n fields, the newest of which has m binders below it
abbrev pub field_places : ℕ → ℕ → List ℕ
field_places m zero = []
field_places m (suc n) = shift m n ∷ field_places m n

-- the next target is variable i of the node
abbrev pub at_variable : ℕ → Way → Way
at_variable i w = record {
  depth = w.depth;
  stands = put i (var (first_place w.places)) w.stands;
  indices = w.indices;
  places = drop 1 w.places;
  scrutinee = w.scrutinee;
}

-- the scrutinee's type: family f at these parameters of the node
abbrev pub scrutinee_type : GlobalId → Terms → ℕ → Terms → Term
scrutinee_type f ps depth is = Fam f (raised depth ps +++ is)

-- the indices under n binders more, with a term in the next target's place
abbrev pub indices_with : ℕ → Term → Way → Terms
indices_with n t w = subs [] (put (first_place w.places) t (λ i. var (shift n i))) w.indices

-- under n fields and a scrutinee of its own, with this constructor in the next target's place, whose fields are gone
-- through first
abbrev pub within_fields : ℕ → Term → Way → Way
within_fields n con w = record {
  depth = suc n + w.depth;
  stands = λ i. ren (shift (suc n)) (w.stands i);
  indices = raised 1 (indices_with n con w);
  places = field_places 1 n ++ map (shift (suc n)) (drop 1 w.places);
  scrutinee = 0;
}

-- the family that is split, its parameters, and the level of the goal
pub record Aim : Type 0 where
  pub env : Env
  pub family : GlobalId
  pub params : Terms
  pub level : ℕ

-- the branches of the index's family from constructor c on, and ts behind them: the index's own constructor goes on by
-- `next`, and each other is a function to the fallback
abbrev pub index_branches : Aim → Way → GlobalId → Terms → ℕ → (ℕ → Term → Way → Term) → ℕ → List Constructor → Terms →
    Terms
index_branches a w e qs own next c [] ts = ts
index_branches a w e qs own next c (d ∷ ds) ts =
    let n = length d.fields in
    let con = made (record { family = e; place = c }) (raised w.depth qs) n in
    Lam 𝟘 (scrutinee_type a.family a.params (n + w.depth) (indices_with n con w))
    (cond (eqb c own) (next n con w) (fallback a.level))
    ▸ index_branches a w e qs own next (suc c) ds ts

abbrev pub field_counts : List Constructor → List ℕ
field_counts [] = []
field_counts (d ∷ ds) = length d.fields ∷ field_counts ds

-- an erased Case on the variable of the next target, which has a constructor of family e with these parameters; applied
-- to the scrutinee
abbrev pub case_on_index : Aim → Way → GlobalId → Terms → ℕ → (ℕ → Term → Way → Term) → Term
case_on_index a w e qs own next =
    App 𝟘
    (node (Form.case 𝟘 e (size qs) 1 (field_counts (family_at a.env e).constructors))
    (raised w.depth qs
    +++ (Pi 𝟘 (scrutinee_type a.family a.params (suc w.depth) (indices_with 1 (var 0) w)) (Sort a.level)
    ▸ index_branches a w e qs own next 0 (family_at a.env e).constructors (var (first_place w.places) ▸ ε))))
    (var w.scrutinee)

abbrev mutual
  -- through one target, which is a variable or a constructor, and then on
  pub through : Aim → Term → Way → (Way → Term) → Term
  through a (var i) w next = next (at_variable i w)
  through a (node (Form.con e c k) ts) w next =
      case_on_index a w e (front k ts) c (λ n con v. through_all a ts k (within_fields n con v) next)
  through a (node F ts) w next = next w

  -- through the targets behind so many
  pub through_all : Aim → Terms → ℕ → Way → (Way → Term) → Term
  through_all a ε k w next = next w
  through_all a (t ▸ ts) (suc k) w next = through_all a ts k w next
  through_all a (t ▸ ts) zero w next = through a t w (λ v. through_all a ts zero v next)

-- the motive's body, under m indices and the scrutinee, where x is split and the goal stands under the reverted binders
unfoldable pub motive : Aim → Terms → ℕ → Term → Term
motive a targets x goal =
    let m = size targets in
    through_all a targets 0
    (record {
      depth = suc m;
      stands = λ i. var (shift (suc m) i);
      indices = above 1 m;
      places = field_places 1 m;
      scrutinee = 0;
    })
    (λ w. sub (put x (var w.scrutinee) w.stands) goal)

-- of a deletion: the proof alone is the motive's binder
abbrev pub deletion_motive : ℕ → Term → Term
deletion_motive x goal = sub (put x (var 0) (λ i. var (suc i))) goal
