-- The way through the targets of a split, one after another, and what the code's ways stand for.
use Rattle.std.specs.Prelude.{◌≡◌, ℕ, zero, suc, ◌+◌, cond, eqb, List, [], ◌∷◌, ◌++◌, length}
use Rattle.qtt_usage.specs.Mult.{𝟘}
use Rattle.qtt_term.specs.declared.term.ConId.{ConId}
use Rattle.qtt_term.specs.Term.{Form, Term, Terms, var, node, ε, ◌▸◌, Lam}
use Rattle.qtt_term.specs.Substitution.{shift, above}
use Rattle.qtt_term.specs.Entries.{Entries, entries, env}
use Rattle.qtt_term.specs.Forms.{front}
use Rattle.qtt_unify.specs.View.{all_terms}
use Rattle.qtt_split.specs.declared.ways.Way as code_way
use Rattle.qtt_split.specs.declared.steps.Step as code_step
use Rattle.qtt_split.specs.declared.steps.Step.TheVariants as code
use Rattle.qtt_split.specs.declared.frames.Aim as code_aim
use Rattle.qtt_split.specs.declared.frames.Frame as code_frame
use Rattle.qtt_split.specs.Branch.{raised, made}
use Rattle.qtt_split.specs.Constructors.{fields_at}
use Rattle.qtt_split.specs.Motive.{Way, Aim, field_places, at_variable, scrutinee_type, indices_with, within_fields, fallback, case_on_index}
use Rattle.qtt_split.specs.Substitution.{stands_for}

-- ---- the code's
abbrev pub way_of : code_way.Way → Way
way_of w = record {
  depth = w.depth;
  stands = stands_for w.stands;
  indices = all_terms w.indices.items;
  places = w.places.items;
  scrutinee = w.scrutinee;
}

abbrev pub aim_of : code_aim.Aim → Aim
aim_of a = record {
  env = env (entries a.globals.now);
  family = a.family;
  params = all_terms a.params.now;
  level = a.level;
}

-- ---- targets
-- under m indices and the scrutinee
abbrev pub begun : ℕ → Way
begun m = record {
  depth = suc m;
  stands = λ i. var (shift (suc m) i);
  indices = above 1 m;
  places = field_places 1 m;
  scrutinee = 0;
}

-- a variable of the node, or a constructor with its parameters, behind which its fields stand
pub data Step : Type 0 where
  at : ℕ → Step
  made_of : ConId → Terms → Step

abbrev mutual
  pub steps : Term → List Step
  steps (var i) = Step.at i ∷ []
  steps (node (Form.con e c k) ts) = Step.made_of (record { family = e; place = c }) (front k ts) ∷ all_steps ts k
  steps (node F ts) = []

  -- of the targets behind so many
  pub all_steps : Terms → ℕ → List Step
  all_steps ε k = []
  all_steps (t ▸ ts) (suc k) = all_steps ts k
  all_steps (t ▸ ts) zero = steps t ++ all_steps ts 0

abbrev pub step_of : code_step.Step → Step
step_of (code.Variable i) = Step.at i
step_of (code.Constructor c ps) = Step.made_of c (all_terms ps.now)

-- ---- a constructor on the way
-- its parameters stand in the node
pub record Frame : Type 0 where
  pub con : ConId
  pub params : Terms
  pub way : Way

abbrev pub frame_of : code_frame.Frame → Frame
frame_of f = record { con = f.con; params = all_terms f.params.now; way = way_of f.way }

-- the way through its fields, of which the environment has so many
abbrev pub inside : Entries → Frame → Way
inside K f =
    let n = length (fields_at K f.con.family f.con.place) in
    within_fields n (made f.con (raised f.way.depth f.params) n) f.way

-- a Case on it, whose own branch is this
abbrev pub case_in : Aim → Frame → Term → Term
case_in a f b = case_on_index a f.way f.con.family f.params f.con.place (λ n con w. b)

-- the branch of constructor c with n fields
abbrev pub branch_in : Aim → Frame → Term → ℕ → ℕ → Term
branch_in a f b c n =
    let con = made (record { family = f.con.family; place = c }) (raised f.way.depth f.params) n in
    Lam 𝟘 (scrutinee_type a.family a.params (n + f.way.depth) (indices_with n con f.way))
    (cond (eqb c f.con.place) b (fallback a.level))

-- so many Cases, one in the other, around this term
abbrev pub wrapped : Aim → List Frame → Term → Term
wrapped a [] t = t
wrapped a (f ∷ fs) t = case_in a f (wrapped a fs t)

-- ---- through steps
-- and then on
abbrev pub along : Aim → List Step → Way → (Way → Term) → Term
along a [] w next = next w
along a (Step.at i ∷ ss) w next = along a ss (at_variable i w) next
along a (Step.made_of c ps ∷ ss) w next =
    case_on_index a w c.family ps c.place (λ n con v. along a ss (within_fields n con v) next)

-- the way from w through these steps is v, behind these constructors
abbrev pub Leads : Aim → List Step → Way → List Frame → Way → Type 0
Leads a ss w fs v = (next : Way → Term) → along a ss w next ≡ wrapped a fs (next v)
