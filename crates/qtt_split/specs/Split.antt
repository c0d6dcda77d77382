-- A split of a case tree: the family of the split variable, the equations of each constructor, which variables are
-- reverted, the motive, and the branches. Where a constructor is stuck, it may be a deletion.
use Rattle.std.specs.Prelude.{ℕ, zero, suc, Bool, true, false, cond, List, [], ◌∷◌, length, map, Option, Some, None}
use Rattle.std.specs.List.{filter}
use Rattle.qtt_base.specs.declared.place.Span.{Span}
use Rattle.qtt_base.specs.declared.place.GlobalId.{GlobalId}
use Rattle.qtt_base.specs.declared.limits.Quantity.TheVariants.{Leaves}
use Rattle.qtt_usage.specs.declared.mult.Mult.{Mult}
use Rattle.qtt_usage.specs.Mult.{𝟘}
use Rattle.qtt_term.specs.declared.term.ConId.{ConId}
use Rattle.qtt_term.specs.Term.{Term, Terms, ε, ◌▸◌, size, skip, Sort, Fam, same_id}
use Rattle.qtt_term.specs.Substitution.{subs, lifts, push, closed}
use Rattle.qtt_term.specs.Signature.{Tele, Env, ConSig, fam_at, family_at, eq_id, Refl}
use Rattle.qtt_term.specs.Judgement.{Ctx, Part, mult_at, type_at, sub_binds, scale, branch_type}
use Rattle.qtt_term.specs.Infer.{usable, Inferred, infer}
use Rattle.qtt_term.specs.Ask.{Ask, ◌>>=◌, asked_at}
use Rattle.qtt_term.specs.Entries.{Entries, env}
use Rattle.qtt_term.specs.Forms.{front}
use Rattle.qtt_rules.specs.Refusal.{Cause, Place, refused}
use Rattle.qtt_rules.specs.Asks.{Asks, need, found, head_of}
use Rattle.qtt_match.specs.Constructors.{named_constructor}
use Rattle.qtt_unify.specs.Targets.{Scrutinee, readings, is_free}
use Rattle.qtt_unify.specs.Equations.{Verdict, constructor_verdict}
use Rattle.qtt_unify.specs.Deletion.{Deletion, deletion}
use Rattle.qtt_split.specs.Constructors.{constructor_entry, labels_of}
use Rattle.qtt_split.specs.Tests.{Test, at}
use Rattle.qtt_split.specs.Seen.{oldest_first, live}
use Rattle.qtt_split.specs.Tree.{Splitting, Tree, Branches}
use Rattle.qtt_split.specs.Node.{Clause, Node, Examined}
use Rattle.qtt_split.specs.Branch.{mentions_some, reverted, made, stands, again, label_at, branch_node}
use Rattle.qtt_split.specs.Motive.{reverted_goal, some_form, motive, deletion_motive}

-- what a tree is made of: clauses, the first of which stands at this place, and the greatest number of leaves
pub record Group : Type 0 where
  pub globals : Entries
  pub part : Part
  pub clauses : List Clause
  pub first : Span
  pub limit : ℕ

-- a tree, and how many leaves more there may be
pub record Grown : Type 0 where
  pub tree : Tree
  pub left : ℕ

abbrev pub grown : Tree → ℕ → Grown
grown T left = record { tree = T; left = left }

abbrev pub Grows : Type 0
Grows = Node → ℕ → Asks Grown

-- one leaf more, where so many may be
abbrev pub count_leaf : Group → ℕ → Asks ℕ
count_leaf G zero = Ask.fail (refused (Cause.limit Leaves (suc G.limit)) (at G.first Test.leaves))
count_leaf G (suc left) = Ask.done left

-- ---- the variable that is split
pub record Division : Type 0 where
  pub span : Span
  -- the multiplicity of the match
  pub mult : Mult
  pub family : GlobalId
  pub over : Scrutinee

pub record FamilyAt : Type 0 where
  pub family : GlobalId
  pub params : Terms
  pub indices : Terms

abbrev pub family_with : ℕ → GlobalId → Terms → FamilyAt
family_with k f ts = record { family = f; params = front k ts; indices = skip k ts }

-- the family of a head, where it has the constructor
abbrev pub family_of : Env → Option ConId → Term → Option FamilyAt
family_of E (Some c) (Fam f ts) =
    cond (same_id c.family f) (Some (family_with (length (family_at E f).params) f ts)) None
family_of E _ _ = None

-- in the erased part a match is at 0
abbrev pub match_mult : Part → Mult → Mult
match_mult Part.run q = q
match_mult Part.erased q = 𝟘

unfoldable pub division : Group → Node → Examined → Asks Division
division G N x = do
  let Γ = N.context
  let A = type_at Γ x.variable
  h ← head_of (at x.span Test.of_family) (length Γ) A
  F ← found (family_of (env G.globals) (named_constructor G.globals.families x.constructor.target) h)
      (Cause.not_a_family (length Γ) A) (at x.span Test.of_family)
  ok ← need (usable G.part (mult_at Γ x.variable)) (Cause.erased_match (label_at N.labels x.variable))
      (at x.span Test.usable)
  ts ← readings (at x.span Test.equations) (length Γ) F.indices
  Ask.done (record {
    span = x.span;
    mult = match_mult G.part (mult_at Γ x.variable);
    family = F.family;
    over = record { context = Γ; variable = x.variable; params = F.params; indices = F.indices; targets = ts };
  })

-- ---- its constructors
-- the result indices under the fields, and behind them the constructor itself
abbrev pub results_of : Terms → ConSig → Terms
results_of ps c = subs [] (lifts (length c.fields) (push ps closed)) c.targets

abbrev pub fields_of : Mult → Terms → ConSig → Tele
fields_of q ps c = sub_binds (push ps closed) (scale q c.fields)

-- up to the first that is stuck
abbrev pub or_stop : Verdict → Asks (List Verdict) → Asks (List Verdict)
or_stop (Verdict.stuck n u t) others = Ask.done (Verdict.stuck n u t ∷ [])
or_stop v others = do
  vs ← others
  Ask.done (v ∷ vs)

abbrev pub verdicts : Env → Division → List ConSig → Asks (List Verdict)
verdicts E D [] = Ask.done []
verdicts E D (c ∷ cs) = do
  v ← constructor_verdict E (at D.span Test.equations) D.over (length c.fields) (results_of D.over.params c)
  or_stop v (verdicts E D cs)

abbrev pub first_stuck : List Verdict → Option Cause
first_stuck [] = None
first_stuck (Verdict.stuck n u t ∷ vs) = Some (Cause.pattern_stuck n u t)
first_stuck (v ∷ vs) = first_stuck vs

-- ---- reverted variables
-- the live variables that a split of x binds again, where these are solved
abbrev pub reverted_at : Node → ℕ → List ℕ → List (Mult × ℕ)
reverted_at N x free = reverted N.context (x ∷ free) (x ∷ free) (live (length N.context) N.seen)

abbrev pub free_variables : Scrutinee → List ℕ
free_variables S = filter (is_free S) (oldest_first (length S.context))

abbrev pub first_mentioning : List ℕ → Terms → Option Term
first_mentioning xs ε = None
first_mentioning xs (t ▸ ts) = cond (mentions_some xs t) (Some t) (first_mentioning xs ts)

-- the first that mentions a reverted variable is kept on both sides
abbrev pub nothing_there : Place → ℕ → Option Term → Asks (Unit {0})
nothing_there p n None = Ask.done tt
nothing_there p n (Some t) = Ask.fail (refused (Cause.pattern_stuck n t t) p)

abbrev pub unmentioned : Place → ℕ → List (Mult × ℕ) → Terms → Asks (Unit {0})
unmentioned p n rs ts = nothing_there p n (first_mentioning (map (λ b. b.1) rs) ts)

-- ---- the level of a goal: that of the Sort which is its type, and 0 where it has none
abbrev pub level_in : Term → ℕ
level_in (Sort l) = l
level_in _ = 0

unfoldable pub level_of : Env → Ctx → Place → Term → Asks ℕ
level_of E Γ p A =
    asked_at p (infer E Part.erased Γ A) (λ (j : Inferred). Ask.head p (length Γ) j.type (λ h. Ask.done (level_in h)))
    (λ e. Ask.done 0)

-- it is asked for where some index is a constructor form
abbrev pub level_where : Bool → Asks ℕ → Asks ℕ
level_where true level = level
level_where false level = Ask.done 0

-- ---- branches
-- a split in a node, with its motive and its reverted variables
pub record Site : Type 0 where
  pub group : Group
  pub node : Node
  pub division : Division
  pub motive : Term
  pub reverted : List (Mult × ℕ)

abbrev pub con_at : Site → ℕ → ConId
con_at W c = record { family = W.division.family; place = c }

-- constructor c of the split's parameters under its n fields
abbrev pub con_of_fields : Site → ℕ → ℕ → Term
con_of_fields W c n = made (con_at W c) W.division.over.params n

abbrev pub solved_node : Site → ℕ → ConSig → List (ℕ × Term) → Node
solved_node W c d s =
    branch_node W.node (fields_of W.division.mult W.division.over.params d)
    (labels_of (constructor_entry W.group.globals (con_at W c))) W.division.over.variable (con_at W c)
    (con_of_fields W c (length d.fields)) s W.reverted

abbrev pub solved_again : Site → ℕ → ConSig → List (ℕ × Term) → Tele
solved_again W c d s =
    again W.node.context W.reverted (stands W.division.over.variable (con_of_fields W c (length d.fields)) s
    (length d.fields))

pub record GrownBranches : Type 0 where
  pub branches : Branches
  pub left : ℕ

abbrev pub with_branch : ℕ → Tele → Tree → GrownBranches → GrownBranches
with_branch n again T bs = record { branches = Branches.branch_and n again T bs.branches; left = bs.left }

-- in the order of the constructors, from number c on; one that clashes is a leaf
abbrev pub branches : Grows → Site → ℕ → List ConSig → List Verdict → ℕ → Asks GrownBranches
branches grow W c (d ∷ ds) (Verdict.solved s ∷ vs) left = do
  g ← grow (solved_node W c d s) left
  bs ← branches grow W (suc c) ds vs g.left
  Ask.done (with_branch (length d.fields) (solved_again W c d s) g.tree bs)
branches grow W c (d ∷ ds) (v ∷ vs) left = do
  less ← count_leaf W.group left
  bs ← branches grow W (suc c) ds vs less
  Ask.done (with_branch (length d.fields) [] (Tree.absurd (branch_type (push W.division.over.params closed) d W.motive))
      bs)
branches grow W c _ _ left = Ask.done (record { branches = Branches.no_branch; left = left })

abbrev pub splitting : Site → Splitting
splitting W = record {
  variable = W.division.over.variable;
  mult = W.division.mult;
  family = W.division.family;
  params = W.division.over.params;
  indices = size W.division.over.targets;
  motive = W.motive;
  reverted = W.reverted;
}

-- no constructor is stuck
unfoldable pub split_by : Grows → Group → Node → Division → List Verdict → ℕ → Asks Grown
split_by grow G N D vs left = do
  let E = env G.globals
  let S = D.over
  let rs = reverted_at N S.variable (free_variables S)
  ok ← unmentioned (at D.span Test.parameters) (length N.context) rs S.params
  let goal = reverted_goal N.context rs N.goal
  l ← level_where (some_form S.targets) (level_of E N.context (at D.span Test.level) goal)
  let P = motive (record { env = E; family = D.family; params = S.params; level = l }) S.targets S.variable goal
  let W : Site = record { group = G; node = N; division = D; motive = P; reverted = rs }
  bs ← branches grow W 0 (fam_at E D.family).constructors vs left
  Ask.done (grown (Tree.split (splitting W) bs.branches) bs.left)

-- ---- deletion
abbrev pub refl_id : ConId
refl_id = record { family = eq_id; place = 0 }

unfoldable pub delete_by : Grows → Node → Division → Deletion → ℕ → Asks Grown
delete_by grow N D d left = do
  let x = D.over.variable
  let rs = reverted_at N x []
  let proof = Refl d.type d.point
  ok ← unmentioned (at D.span Test.endpoints) (length N.context) rs (d.type ▸ d.point ▸ ε)
  let P = deletion_motive x (reverted_goal N.context rs N.goal)
  g ← grow (branch_node N [] [] x refl_id proof [] rs) left
  Ask.done (grown (Tree.delete (record {
    variable = x;
    mult = D.mult;
    type = d.type;
    point = d.point;
    motive = P;
    reverted = rs;
  })
      (again N.context rs (stands x proof [] 0)) g.tree) g.left)

-- ---- a split
-- no constructor is stuck; or one is, which is a deletion or refused
abbrev pub split_or_delete : Grows → Group → Node → Division → List Verdict → ℕ → Option Cause → Asks Grown
split_or_delete grow G N D vs left None = split_by grow G N D vs left
split_or_delete grow G N D vs left (Some c) = do
  o ← deletion (at D.span Test.deletion) D.family D.over
  d ← found o c (at D.span Test.equations)
  delete_by grow N D d left

unfoldable pub split_at : Grows → Group → Node → Examined → ℕ → Asks Grown
split_at grow G N x left = do
  D ← division G N x
  vs ← verdicts (env G.globals) D (fam_at (env G.globals) D.family).constructors
  split_or_delete grow G N D vs left (first_stuck vs)
