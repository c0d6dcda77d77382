-- The clause law: a definition by clauses, applied to values, goes on as the first clause that fits.
use Rattle.std.specs.Prelude.{◌≡◌, ℕ, zero, suc, ◌+◌, List, [], ◌∷◌, length, reverse, Option, Some, None, slice_get}
use Rattle.qtt_base.specs.declared.place.GlobalId.{GlobalId}
use Rattle.qtt_usage.specs.declared.mult.Mult.{Mult}
use Rattle.qtt_syntax.specs.Tree.{Shape, shapes}
use Rattle.qtt_term.specs.declared.term.ConId.{ConId}
use Rattle.qtt_term.specs.Term.{Form, Term, Terms, var, node, ε, ◌▸◌, size, skip, ◌+++◌, App}
use Rattle.qtt_term.specs.Substitution.{sub, cons, push, closed, Closed}
use Rattle.qtt_term.specs.Signature.{Tele, Env, ConSig, fam_at}
use Rattle.qtt_term.specs.Contraction.{BodiesClosed, Conv}
use Rattle.qtt_term.specs.Judgement.{IsCon, Part, Judged, Args, TypedAll}
use Rattle.qtt_term.specs.Environment.{HasPrim}
use Rattle.qtt_term.specs.Value.{Value}
use Rattle.qtt_term.specs.FullStep.{Cause, Outcome, full_step}
use Rattle.qtt_term.specs.Ask.{Ending, Ends, within}
use Rattle.qtt_term.specs.Infer.{Inferred, infer}
use Rattle.qtt_term.specs.Entries.{Entries, env}
use Rattle.qtt_term.specs.Forms.{front}
use Rattle.qtt_rules.specs.Asks.{Asks}
use Rattle.qtt_rules.specs.Judged.{Judged as Answered, Judges, Mode}
use Rattle.qtt_match.specs.Match.{first_match, all_parts}
use Rattle.qtt_split.specs.Seen.{Seen, Sights}
use Rattle.qtt_split.specs.Tree.{Splitting, Tree, Branches, leaves, lams, glue}
use Rattle.qtt_split.specs.Motive.{pis}
use Rattle.qtt_split.specs.Node.{Clause, Column, Row, Node, Decision, decide, examined as next_examined, is_variable, terms_at, all_constructors}
use Rattle.qtt_split.specs.Split.{Group}
use Rattle.qtt_split.specs.Plan.{Opened, start, patterns_at, leaf_of, grow}
use Rattle.qtt_split.specs.Group.{Defined, body_of}
use Rattle.qtt_split.specs.Relation.{RightSides, gives, Made}

-- ---- values whose fields, those at 0 included, are such values
mutual
  pub data Deep (E : Env) : Term → Type 0 where
    whole : {f : GlobalId} {c k : ℕ} {ts : Terms} → Value E (node (Form.con f c k) ts) → AllDeep E (skip k ts) →
        Deep E (node (Form.con f c k) ts)
    plain : {t : Term} → Value E t → ((f : GlobalId) (c k : ℕ) (ts : Terms) → t ≡ node (Form.con f c k) ts → ⊥) →
        Deep E t

  pub data AllDeep (E : Env) : Terms → Type 0 where
    none : AllDeep E ε
    more : {t : Term} {ts : Terms} → Deep E t → AllDeep E ts → AllDeep E (t ▸ ts)

-- ---- full steps, one after another
pub data Reaches (E : Env) : Term → Term → Type 0 where
  there : {t : Term} → Reaches E t t
  by_step : {t s r : Term} → full_step E t ≡ Outcome.step s → Reaches E s r → Reaches E t r

-- ---- terms that are the same but for the parameters of constructors, which erasure drops
mutual
  pub data Alike : Term → Term → Type 0 where
    at_variable : {i : ℕ} → Alike (var i) (var i)
    inside : {F : Form} {ts ss : Terms} → AllAlike ts ss → Alike (node F ts) (node F ss)
    made : {f : GlobalId} {c k l : ℕ} {ts ss : Terms} → AllAlike (skip k ts) (skip l ss) →
        Alike (node (Form.con f c k) ts) (node (Form.con f c l) ss)

  pub data AllAlike : Terms → Terms → Type 0 where
    none : AllAlike ε ε
    more : {t s : Term} {ts ss : Terms} → Alike t s → AllAlike ts ss → AllAlike (t ▸ ts) (s ▸ ss)

-- ---- values in which each solved place holds its solution, which is the same so as the value that stands there
-- by what was seen of an opened binder, where π gives the values of a node's variables: its value, and the value that
-- is meant
mutual
  pub data Filled (same : Term → Term → Type 0) (π : ℕ → Term) : Seen → Term → Term → Type 0 where
    live : {i : ℕ} {v : Term} → π i ≡ v → Filled same π (Seen.open_at i) v v
    solved : {u v : Term} → same (sub π u) v → Filled same π (Seen.by_equation u) v (sub π u)
    examined : {c : ConId} {k : ℕ} {ss : Sights} {ts ws : Terms} → AllFilled same π ss (skip k ts) ws →
        Filled same π (Seen.made_of c ss) (node (Form.con c.family c.place k) ts)
        (node (Form.con c.family c.place k) (front k ts +++ ws))

  pub data AllFilled (same : Term → Term → Type 0) (π : ℕ → Term) : Sights → Terms → Terms → Type 0 where
    none : AllFilled same π Sights.no_sight ε ε
    more : {s : Seen} {ss : Sights} {v w : Term} {vs ws : Terms} → Filled same π s v w → AllFilled same π ss vs ws →
        AllFilled same π (Sights.sight_and s ss) (v ▸ vs) (w ▸ ws)

-- no place is solved
abbrev pub Unsolved : Term → Term → Type 0
Unsolved t v = ⊥

-- what the columns' terms are, where π gives the variables
abbrev pub column_values : (ℕ → Term) → List Column → Terms
column_values π [] = ε
column_values π (c ∷ cs) = sub π c.term ▸ column_values π cs

-- ---- where a term leads, which is a definition's body applied to vs: to a trap where no clause fits; else to the
-- right side of the first clause that fits, at the node of a leaf. There each column's term is the part of vs for
-- which its pattern stands, where each solved place holds its solution
pub data Follows (K : Entries) (same : Term → Term → Type 0) (cs : List Clause) (side : RightSides) (vs : Terms) :
    Term → Option ℕ → Type 0 where
  trapped : {t r : Term} → Reaches (env K) t r → full_step (env K) r ≡ Outcome.trap Cause.missing_clause →
      Follows K same cs side vs t None
  at_leaf : (N : Node) (r : Row) {rows : List Row} {π : ℕ → Term} {ws : Terms} {t s : Term} →
      decide K N.rows ≡ Decision.decides r rows → next_examined r.columns ≡ None →
      AllFilled same π N.seen vs ws →
      AllAlike (column_values π r.columns) (all_parts (shapes (patterns_at cs r.clause)) ws) →
      side N r s → Reaches (env K) t (sub π s) → Follows K same cs side vs t (Some r.clause)

-- ---- a group and its arguments
abbrev pub all_patterns : List Clause → List (List Shape)
all_patterns [] = []
all_patterns (c ∷ cs) = c.patterns ∷ all_patterns cs

-- each clause has so many patterns
abbrev pub AllWide : ℕ → List Clause → Type 0
AllWide n [] = Unit {0}
AllWide n (c ∷ cs) = (length c.patterns ≡ n) × AllWide n cs

abbrev pub applied_to : Term → Tele → Terms → Term
applied_to t (b ∷ Θ) (v ▸ vs) = applied_to (App b.0 t v) Θ vs
applied_to t _ _ = t

-- a group's tree under its opened binders, with the right sides at its leaves, as the relation makes it; no variable is
-- free
pub record MadeGroup (side : RightSides) (D : Defined) (O : Opened) (T : Tree) (sides : Terms) : Type 0 where
  pub wide : AllWide (length O.binders) D.group.clauses
  pub made : Made D.group.globals side (start D.group D.labels O) T sides ε
  pub closed : Closed (lams O.binders (glue T sides))

-- the body applied to these arguments goes on as the first clause that fits
abbrev pub GoesOn : (Term → Term → Type 0) → RightSides → Defined → Opened → Tree → Terms → Terms → Type 0
GoesOn same side D O T sides vs =
    Follows D.group.globals same D.group.clauses side vs (applied_to (lams O.binders (glue T sides)) O.binders vs)
    (first_match D.group.globals.families (all_patterns D.group.clauses) vs)

-- ---- the typed law: over arguments of the opened types, in the run part; solutions are convertible to what they solve
abbrev pub TypedClauseLaw : Type 0
TypedClauseLaw =
    (side : Node → Row → Term) (D : Defined) (O : Opened) (T : Tree) (sides : Terms) →
    HasPrim (env D.group.globals) → BodiesClosed (env D.group.globals) → MadeGroup (gives side) D O T sides →
    (vs : Terms) (js : List Judged) → AllDeep (env D.group.globals) vs → Args O.binders closed vs js →
    TypedAll (env D.group.globals) Part.run [] [] vs js →
    GoesOn (Conv (env D.group.globals)) (gives side) D O T sides vs

-- ---- the law without types: no split is of a family with indices, and where a split looks stands a constructor of its
-- family with all its fields
abbrev mutual
  pub Plain : Entries → Tree → Type 0
  Plain K (Tree.split w bs) = (w.indices ≡ 0) × AllPlain K bs
  Plain K (Tree.delete w Θ T) = ⊥
  Plain K _ = Unit {0}

  pub AllPlain : Entries → Branches → Type 0
  AllPlain K Branches.no_branch = Unit {0}
  AllPlain K (Branches.branch_and n Θ T bs) = Plain K T × AllPlain K bs

pub data BranchOf : ℕ → Branches → Tree → Type 0 where
  here : {n : ℕ} {Θ : Tele} {T : Tree} {bs : Branches} → BranchOf zero (Branches.branch_and n Θ T bs) T
  behind : {c n : ℕ} {Θ : Tele} {T U : Tree} {bs : Branches} → BranchOf c bs T →
      BranchOf (suc c) (Branches.branch_and n Θ U bs) T

-- the values of reverted variables for their new binders
abbrev pub with_reverted : (ℕ → Term) → List (Mult × ℕ) → (ℕ → Term) → ℕ → Term
with_reverted σ [] π = π
with_reverted σ (b ∷ rs) π = with_reverted σ rs (cons (σ b.1) π)

pub data Examines (K : Entries) : Tree → (ℕ → Term) → Type 0 where
  nothing : {T : Tree} {σ : ℕ → Term} → ((w : Splitting) (bs : Branches) → T ≡ Tree.split w bs → ⊥) → Examines K T σ
  a_constructor : {w : Splitting} {bs : Branches} {σ : ℕ → Term} {c k : ℕ} {d : ConSig} {ts : Terms} {T : Tree} →
      σ w.variable ≡ node (Form.con w.family c k) ts → IsCon (fam_at (env K) w.family).constructors c d →
      size (skip k ts) ≡ length d.fields →
      BranchOf c bs T → Examines K T (with_reverted σ w.reverted (push (skip k ts) σ)) → Examines K (Tree.split w bs) σ

abbrev pub PlainClauseLaw : Type 0
PlainClauseLaw =
    (side : Node → Row → Term) (D : Defined) (O : Opened) (T : Tree) (sides : Terms) →
    MadeGroup (gives side) D O T sides → Plain D.group.globals T →
    (vs : Terms) → size vs ≡ length O.binders → AllDeep (env D.group.globals) vs →
    Examines D.group.globals T (push vs closed) →
    GoesOn Unsolved (gives side) D O T sides vs

-- ---- what is accepted is made so
-- what lists of questions answer: within n contractions for each question, and without a bound
abbrev pub answers_within : Env → ℕ → {A : Type 0} → Asks A → A → Type 0
answers_within E n m a = within E n m ≡ Ending.ok a

abbrev pub answers : Env → {A : Type 0} → Asks A → A → Type 0
answers E m a = Ends E m (Ending.ok a)

-- one or the other, of the judgement of an expression
abbrev pub Replies : Type 1
Replies = Asks Answered → Answered → Type 0

-- a right side of a clause at a node, which is that of a leaf of the tree: the core that the judgement of its
-- expression answers there, where its pattern variables stand for its columns' terms
pub record Elaborated (says : Replies) (judge : Judges) (G : Group) (T : Tree) (N : Node) (r : Row) (t : Term) : Type 0
  where
    pub number : ℕ
    pub leaf : slice_get (leaves T) number ≡ Some (leaf_of G N r)
    pub clause : Clause
    pub there : slice_get G.clauses r.clause ≡ Some clause
    pub judged : Answered
    pub answered : says
        (judge G.part (record { vars = N.context; names = reverse (terms_at is_variable r.columns) })
        (Mode.check N.goal) clause.side) judged
    pub core : t ≡ judged.core

pub record MadeBody (says : Replies) (judge : Judges) (D : Defined) (body : Term) : Type 0 where
  pub opened : Opened
  pub tree : Tree
  pub sides : Terms
  -- the opened binders are the definition's argument types up to conversion
  pub opens : Conv (env D.group.globals) D.type (pis opened.binders opened.goal)
  pub made : MadeGroup (Elaborated says judge D.group tree) D opened tree sides
  pub is : body ≡ lams opened.binders (glue tree sides)

-- what the core judgement accepts under no variables mentions none
abbrev pub AcceptedIsClosed : Env → Type 0
AcceptedIsClosed E = (p : Part) (t : Term) (j : Inferred) → Ends E (infer E p [] t) (Ending.ok j) → Closed t

-- a body that is accepted, within a budget or without one, is assembled from a tree that the relation makes, with the
-- right sides as they are elaborated at its leaves
pub record BodiesAreMade : Type 0 where
  pub within_budget : (judge : Judges) (D : Defined) (n : ℕ) (body : Term) →
      answers_within (env D.group.globals) n (body_of judge D) body →
      MadeBody (answers_within (env D.group.globals) n) judge D body
  pub without : (judge : Judges) (D : Defined) (body : Term) →
      answers (env D.group.globals) (body_of judge D) body → MadeBody (answers (env D.group.globals)) judge D body

-- ---- as many splits as the clauses have constructor patterns are enough
abbrev pub SplitsAreEnough : Type 0
SplitsAreEnough =
    (G : Group) (labels : List (Option (List ℕ))) (O : Opened) (left more : ℕ) →
    grow (all_constructors G.clauses + more) G (start G labels O) left ≡ grow (all_constructors G.clauses) G
    (start G labels O) left
