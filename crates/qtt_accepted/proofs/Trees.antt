-- No Tape stands in a case tree, nor in what it is assembled to.
use Rattle.std.proofs.Common.{◌≡◌, ℕ, zero, suc, Bool, true, false, cond, List, [], ◌∷◌, ◌++◌, length, map, Option, Some, None, slice_get, refl, subst}
use Rattle.qtt_base.specs.declared.place.GlobalId.{GlobalId}
use Rattle.qtt_usage.specs.declared.mult.Mult.{Mult}
use Rattle.qtt_syntax.specs.Tree.{Shape, Shapes}
use Rattle.qtt_syntax.specs.Tree.Shape.{variable, wildcard, constructor, dot}
use Rattle.qtt_syntax.specs.Tree.Shapes.{no_shape, shape_and}
use Rattle.qtt_term.specs.Term.{Form, Term, Terms, var, node, ε, ◌▸◌, skip}
use Rattle.qtt_term.specs.Substitution.{sub, push, cons, closed}
use Rattle.qtt_term.specs.Signature.{Tele, Constructor, family_at}
use Rattle.qtt_term.specs.Judgement.{Ctx, ext, sub_binds, scale}
use Rattle.qtt_term.specs.Environment.{NoTape, NoTapes}
use Rattle.qtt_term.proofs.Options.{none≢some, some-injective}
use Rattle.qtt_term.specs.Entries.{Entries, env}
use Rattle.qtt_term.specs.Forms.{front}
use Rattle.qtt_match.specs.Constructors.{names_constructor}
use Rattle.qtt_split.specs.Constructors.{fields_of, fields_at}
use Rattle.qtt_split.specs.Branch.{stands, bound_again, again, moved_column, moved_row, branch_node}
use Rattle.qtt_split.specs.Tree.{Leaf, Splitting, Deleting, Tree, Branches, lams, apps, first_side, glue, glued, leaves}
use Rattle.qtt_split.specs.Node.{Column, Row, Node, Settled, before, settle, settle_fields, settle_all, Decision, decide, terms_at}
use Rattle.qtt_accepted.specs.Tapeless.{TeleTapeless, ConstructorsTapeless, Tapeless, NamesTapeless}
use Rattle.qtt_accepted.proofs.Tapes.{Clean, substituted, joined, skip-clean, front-clean, push-clean, cons-clean, closed-clean, lifts-clean}
use Rattle.qtt_accepted.proofs.Motives.{bound-clean, stands-clean, again-clean, SolutionsTapeless}

-- ---- nodes
pub record ColumnTapeless (c : Column) : Type 0 where
  pub term : NoTape c.term
  pub type : NoTape c.type

abbrev pub ColumnsTapeless : List Column → Type 0
ColumnsTapeless [] = Unit {0}
ColumnsTapeless (c ∷ cs) = ColumnTapeless c × ColumnsTapeless cs

abbrev pub RowsTapeless : List Row → Type 0
RowsTapeless [] = Unit {0}
RowsTapeless (r ∷ rows) = ColumnsTapeless r.columns × RowsTapeless rows

pub record NodeTapeless (N : Node) : Type 0 where
  pub context : TeleTapeless N.context
  pub goal : NoTape N.goal
  pub rows : RowsTapeless N.rows

-- ---- trees
pub record LeafTapeless (l : Leaf) : Type 0 where
  pub names : NamesTapeless l.names
  pub goal : NoTape l.goal

pub record SplittingTapeless (w : Splitting) : Type 0 where
  pub params : NoTapes w.params
  pub motive : NoTape w.motive

pub record DeletingTapeless (w : Deleting) : Type 0 where
  pub type : NoTape w.type
  pub point : NoTape w.point
  pub motive : NoTape w.motive

abbrev mutual
  pub TreeTapeless : Tree → Type 0
  TreeTapeless (Tree.leaf l) = LeafTapeless l
  TreeTapeless (Tree.split w bs) = SplittingTapeless w × BranchesTapeless bs
  TreeTapeless (Tree.delete w Θ T) = DeletingTapeless w × (TeleTapeless Θ × TreeTapeless T)
  TreeTapeless (Tree.absurd A) = NoTape A
  TreeTapeless (Tree.missing A ps) = NoTape A

  pub BranchesTapeless : Branches → Type 0
  BranchesTapeless Branches.no_branch = Unit {0}
  BranchesTapeless (Branches.branch_and n Θ T bs) = TeleTapeless Θ × (TreeTapeless T × BranchesTapeless bs)

-- ---- assembly
pub lams-clean : (Θ : Tele) (t : Term) → TeleTapeless Θ → NoTape t → NoTape (lams Θ t)
lams-clean [] t h k = k
lams-clean (b ∷ Θ) t h k = (λ x. x, (h.0, (lams-clean Θ t h.1 k, tt)))

apps-clean : (t : Term) (rs : List (Mult × ℕ)) → NoTape t → NoTape (apps t rs)
apps-clean t [] h = h
apps-clean t (b ∷ rs) h = apps-clean _ rs (λ x. x, (h, (tt, tt)))

first-clean : (ts : Terms) → NoTapes ts → NoTape (first_side ts)
first-clean ε h = tt
first-clean (t ▸ ts) h = h.0

mutual
  pub glue-clean : (T : Tree) (sides : Terms) → TreeTapeless T → NoTapes sides → NoTape (glue T sides)
  glue-clean (Tree.leaf l) sides h k = first-clean sides k
  glue-clean (Tree.split w bs) sides h k =
      apps-clean _ w.reverted
      (λ x. x, joined w.params _ h.0.params (h.0.motive, glued-clean bs sides _ h.1 k (tt, tt)))
  glue-clean (Tree.delete w Θ T) sides h k =
      apps-clean _ w.reverted (
        λ x. x,
        (
          h.0.type,
          (
            h.0.point,
            (
              h.0.motive,
              (
                lams-clean Θ (glue T sides) h.1.0 (glue-clean T sides h.1.1 k),
                (tt, tt),
              ),
            ),
          ),
        ),
      )
  glue-clean (Tree.absurd A) sides h k = (λ x. x, (h, tt))
  glue-clean (Tree.missing A ps) sides h k = (λ x. x, (h, tt))

  glued-clean : (bs : Branches) (sides scrutinee : Terms) → BranchesTapeless bs → NoTapes sides → NoTapes scrutinee →
      NoTapes (glued bs sides scrutinee)
  glued-clean Branches.no_branch sides s h k x = x
  glued-clean (Branches.branch_and n Θ T bs) sides s h k x = (
    lams-clean Θ (glue T sides) h.0 (glue-clean T sides h.1.0 k),
    glued-clean bs (skip (length (leaves T)) sides) s h.1.1 (skip-clean (length (leaves T)) sides k) x,
  )

-- ---- telescopes
pub scale-clean : (q : Mult) (Θ : Tele) → TeleTapeless Θ → TeleTapeless (scale q Θ)
scale-clean q [] h = tt
scale-clean q (b ∷ Θ) h = (h.0, scale-clean q Θ h.1)

pub binds-clean : (σ : ℕ → Term) (Θ : Tele) → Clean σ → TeleTapeless Θ → TeleTapeless (sub_binds σ Θ)
binds-clean σ [] c h = tt
binds-clean σ (b ∷ Θ) c h = (substituted b.1 σ c h.0, binds-clean _ Θ (lifts-clean 1 σ c) h.1)

pub ext-clean : (Γ : Ctx) (Θ : Tele) → TeleTapeless Γ → TeleTapeless Θ → TeleTapeless (ext Γ Θ)
ext-clean Γ [] h k = h
ext-clean Γ (b ∷ Θ) h k = ext-clean (b ∷ Γ) Θ (k.0, h) k.1

-- ---- settling
pub columns-joined : (cs ds : List Column) → ColumnsTapeless cs → ColumnsTapeless ds → ColumnsTapeless (cs ++ ds)
columns-joined [] ds h k = k
columns-joined (c ∷ cs) ds h k = (h.0, columns-joined cs ds h.1 k)

abbrev pub SettledTapeless : Settled → Type 0
SettledTapeless (Settled.columns cs) = ColumnsTapeless cs
SettledTapeless Settled.goes = Unit {0}
SettledTapeless (Settled.sticks s t) = Unit {0}

before-clean : (a b : Settled) → SettledTapeless a → SettledTapeless b → SettledTapeless (before a b)
before-clean (Settled.columns cs) (Settled.columns ds) h k = columns-joined cs ds h k
before-clean (Settled.columns cs) Settled.goes h k = tt
before-clean (Settled.columns cs) (Settled.sticks s t) h k = tt
before-clean Settled.goes b h k = tt
before-clean (Settled.sticks s t) b h k = tt

constructor-fields : (cs : List Constructor) (c : ℕ) → ConstructorsTapeless cs → (o : Option Constructor) →
    slice_get cs c ≡ o → TeleTapeless (fields_of o)
constructor-fields cs c h None e = tt
constructor-fields [] c h (Some d) e = absurd (none≢some e)
constructor-fields (x ∷ cs) zero h (Some d) e =
    subst (λ (z : Constructor). TeleTapeless z.fields) (some-injective e) h.0.fields
constructor-fields (x ∷ cs) (suc c) h (Some d) e = constructor-fields cs c h.1 (Some d) e

module _ (K : Entries) (clean : Tapeless (env K)) where
  fields-clean : (f : GlobalId) (c : ℕ) → TeleTapeless (fields_at K f c)
  fields-clean f c =
      constructor-fields (family_at (env K) f).constructors c (clean.families f).constructors _ refl

  mutual
    settle-clean : (p : Shape) (t A : Term) → NoTape t → NoTape A → SettledTapeless (settle K p t A)
    settle-clean (variable m n s) t A h k = (record { term = h; type = k }, tt)
    settle-clean (wildcard m s) t A h k = (record { term = h; type = k }, tt)
    settle-clean (dot m e s) t A h k = (record { term = h; type = k }, tt)
    settle-clean (constructor m h ps s) (var i) A x k = (record { term = tt; type = k }, tt)
    settle-clean (constructor m h ps s) (node (Form.con f c l) ts) A x k =
        matched (names_constructor K.families h f c)
        (settle-fields-clean ps (push (front l ts) closed) (fields_at K f c) (skip l ts)
        (push-clean (front l ts) closed (front-clean l ts x.1) closed-clean) (fields-clean f c) (skip-clean l ts x.1))
      where
        matched : (b : Bool) →
            SettledTapeless (settle_fields K ps (push (front l ts) closed) (fields_at K f c) (skip l ts)) →
            SettledTapeless (cond b (settle_fields K ps (push (front l ts) closed) (fields_at K f c) (skip l ts))
            Settled.goes)
        matched true g = g
        matched false g = tt
    settle-clean (constructor m h ps s) (node (Form.sort l) ts) A x k = tt
    settle-clean (constructor m h ps s) (node (Form.pi q) ts) A x k = tt
    settle-clean (constructor m h ps s) (node (Form.lam q) ts) A x k = tt
    settle-clean (constructor m h ps s) (node (Form.app q) ts) A x k = tt
    settle-clean (constructor m h ps s) (node (Form.fam f) ts) A x k = tt
    settle-clean (constructor m h ps s) (node (Form.case q f l n ns) ts) A x k = tt
    settle-clean (constructor m h ps s) (node (Form.delete q) ts) A x k = tt
    settle-clean (constructor m h ps s) (node (Form.named n) ts) A x k = tt
    settle-clean (constructor m h ps s) (node Form.trap ts) A x k = tt
    settle-clean (constructor m h ps s) (node (Form.tape n) ts) A x k = tt

    settle-fields-clean : (ps : Shapes) (σ : ℕ → Term) (Θ : Tele) (ts : Terms) → Clean σ → TeleTapeless Θ →
        NoTapes ts → SettledTapeless (settle_fields K ps σ Θ ts)
    settle-fields-clean no_shape σ [] ε c h k = tt
    settle-fields-clean no_shape σ [] (t ▸ ts) c h k = tt
    settle-fields-clean no_shape σ (b ∷ Θ) ts c h k = tt
    settle-fields-clean (shape_and p ps) σ [] ts c h k = tt
    settle-fields-clean (shape_and p ps) σ (b ∷ Θ) ε c h k = tt
    settle-fields-clean (shape_and p ps) σ (b ∷ Θ) (t ▸ ts) c h k =
        before-clean (settle K p t (sub σ b.1)) (settle_fields K ps (cons t σ) Θ ts)
        (settle-clean p t (sub σ b.1) k.0 (substituted b.1 σ c h.0))
        (settle-fields-clean ps (cons t σ) Θ ts (cons-clean t σ k.0 c) h.1 k.1)

  settle-all-clean : (cs : List Column) → ColumnsTapeless cs → SettledTapeless (settle_all K cs)
  settle-all-clean [] h = tt
  settle-all-clean (c ∷ cs) h =
      before-clean (settle K c.pattern c.term c.type) (settle_all K cs)
      (settle-clean c.pattern c.term c.type h.0.term h.0.type) (settle-all-clean cs h.1)

  abbrev pub DecisionTapeless : Decision → Type 0
  DecisionTapeless Decision.none_left = Unit {0}
  DecisionTapeless (Decision.stuck_on s t) = Unit {0}
  DecisionTapeless (Decision.decides r rows) = ColumnsTapeless r.columns × RowsTapeless rows

  pub decide-clean : (rows : List Row) → RowsTapeless rows → DecisionTapeless (decide K rows)
  decide-clean [] h = tt
  decide-clean (r ∷ rows) h =
      by_settled (settle_all K r.columns) (settle-all-clean r.columns h.0) (decide-clean rows h.1)
    where
      by_settled : (a : Settled) → SettledTapeless a → DecisionTapeless (decide K rows) →
          DecisionTapeless (elim a [
            | Settled.columns cs ↦ Decision.decides (record { clause = r.clause; columns = cs }) rows
            | Settled.goes ↦ decide K rows
            | Settled.sticks s t ↦ Decision.stuck_on s t
          ])
      by_settled (Settled.columns cs) k g = (k, h.1)
      by_settled Settled.goes k g = g
      by_settled (Settled.sticks s t) k g = tt

-- ---- nodes of branches
rows-moved : (δ : ℕ → Term) (rows : List Row) → Clean δ → RowsTapeless rows → RowsTapeless (map (moved_row δ) rows)
rows-moved δ [] c h = tt
rows-moved δ (r ∷ rows) c h = (columns-moved r.columns h.0, rows-moved δ rows c h.1)
  where
    columns-moved : (cs : List Column) → ColumnsTapeless cs → ColumnsTapeless (map (moved_column δ) cs)
    columns-moved [] k = tt
    columns-moved (x ∷ cs) k = (
      record { term = substituted x.term δ c k.0.term; type = substituted x.type δ c k.0.type },
      columns-moved cs k.1,
    )

pub branch-clean : (N : Node) (Θ : Tele) (names : List (Option (List ℕ))) (x : ℕ) (c : _) (con : Term)
    (s : List (ℕ × Term)) (rs : List (Mult × ℕ)) → NodeTapeless N → TeleTapeless Θ → NoTape con → SolutionsTapeless s →
    NodeTapeless (branch_node N Θ names x c con s rs)
branch-clean N Θ names x c con s rs h k m n =
    let δ = stands x con s (length Θ) in
    let d : Clean δ = stands-clean x con s (length Θ) m n in
    record {
      context =
          ext-clean (ext N.context Θ) (again N.context rs δ) (ext-clean N.context Θ h.context k)
          (again-clean N.context rs δ h.context d);
      goal = substituted N.goal (bound_again rs δ) (bound-clean rs δ d) h.goal;
      rows = rows-moved (bound_again rs δ) N.rows (bound-clean rs δ d) h.rows;
    }

-- ---- the terms at a leaf
pub at-clean : (which : Shape → Bool) (cs : List Column) → ColumnsTapeless cs → NamesTapeless (terms_at which cs)
at-clean which [] h = tt
at-clean which (c ∷ cs) h = chosen (which c.pattern)
    (at-clean which cs h.1)
  where
    chosen : (b : Bool) → NamesTapeless (terms_at which cs) →
        NamesTapeless (cond b ((c.term, c.type) ∷ terms_at which cs) (terms_at which cs))
    chosen true g = (record { term = h.0.term; type = h.0.type }, g)
    chosen false g = g
