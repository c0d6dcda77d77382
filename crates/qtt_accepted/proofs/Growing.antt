-- No Tape stands in a case tree that grows: an induction over the splits.
use Rattle.std.proofs.Common.{◌≡◌, ℕ, zero, suc, Bool, true, false, cond, List, [], ◌∷◌, length, Option, Some, None, subst}
use Rattle.qtt_base.specs.declared.place.GlobalId.{GlobalId}
use Rattle.qtt_term.specs.declared.term.ConId.{ConId}
use Rattle.qtt_term.specs.Term.{Form, Term, Terms, node, same_id}
use Rattle.qtt_term.specs.Substitution.{lifts, push, closed, above}
use Rattle.qtt_term.specs.Signature.{ConSig, Constructor, Env, Refl, con_sigs, fam_at, family_at}
use Rattle.qtt_term.specs.Judgement.{type_at, branch_type}
use Rattle.qtt_term.specs.Ask.{Ending, Ends}
use Rattle.qtt_term.specs.Environment.{NoTape, NoTapes}
use Rattle.qtt_term.specs.Entries.{env}
use Rattle.qtt_term.proofs.Options.{none≢some, some-injective}
use Rattle.qtt_rules.specs.Refusal.{Cause, Place, Refusal}
use Rattle.qtt_rules.specs.Asks.{head_of}
use Rattle.qtt_core_check.proofs.Parts.{parts, ended}
use Rattle.qtt_unify.specs.Equations.{Verdict, constructor_verdict}
use Rattle.qtt_unify.specs.Deletion.{Deletion, deletion}
use Rattle.qtt_clause_laws.proofs.Asked.{found-is}
use Rattle.qtt_split.specs.Tests.{Test, at}
use Rattle.qtt_split.specs.Constructors.{labels_of, constructor_entry}
use Rattle.qtt_split.specs.Motive.{Aim, motive, reverted_goal}
use Rattle.qtt_split.specs.Node.{Row, Node, Examined, examined, Decision, decide, is_variable}
use Rattle.qtt_split.specs.Split.{Group, Grown, Grows, count_leaf, Division, FamilyAt, family_with, family_of, division, results_of, fields_of, or_stop, verdicts, first_stuck, reverted_at, free_variables, Site, con_at, con_of_fields, solved_node, solved_again, GrownBranches, branches, split_by, refl_id, delete_by, split_or_delete, split_at}
use Rattle.qtt_split.specs.Plan.{with_rows, grow_at, grow_by, grow}
use Rattle.qtt_accepted.specs.Tapeless.{TeleTapeless, ConstructorsTapeless, Tapeless}
use Rattle.qtt_accepted.proofs.Tapes.{Clean, substituted, all-substituted, lifts-clean, push-clean, closed-clean, joined, above-clean, front-clean, skip-clean, head-clean}
use Rattle.qtt_accepted.proofs.Motives.{made-clean, stands-clean, type-clean, again-clean, goal-clean, motive-clean, deletion-motive-clean, SolutionsTapeless}
use Rattle.qtt_accepted.proofs.Verdicts.{VerdictTapeless, constructor-clean, readings-clean, DeletionTapeless, deletion-clean}
use Rattle.qtt_accepted.proofs.Trees.{NodeTapeless, ColumnsTapeless, TreeTapeless, BranchesTapeless, scale-clean, binds-clean, DecisionTapeless, decide-clean, branch-clean, at-clean}

-- ---- signatures of constructors
record SigTapeless (d : ConSig) : Type 0 where
  fields : TeleTapeless d.fields
  targets : NoTapes d.targets

abbrev SigsTapeless : List ConSig → Type 0
SigsTapeless [] = Unit {0}
SigsTapeless (d ∷ ds) = SigTapeless d × SigsTapeless ds

sigs-clean : (f : GlobalId) (k c : ℕ) (ds : List Constructor) → ConstructorsTapeless ds →
    SigsTapeless (con_sigs f k c ds)
sigs-clean f k c [] h = tt
sigs-clean f k c (d ∷ ds) h = (
  record {
    fields = h.0.fields;
    targets =
        joined d.results _ h.0.results (
          (
            λ x. x,
            joined (above (length d.fields) k) (above 0 (length d.fields)) (above-clean (length d.fields) k)
                (above-clean 0 (length d.fields)),
          ),
          tt,
        );
  },
  sigs-clean f k (suc c) ds h.1,
)

abbrev VerdictsTapeless : List Verdict → Type 0
VerdictsTapeless [] = Unit {0}
VerdictsTapeless (v ∷ vs) = VerdictTapeless v × VerdictsTapeless vs

family-clean : (E : Env) (o : Option ConId) (h : Term) (F : FamilyAt) → family_of E o h ≡ Some F → NoTape h →
    NoTapes F.params × NoTapes F.indices
family-clean E (Some c) (node (Form.fam f) ts) F e n =
    let k = length (family_at E f).params in
    of-family (same_id c.family f) (family_with k f ts) e (front-clean k ts n.1) (skip-clean k ts n.1)
  where
    of-family : (b : Bool) (A : FamilyAt) → cond b (Some A) None ≡ Some F → NoTapes A.params → NoTapes A.indices →
        NoTapes F.params × NoTapes F.indices
    of-family true A q h k = subst (λ B. NoTapes B.params × NoTapes B.indices) (some-injective q) (h, k)
    of-family false A q h k = absurd (none≢some q)
family-clean E None h F e n = absurd (none≢some e)
family-clean E (Some c) _ F e n = absurd (none≢some e)

record DivisionTapeless (D : Division) : Type 0 where
  params : NoTapes D.over.params
  indices : NoTapes D.over.indices
  targets : NoTapes D.over.targets

record SiteTapeless (W : Site) : Type 0 where
  node : NodeTapeless W.node
  params : NoTapes W.division.over.params
  motive : NoTape W.motive

module _ (G : Group) (clean : Tapeless (env G.globals)) where
  abbrev E : Env
  E = env G.globals

  abbrev GrowsTapeless : Grows → Type 0
  GrowsTapeless g = (N : Node) (left : ℕ) (t : Grown) → NodeTapeless N → Ends E (g N left) (Ending.ok t) →
      TreeTapeless t.tree

  params-clean : (ps : Terms) → NoTapes ps → Clean (push ps closed)
  params-clean ps h = push-clean ps closed h closed-clean

  -- ---- what is split
  pub head-answer : (p : Place) (n : ℕ) (t h : Term) → NoTape t → Ends E (head_of p n t) (Ending.ok h) → NoTape h
  head-answer p n t h k (Ends.has_head {h = v} i x) = subst NoTape (ended _ _ x) (head-clean E clean t v i k)

  divided : (N : Node) (x : Examined) (D : Division) → NodeTapeless N → Ends E (division G N x) (Ending.ok D) →
      DivisionTapeless D
  unfolding division
  divided N x D h w =
      let v = parts _ _ D w in
      let a = parts _ _ D v.after in
      let b = parts _ _ D a.after in
      let c = parts _ _ D b.after in
      let f = family-clean E _ v.mid a.mid (found-is _ _ _ a.mid a.first)
      (head-answer _ _ (type_at N.context x.variable) v.mid (type-clean N.context x.variable h.context) v.first) in
      subst DivisionTapeless (ended _ _ c.after) (record {
        params = f.0;
        indices = f.1;
        targets = readings-clean E clean _ _ a.mid.indices c.mid f.1 c.first;
      })

  stop-clean : (v : Verdict) (others : _) (vs : List Verdict) → VerdictTapeless v →
      ((ws : List Verdict) → Ends E others (Ending.ok ws) → VerdictsTapeless ws) →
      Ends E (or_stop v others) (Ending.ok vs) → VerdictsTapeless vs
  stop-clean (Verdict.stuck n u t) others vs h k x = subst VerdictsTapeless (ended _ _ x) (tt, tt)
  stop-clean (Verdict.solved s) others vs h k x =
      let a = parts others _ vs x in subst VerdictsTapeless (ended _ _ a.after) (h, k a.mid a.first)
  stop-clean Verdict.clash others vs h k x =
      let a = parts others _ vs x in subst VerdictsTapeless (ended _ _ a.after) (h, k a.mid a.first)

  verdicts-clean : (D : Division) (ds : List ConSig) (vs : List Verdict) → NoTapes D.over.params → SigsTapeless ds →
      Ends E (verdicts E D ds) (Ending.ok vs) → VerdictsTapeless vs
  verdicts-clean D [] vs h k x = subst VerdictsTapeless (ended _ _ x) tt
  verdicts-clean D (d ∷ ds) vs h k x =
      let a = parts (constructor_verdict E _ D.over (length d.fields) (results_of D.over.params d)) _ vs x in
      stop-clean a.mid _ vs
      (constructor-clean E clean E _ D.over (length d.fields) (results_of D.over.params d)
      (all-substituted d.targets [] (lifts (length d.fields) (push D.over.params closed))
      (lifts-clean (length d.fields) (push D.over.params closed) (params-clean D.over.params h)) k.0.targets) a.mid
      a.first)
      (λ ws y. verdicts-clean D ds ws h k.1 y) a.after

  -- ---- branches
  con-clean : (W : Site) (c : ℕ) (d : ConSig) → SiteTapeless W → NoTape (con_of_fields W c (length d.fields))
  con-clean W c d h = made-clean (con_at W c) W.division.over.params (length d.fields) h.params

  solved-clean : (W : Site) (c : ℕ) (d : ConSig) (s : List (ℕ × Term)) → SiteTapeless W → SigTapeless d →
      SolutionsTapeless s → NodeTapeless (solved_node W c d s)
  solved-clean W c d s h k m =
      branch-clean W.node (fields_of W.division.mult W.division.over.params d)
      (labels_of (constructor_entry W.group.globals (con_at W c))) W.division.over.variable (con_at W c)
      (con_of_fields W c (length d.fields)) s W.reverted h.node
      (binds-clean (push W.division.over.params closed) _ (params-clean W.division.over.params h.params)
      (scale-clean W.division.mult d.fields k.fields)) (con-clean W c d h) m

  again-so : (W : Site) (c : ℕ) (d : ConSig) (s : List (ℕ × Term)) → SiteTapeless W → SolutionsTapeless s →
      TeleTapeless (solved_again W c d s)
  again-so W c d s h m =
      again-clean W.node.context W.reverted _ h.node.context
      (stands-clean W.division.over.variable (con_of_fields W c (length d.fields)) s (length d.fields)
      (con-clean W c d h) m)

  absurd-clean : (W : Site) (d : ConSig) → SiteTapeless W → SigTapeless d →
      NoTape (branch_type (push W.division.over.params closed) d W.motive)
  absurd-clean W d h k =
      let σ = push W.division.over.params closed in
      substituted W.motive _ (push-clean _ _
      (all-substituted d.targets [] (lifts (length d.fields) σ)
      (lifts-clean (length d.fields) σ (params-clean W.division.over.params h.params)) k.targets) (λ i. tt)) h.motive

  branches-clean : (g : Grows) → GrowsTapeless g → (W : Site) → SiteTapeless W → (c : ℕ) (ds : List ConSig)
      (vs : List Verdict) (left : ℕ) (bs : GrownBranches) → SigsTapeless ds → VerdictsTapeless vs →
      Ends E (branches g W c ds vs left) (Ending.ok bs) → BranchesTapeless bs.branches
  branches-clean g k W h c [] vs left bs m n x =
      subst (λ (b : GrownBranches). BranchesTapeless b.branches) (ended _ _ x) tt
  branches-clean g k W h c (d ∷ ds) [] left bs m n x =
      subst (λ (b : GrownBranches). BranchesTapeless b.branches) (ended _ _ x) tt
  branches-clean g k W h c (d ∷ ds) (Verdict.solved s ∷ vs) left bs m n x =
      let a = parts (g (solved_node W c d s) left) _ bs x in
      let b = parts (branches g W (suc c) ds vs a.mid.left) _ bs a.after in
      subst (λ (b : GrownBranches). BranchesTapeless b.branches) (ended _ _ b.after) (
        again-so W c d s h n.0,
        (
          k (solved_node W c d s) left a.mid (solved-clean W c d s h m.0 n.0) a.first,
          branches-clean g k W h (suc c) ds vs a.mid.left b.mid m.1 n.1 b.first,
        ),
      )
  branches-clean g k W h c (d ∷ ds) (Verdict.clash ∷ vs) left bs m n x =
      let a = parts (count_leaf W.group left) _ bs x in
      let b = parts (branches g W (suc c) ds vs a.mid) _ bs a.after in
      subst (λ (b : GrownBranches). BranchesTapeless b.branches) (ended _ _ b.after)
      (tt, (absurd-clean W d h m.0, branches-clean g k W h (suc c) ds vs a.mid b.mid m.1 n.1 b.first))
  branches-clean g k W h c (d ∷ ds) (Verdict.stuck p u t ∷ vs) left bs m n x =
      let a = parts (count_leaf W.group left) _ bs x in
      let b = parts (branches g W (suc c) ds vs a.mid) _ bs a.after in
      subst (λ (b : GrownBranches). BranchesTapeless b.branches) (ended _ _ b.after)
      (tt, (absurd-clean W d h m.0, branches-clean g k W h (suc c) ds vs a.mid b.mid m.1 n.1 b.first))

  constructors-clean : (f : GlobalId) → SigsTapeless (fam_at E f).constructors
  constructors-clean f = sigs-clean f (length (family_at E f).params) 0 _ (clean.families f).constructors

  -- ---- a split
  split-clean : (g : Grows) → GrowsTapeless g → (N : Node) → NodeTapeless N → (D : Division) → DivisionTapeless D →
      (vs : List Verdict) → VerdictsTapeless vs → (left : ℕ) (t : Grown) →
      Ends E (split_by g G N D vs left) (Ending.ok t) → TreeTapeless t.tree
  unfolding split_by
  split-clean g k N h D d vs n left t x =
      let a = parts _ _ t x in
      let b = parts _ _ t a.after in
      let c = parts _ _ t b.after in
      let rs = reverted_at N D.over.variable (free_variables D.over) in
      let aim : Aim = record { env = E; family = D.family; params = D.over.params; level = b.mid } in
      let goal = reverted_goal N.context rs N.goal in
      let P = motive-clean aim d.params D.over.targets D.over.variable goal d.targets
      (goal-clean N.context rs N.goal h.context h.goal) in
      let W : Site = record {
        group = G;
        node = N;
        division = D;
        motive = motive aim D.over.targets D.over.variable goal;
        reverted = rs;
      } in
      subst (λ (z : Grown). TreeTapeless z.tree) (ended _ _ c.after) (
        record { params = d.params; motive = P },
        branches-clean g k W (record { node = h; params = d.params; motive = P }) 0 _ vs left c.mid
            (constructors-clean D.family) n c.first,
      )

  delete-clean : (g : Grows) → GrowsTapeless g → (N : Node) → NodeTapeless N → (D : Division) (d : Deletion) →
      DeletionTapeless d → (left : ℕ) (t : Grown) → Ends E (delete_by g N D d left) (Ending.ok t) →
      TreeTapeless t.tree
  unfolding delete_by
  delete-clean g k N h D d m left t x =
      let a = parts _ _ t x in
      let b = parts _ _ t a.after in
      let rs = reverted_at N D.over.variable [] in
      let proof : NoTape (Refl d.type d.point) = (λ x. x, (m.type, (m.point, tt))) in
      subst (λ (z : Grown). TreeTapeless z.tree) (ended _ _ b.after) (
        record {
          type = m.type;
          point = m.point;
          motive = deletion-motive-clean D.over.variable (reverted_goal N.context rs N.goal)
              (goal-clean N.context rs N.goal h.context h.goal);
        },
        (
          again-clean N.context rs _ h.context (stands-clean D.over.variable _ [] 0 proof tt),
          k _ left b.mid (branch-clean N [] [] D.over.variable refl_id _ [] rs h tt proof tt) b.first,
        ),
      )

  either-clean : (g : Grows) → GrowsTapeless g → (N : Node) → NodeTapeless N → (D : Division) → DivisionTapeless D →
      (vs : List Verdict) → VerdictsTapeless vs → (left : ℕ) (o : Option Cause) (t : Grown) →
      Ends E (split_or_delete g G N D vs left o) (Ending.ok t) → TreeTapeless t.tree
  either-clean g k N h D d vs n left None t x = split-clean g k N h D d vs n left t x
  either-clean g k N h D d vs n left (Some c) t x =
      let p = at D.span Test.deletion in
      let a = parts (deletion p D.family D.over) _ t x in
      let b = parts _ _ t a.after in
      let i = found-is _ _ _ b.mid b.first in
      delete-clean g k N h D b.mid
      (deletion-clean p D.family D.over d.params b.mid
      (subst (λ o. Ends E {F = Refusal} (deletion p D.family D.over) (Ending.ok o)) i a.first)) left t b.after

  at-split : (g : Grows) → GrowsTapeless g → (N : Node) → NodeTapeless N → (x : Examined) (left : ℕ) (t : Grown) →
      Ends E (split_at g G N x left) (Ending.ok t) → TreeTapeless t.tree
  unfolding split_at
  at-split g k N h x left t w =
      let a = parts (division G N x) _ t w in
      let b = parts (verdicts E a.mid (fam_at E a.mid.family).constructors) _ t a.after in
      let d = divided N x a.mid h a.first in
      either-clean g k N h a.mid d b.mid
      (verdicts-clean a.mid (fam_at E a.mid.family).constructors b.mid d.params (constructors-clean a.mid.family)
      b.first) left (first_stuck b.mid) t b.after

  -- ---- growth
  examined-clean : (g : Grows) → GrowsTapeless g → (N : Node) → NodeTapeless N → (r : Row) →
      ColumnsTapeless r.columns → (left : ℕ) (o : Option Examined) (t : Grown) →
      Ends E (grow_at g G N r left o) (Ending.ok t) → TreeTapeless t.tree
  examined-clean g k N h r c left None t x =
      let a = parts (count_leaf G left) _ t x in
      subst (λ (z : Grown). TreeTapeless z.tree) (ended _ _ a.after)
      (record { names = at-clean is_variable r.columns c; goal = h.goal })
  examined-clean g k N h r c left (Some y) t x = at-split g k N h y left t x

  decided-clean : (g : Grows) → GrowsTapeless g → (N : Node) → NodeTapeless N → (left : ℕ) (o : Decision) →
      DecisionTapeless G.globals clean o → (t : Grown) → Ends E (grow_by g G N left o) (Ending.ok t) →
      TreeTapeless t.tree
  decided-clean g k N h left Decision.none_left d t x =
      let a = parts (count_leaf G left) _ t x in
      subst (λ (z : Grown). TreeTapeless z.tree) (ended _ _ a.after) h.goal
  decided-clean g k N h left (Decision.stuck_on s u) d t x = elim x [ ]
  decided-clean g k N h left (Decision.decides r rows) d t x =
      examined-clean g k (with_rows N (r ∷ rows)) (record { context = h.context; goal = h.goal; rows = d }) r d.0 left
      (examined r.columns) t x

  pub grow-clean : (splits : ℕ) → GrowsTapeless (grow splits G)
  unfolding grow
  grow-clean zero N left t h x =
      decided-clean _ (λ M l u k y. subst (λ (z : Grown). TreeTapeless z.tree) (ended _ _ y) k.goal) N h left
      (decide G.globals N.rows) (decide-clean G.globals clean N.rows h.rows) t x
  grow-clean (suc n) N left t h x =
      decided-clean (grow n G) (grow-clean n) N h left (decide G.globals N.rows)
      (decide-clean G.globals clean N.rows h.rows) t x
