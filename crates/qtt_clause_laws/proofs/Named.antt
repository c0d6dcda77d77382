-- Each clause that has a leaf in an accepted tree names constructors that are there: an induction over the splits.
use Rattle.std.proofs.Common.{◌≡◌, ℕ, zero, suc, ◌+◌, Bool, true, false, ◌||◌, eqb, List, [], ◌∷◌, ◌++◌, map, length, Option, Some, None, refl, sym, ap, subst, ◌∙◌, arith}
use Rattle.std.specs.List.{list_any}
use Rattle.std.proofs.lemmas.Bool.{eqb-true}
use Rattle.qtt_syntax.specs.declared.expr.Target.{Target}
use Rattle.qtt_syntax.specs.declared.expr.Target.TheVariants.{Unknown, Local, Global}
use Rattle.qtt_syntax.specs.Tree.{Shape, Shapes, shapes}
use Rattle.qtt_syntax.specs.Tree.Shape.{variable, wildcard, constructor, dot}
use Rattle.qtt_syntax.specs.Tree.Shapes.{no_shape, shape_and}
use Rattle.qtt_term.specs.declared.term.ConId.{ConId}
use Rattle.qtt_term.specs.Term.{Term, Terms}
use Rattle.qtt_term.specs.Substitution.{subs, above}
use Rattle.qtt_term.specs.Signature.{ConSig, Env, There, fam_at}
use Rattle.qtt_term.specs.Judgement.{Ctx, ext}
use Rattle.qtt_term.specs.Items.{constructor_of}
use Rattle.qtt_term.specs.Ask.{Ending, Ends}
use Rattle.qtt_term.specs.Entries.{Entries, env}
use Rattle.qtt_rules.specs.Refusal.{Cause}
use Rattle.qtt_match.specs.Constructors.{named_constructor, is_constructor}
use Rattle.qtt_unify.specs.Equations.{Verdict}
use Rattle.qtt_unify.specs.Deletion.{Deletion, deletion}
use Rattle.qtt_unify.proofs.Endings.{parts, ended}
use Rattle.qtt_split.specs.Tree.{Leaf, Tree, Branches, leaves, all_leaves}
use Rattle.qtt_split.specs.Branch.{moved_row}
use Rattle.qtt_split.specs.Motive.{Aim, motive, reverted_goal}
use Rattle.qtt_split.specs.Seen.{oldest_first}
use Rattle.qtt_split.specs.Node.{Clause, Row, Node, Settled, settle_all, Decision, decide, Examined, examined, all_constructors}
use Rattle.qtt_split.specs.Split.{Group, Grown, Grows as GrowsBy, count_leaf, Division, division, verdicts, first_stuck, reverted_at, free_variables, Site, solved_node, GrownBranches, branches, split_by, delete_by, split_or_delete, split_at}
use Rattle.qtt_split.specs.Plan.{width, so_wide, opened, start_columns, start_rows, start, patterns_at, with_rows, grow_at, grow_by, grow, Planned, plan}
use Rattle.qtt_split.specs.Group.{Defined, reaches, tree_of}
use Rattle.qtt_split.specs.Laws.{AllWide}
use Rattle.qtt_clause_laws.specs.Larger.{NamedAlike, AllNamedAlike, PatternsAlike, ClausesAlike}
use Rattle.qtt_clause_laws.specs.Named.{IsNamed, AllNamed, ClausesNamed, ReachedAreNamed, ConstructorsStay, NamedStay}
use Rattle.qtt_clause_laws.proofs.Asked.{needed}
use Rattle.qtt_clause_laws.proofs.Columns.{Reads, reads-moved, settled-reads, Stands, AllStand, AllOnVariables, settled-left, none-examined, all-stand}
use Rattle.qtt_clause_laws.proofs.Deciding.{decide-columns, decide-goes, decide-sticks, row-of}
use Rattle.qtt_clause_laws.proofs.Start.{start-columns, length-ext}
use Rattle.qtt_clause_laws.proofs.Planned.{all-wide, opened-as}

-- ---- what is read names constructors, where no constructor pattern is left
names-there : (f : _) (c : ℕ) (o : Option ConId) → is_constructor f c o ≡ true → There o
names-there f c None e = absurd (cc e)
names-there f c (Some d) e = tt

stands-named : (K : Entries) (p : Shape) → Stands p → IsNamed K p
stands-named K (variable m n s) a = tt
stands-named K (wildcard m s) a = tt
stands-named K (dot m x s) a = tt
stands-named K (constructor m h ps s) a = absurd a

reads-named : {K : Entries} {ps : Shapes} {ts : Terms} {cs : List _} → Reads K ps ts cs → AllStand cs → AllNamed K ps
reads-named Reads.none a = tt
reads-named {K} (Reads.beside {p = p} h) a = (stands-named K p a.0, reads-named h a.1)
reads-named {K} (Reads.within {h = g} {f = f} {c = c} {ds = ds} {cs = cs} n h k) a =
    let b = all-stand ds cs a in
    ((names-there f c (named_constructor K.families g.target) n, reads-named h b.0), reads-named k b.1)

-- ---- clauses that are left: each reads its patterns against some terms
record RowReads (K : Entries) (all : List Clause) (r : Row) : Type 0 where
  terms : Terms
  reads : Reads K (shapes (patterns_at all r.clause)) terms r.columns

abbrev RowsRead : Entries → List Clause → List Row → Type 0
RowsRead K all [] = Unit {0}
RowsRead K all (r ∷ rows) = RowReads K all r × RowsRead K all rows

rows-moved : (K : Entries) (all : List Clause) (δ : ℕ → Term) (rows : List Row) → RowsRead K all rows →
    RowsRead K all (map (moved_row δ) rows)
rows-moved K all δ [] h = tt
rows-moved K all δ (r ∷ rows) h = (
  record { terms = subs [] δ h.0.terms; reads = reads-moved δ h.0.reads },
  rows-moved K all δ rows h.1,
)

-- the clause that decides
record Decides (K : Entries) (all : List Clause) (r : Row) (rows : List Row) : Type 0 where
  all_read : RowsRead K all (r ∷ rows)
  on_variables : AllOnVariables r.columns

decides : (K : Entries) (all : List Clause) (rows others : List Row) (r : Row) → RowsRead K all rows →
    decide K rows ≡ Decision.decides r others → Decides K all r others
decides K all [] others r h e = absurd (cc e)
decides K all (q ∷ rows) others r h e =
    by_settled (settle_all K q.columns) refl (decides K all rows others r h.1)
  where
    by_settled : (o : Settled) → settle_all K q.columns ≡ o →
        (decide K rows ≡ Decision.decides r others → Decides K all r others) → Decides K all r others
    by_settled (Settled.columns cs) d rest =
        let a = row-of (sym (decide-columns K q rows cs d) ∙ e) in
        subst (λ (x : Row). Decides K all x others) a.0
        (subst (λ xs. Decides K all (record { clause = q.clause; columns = cs }) xs) a.1 (record {
          all_read = (record { terms = h.0.terms; reads = settled-reads K h.0.reads cs d }, h.1);
          on_variables = settled-left K q.columns cs d;
        }))
    by_settled Settled.goes d rest = rest (sym (decide-goes K q rows d) ∙ e)
    by_settled (Settled.sticks s t) d rest = absurd (cc (sym (decide-sticks K q rows s t d) ∙ e))

-- ---- what holds of the clause of each leaf
abbrev mutual
  EachLeaf : (ℕ → Type 0) → Tree → Type 0
  EachLeaf P (Tree.leaf l) = P l.clause
  EachLeaf P (Tree.split w bs) = EachBranch P bs
  EachLeaf P (Tree.delete d again T) = EachLeaf P T
  EachLeaf P (Tree.absurd A) = Unit {0}
  EachLeaf P (Tree.missing A ps) = Unit {0}

  EachBranch : (ℕ → Type 0) → Branches → Type 0
  EachBranch P Branches.no_branch = Unit {0}
  EachBranch P (Branches.branch_and n again T bs) = EachLeaf P T × EachBranch P bs

abbrev AllLeaves : (ℕ → Type 0) → List Leaf → Type 0
AllLeaves P [] = Unit {0}
AllLeaves P (l ∷ ls) = P l.clause × AllLeaves P ls

leaves-append : (P : ℕ → Type 0) (ls ks : List Leaf) → AllLeaves P ls → AllLeaves P ks → AllLeaves P (ls ++ ks)
leaves-append P [] ks h k = k
leaves-append P (l ∷ ls) ks h k = (h.0, leaves-append P ls ks h.1 k)

mutual
  of-leaves : (P : ℕ → Type 0) (T : Tree) → EachLeaf P T → AllLeaves P (leaves T)
  of-leaves P (Tree.leaf l) h = (h, tt)
  of-leaves P (Tree.split w bs) h = of-branches P bs h
  of-leaves P (Tree.delete d again T) h = of-leaves P T h
  of-leaves P (Tree.absurd A) h = tt
  of-leaves P (Tree.missing A ps) h = tt

  of-branches : (P : ℕ → Type 0) (bs : Branches) → EachBranch P bs → AllLeaves P (all_leaves bs)
  of-branches P Branches.no_branch h = tt
  of-branches P (Branches.branch_and n again T bs) h =
      leaves-append P (leaves T) (all_leaves bs) (of-leaves P T h.0) (of-branches P bs h.1)

some-leaf : (P : ℕ → Type 0) (n : ℕ) (ls : List Leaf) → AllLeaves P ls →
    list_any (λ (l : Leaf). eqb l.clause n) ls ≡ true → P n
some-leaf P n [] h e = absurd (cc e)
some-leaf P n (l ∷ ls) h e = by_test (eqb l.clause n) refl e (some-leaf P n ls h.1)
  where
    by_test : (b : Bool) → eqb l.clause n ≡ b → b || list_any (λ (k : Leaf). eqb k.clause n) ls ≡ true →
        (list_any (λ (k : Leaf). eqb k.clause n) ls ≡ true → P n) → P n
    by_test true t e rest = subst P (eqb-true l.clause n t) h.0
    by_test false t e rest = rest e

module _ (G : Group) where
  abbrev E : Env
  E = env G.globals

  abbrev IsNamedAt : ℕ → Type 0
  IsNamedAt n = AllNamed G.globals (shapes (patterns_at G.clauses n))

  abbrev GrowsNamed : GrowsBy → Type 0
  GrowsNamed g = (N : Node) (left : ℕ) (t : Grown) → RowsRead G.globals G.clauses N.rows →
      Ends E (g N left) (Ending.ok t) → EachLeaf IsNamedAt t.tree

  -- ---- branches
  branches-named : (g : GrowsBy) → GrowsNamed g → (W : Site) → RowsRead G.globals G.clauses W.node.rows →
      (c : ℕ) (ds : List ConSig) (vs : List Verdict) (left : ℕ) (bs : GrownBranches) →
      Ends E (branches g W c ds vs left) (Ending.ok bs) → EachBranch IsNamedAt bs.branches
  branches-named g k W h c [] vs left bs x =
      subst (λ (b : GrownBranches). EachBranch IsNamedAt b.branches) (ended _ _ x) tt
  branches-named g k W h c (d ∷ ds) [] left bs x =
      subst (λ (b : GrownBranches). EachBranch IsNamedAt b.branches) (ended _ _ x) tt
  branches-named g k W h c (d ∷ ds) (Verdict.solved s ∷ vs) left bs x =
      let a = parts (g (solved_node W c d s) left) _ bs x in
      let b = parts (branches g W (suc c) ds vs a.mid.left) _ bs a.after in
      subst (λ (z : GrownBranches). EachBranch IsNamedAt z.branches) (ended _ _ b.after) (
        k (solved_node W c d s) left a.mid (rows-moved G.globals G.clauses _ W.node.rows h) a.first,
        branches-named g k W h (suc c) ds vs a.mid.left b.mid b.first,
      )
  branches-named g k W h c (d ∷ ds) (Verdict.clash ∷ vs) left bs x =
      let a = parts (count_leaf W.group left) _ bs x in
      let b = parts (branches g W (suc c) ds vs a.mid) _ bs a.after in
      subst (λ (z : GrownBranches). EachBranch IsNamedAt z.branches) (ended _ _ b.after)
      (tt, branches-named g k W h (suc c) ds vs a.mid b.mid b.first)
  branches-named g k W h c (d ∷ ds) (Verdict.stuck p u t ∷ vs) left bs x =
      let a = parts (count_leaf W.group left) _ bs x in
      let b = parts (branches g W (suc c) ds vs a.mid) _ bs a.after in
      subst (λ (z : GrownBranches). EachBranch IsNamedAt z.branches) (ended _ _ b.after)
      (tt, branches-named g k W h (suc c) ds vs a.mid b.mid b.first)

  -- ---- a split
  split-named : (g : GrowsBy) → GrowsNamed g → (N : Node) → RowsRead G.globals G.clauses N.rows → (D : Division)
      (vs : List Verdict) (left : ℕ) (t : Grown) → Ends E (split_by g G N D vs left) (Ending.ok t) →
      EachLeaf IsNamedAt t.tree
  unfolding split_by
  split-named g k N h D vs left t x =
      let a = parts _ _ t x in
      let b = parts _ _ t a.after in
      let c = parts _ _ t b.after in
      let rs = reverted_at N D.over.variable (free_variables D.over) in
      let aim : Aim = record { env = E; family = D.family; params = D.over.params; level = b.mid } in
      let goal = reverted_goal N.context rs N.goal in
      let W : Site = record {
        group = G;
        node = N;
        division = D;
        motive = motive aim D.over.targets D.over.variable goal;
        reverted = rs;
      } in
      subst (λ (z : Grown). EachLeaf IsNamedAt z.tree) (ended _ _ c.after)
      (branches-named g k W h 0 (fam_at E D.family).constructors vs left c.mid c.first)

  delete-named : (g : GrowsBy) → GrowsNamed g → (N : Node) → RowsRead G.globals G.clauses N.rows → (D : Division)
      (d : Deletion) (left : ℕ) (t : Grown) → Ends E (delete_by g N D d left) (Ending.ok t) →
      EachLeaf IsNamedAt t.tree
  unfolding delete_by
  delete-named g k N h D d left t x =
      let a = parts _ _ t x in
      let b = parts _ _ t a.after in
      subst (λ (z : Grown). EachLeaf IsNamedAt z.tree) (ended _ _ b.after)
      (k _ left b.mid (rows-moved G.globals G.clauses _ N.rows h) b.first)

  either-named : (g : GrowsBy) → GrowsNamed g → (N : Node) → RowsRead G.globals G.clauses N.rows → (D : Division)
      (vs : List Verdict) (left : ℕ) (o : Option Cause) (t : Grown) →
      Ends E (split_or_delete g G N D vs left o) (Ending.ok t) → EachLeaf IsNamedAt t.tree
  either-named g k N h D vs left None t x = split-named g k N h D vs left t x
  either-named g k N h D vs left (Some c) t x =
      let a = parts (deletion _ D.family D.over) _ t x in
      let b = parts _ _ t a.after in
      delete-named g k N h D b.mid left t b.after

  split-at-named : (g : GrowsBy) → GrowsNamed g → (N : Node) → RowsRead G.globals G.clauses N.rows → (y : Examined)
      (left : ℕ) (t : Grown) → Ends E (split_at g G N y left) (Ending.ok t) → EachLeaf IsNamedAt t.tree
  unfolding split_at
  split-at-named g k N h y left t x =
      let a = parts (division G N y) _ t x in
      let b = parts (verdicts E a.mid (fam_at E a.mid.family).constructors) _ t a.after in
      either-named g k N h a.mid b.mid left (first_stuck b.mid) t b.after

  -- ---- growth
  examined-named : (g : GrowsBy) → GrowsNamed g → (N : Node) (r : Row) (rows : List Row) (left : ℕ)
      (o : Option Examined) → examined r.columns ≡ o → Decides G.globals G.clauses r rows → (t : Grown) →
      Ends E (grow_at g G (with_rows N (r ∷ rows)) r left o) (Ending.ok t) → EachLeaf IsNamedAt t.tree
  examined-named g k N r rows left None e d t x =
      let a = parts (count_leaf G left) _ t x in
      subst (λ (z : Grown). EachLeaf IsNamedAt z.tree) (ended _ _ a.after)
      (reads-named d.all_read.0.reads (none-examined r.columns d.on_variables e))
  examined-named g k N r rows left (Some y) e d t x =
      split-at-named g k (with_rows N (r ∷ rows)) d.all_read y left t x

  decided-named : (g : GrowsBy) → GrowsNamed g → (N : Node) → RowsRead G.globals G.clauses N.rows → (left : ℕ)
      (o : Decision) → decide G.globals N.rows ≡ o → (t : Grown) → Ends E (grow_by g G N left o) (Ending.ok t) →
      EachLeaf IsNamedAt t.tree
  decided-named g k N h left Decision.none_left e t x =
      let a = parts (count_leaf G left) _ t x in
      subst (λ (z : Grown). EachLeaf IsNamedAt z.tree) (ended _ _ a.after) tt
  decided-named g k N h left (Decision.stuck_on s u) e t x = elim x [ ]
  decided-named g k N h left (Decision.decides r rows) e t x =
      examined-named g k N r rows left (examined r.columns) refl
      (decides G.globals G.clauses N.rows rows r h e) t x

  grow-named : (splits : ℕ) → GrowsNamed (grow splits G)
  unfolding grow
  grow-named zero N left t h x =
      decided-named _ (λ M l u k y. subst (λ (z : Grown). EachLeaf IsNamedAt z.tree) (ended _ _ y) tt) N h left
      (decide G.globals N.rows) refl t x
  grow-named (suc n) N left t h x =
      decided-named (grow n G) (grow-named n) N h left (decide G.globals N.rows) refl t x

-- ---- the first node
start-reads : (K : Entries) (all : List Clause) (Γ : Ctx) (m : ℕ) (cs : List Clause) → AllWide (length Γ) cs →
    ((j : ℕ) → patterns_at cs j ≡ patterns_at all (m + j)) → RowsRead K all (start_rows Γ m cs)
start-reads K all Γ m [] w h = tt
start-reads K all Γ m (c ∷ cs) w h = (
  record {
    terms = above 0 (length Γ);
    reads = subst
        (λ ps. Reads K (shapes ps) (above 0 (length Γ)) (start_columns Γ c.patterns (oldest_first (length Γ))))
        (h 0 ∙ ap (patterns_at all) (omega arith)) (start-columns K Γ c.patterns (length Γ) w.0);
  },
  start-reads K all Γ (suc m) cs w.1 (λ j. h (suc j) ∙ ap (patterns_at all) (omega arith)),
)

plan-named : (G : Group) (A : Term) (labels : List (Option (List ℕ))) (P : Planned) →
    Ends (env G.globals) (plan G A labels) (Ending.ok P) → EachLeaf (IsNamedAt G) P.tree
unfolding plan
plan-named G A labels P x =
    let a = parts (so_wide (width G.clauses) G.clauses) _ P x in
    let b = parts _ _ P a.after in
    let c = parts (opened G.first (width G.clauses) [] A) _ P b.after in
    let d = parts _ _ P c.after in
    let n : length c.mid.binders ≡ width G.clauses = (opened-as G.first (width G.clauses) [] A c.mid c.first).count in
    let h = length-ext [] c.mid.binders in
    let e : length (ext [] c.mid.binders) ≡ width G.clauses = omega (arith, n, h) in
    subst (λ (z : Planned). EachLeaf (IsNamedAt G) z.tree) (ended _ P d.after)
    (grow-named G (all_constructors G.clauses) (start G labels c.mid) G.limit d.mid
    (start-reads G.globals G.clauses (ext [] c.mid.binders) 0 G.clauses
    (subst (λ k. AllWide k G.clauses) (sym e) (all-wide (width G.clauses) G.clauses a.mid a.first))
    (λ j. ap (patterns_at G.clauses) (omega arith)))
    d.first)

-- ---- each clause has a leaf
all-reached : (D : Defined) (ls : List Leaf) → AllLeaves (IsNamedAt D.group) ls → (m : ℕ) (cs : List Clause) →
    ((j : ℕ) → patterns_at cs j ≡ patterns_at D.group.clauses (m + j)) → (u : Unit {0}) →
    Ends (env D.group.globals) (reaches D ls m cs) (Ending.ok u) → ClausesNamed D.group.globals cs
all-reached D ls a m [] h u x = tt
all-reached D ls a m (c ∷ cs) h u x =
    let p = parts _ _ u x in (
      subst (λ ps. AllNamed D.group.globals (shapes ps)) (sym (h 0 ∙ ap (patterns_at D.group.clauses) (omega arith)))
          (some-leaf (IsNamedAt D.group) m ls a (needed _ _ _ p.mid p.first)),
      all-reached D ls a (suc m) cs (λ j. h (suc j) ∙ ap (patterns_at D.group.clauses) (omega arith)) u p.after,
    )

pub reached_are_named_holds : ReachedAreNamed
unfolding tree_of
reached_are_named_holds D P x =
    let a = parts (plan D.group D.type D.labels) _ P x in
    let b = parts _ _ P a.after in
    let c = parts (reaches D (leaves a.mid.tree) 0 D.group.clauses) _ P b.after in
    all-reached D (leaves a.mid.tree)
    (of-leaves (IsNamedAt D.group) a.mid.tree (plan-named D.group D.type D.labels a.mid a.first)) 0 D.group.clauses
    (λ j. ap (patterns_at D.group.clauses) (omega arith)) c.mid c.first

-- ---- names that stand for constructors stand for the same ones where these stay
target-stays : (K L : Entries) (t : Target) → ConstructorsStay K L → There (named_constructor K.families t) →
    named_constructor K.families t ≡ named_constructor L.families t
target-stays K L Unknown s h = refl
target-stays K L (Local i) s h = refl
target-stays K L (Global g) s h = by (constructor_of K.families g) refl h
  where
    by : (o : Option ConId) → constructor_of K.families g ≡ o → There o →
        constructor_of K.families g ≡ constructor_of L.families g
    by None e h = absurd h
    by (Some c) e h = e ∙ sym (s g c e)

module _ (K L : Entries) (stay : ConstructorsStay K L) where
  mutual
    alike : (p : Shape) → IsNamed K p → NamedAlike K L p
    alike (variable m n s) h = tt
    alike (wildcard m s) h = tt
    alike (dot m x s) h = tt
    alike (constructor m g ps s) h = (target-stays K L g.target stay h.0, all-alike ps h.1)

    all-alike : (ps : Shapes) → AllNamed K ps → AllNamedAlike K L ps
    all-alike no_shape h = tt
    all-alike (shape_and p ps) h = (alike p h.0, all-alike ps h.1)

  patterns-alike : (ps : List Shape) → AllNamed K (shapes ps) → PatternsAlike K L ps
  patterns-alike [] h = tt
  patterns-alike (p ∷ ps) h = (alike p h.0, patterns-alike ps h.1)

  clauses-alike : (cs : List Clause) → ClausesNamed K cs → ClausesAlike K L cs
  clauses-alike [] h = tt
  clauses-alike (c ∷ cs) h = (patterns-alike c.patterns h.0, clauses-alike cs h.1)

pub named_stay_holds : NamedStay
named_stay_holds K L cs n g f s = record { grows = g; stays = f; names = clauses-alike K L s cs n }

-- clauses that mean the same name constructors there too
module _ (K L : Entries) where
  mutual
    named-still : (p : Shape) → NamedAlike K L p → IsNamed K p → IsNamed L p
    named-still (variable m n s) a h = tt
    named-still (wildcard m s) a h = tt
    named-still (dot m x s) a h = tt
    named-still (constructor m g ps s) a h = (subst There a.0 h.0, all-named-still ps a.1 h.1)

    all-named-still : (ps : Shapes) → AllNamedAlike K L ps → AllNamed K ps → AllNamed L ps
    all-named-still no_shape a h = tt
    all-named-still (shape_and p ps) a h = (named-still p a.0 h.0, all-named-still ps a.1 h.1)

  patterns-named-still : (ps : List Shape) → PatternsAlike K L ps → AllNamed K (shapes ps) → AllNamed L (shapes ps)
  patterns-named-still [] a h = tt
  patterns-named-still (p ∷ ps) a h = (named-still p a.0 h.0, patterns-named-still ps a.1 h.1)

  pub clauses-named-still : (cs : List Clause) → ClausesAlike K L cs → ClausesNamed K cs → ClausesNamed L cs
  clauses-named-still [] a h = tt
  clauses-named-still (c ∷ cs) a h = (patterns-named-still c.patterns a.0 h.0, clauses-named-still cs a.1 h.1)
