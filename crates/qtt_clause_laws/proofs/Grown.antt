-- A tree that grows is made by the relation.
use Rattle.std.proofs.Common.{◌≡◌, ℕ, zero, suc, ◌+◌, ◌≤◌, ◌<◌, List, [], ◌∷◌, ◌++◌, map, length, Bool, true, false, ◌&&◌, ◌||◌, not, cond, filter, Option, Some, None, refl, sym, ◌∙◌, ap, subst, arith}
use mathlib.Core.Path.{ap₂, subst₂}
use Rattle.qtt_base.specs.declared.place.GlobalId.{GlobalId}
use Rattle.qtt_usage.specs.declared.mult.Mult.{Mult}
use Rattle.qtt_term.specs.declared.term.ConId.{ConId}
use Rattle.qtt_term.specs.Term.{Form, Term, Terms, node, ε, ◌▸◌, skip, ◌+++◌, same_id, Fam}
use Rattle.qtt_term.specs.Signature.{ConSig, Env, family_at, fam_at, eq_id, EqTy, Refl}
use Rattle.qtt_term.specs.Contraction.{Conv}
use Rattle.qtt_term.specs.Judgement.{Ctx, InScope, mult_at, type_at}
use Rattle.qtt_term.specs.Ask.{Ask, Ending, Ends}
use Rattle.qtt_term.proofs.Options.{some-injective}
use Rattle.qtt_term.proofs.Same.{same_id-is}
use Rattle.qtt_rules.specs.Refusal.{Cause, Place, Refusal}
use Rattle.qtt_term.specs.Entries.{env}
use Rattle.qtt_match.specs.Constructors.{named_constructor}
use Rattle.qtt_split.specs.Constructors.{labels_of, constructor_entry}
use Rattle.qtt_split.specs.Seen.{oldest_first, live, any_shows, pattern_list}
use Rattle.qtt_unify.specs.Targets.{Scrutinee, is_linear}
use Rattle.qtt_unify.specs.Equations.{Verdict}
use Rattle.qtt_unify.specs.Deletion.{Deletion, of_points, deletion}
use Rattle.qtt_split.specs.Tree.{Leaf, Tree, Branches, leaves, all_leaves}
use Rattle.qtt_term.specs.Forms.{front}
use Rattle.qtt_split.specs.Node.{Row, Node, Decision, decide, Examined, examined, constructors_at, constructors_left}
use Rattle.qtt_split.specs.Branch.{is_among, mentions_some, reverted, stands, bound_again, branch_node, moved_row}
use Rattle.qtt_split.specs.Split.{Group, Grown, grown, Grows, Division, FamilyAt, family_with, family_of, division, results_of, fields_of, or_stop, verdicts, first_stuck, reverted_at, free_variables, Site, con_at, con_of_fields, solved_node, GrownBranches, branches, splitting, split_by, refl_id, delete_by, split_or_delete, split_at}
use Rattle.qtt_split.specs.Plan.{leaf_of, with_rows, grow_at, grow_by, grow}
use Rattle.qtt_split.specs.Relation.{RightSides, Convs, Clash, Solves, AllInScope, Made, MadeBranches}
use Rattle.qtt_split.proofs.Counting.{IsMade, is_made, examined_counts, decided, fewer}
use Rattle.qtt_split.proofs.Splits.{NotIn, not_reverted, made_again, made_there, first_among}
use Rattle.qtt_clause_laws.proofs.Shown.{front-skip}
use Rattle.qtt_unify.proofs.Endings.{parts, ended}
use Rattle.qtt_clause_laws.proofs.Asked.{head-asked, found-is}
use Rattle.qtt_clause_laws.proofs.Equated.{Judged, verdict-judged, read-all}

-- ---- what a division is
pub record Divided (E : Env) (N : Node) (x : ℕ) (D : Division) : Type 0 where
  pub same : D.over.variable ≡ x
  pub arguments : Terms
  pub conv : Conv E (type_at N.context x) (Fam D.family arguments)
  pub params : D.over.params ≡ front (length (family_at E D.family).params) arguments
  pub indices : D.over.indices ≡ skip (length (family_at E D.family).params) arguments
  pub targets : Convs E (skip (length (family_at E D.family).params) arguments) D.over.targets

cond-some : {A : Type 0} (b : Bool) (a c : A) → cond b (Some a) None ≡ Some c → a ≡ c
cond-some true a c e = cc e
cond-some false a c e = absurd (cc e)

record FamilyIs (E : Env) (h : Term) (F : FamilyAt) : Type 0 where
  arguments : Terms
  is : h ≡ Fam F.family arguments
  params : F.params ≡ front (length (family_at E F.family).params) arguments
  indices : F.indices ≡ skip (length (family_at E F.family).params) arguments

family-is : (E : Env) (o : Option ConId) (h : Term) (F : FamilyAt) → family_of E o h ≡ Some F → FamilyIs E h F
family-is E (Some c) (node (Form.fam f) ts) F e =
    subst (FamilyIs E (Fam f ts)) (cond-some (same_id c.family f) (family_with (length (family_at E f).params) f ts) F
    e) (record { arguments = ts; is = refl; params = refl; indices = refl })
family-is E None h F e = absurd (cc e)
family-is E (Some c) _ F e = absurd (cc e)

pub divided : (G : Group) (N : Node) (x : Examined) (D : Division) →
    Ends (env G.globals) (division G N x) (Ending.ok D) → Divided (env G.globals) N x.variable D
unfolding division
divided G N x D e =
    let E : Env = env G.globals in
    let a = parts _ _ D e in
    let b = parts _ _ D a.after in
    let c = parts _ _ D b.after in
    let d = parts _ _ D c.after in
    let cv = head-asked _ _ (type_at N.context x.variable) a.mid a.first in
    let F = family-is E (named_constructor G.globals.families x.constructor.target) a.mid b.mid
    (found-is _ _ _ b.mid b.first) in
    subst (Divided E N x.variable) (ended _ D d.after)
    (record {
      same = refl;
      arguments = F.arguments;
      conv = subst (Conv E (type_at N.context x.variable)) F.is cv;
      params = F.params;
      indices = F.indices;
      targets = subst (λ ts. Convs E ts d.mid) F.indices (read-all _ _ b.mid.indices d.mid d.first);
    })

-- ---- the constructors' verdicts
pub data AllJudged (E : Env) (D : Division) : List ConSig → List Verdict → Type 0 where
  none : AllJudged E D [] []
  solved : {c : ConSig} {cs : List ConSig} {s : List (ℕ × Term)} {vs : List Verdict} →
      Solves E D.over.targets (results_of D.over.params c) s → AllJudged E D cs vs →
      AllJudged E D (c ∷ cs) (Verdict.solved s ∷ vs)
  clash : {c : ConSig} {cs : List ConSig} {vs : List Verdict} → Clash E D.over.targets (results_of D.over.params c) →
      AllJudged E D cs vs → AllJudged E D (c ∷ cs) (Verdict.clash ∷ vs)

solves-of : {E : Env} {ts us : Terms} {s : List (ℕ × Term)} → Judged E ts us (Verdict.solved s) → Solves E ts us s
solves-of (Judged.solved h) = h

clash-of : {E : Env} {ts us : Terms} → Judged E ts us Verdict.clash → Clash E ts us
clash-of (Judged.clash h) = h

module _ (E : Env) (D : Division) where
  one-judged : (c : ConSig) (cs : List ConSig) (v : Verdict) (vs : List Verdict) →
      ((ws : List Verdict) → Ends E (verdicts E D cs) (Ending.ok ws) → first_stuck ws ≡ None → AllJudged E D cs ws) →
      Judged E D.over.targets (results_of D.over.params c) v → Ends E (or_stop v (verdicts E D cs)) (Ending.ok vs) →
      first_stuck vs ≡ None → AllJudged E D (c ∷ cs) vs
  one-judged c cs (Verdict.solved s) vs ih j e f =
      let a = parts (verdicts E D cs) _ vs e in
      let is = ended (Verdict.solved s ∷ a.mid) vs a.after in
      subst (AllJudged E D (c ∷ cs)) is (AllJudged.solved (solves-of j) (ih a.mid a.first (ap first_stuck is ∙ f)))
  one-judged c cs Verdict.clash vs ih j e f =
      let a = parts (verdicts E D cs) _ vs e in
      let is = ended (Verdict.clash ∷ a.mid) vs a.after in
      subst (AllJudged E D (c ∷ cs)) is (AllJudged.clash (clash-of j) (ih a.mid a.first (ap first_stuck is ∙ f)))
  one-judged c cs (Verdict.stuck m u t) vs ih j e f = absurd
      (cc (ap first_stuck (ended (Verdict.stuck m u t ∷ []) vs e) ∙ f))

  pub judged : (cs : List ConSig) (vs : List Verdict) → Ends E (verdicts E D cs) (Ending.ok vs) →
      first_stuck vs ≡ None → AllJudged E D cs vs
  judged [] vs e f = subst (AllJudged E D []) (ended [] vs e) AllJudged.none
  judged (c ∷ cs) vs e f =
      let a = parts _ _ vs e in
      one-judged c cs a.mid vs (judged cs) (verdict-judged _ D.over _ _ a.mid a.first) a.after f

-- ---- a deletion
record DeletionIs (E : Env) (ps is : Terms) (d : Deletion) : Type 0 where
  index : Term
  params : ps ≡ d.type ▸ d.point ▸ ε
  indices : is ≡ index ▸ ε
  conv : Conv E index d.point

points-are : {E : Env} (p : Place) (m : ℕ) (ps is : Terms) (d : Deletion) →
    Ends E (of_points {F = Refusal} p m ps is) (Ending.ok (Some d)) → DeletionIs E ps is d
points-are {E} p m (A ▸ s ▸ ε) (i ▸ ε) d (Ends.are_equal c x) =
    subst (DeletionIs E (A ▸ s ▸ ε) (i ▸ ε)) (some-injective
    (ended (Some (record { type = A; point = s })) (Some d) x))
    (record { index = i; params = refl; indices = refl; conv = c })
points-are p m (A ▸ s ▸ ε) (i ▸ ε) d (Ends.are_different c x) = absurd (cc (ended None (Some d) x))
points-are p m ε is d e = absurd (cc (ended None (Some d) e))
points-are p m (A ▸ ε) is d e = absurd (cc (ended None (Some d) e))
points-are p m (A ▸ s ▸ t ▸ ps) is d e = absurd (cc (ended None (Some d) e))
points-are p m (A ▸ s ▸ ε) ε d e = absurd (cc (ended None (Some d) e))
points-are p m (A ▸ s ▸ ε) (i ▸ j ▸ is) d e = absurd (cc (ended None (Some d) e))

tested : {E : Env} (p : Place) (m : ℕ) (b : Bool) (ps is : Terms) (d : Deletion) →
    Ends E (cond b (of_points {F = Refusal} p m ps is) (Ask.done None)) (Ending.ok (Some d)) →
    (b ≡ true) × DeletionIs E ps is d
tested p m true ps is d e = (refl, points-are p m ps is d e)
tested p m false ps is d e = absurd (cc (ended None (Some d) e))

deleted : {E : Env} (p : Place) (f : GlobalId) (S : Scrutinee) (o : Option Deletion) (d : Deletion) →
    Ends E (deletion {F = Refusal} p f S) (Ending.ok o) → o ≡ Some d → (f ≡ eq_id) × DeletionIs E S.params S.indices d
unfolding deletion
deleted {E} p f S o d e i =
    let r = tested p (length S.context) (same_id f eq_id) S.params S.indices d
    (subst (λ o. Ends E (deletion {F = Refusal} p f S) (Ending.ok o)) i e) in
    (same_id-is f eq_id r.0, r.1)

-- ---- reverted variables are in scope
in-scope : (Γ : Ctx) (i : ℕ) → i < length Γ → InScope Γ i
in-scope [] i h = absurd (omega arith)
in-scope (b ∷ Γ) zero h = tt
in-scope (b ∷ Γ) (suc i) h = let h' : suc i < suc (length Γ) = h in in-scope Γ i (omega arith)

abbrev AllBelow : ℕ → List ℕ → Type 0
AllBelow n [] = Unit {0}
AllBelow n (i ∷ is) = (i < n) × AllBelow n is

oldest-below : (m n : ℕ) → m ≤ n → AllBelow n (oldest_first m)
oldest-below zero n h = tt
oldest-below (suc m) n h = (omega arith, oldest-below m n (omega arith))

filter-below : (n : ℕ) (test : ℕ → Bool) (is : List ℕ) → AllBelow n is → AllBelow n (filter test is)
filter-below n test [] h = tt
filter-below n test (i ∷ is) h = by-test (test i) (filter-below n test is h.1)
  where
    by-test : (b : Bool) → AllBelow n (filter test is) → AllBelow n (cond b (i ∷ filter test is) (filter test is))
    by-test true k = (h.0, k)
    by-test false k = k

reverted-scope : (Γ : Ctx) (stay touched vs : List ℕ) → AllBelow (length Γ) vs →
    AllInScope Γ (reverted Γ stay touched vs)
reverted-scope Γ stay touched [] h = tt
reverted-scope Γ stay touched (v ∷ vs) h = by-test (not (is_among v stay) &&
    (is_linear (mult_at Γ v) || mentions_some touched (type_at Γ v))) (reverted-scope Γ stay (v ∷ touched) vs h.1)
    (reverted-scope Γ stay touched vs h.1)
  where
    by-test : (b : Bool) → AllInScope Γ (reverted Γ stay (v ∷ touched) vs) →
        AllInScope Γ (reverted Γ stay touched vs) →
        AllInScope Γ (cond b ((mult_at Γ v, v) ∷ reverted Γ stay (v ∷ touched) vs) (reverted Γ stay touched vs))
    by-test true k l = (in-scope Γ v h.0, k)
    by-test false k l = l

scope-at : (N : Node) (x : ℕ) (free : List ℕ) → AllInScope N.context (reverted_at N x free)
scope-at N x free = reverted-scope N.context (x ∷ free) (x ∷ free) (live (length N.context) N.seen)
    (filter-below (length N.context) (λ i. any_shows i N.seen) (oldest_first (length N.context))
    (oldest-below (length N.context) (length N.context) (omega arith)))

-- ---- a branch has one constructor pattern less behind the clause that decides
pub in-branch : (G : Group) (N : Node) (r : Row) (rows : List Row) (x : Examined) → examined r.columns ≡ Some x →
    (j : ℕ) → constructors_at r.columns + constructors_left rows ≤ suc j → (v : ℕ) → v ≡ x.variable →
    (Θ : List (Mult × Term)) (con : Term) (s : List (ℕ × Term)) (free : List ℕ) → IsMade con →
    decided (decide G.globals (map (moved_row
    (bound_again (reverted_at (with_rows N (r ∷ rows)) v free) (stands v con s (length Θ)))) (r ∷ rows))) ≤ j
in-branch G N r rows x e j few v p Θ con s free h =
    let M = with_rows N (r ∷ rows) in
    let rs = reverted_at M v free in
    let δ = bound_again rs (stands v con s (length Θ)) in
    let out : NotIn v rs = not_reverted M.context v (v ∷ free) (first_among v free) (v ∷ free)
    (live (length M.context) M.seen) in
    let there : IsMade (δ x.variable) = subst (λ y. IsMade (δ y)) p
    (made_again v rs (stands v con s (length Θ)) out (made_there v (length Θ) con s h)) in
    let less = fewer G.globals x δ there r rows e in
    omega arith

-- ---- right sides
-- terms for these leaves, from the front of a list, and what is left of it
pub data SidesOf (R : Leaf → Term → Type 0) : List Leaf → Terms → Terms → Type 0 where
  none : {left : Terms} → SidesOf R [] left left
  more : {l : Leaf} {ls : List Leaf} {t : Term} {ts left : Terms} → R l t → SidesOf R ls ts left →
      SidesOf R (l ∷ ls) (t ▸ ts) left

sides-split : {R : Leaf → Term → Type 0} (ls ks : List Leaf) {ts left : Terms} → SidesOf R (ls ++ ks) ts left →
    (mid : Terms) × SidesOf R ls ts mid × SidesOf R ks mid left
sides-split [] ks {ts} h = (ts, SidesOf.none, h)
sides-split (l ∷ ls) ks (SidesOf.more h hs) = let r = sides-split ls ks hs in (r.0, SidesOf.more h r.1, r.2)

module _ (G : Group) (R : Leaf → Term → Type 0) where
  abbrev E' : Env
  E' = env G.globals

  abbrev pub side_at_leaf : RightSides
  side_at_leaf = λ N r t. R (leaf_of G N r) t

  abbrev IsMadeSo : Node → Grown → Type 0
  IsMadeSo N g = (ts rest : Terms) → SidesOf R (leaves g.tree) ts rest → Made G.globals side_at_leaf N g.tree ts rest

  -- what grows at a node with at most j constructor patterns behind the clause that decides
  abbrev Makes : ℕ → Grows → Type 0
  Makes j g = (M : Node) (left : ℕ) (t : Grown) → decided (decide G.globals M.rows) ≤ j →
      Ends E' (g M left) (Ending.ok t) → IsMadeSo M t

  abbrev AreMadeSo : Site → ℕ → List ConSig → GrownBranches → Type 0
  AreMadeSo W c ds bs = (ts rest : Terms) → SidesOf R (all_leaves bs.branches) ts rest →
      MadeBranches G.globals side_at_leaf W.node (splitting W) W.division.over.targets c ds bs.branches ts rest

  branches-made : (g : Grows) (W : Site) → W.group ≡ G →
      ((c : ℕ) (d : ConSig) (s : List (ℕ × Term)) (left : ℕ) (t : Grown) →
      Ends E' (g (solved_node W c d s) left) (Ending.ok t) → IsMadeSo (solved_node W c d s) t) →
      (c : ℕ) {ds : List ConSig} {vs : List Verdict} → AllJudged E' W.division ds vs →
      (left : ℕ) (bs : GrownBranches) →
      Ends E' (branches g W c ds vs left) (Ending.ok bs) → AreMadeSo W c ds bs
  branches-made g W q h c AllJudged.none left bs e =
      subst (AreMadeSo W c []) (ended _ bs e) none-made
    where
      none-made : AreMadeSo W c [] (record { branches = Branches.no_branch; left = left })
      none-made ts rest SidesOf.none = MadeBranches.none
  branches-made g W q h c (AllJudged.solved {c = d} {cs = ds} {s = s} {vs = vs} so js) left bs e =
      let a = parts (g (solved_node W c d s) left) _ bs e in
      let b = parts (branches g W (suc c) ds vs a.mid.left) _ bs a.after in
      subst (AreMadeSo W c (d ∷ ds)) (ended _ bs b.after)
      (λ ts rest k.
      let r = sides-split (leaves a.mid.tree) (all_leaves b.mid.branches) k in
      MadeBranches.solved (labels_of (constructor_entry W.group.globals (con_at W c))) refl so refl
      (h c d s left a.mid a.first ts r.0 r.1)
      (branches-made g W q h (suc c) js a.mid.left b.mid b.first r.0 rest r.2))
  branches-made g W q h c (AllJudged.clash {c = d} {cs = ds} {vs = vs} cl js) left bs e =
      let a = parts _ _ bs e in
      let b = parts (branches g W (suc c) ds vs a.mid) _ bs a.after in
      subst (AreMadeSo W c (d ∷ ds)) (ended _ bs b.after)
      (λ ts rest k. MadeBranches.clashes refl cl (branches-made g W q h (suc c) js a.mid b.mid b.first ts rest k))

  module _ (N : Node) (r : Row) (rows : List Row) (d : decide G.globals N.rows ≡ Decision.decides r rows)
      (x : Examined) (e : examined r.columns ≡ Some x) (j : ℕ)
      (few : constructors_at r.columns + constructors_left rows ≤ suc j) (g : Grows) (child : Makes j g) where
    abbrev M : Node
    M = with_rows N (r ∷ rows)

    abbrev site : Division → Term → Site
    site D P = record {
      group = G;
      node = M;
      division = D;
      motive = P;
      reverted = reverted_at M D.over.variable
          (free_variables D.over);
    }

    site-made : (D : Division) → D.over.variable ≡ x.variable → (P : Term) {vs : List Verdict} →
        AllJudged E' D (fam_at E' D.family).constructors vs → (left : ℕ) (bs : GrownBranches) →
        Ends E' (branches g (site D P) 0 (fam_at E' D.family).constructors vs left) (Ending.ok bs) →
        AreMadeSo (site D P) 0 (fam_at E' D.family).constructors bs
    site-made D p P js left bs y =
        branches-made g (site D P) refl
        (λ k con s left t w. child (solved_node (site D P) k con s) left t
        (in-branch G N r rows x e j few D.over.variable p (fields_of D.mult D.over.params con)
        (con_of_fields (site D P) k (length con.fields)) s (free_variables D.over) is_made) w)
        0 js left bs y

    split-made : (D : Division) → Divided E' M x.variable D → (vs : List Verdict) →
        AllJudged E' D (fam_at E' D.family).constructors vs → (left : ℕ) (t : Grown) →
        Ends E' (split_by g G M D vs left) (Ending.ok t) → IsMadeSo N t
    unfolding split_by
    split-made D v vs js left t w =
        let a = parts _ _ t w in
        let b = parts _ _ t a.after in
        let c = parts _ _ t b.after in
        subst (IsMadeSo N) (ended _ t c.after)
        (λ ts rest k. Made.split d (scope-at M D.over.variable (free_variables D.over))
        (subst (λ y. Conv E' (type_at N.context y) (Fam D.family v.arguments)) (sym v.same) v.conv) v.params
        v.targets refl
        (site-made D v.same _ js left c.mid c.first ts rest k))

    delete-made : (D : Division) → Divided E' M x.variable D → (del : Deletion) → D.family ≡ eq_id →
        DeletionIs E' D.over.params D.over.indices del → (left : ℕ) (t : Grown) →
        Ends E' (delete_by g M D del left) (Ending.ok t) → IsMadeSo N t
    unfolding delete_by
    delete-made D v del q is left t w =
        let a = parts _ _ t w in
        let b = parts _ _ t a.after in
        let whole : v.arguments ≡ del.type ▸ del.point ▸ is.index ▸ ε =
        sym (front-skip (length (family_at E' D.family).params) v.arguments)
        ∙ ap₂ ◌+++◌ (sym v.params ∙ is.params) (sym v.indices ∙ is.indices) in
        subst (IsMadeSo N) (ended _ t b.after)
        (λ ts rest k. Made.delete d (scope-at M D.over.variable [])
        (subst (λ y. Conv E' (type_at N.context y) (EqTy del.type del.point is.index)) (sym v.same)
        (subst₂ (λ f ts. Conv E' (type_at N.context x.variable) (Fam f ts)) q whole v.conv)) is.conv refl
        (child (branch_node M [] [] D.over.variable refl_id (Refl del.type del.point) []
        (reverted_at M D.over.variable [])) left b.mid
        (in-branch G N r rows x e j few D.over.variable v.same [] (Refl del.type del.point) [] [] is_made) b.first ts
        rest k))

    either-made : (D : Division) → Divided E' M x.variable D → (vs : List Verdict) →
        Ends E' (verdicts E' D (fam_at E' D.family).constructors) (Ending.ok vs) → (left : ℕ) (o : Option Cause) →
        first_stuck vs ≡ o → (t : Grown) →
        Ends E' (split_or_delete g G M D vs left o) (Ending.ok t) → IsMadeSo N t
    either-made D v vs ws left None q t w = split-made D v vs (judged E' D (fam_at E' D.family).constructors vs ws q)
        left t w
    either-made D v vs ws left (Some c) q t w =
        let a = parts _ _ t w in
        let b = parts _ _ t a.after in
        let i = found-is _ _ _ b.mid b.first in
        let k = deleted _ D.family D.over a.mid b.mid a.first i in
        delete-made D v b.mid k.0 k.1 left t b.after

    pub split-at-made : (left : ℕ) (t : Grown) → Ends E' (split_at g G M x left) (Ending.ok t) → IsMadeSo N t
    unfolding split_at
    split-at-made left t w =
        let a = parts (division G M x) _ t w in
        let b = parts _ _ t a.after in
        either-made a.mid (divided G M x a.mid a.first) b.mid b.first left (first_stuck b.mid) refl t b.after

  -- ---- nodes
  leaf-made : (N : Node) (r : Row) (rows : List Row) → decide G.globals N.rows ≡ Decision.decides r rows →
      examined r.columns ≡ None → (g : Grows) (left : ℕ) (t : Grown) →
      Ends E' (grow_at g G (with_rows N (r ∷ rows)) r left None) (Ending.ok t) → IsMadeSo N t
  leaf-made N r rows d x g left t w =
      let a = parts _ _ t w in
      subst (IsMadeSo N) (ended _ t a.after) (one-made a.mid)
    where
      one-made : (less : ℕ) → IsMadeSo N (grown (Tree.leaf (leaf_of G (with_rows N (r ∷ rows)) r)) less)
      one-made less ts rest (SidesOf.more h SidesOf.none) = Made.leaf d x h

  none-left-made : (N : Node) → decide G.globals N.rows ≡ Decision.none_left → (g : Grows) (left : ℕ) (t : Grown) →
      Ends E' (grow_by g G N left Decision.none_left) (Ending.ok t) → IsMadeSo N t
  none-left-made N d g left t w =
      let a = parts _ _ t w in
      subst (IsMadeSo N) (ended _ t a.after) (none-here a.mid)
    where
      none-here : (less : ℕ) → IsMadeSo N (grown (Tree.missing N.goal (pattern_list G.globals G.first N.seen)) less)
      none-here less ts rest SidesOf.none = Made.none_left d

  at-made : (N : Node) (r : Row) (rows : List Row) → decide G.globals N.rows ≡ Decision.decides r rows → (g : Grows) →
      ((x : Examined) → examined r.columns ≡ Some x → (left : ℕ) (t : Grown) →
      Ends E' (split_at g G (with_rows N (r ∷ rows)) x left) (Ending.ok t) → IsMadeSo N t) →
      (left : ℕ) (t : Grown) (o : Option Examined) → examined r.columns ≡ o →
      Ends E' (grow_at g G (with_rows N (r ∷ rows)) r left o) (Ending.ok t) → IsMadeSo N t
  at-made N r rows d g h left t None q w = leaf-made N r rows d q g left t w
  at-made N r rows d g h left t (Some x) q w = h x q left t w

  by-made : (N : Node) (g : Grows) →
      ((r : Row) (rows : List Row) → decide G.globals N.rows ≡ Decision.decides r rows → (x : Examined) →
      examined r.columns ≡ Some x → (left : ℕ) (t : Grown) →
      Ends E' (split_at g G (with_rows N (r ∷ rows)) x left) (Ending.ok t) → IsMadeSo N t) →
      (left : ℕ) (t : Grown) (c : Decision) → decide G.globals N.rows ≡ c →
      Ends E' (grow_by g G N left c) (Ending.ok t) → IsMadeSo N t
  by-made N g h left t Decision.none_left d w = none-left-made N d g left t w
  by-made N g h left t (Decision.stuck_on s u) d w = elim w [ ]
  by-made N g h left t (Decision.decides r rows) d w = at-made N r rows d g (h r rows d) left t (examined r.columns)
      refl w

  pub grow-made : (j : ℕ) → Makes j (grow j G)
  unfolding grow
  grow-made zero N left t few w =
      by-made N _ (λ r rows d x q left t w. let some = examined_counts x r.columns q in
      let l : constructors_at r.columns + constructors_left rows ≤ 0 = subst (λ c. decided c ≤ 0) d few in
      absurd (omega arith)) left t (decide G.globals N.rows) refl w
  grow-made (suc j) N left t few w =
      by-made N (grow j G) (λ r rows d x q left t w. split-at-made N r rows d x q j
      (subst (λ c. decided c ≤ suc j) d few) (grow j G) (grow-made j) left t w) left t (decide G.globals N.rows)
      refl w
