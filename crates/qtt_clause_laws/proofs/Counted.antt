-- A tree that grows has as many ends as were counted.
use Rattle.std.proofs.Common.{◌≡◌, ℕ, zero, suc, ◌+◌, ◌≤◌, List, [], ◌∷◌, length, Option, Some, None, refl, subst, arith}
use Rattle.qtt_term.specs.Term.{Term}
use Rattle.qtt_term.specs.Signature.{ConSig, Env, fam_at, Refl}
use Rattle.qtt_term.specs.Judgement.{ext}
use Rattle.qtt_term.specs.Ask.{Ending, Ends}
use Rattle.qtt_term.specs.Entries.{env}
use Rattle.qtt_rules.specs.Refusal.{Cause}
use Rattle.qtt_unify.specs.Equations.{Verdict}
use Rattle.qtt_unify.specs.Deletion.{Deletion}
use Rattle.qtt_unify.proofs.Endings.{parts, ended}
use Rattle.qtt_split.specs.Node.{Row, Node, Decision, decide, Examined, examined, constructors_at, constructors_left, all_constructors}
use Rattle.qtt_split.specs.Branch.{branch_node}
use Rattle.qtt_split.specs.Split.{Group, Grown, Grows, count_leaf, Division, division, first_stuck, reverted_at, free_variables, fields_of, Site, con_of_fields, solved_node, GrownBranches, branches, split_by, refl_id, delete_by, split_or_delete, split_at}
use Rattle.qtt_split.specs.Plan.{width, so_wide, opened, start, with_rows, grow_at, grow_by, grow, Planned, plan}
use Rattle.qtt_split.proofs.Counting.{is_made, examined_counts, decided, decide_less}
use Rattle.qtt_split.proofs.Splits.{start_less}
use Rattle.qtt_clause_laws.specs.Counted.{end_count, end_counts, PlansAreWithinLimit}
use Rattle.qtt_clause_laws.proofs.Answering.{within-ends}
use Rattle.qtt_clause_laws.proofs.Grown.{in-branch, divided}

module _ (G : Group) where
  abbrev E' : Env
  E' = env G.globals

  -- its ends were counted
  abbrev IsCounted : ℕ → Grown → Type 0
  IsCounted left t = end_count t.tree + t.left ≡ left

  abbrev AreCounted : ℕ → GrownBranches → Type 0
  AreCounted left bs = end_counts bs.branches + bs.left ≡ left

  -- those of what grows at a node with at most j constructor patterns behind the clause that decides
  abbrev Counts : ℕ → Grows → Type 0
  Counts j g = (M : Node) (left : ℕ) (t : Grown) → decided (decide G.globals M.rows) ≤ j →
      Ends E' (g M left) (Ending.ok t) → IsCounted left t

  one-counted : (H : Group) (left less : ℕ) → Ends E' (count_leaf H left) (Ending.ok less) → 1 + less ≡ left
  one-counted H zero less w = elim w [ ]
  one-counted H (suc n) less w = let h : n ≡ less = ended n less w in omega (arith, h)

  -- a branch that is solved, and those behind it
  two-counted : (m k l n left : ℕ) → m + k ≡ left → l + n ≡ k → (m + l) + n ≡ left
  two-counted m k l n left p q = omega (arith, p, q)

  none-counted : (left : ℕ) → 0 + left ≡ left
  none-counted left = omega arith

  clash-counted : (l n less left : ℕ) → 1 + less ≡ left → l + n ≡ less → (1 + l) + n ≡ left
  clash-counted l n less left p q = omega (arith, p, q)

  branches-counted : (g : Grows) (W : Site) →
      ((c : ℕ) (d : ConSig) (s : List (ℕ × Term)) (left : ℕ) (t : Grown) →
      Ends E' (g (solved_node W c d s) left) (Ending.ok t) → IsCounted left t) →
      (c : ℕ) (ds : List ConSig) (vs : List Verdict) (left : ℕ) (bs : GrownBranches) →
      Ends E' (branches g W c ds vs left) (Ending.ok bs) → AreCounted left bs
  branches-counted g W h c [] vs left bs e = subst (AreCounted left) (ended _ bs e) (none-counted left)
  branches-counted g W h c (d ∷ ds) [] left bs e = subst (AreCounted left) (ended _ bs e) (none-counted left)
  branches-counted g W h c (d ∷ ds) (Verdict.solved s ∷ vs) left bs e =
      let a = parts (g (solved_node W c d s) left) _ bs e in
      let b = parts (branches g W (suc c) ds vs a.mid.left) _ bs a.after in
      subst (AreCounted left) (ended _ bs b.after)
      (two-counted (end_count a.mid.tree) a.mid.left (end_counts b.mid.branches) b.mid.left left
      (h c d s left a.mid a.first) (branches-counted g W h (suc c) ds vs a.mid.left b.mid b.first))
  branches-counted g W h c (d ∷ ds) (Verdict.clash ∷ vs) left bs e =
      let a = parts (count_leaf W.group left) _ bs e in
      let b = parts (branches g W (suc c) ds vs a.mid) _ bs a.after in
      subst (AreCounted left) (ended _ bs b.after)
      (clash-counted (end_counts b.mid.branches) b.mid.left a.mid left (one-counted W.group left a.mid a.first)
      (branches-counted g W h (suc c) ds vs a.mid b.mid b.first))
  branches-counted g W h c (d ∷ ds) (Verdict.stuck m u t ∷ vs) left bs e =
      let a = parts (count_leaf W.group left) _ bs e in
      let b = parts (branches g W (suc c) ds vs a.mid) _ bs a.after in
      subst (AreCounted left) (ended _ bs b.after)
      (clash-counted (end_counts b.mid.branches) b.mid.left a.mid left (one-counted W.group left a.mid a.first)
      (branches-counted g W h (suc c) ds vs a.mid b.mid b.first))

  -- ---- a split, or a deletion, where a clause decides
  module _ (N : Node) (r : Row) (rows : List Row) (x : Examined) (e : examined r.columns ≡ Some x) (j : ℕ)
      (few : constructors_at r.columns + constructors_left rows ≤ suc j) (g : Grows) (child : Counts j g) where
    abbrev M : Node
    M = with_rows N (r ∷ rows)

    abbrev site : Division → Term → Site
    site D P = record {
      group = G;
      node = M;
      division = D;
      motive = P;
      reverted = reverted_at M D.over.variable (free_variables D.over);
    }

    site-counted : (D : Division) → D.over.variable ≡ x.variable → (P : Term) (vs : List Verdict) (left : ℕ)
        (bs : GrownBranches) →
        Ends E' (branches g (site D P) 0 (fam_at E' D.family).constructors vs left) (Ending.ok bs) →
        AreCounted left bs
    site-counted D p P vs left bs w =
        branches-counted g (site D P)
        (λ k con s left t w. child (solved_node (site D P) k con s) left t
        (in-branch G N r rows x e j few D.over.variable p (fields_of D.mult D.over.params con)
        (con_of_fields (site D P) k (length con.fields)) s (free_variables D.over) is_made) w)
        0 (fam_at E' D.family).constructors vs left bs w

    split-counted : (D : Division) → D.over.variable ≡ x.variable → (vs : List Verdict) (left : ℕ) (t : Grown) →
        Ends E' (split_by g G M D vs left) (Ending.ok t) → IsCounted left t
    unfolding split_by
    split-counted D p vs left t w =
        let a = parts _ _ t w in
        let b = parts _ _ t a.after in
        let c = parts _ _ t b.after in
        subst (IsCounted left) (ended _ t c.after) (site-counted D p _ vs left c.mid c.first)

    delete-counted : (D : Division) → D.over.variable ≡ x.variable → (d : Deletion) (left : ℕ) (t : Grown) →
        Ends E' (delete_by g M D d left) (Ending.ok t) → IsCounted left t
    unfolding delete_by
    delete-counted D p d left t w =
        let a = parts _ _ t w in
        let b = parts _ _ t a.after in
        subst (IsCounted left) (ended _ t b.after)
        (child (branch_node M [] [] D.over.variable refl_id (Refl d.type d.point) []
        (reverted_at M D.over.variable [])) left b.mid
        (in-branch G N r rows x e j few D.over.variable p [] (Refl d.type d.point) [] [] is_made) b.first)

    either-counted : (D : Division) → D.over.variable ≡ x.variable → (vs : List Verdict) (left : ℕ) (o : Option Cause)
        (t : Grown) → Ends E' (split_or_delete g G M D vs left o) (Ending.ok t) → IsCounted left t
    either-counted D p vs left None t w = split-counted D p vs left t w
    either-counted D p vs left (Some c) t w =
        let a = parts _ _ t w in
        let b = parts _ _ t a.after in
        delete-counted D p b.mid left t b.after

    pub split-at-counted : (left : ℕ) (t : Grown) → Ends E' (split_at g G M x left) (Ending.ok t) → IsCounted left t
    unfolding split_at
    split-at-counted left t w =
        let a = parts (division G M x) _ t w in
        let b = parts _ _ t a.after in
        either-counted a.mid (divided G M x a.mid a.first).same b.mid left (first_stuck b.mid) t b.after

  -- ---- nodes
  at-counted : (N : Node) (r : Row) (rows : List Row) (g : Grows) →
      ((x : Examined) → examined r.columns ≡ Some x → (left : ℕ) (t : Grown) →
      Ends E' (split_at g G (with_rows N (r ∷ rows)) x left) (Ending.ok t) → IsCounted left t) →
      (left : ℕ) (t : Grown) (o : Option Examined) → examined r.columns ≡ o →
      Ends E' (grow_at g G (with_rows N (r ∷ rows)) r left o) (Ending.ok t) → IsCounted left t
  at-counted N r rows g h left t None q w =
      let a = parts _ _ t w in subst (IsCounted left) (ended _ t a.after) (one-counted G left a.mid a.first)
  at-counted N r rows g h left t (Some x) q w = h x q left t w

  by-counted : (N : Node) (g : Grows) →
      ((r : Row) (rows : List Row) → decide G.globals N.rows ≡ Decision.decides r rows → (x : Examined) →
      examined r.columns ≡ Some x → (left : ℕ) (t : Grown) →
      Ends E' (split_at g G (with_rows N (r ∷ rows)) x left) (Ending.ok t) → IsCounted left t) →
      (left : ℕ) (t : Grown) (c : Decision) → decide G.globals N.rows ≡ c →
      Ends E' (grow_by g G N left c) (Ending.ok t) → IsCounted left t
  by-counted N g h left t Decision.none_left d w =
      let a = parts _ _ t w in subst (IsCounted left) (ended _ t a.after) (one-counted G left a.mid a.first)
  by-counted N g h left t (Decision.stuck_on s u) d w = elim w [ ]
  by-counted N g h left t (Decision.decides r rows) d w =
      at-counted N r rows g (h r rows d) left t (examined r.columns) refl w

  grow-counted : (j : ℕ) → Counts j (grow j G)
  unfolding grow
  grow-counted zero N left t few w =
      by-counted N _ (λ r rows d x q left t w. let some = examined_counts x r.columns q in
      let l : constructors_at r.columns + constructors_left rows ≤ 0 = subst (λ c. decided c ≤ 0) d few in
      absurd (omega arith)) left t (decide G.globals N.rows) refl w
  grow-counted (suc j) N left t few w =
      by-counted N (grow j G) (λ r rows d x q left t w. split-at-counted N r rows x q j
      (subst (λ c. decided c ≤ suc j) d few) (grow j G) (grow-counted j) left t w) left t (decide G.globals N.rows)
      refl w

  plan-counted : (A : Term) (labels : List (Option (List ℕ))) (P : Planned) →
      Ends E' (plan G A labels) (Ending.ok P) → end_count P.tree ≤ G.limit
  unfolding plan
  plan-counted A labels P e =
      let a = parts (so_wide (width G.clauses) G.clauses) _ P e in
      let b = parts _ _ P a.after in
      let c = parts (opened G.first (width G.clauses) [] A) _ P b.after in
      let d = parts _ _ P c.after in
      let less = decide_less G.globals (start G labels c.mid).rows in
      let first = start_less (ext [] c.mid.binders) 0 G.clauses in
      let counted = grow-counted (all_constructors G.clauses) (start G labels c.mid) G.limit d.mid (omega arith)
      d.first in
      subst (λ (P : Planned). end_count P.tree ≤ G.limit) (ended _ P d.after) (omega (arith, counted))

pub plans_are_within_limit_holds : PlansAreWithinLimit
plans_are_within_limit_holds = record {
  within_budget = λ G A labels n P e. plan-counted G A labels P (within-ends (env G.globals) n (plan G A labels) P e);
  without = λ G A labels P e. plan-counted G A labels P e;
}
