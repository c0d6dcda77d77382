-- What a node's branches make of it, question by question.
use Rattle.std.proofs.Common.{ℕ, List, length, Result, sym, subst}
use Rattle.qtt_term.specs.Entries.{env}
use Rattle.qtt_term.specs.Signature.{Env, Tele, ConSig, fam_at}
use Rattle.qtt_term.specs.Ask.{Ask}
use Rattle.qtt_term.specs.Term.{Term}
use Rattle.qtt_rules.specs.declared.errors.ElabError.{ElabError}
use Rattle.qtt_rules.specs.Asks.{Asks}
use Rattle.qtt_unify.specs.Equations.{Verdict}
use Rattle.qtt_split.specs.Answers.{Reaches, Refuses, Gives}
use Rattle.qtt_split.specs.Node.{Node}
use Rattle.qtt_split.specs.Plan.{grow}
use Rattle.qtt_split.specs.Prepared.{Prepared, GrownBranch, branch, prepared, continued, grow_below}
use Rattle.qtt_split.specs.Split.{Group, Grown, grown, Grows, Site, GrownBranches, branches, splitting, solved_node, solved_again}
use Rattle.qtt_split.specs.Tree.{Deleting, Tree}
use Rattle.qtt_split.proofs.Preparing.{grow-prepared}
use Rattle.qtt_split.proofs.Within.{on, on_done, here, tail}

-- ---- behind what is prepared
module _ (E : Env) (n : ℕ) (G : Group) (N : Node) (left k : ℕ) where
  pub prepared-refused : (e : ElabError) → Refuses E n (prepared G N left) e → Refuses E n (grow k G N left) e
  prepared-refused e h =
      subst (λ m. Refuses E n m e) (sym (grow-prepared k G N left))
      (here E n (prepared G N left) (continued (grow_below k G) left) e h)

  pub after-prepared : {X : Type 0} (P : Prepared) (view : X → Grown) (result : Result X ElabError) →
      Reaches E n (prepared G N left) P → Gives E n (continued (grow_below k G) left P) view result →
      Gives E n (grow k G N left) view result
  after-prepared P view result r h =
      subst (λ m. Gives E n m view result) (sym (grow-prepared k G N left))
      (tail E n (prepared G N left) (continued (grow_below k G) left) view result r h)

-- ---- by the way its branches go
module _ (E : Env) (n : ℕ) (g : Grows) (left : ℕ) where
  module _ (W : Site) (vs : List Verdict) where
    abbrev branches_asked : Asks GrownBranches
    branches_asked = branches g W 0 (fam_at (env W.group.globals) W.division.family).constructors vs left

    abbrev split_with : GrownBranches → Grown
    split_with bs = grown (Tree.split (splitting W) bs.branches) bs.left

    pub branches-refused : (e : ElabError) → Refuses E n branches_asked e →
        Refuses E n (continued g left (Prepared.split W vs)) e
    branches-refused e h = here E n branches_asked (λ bs. Ask.done (split_with bs)) e h

    pub branches-there : (bs : GrownBranches) → Reaches E n branches_asked bs →
        Reaches E n (continued g left (Prepared.split W vs)) (split_with bs)
    branches-there bs h = on {E = E} {n = n} {m = branches_asked} (λ bs. Ask.done (split_with bs)) h on_done

  module _ (d : Deleting) (N : Node) (Θ : Tele) where
    abbrev deleted_with : Grown → Grown
    deleted_with t = grown (Tree.delete d Θ t.tree) t.left

    pub branch-refused : (e : ElabError) → Refuses E n (g N left) e →
        Refuses E n (continued g left (Prepared.delete d N Θ)) e
    branch-refused e h = here E n (g N left) (λ t. Ask.done (deleted_with t)) e h

    pub branch-there : (t : Grown) → Reaches E n (g N left) t →
        Reaches E n (continued g left (Prepared.delete d N Θ)) (deleted_with t)
    branch-there t h = on {E = E} {n = n} {m = g N left} (λ t. Ask.done (deleted_with t)) h on_done

  -- ---- one branch
  module _ (W : Site) (c : ℕ) (d : ConSig) (s : List (ℕ × Term)) where
    abbrev pub solved_with : Grown → GrownBranch
    solved_with t = record {
      fields = length d.fields;
      again = solved_again W c d s;
      tree = t.tree;
      left = t.left;
    }

    pub solved-refused : (e : ElabError) → Refuses E n (g (solved_node W c d s) left) e →
        Refuses E n (branch g W c d (Verdict.solved s) left) e
    solved-refused e h = here E n (g (solved_node W c d s) left) (λ t. Ask.done (solved_with t)) e h

    pub solved-there : (t : Grown) → Reaches E n (g (solved_node W c d s) left) t →
        Reaches E n (branch g W c d (Verdict.solved s) left) (solved_with t)
    solved-there t h =
        on {E = E} {n = n} {m = g (solved_node W c d s) left} (λ t. Ask.done (solved_with t)) h on_done
