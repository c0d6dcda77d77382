-- The tree of a definition, test after test.
use Rattle.std.proofs.Common.{ℕ}
use Rattle.qtt_term.specs.Signature.{Env}
use Rattle.qtt_rules.specs.declared.errors.ElabError.{ElabError}
use Rattle.qtt_bidi.specs.Answers.{Reaches, Refuses}
use Rattle.qtt_bidi.proofs.Within.{on, on_done, here, later}
use Rattle.qtt_split.specs.Group.{Defined, covers, reaches, tree_of}
use Rattle.qtt_split.specs.Missing.{uncovered}
use Rattle.qtt_split.specs.Plan.{Planned, plan}
use Rattle.qtt_split.specs.Tree.{leaves}

module _ (E : Env) (n : ℕ) (D : Defined) where
  pub plan-refused : (e : ElabError) → Refuses E n (plan D.group D.type D.labels) e → Refuses E n (tree_of D) e
  unfolding tree_of
  plan-refused e h = here E n (plan D.group D.type D.labels) _ e h

  module _ (P : Planned) (p : Reaches E n (plan D.group D.type D.labels) P) where
    pub covers-refused : (e : ElabError) → Refuses E n (covers D (uncovered P.tree)) e → Refuses E n (tree_of D) e
    unfolding tree_of
    covers-refused e h =
        later E n (plan D.group D.type D.labels) _ e p (here E n (covers D (uncovered P.tree)) _ e h)

    pub reaches-refused : (e : ElabError) → Reaches E n (covers D (uncovered P.tree)) tt →
        Refuses E n (reaches D (leaves P.tree) 0 D.group.clauses) e → Refuses E n (tree_of D) e
    unfolding tree_of
    reaches-refused e c h =
        later E n (plan D.group D.type D.labels) _ e p (later E n (covers D (uncovered P.tree)) _ e c
        (here E n (reaches D (leaves P.tree) 0 D.group.clauses) _ e h))

    pub tree-made : Reaches E n (covers D (uncovered P.tree)) tt →
        Reaches E n (reaches D (leaves P.tree) 0 D.group.clauses) tt → Reaches E n (tree_of D) P
    unfolding tree_of
    tree-made c r = on _ p (on _ c (on _ r on_done))
