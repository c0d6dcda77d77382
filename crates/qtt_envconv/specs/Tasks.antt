-- What tasks make of the terms that are built.
use Rattle.std.specs.Prelude.{ℕ, ◌+◌, ◌-◌, ◌*◌, ◌≤◌, List, [], ◌∷◌, ◌++◌, length, take, drop}
use Rattle.qtt_term.specs.Term.{Term}
use Rattle.qtt_term.specs.Term as t
use Rattle.qtt_term.specs.Question.{weight}
use Rattle.qtt_term.specs.View.{side_by_side}
use Rattle.qtt_envconv.specs.declared.node.Node as node_code
use Rattle.qtt_envconv.specs.declared.reading.Task as task_code
use Rattle.qtt_envconv.specs.declared.reading.Task.TheVariants as task
use Rattle.qtt_envconv.specs.Nodes.{node}
use Rattle.qtt_envconv.specs.Shapes.{form, fits}

abbrev pub done : task_code.Task → List Term → List Term
done (task.Read n) bs = bs ++ node n ∷ []
done (task.Assemble s k) bs =
    take (length bs - k) bs ++ t.node (form s) (side_by_side (drop (length bs - k) bs)) ∷ []

-- the last task is the first to be done
abbrev pub finished : List task_code.Task → List Term → List Term
finished [] bs = bs
finished (k ∷ ks) bs = done k (finished ks bs)

-- the components that a task takes are built
abbrev pub IsDoable : task_code.Task → List Term → Type 0
IsDoable (task.Read n) bs = Unit {0}
IsDoable (task.Assemble s k) bs = (k ≤ length bs) × fits s k

abbrev pub AreDoable : List task_code.Task → List Term → Type 0
AreDoable [] bs = Unit {0}
AreDoable (k ∷ ks) bs = IsDoable k (finished ks bs) × AreDoable ks bs

-- nodes to be read, the first one first
abbrev pub reads : List node_code.Node → List task_code.Task
reads [] = []
reads (n ∷ ns) = reads ns ++ task.Read n ∷ []

-- two for each node of what is still to be read, one for each assembly
abbrev pub effort : task_code.Task → ℕ
effort (task.Read n) = 2 * weight (node n)
effort (task.Assemble s k) = 1

abbrev pub work : List task_code.Task → ℕ
work [] = 0
work (k ∷ ks) = effort k + work ks
