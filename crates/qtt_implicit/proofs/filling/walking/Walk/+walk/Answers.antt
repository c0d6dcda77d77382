-- The parts of each form in turn: what stops the one stops the form, and else the next goes on.
use Rattle.std.proofs.Common.{◌∙◌, ap, refl}
use Rattle.qtt_syntax.specs.Tree.Tree.{apply}
use Rattle.qtt_implicit.specs.Filling.{◌>>=◌}
use Rattle.qtt_implicit.specs.KnownItems.{known_of}
use Rattle.qtt_implicit.specs.Nodes.{annotation_tree, argument_row, binder_row, node_tree, statement_row}
use Rattle.qtt_implicit.specs.TextTypes.{given_list, local_types}
use Rattle.qtt_implicit.specs.Walk.{walk, walk_annotation, walk_arguments, walk_binders, walk_statements}
use Rattle.qtt_implicit.specs.declared.filling.trees.Node.{Node}
use Rattle.qtt_implicit.proofs.Solved.{stop_goes_on}
use Rattle.qtt_implicit.proofs.Steps.{binders_at, binders_stop_at, done_at, exits, goes_after, meets_after, meets_at, statements_at, statements_stop_at, stop_at, stops_after, walk_at, walk_stops_at}
use Rattle.qtt_implicit.proofs.Walks.{function_walked}
use Rattle.qtt_implicit.proofs.filling.walking.Walk.+walk.Goals as goal

pub node-returns-in_err-ty-in-The : goal.node-returns-in_err-ty-in-The
unfolding ◌>>=◌
node-returns-in_err-ty-in-The t c =
    let K = known_of c.args.self.now.known.now in
    let Γ = local_types c.args.locals.now in
    let left = c.args.left.now.nodes in
    exits _ _ _ _ _ c.from_residual-in_err-ty-in-The.ensures.1
    (stop_at _ (ap (λ (n : Node). walk K Γ (node_tree n) left) c.in-The.is)
    (stop_goes_on _ _ _ c.in_err-ty-in-The.ensures))

pub node-returns-in_err-value-in-The : goal.node-returns-in_err-value-in-The
unfolding ◌>>=◌
node-returns-in_err-value-in-The t c =
    let K = known_of c.args.self.now.known.now in
    let Γ = local_types c.args.locals.now in
    let left = c.args.left.now.nodes in
    exits _ _ _ _ _ c.from_residual-in_err-value-in-The.ensures.1
    (stop_at _ (ap (λ (n : Node). walk K Γ (node_tree n) left) c.in-The.is)
    (stops_after _ _ c.in_ok-ty-in-The.ensures (stop_goes_on _ _ _ c.in_err-value-in-The.ensures)))

pub node-returns-in_ok-the-in-The : goal.node-returns-in_ok-the-in-The
unfolding ◌>>=◌
node-returns-in_ok-the-in-The t c =
    let K = known_of c.args.self.now.known.now in
    let Γ = local_types c.args.locals.now in
    let left = c.args.left.now.nodes in
    ap (λ (n : Node). walk K Γ (node_tree n) left) c.in-The.is
    ∙ goes_after _ c.in_ok-ty-in-The.ensures (goes_after _ c.in_ok-value-in-The.ensures
    (done_at c.in_ok-the-in-The.ensures))

pub node-returns-in_err-givens-in-Name-function : goal.node-returns-in_err-givens-in-Name-function
unfolding ◌>>=◌
node-returns-in_err-givens-in-Name-function t c =
    let K = known_of c.args.self.now.known.now in
    let Γ = local_types c.args.locals.now in
    let left = c.args.left.now.nodes in
    exits _ _ _ _ _ c.from_residual-in_err-givens-in-Name-function.ensures.1
    (stop_at _ (ap (λ (n : Node). walk K Γ (node_tree n) left) c.in-Apply.is
    ∙ ap (λ (f : Node). walk K Γ (apply (node_tree f) (argument_row c.in-Apply.arguments.now) c.in-Apply.span) left)
    c.in-Name-function.is)
    (stop_goes_on _ _ _ c.in_err-givens-in-Name-function.ensures))

pub node-returns-in_ok-givens-in-Name-function : goal.node-returns-in_ok-givens-in-Name-function
unfolding ◌>>=◌
node-returns-in_ok-givens-in-Name-function t c =
    let K = known_of c.args.self.now.known.now in
    let Γ = local_types c.args.locals.now in
    let left = c.args.left.now.nodes in
    meets_at _ _ _ (ap (λ (n : Node). walk K Γ (node_tree n) left) c.in-Apply.is
    ∙ ap (λ (f : Node). walk K Γ (apply (node_tree f) (argument_row c.in-Apply.arguments.now) c.in-Apply.span) left)
    c.in-Name-function.is)
    (meets_after _ _ _ _ c.in_ok-givens-in-Name-function.ensures c.applied-in-Name-function.ensures)

pub node-returns-in_err-function-in_default : goal.node-returns-in_err-function-in_default
unfolding ◌>>=◌
node-returns-in_err-function-in_default t c =
    let K = known_of c.args.self.now.known.now in
    let Γ = local_types c.args.locals.now in
    let left = c.args.left.now.nodes in
    exits _ _ _ _ _ c.from_residual-in_err-function-in_default.ensures.1
    (stop_at _ (ap (λ (n : Node). walk K Γ (node_tree n) left) c.in-Apply.is
    ∙ function_walked K Γ c.in-Apply.function.now (argument_row c.in-Apply.arguments.now) c.in-Apply.span left
    c.in_default.not-Name)
    (stop_goes_on _ _ _ c.in_err-function-in_default.ensures))

pub node-returns-in_err-givens-in_default : goal.node-returns-in_err-givens-in_default
unfolding ◌>>=◌
node-returns-in_err-givens-in_default t c =
    let K = known_of c.args.self.now.known.now in
    let Γ = local_types c.args.locals.now in
    let left = c.args.left.now.nodes in
    exits _ _ _ _ _ c.from_residual-in_err-givens-in_default.ensures.1
    (stop_at _ (ap (λ (n : Node). walk K Γ (node_tree n) left) c.in-Apply.is
    ∙ function_walked K Γ c.in-Apply.function.now (argument_row c.in-Apply.arguments.now) c.in-Apply.span left
    c.in_default.not-Name)
    (stops_after _ _ c.in_ok-function-in_default.ensures
    (stop_goes_on _ _ _ c.in_err-givens-in_default.ensures)))

pub node-returns-in_ok-plainly-in_default : goal.node-returns-in_ok-plainly-in_default
unfolding ◌>>=◌
node-returns-in_ok-plainly-in_default t c =
    let K = known_of c.args.self.now.known.now in
    let Γ = local_types c.args.locals.now in
    let left = c.args.left.now.nodes in
    ap (λ (n : Node). walk K Γ (node_tree n) left) c.in-Apply.is
    ∙ function_walked K Γ c.in-Apply.function.now (argument_row c.in-Apply.arguments.now) c.in-Apply.span left
    c.in_default.not-Name
    ∙ goes_after _ c.in_ok-function-in_default.ensures (goes_after _ c.in_ok-givens-in_default.ensures
    (done_at c.in_ok-plainly-in_default.ensures))

pub node-returns-in_err-domain-in-Pi : goal.node-returns-in_err-domain-in-Pi
unfolding ◌>>=◌
node-returns-in_err-domain-in-Pi t c =
    let K = known_of c.args.self.now.known.now in
    let Γ = local_types c.args.locals.now in
    let left = c.args.left.now.nodes in
    exits _ _ _ _ _ c.from_residual-in_err-domain-in-Pi.ensures.1
    (stop_at _ (ap (λ (n : Node). walk K Γ (node_tree n) left) c.in-Pi.is)
    (stop_goes_on _ _ _ c.in_err-domain-in-Pi.ensures))

pub node-returns-in_err-codomain-in-Pi : goal.node-returns-in_err-codomain-in-Pi
unfolding ◌>>=◌
node-returns-in_err-codomain-in-Pi t c =
    let K = known_of c.args.self.now.known.now in
    let Γ = local_types c.args.locals.now in
    let left = c.args.left.now.nodes in
    exits _ _ _ _ _ c.from_residual-in_err-codomain-in-Pi.ensures.1
    (stop_at _ (ap (λ (n : Node). walk K Γ (node_tree n) left) c.in-Pi.is)
    (stops_after _ _ c.in_ok-domain-in-Pi.ensures (stop_goes_on _ _ _
    (walk_stops_at _ K (node_tree c.in-Pi.codomain.now) c.node-in-Pi.new.left.nodes c.in_ok-inner-in-Pi.ensures
    c.in_err-codomain-in-Pi.ensures))))

pub node-returns-in_ok-unjudged-in-Pi : goal.node-returns-in_ok-unjudged-in-Pi
unfolding ◌>>=◌
node-returns-in_ok-unjudged-in-Pi t c =
    let K = known_of c.args.self.now.known.now in
    let Γ = local_types c.args.locals.now in
    let left = c.args.left.now.nodes in
    ap (λ (n : Node). walk K Γ (node_tree n) left) c.in-Pi.is
    ∙ goes_after _ c.in_ok-domain-in-Pi.ensures (goes_after _
    (walk_at K (node_tree c.in-Pi.codomain.now) c.node-in-Pi.new.left.nodes c.in_ok-inner-in-Pi.ensures
    c.in_ok-codomain-in-Pi.ensures) (done_at c.in_ok-unjudged-in-Pi.ensures))

pub node-returns-in_err-row-in-Lambda : goal.node-returns-in_err-row-in-Lambda
unfolding ◌>>=◌
node-returns-in_err-row-in-Lambda t c =
    let K = known_of c.args.self.now.known.now in
    let Γ = local_types c.args.locals.now in
    let left = c.args.left.now.nodes in
    exits _ _ _ _ _ c.from_residual-in_err-row-in-Lambda.ensures.1
    (stop_at _ (ap (λ (n : Node). walk K Γ (node_tree n) left) c.in-Lambda.is)
    (stop_goes_on _ _ _ c.in_err-row-in-Lambda.ensures))

pub node-returns-in_err-body-in-Lambda : goal.node-returns-in_err-body-in-Lambda
unfolding ◌>>=◌
node-returns-in_err-body-in-Lambda t c =
    let K = known_of c.args.self.now.known.now in
    let Γ = local_types c.args.locals.now in
    let left = c.args.left.now.nodes in
    exits _ _ _ _ _ c.from_residual-in_err-body-in-Lambda.ensures.1
    (stop_at _ (ap (λ (n : Node). walk K Γ (node_tree n) left) c.in-Lambda.is)
    (stops_after _ _ c.in_ok-row-in-Lambda.ensures (stop_goes_on _ _ _ c.in_err-body-in-Lambda.ensures)))

pub node-returns-in_ok-unjudged-in-Lambda : goal.node-returns-in_ok-unjudged-in-Lambda
unfolding ◌>>=◌
node-returns-in_ok-unjudged-in-Lambda t c =
    let K = known_of c.args.self.now.known.now in
    let Γ = local_types c.args.locals.now in
    let left = c.args.left.now.nodes in
    ap (λ (n : Node). walk K Γ (node_tree n) left) c.in-Lambda.is
    ∙ goes_after _ c.in_ok-row-in-Lambda.ensures (goes_after _ c.in_ok-body-in-Lambda.ensures
    (done_at c.in_ok-unjudged-in-Lambda.ensures))

pub node-returns-in_err-ty-in-Let : goal.node-returns-in_err-ty-in-Let
unfolding ◌>>=◌
node-returns-in_err-ty-in-Let t c =
    let K = known_of c.args.self.now.known.now in
    let Γ = local_types c.args.locals.now in
    let left = c.args.left.now.nodes in
    exits _ _ _ _ _ c.from_residual-in_err-ty-in-Let.ensures.1
    (stop_at _ (ap (λ (n : Node). walk K Γ (node_tree n) left) c.in-Let.is)
    (stop_goes_on _ _ _ c.in_err-ty-in-Let.ensures))

pub node-returns-in_err-value-in-Let : goal.node-returns-in_err-value-in-Let
unfolding ◌>>=◌
node-returns-in_err-value-in-Let t c =
    let K = known_of c.args.self.now.known.now in
    let Γ = local_types c.args.locals.now in
    let left = c.args.left.now.nodes in
    exits _ _ _ _ _ c.from_residual-in_err-value-in-Let.ensures.1
    (stop_at _ (ap (λ (n : Node). walk K Γ (node_tree n) left) c.in-Let.is)
    (stops_after _ _ c.in_ok-ty-in-Let.ensures (stop_goes_on _ _ _ c.in_err-value-in-Let.ensures)))

pub node-returns-in_err-body-in-Let : goal.node-returns-in_err-body-in-Let
unfolding ◌>>=◌
node-returns-in_err-body-in-Let t c =
    let K = known_of c.args.self.now.known.now in
    let Γ = local_types c.args.locals.now in
    let left = c.args.left.now.nodes in
    exits _ _ _ _ _ c.from_residual-in_err-body-in-Let.ensures.1
    (stop_at _ (ap (λ (n : Node). walk K Γ (node_tree n) left) c.in-Let.is)
    (stops_after _ _ c.in_ok-ty-in-Let.ensures (stops_after _ _ c.in_ok-value-in-Let.ensures (stop_goes_on _ _ _
    (walk_stops_at _ K (node_tree c.in-Let.body.now) c.node-in-Let.new.left.nodes c.in_ok-inner-in-Let.ensures
    c.in_err-body-in-Let.ensures)))))

pub node-returns-in_ok-unjudged-in-Let : goal.node-returns-in_ok-unjudged-in-Let
unfolding ◌>>=◌
node-returns-in_ok-unjudged-in-Let t c =
    let K = known_of c.args.self.now.known.now in
    let Γ = local_types c.args.locals.now in
    let left = c.args.left.now.nodes in
    ap (λ (n : Node). walk K Γ (node_tree n) left) c.in-Let.is
    ∙ goes_after _ c.in_ok-ty-in-Let.ensures (goes_after _ c.in_ok-value-in-Let.ensures (goes_after _
    (walk_at K (node_tree c.in-Let.body.now) c.node-in-Let.new.left.nodes c.in_ok-inner-in-Let.ensures
    c.in_ok-body-in-Let.ensures) (done_at c.in_ok-unjudged-in-Let.ensures)))

pub node-returns-in_err-statements-in-Do : goal.node-returns-in_err-statements-in-Do
unfolding ◌>>=◌
node-returns-in_err-statements-in-Do t c =
    let K = known_of c.args.self.now.known.now in
    let Γ = local_types c.args.locals.now in
    let left = c.args.left.now.nodes in
    exits _ _ _ _ _ c.from_residual-in_err-statements-in-Do.ensures.1
    (stop_at _ (ap (λ (n : Node). walk K Γ (node_tree n) left) c.in-Do.is)
    (stop_goes_on _ _ _ c.in_err-statements-in-Do.ensures))

pub node-returns-in_ok-unjudged-in-Do : goal.node-returns-in_ok-unjudged-in-Do
unfolding ◌>>=◌
node-returns-in_ok-unjudged-in-Do t c =
    let K = known_of c.args.self.now.known.now in
    let Γ = local_types c.args.locals.now in
    let left = c.args.left.now.nodes in
    ap (λ (n : Node). walk K Γ (node_tree n) left) c.in-Do.is
    ∙ goes_after _ c.in_ok-statements-in-Do.ensures (done_at c.in_ok-unjudged-in-Do.ensures)

pub annotation-returns-in_err-node-in-Typed : goal.annotation-returns-in_err-node-in-Typed
unfolding ◌>>=◌
annotation-returns-in_err-node-in-Typed t c =
    let K = known_of c.args.self.now.known.now in
    let Γ = local_types c.args.locals.now in
    let left = c.args.left.now.nodes in
    exits _ _ _ _ _ c.from_residual.ensures.1
    (stop_at _ (ap (λ a. walk_annotation K Γ (annotation_tree a) left) c.in-Typed.is)
    (stop_goes_on _ _ _ c.in_err-node-in-Typed.ensures))

pub annotation-returns-in_ok-node-in-Typed : goal.annotation-returns-in_ok-node-in-Typed
unfolding ◌>>=◌
annotation-returns-in_ok-node-in-Typed t c =
    let K = known_of c.args.self.now.known.now in
    let Γ = local_types c.args.locals.now in
    let left = c.args.left.now.nodes in
    ap (λ a. walk_annotation K Γ (annotation_tree a) left) c.in-Typed.is
    ∙ goes_after _ c.in_ok-node-in-Typed.ensures refl

pub arguments-returns-in_err-value-in-More : goal.arguments-returns-in_err-value-in-More
unfolding ◌>>=◌
arguments-returns-in_err-value-in-More t c =
    let K = known_of c.args.self.now.known.now in
    let Γ = local_types c.args.locals.now in
    let left = c.args.left.now.nodes in
    exits _ _ _ _ _ c.from_residual-in_err-value-in-More.ensures.1
    (stop_at _ (ap (λ a. walk_arguments K Γ (argument_row a) left) c.in-More.is)
    (stop_goes_on _ _ _ (stop_goes_on _ _ _ c.in_err-value-in-More.ensures)))

pub arguments-returns-in_err-others-in-More : goal.arguments-returns-in_err-others-in-More
unfolding ◌>>=◌
arguments-returns-in_err-others-in-More t c =
    let K = known_of c.args.self.now.known.now in
    let Γ = local_types c.args.locals.now in
    let left = c.args.left.now.nodes in
    exits _ _ _ _ _ c.from_residual-in_err-others-in-More.ensures.1
    (stop_at _ (ap (λ a. walk_arguments K Γ (argument_row a) left) c.in-More.is)
    (stops_after _ _ (goes_after _ c.in_ok-value-in-More.ensures refl)
    (stop_goes_on _ _ _ c.in_err-others-in-More.ensures)))

pub arguments-returns-in_ok-placed-in-More : goal.arguments-returns-in_ok-placed-in-More
unfolding ◌>>=◌
arguments-returns-in_ok-placed-in-More t c =
    let K = known_of c.args.self.now.known.now in
    let Γ = local_types c.args.locals.now in
    let left = c.args.left.now.nodes in
    ap (λ a. walk_arguments K Γ (argument_row a) left) c.in-More.is
    ∙ goes_after _ (goes_after _ c.in_ok-value-in-More.ensures refl) (goes_after _ c.in_ok-others-in-More.ensures
    (done_at (ap given_list c.in_ok-placed-in-More.ensures)))

pub binders-returns-in_err-others-in-Plain : goal.binders-returns-in_err-others-in-Plain
unfolding ◌>>=◌
binders-returns-in_err-others-in-Plain t c =
    let K = known_of c.args.self.now.known.now in
    let Γ = local_types c.args.locals.now in
    let left = c.args.left.now.nodes in
    exits _ _ _ _ _ c.from_residual-in_err-others-in-Plain.ensures.1
    (stop_at _ (ap (λ a. walk_binders K Γ (binder_row a) left) c.in-Plain.is)
    (stop_goes_on _ _ _ (binders_stop_at _ K (binder_row c.in-Plain.others.now) left c.in_ok-inner-in-Plain.ensures
    c.in_err-others-in-Plain.ensures)))

pub binders-returns-in_ok-with-in-Plain : goal.binders-returns-in_ok-with-in-Plain
unfolding ◌>>=◌
binders-returns-in_ok-with-in-Plain t c =
    let K = known_of c.args.self.now.known.now in
    let Γ = local_types c.args.locals.now in
    let left = c.args.left.now.nodes in
    ap (λ a. walk_binders K Γ (binder_row a) left) c.in-Plain.is
    ∙ goes_after _ (binders_at K (binder_row c.in-Plain.others.now) left c.in_ok-inner-in-Plain.ensures
    c.in_ok-others-in-Plain.ensures)
    (done_at c.in_ok-with-in-Plain.ensures)

pub binders-returns-in_err-ty-in-Typed : goal.binders-returns-in_err-ty-in-Typed
unfolding ◌>>=◌
binders-returns-in_err-ty-in-Typed t c =
    let K = known_of c.args.self.now.known.now in
    let Γ = local_types c.args.locals.now in
    let left = c.args.left.now.nodes in
    exits _ _ _ _ _ c.from_residual-in_err-ty-in-Typed.ensures.1
    (stop_at _ (ap (λ a. walk_binders K Γ (binder_row a) left) c.in-Typed.is)
    (stop_goes_on _ _ _ (stop_goes_on _ _ _ c.in_err-ty-in-Typed.ensures)))

pub binders-returns-in_err-others-in-Typed : goal.binders-returns-in_err-others-in-Typed
unfolding ◌>>=◌
binders-returns-in_err-others-in-Typed t c =
    let K = known_of c.args.self.now.known.now in
    let Γ = local_types c.args.locals.now in
    let left = c.args.left.now.nodes in
    exits _ _ _ _ _ c.from_residual-in_err-others-in-Typed.ensures.1
    (stop_at _ (ap (λ a. walk_binders K Γ (binder_row a) left) c.in-Typed.is)
    (stops_after _ _ (goes_after _ c.in_ok-ty-in-Typed.ensures refl) (stop_goes_on _ _ _
    (binders_stop_at _ K (binder_row c.in-Typed.others.now) c.node.new.left.nodes c.in_ok-inner-in-Typed.ensures
    c.in_err-others-in-Typed.ensures))))

pub binders-returns-in_ok-with-in-Typed : goal.binders-returns-in_ok-with-in-Typed
unfolding ◌>>=◌
binders-returns-in_ok-with-in-Typed t c =
    let K = known_of c.args.self.now.known.now in
    let Γ = local_types c.args.locals.now in
    let left = c.args.left.now.nodes in
    ap (λ a. walk_binders K Γ (binder_row a) left) c.in-Typed.is
    ∙ goes_after _ (goes_after _ c.in_ok-ty-in-Typed.ensures refl) (goes_after _
    (binders_at K (binder_row c.in-Typed.others.now) c.node.new.left.nodes c.in_ok-inner-in-Typed.ensures
    c.in_ok-others-in-Typed.ensures) (done_at c.in_ok-with-in-Typed.ensures))

pub statements-returns-in_err-value-in-Bind : goal.statements-returns-in_err-value-in-Bind
unfolding ◌>>=◌
statements-returns-in_err-value-in-Bind t c =
    let K = known_of c.args.self.now.known.now in
    let Γ = local_types c.args.locals.now in
    let left = c.args.left.now.nodes in
    exits _ _ _ _ _ c.from_residual.ensures.1
    (stop_at _ (ap (λ a. walk_statements K Γ (statement_row a) left) c.in-Bind.is)
    (stop_goes_on _ _ _ (stop_goes_on _ _ _ c.in_err-value-in-Bind.ensures)))

pub statements-returns-in_err-others-in-Bind : goal.statements-returns-in_err-others-in-Bind
unfolding ◌>>=◌
statements-returns-in_err-others-in-Bind t c =
    let K = known_of c.args.self.now.known.now in
    let Γ = local_types c.args.locals.now in
    let left = c.args.left.now.nodes in
    exits _ _ _ _ _ c.from_residual-in_err-others-in-Bind.ensures.1
    (stop_at _ (ap (λ a. walk_statements K Γ (statement_row a) left) c.in-Bind.is)
    (stops_after _ _ (goes_after _ c.in_ok-value-in-Bind.ensures refl) (stop_goes_on _ _ _
    (statements_stop_at _ K (statement_row c.in-Bind.others.now) c.node.new.left.nodes c.in_ok-inner-in-Bind.ensures
    c.in_err-others-in-Bind.ensures))))

pub statements-returns-in_ok-placed-in-Bind : goal.statements-returns-in_ok-placed-in-Bind
unfolding ◌>>=◌
statements-returns-in_ok-placed-in-Bind t c =
    let K = known_of c.args.self.now.known.now in
    let Γ = local_types c.args.locals.now in
    let left = c.args.left.now.nodes in
    ap (λ a. walk_statements K Γ (statement_row a) left) c.in-Bind.is
    ∙ goes_after _ (goes_after _ c.in_ok-value-in-Bind.ensures refl) (goes_after _
    (statements_at K (statement_row c.in-Bind.others.now) c.node.new.left.nodes c.in_ok-inner-in-Bind.ensures
    c.in_ok-others-in-Bind.ensures) (done_at (ap statement_row c.in_ok-placed-in-Bind.ensures)))

pub statements-returns-in_err-ty-in-Let : goal.statements-returns-in_err-ty-in-Let
unfolding ◌>>=◌
statements-returns-in_err-ty-in-Let t c =
    let K = known_of c.args.self.now.known.now in
    let Γ = local_types c.args.locals.now in
    let left = c.args.left.now.nodes in
    exits _ _ _ _ _ c.from_residual-in_err-ty-in-Let.ensures.1
    (stop_at _ (ap (λ a. walk_statements K Γ (statement_row a) left) c.in-Let.is)
    (stop_goes_on _ _ _ (stop_goes_on _ _ _ c.in_err-ty-in-Let.ensures)))

pub statements-returns-in_err-value-in-Let : goal.statements-returns-in_err-value-in-Let
unfolding ◌>>=◌
statements-returns-in_err-value-in-Let t c =
    let K = known_of c.args.self.now.known.now in
    let Γ = local_types c.args.locals.now in
    let left = c.args.left.now.nodes in
    exits _ _ _ _ _ c.from_residual-in_err-value-in-Let.ensures.1
    (stop_at _ (ap (λ a. walk_statements K Γ (statement_row a) left) c.in-Let.is)
    (stop_goes_on _ _ _ (stops_after _ _ c.in_ok-ty-in-Let.ensures (stop_goes_on _ _ _
    c.in_err-value-in-Let.ensures))))

pub statements-returns-in_err-others-in-Let : goal.statements-returns-in_err-others-in-Let
unfolding ◌>>=◌
statements-returns-in_err-others-in-Let t c =
    let K = known_of c.args.self.now.known.now in
    let Γ = local_types c.args.locals.now in
    let left = c.args.left.now.nodes in
    exits _ _ _ _ _ c.from_residual-in_err-others-in-Let.ensures.1
    (stop_at _ (ap (λ a. walk_statements K Γ (statement_row a) left) c.in-Let.is)
    (stops_after _ _ (goes_after _ c.in_ok-ty-in-Let.ensures (goes_after _ c.in_ok-value-in-Let.ensures refl))
    (stop_goes_on _ _ _
    (statements_stop_at _ K (statement_row c.in-Let.others.now) c.node-in-Let.new.left.nodes
    c.in_ok-inner-in-Let.ensures
    c.in_err-others-in-Let.ensures))))

pub statements-returns-in_ok-placed-in-Let : goal.statements-returns-in_ok-placed-in-Let
unfolding ◌>>=◌
statements-returns-in_ok-placed-in-Let t c =
    let K = known_of c.args.self.now.known.now in
    let Γ = local_types c.args.locals.now in
    let left = c.args.left.now.nodes in
    ap (λ a. walk_statements K Γ (statement_row a) left) c.in-Let.is
    ∙ goes_after _ (goes_after _ c.in_ok-ty-in-Let.ensures (goes_after _ c.in_ok-value-in-Let.ensures refl))
    (goes_after _
    (statements_at K (statement_row c.in-Let.others.now) c.node-in-Let.new.left.nodes c.in_ok-inner-in-Let.ensures
    c.in_ok-others-in-Let.ensures) (done_at (ap statement_row c.in_ok-placed-in-Let.ensures)))

pub statements-returns-in_err-value-in-Run : goal.statements-returns-in_err-value-in-Run
unfolding ◌>>=◌
statements-returns-in_err-value-in-Run t c =
    let K = known_of c.args.self.now.known.now in
    let Γ = local_types c.args.locals.now in
    let left = c.args.left.now.nodes in
    exits _ _ _ _ _ c.from_residual-in_err-value-in-Run.ensures.1
    (stop_at _ (ap (λ a. walk_statements K Γ (statement_row a) left) c.in-Run.is)
    (stop_goes_on _ _ _ (stop_goes_on _ _ _ c.in_err-value-in-Run.ensures)))

pub statements-returns-in_err-others-in-Run : goal.statements-returns-in_err-others-in-Run
unfolding ◌>>=◌
statements-returns-in_err-others-in-Run t c =
    let K = known_of c.args.self.now.known.now in
    let Γ = local_types c.args.locals.now in
    let left = c.args.left.now.nodes in
    exits _ _ _ _ _ c.from_residual-in_err-others-in-Run.ensures.1
    (stop_at _ (ap (λ a. walk_statements K Γ (statement_row a) left) c.in-Run.is)
    (stops_after _ _ (goes_after _ c.in_ok-value-in-Run.ensures refl)
    (stop_goes_on _ _ _ c.in_err-others-in-Run.ensures)))

pub statements-returns-in_ok-placed-in-Run : goal.statements-returns-in_ok-placed-in-Run
unfolding ◌>>=◌
statements-returns-in_ok-placed-in-Run t c =
    let K = known_of c.args.self.now.known.now in
    let Γ = local_types c.args.locals.now in
    let left = c.args.left.now.nodes in
    ap (λ a. walk_statements K Γ (statement_row a) left) c.in-Run.is
    ∙ goes_after _ (goes_after _ c.in_ok-value-in-Run.ensures refl) (goes_after _ c.in_ok-others-in-Run.ensures
    (done_at (ap statement_row c.in_ok-placed-in-Run.ensures)))
