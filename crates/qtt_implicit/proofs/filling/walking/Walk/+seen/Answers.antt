-- The parts of each pattern in turn.
use Rattle.std.proofs.Common.{◌∙◌, ap, refl, ℕ}
use Rattle.qtt_implicit.specs.Columns.{columns_of}
use Rattle.qtt_implicit.specs.Filling.{◌>>=◌}
use Rattle.qtt_implicit.specs.KnownItems.{known_of}
use Rattle.qtt_implicit.specs.Nodes.{node_tree}
use Rattle.qtt_implicit.specs.Patterns.{local_name, walk_shape, walk_shapes}
use Rattle.qtt_implicit.specs.Seeing.{tree_list}
use Rattle.qtt_implicit.specs.Shaping.{shape_row, shape_tree}
use Rattle.qtt_implicit.specs.TextTypes.{type_tree}
use Rattle.qtt_implicit.specs.Variables.{met_of}
use Rattle.qtt_implicit.proofs.Sights.{all_same_seen, same_seen, shape_at, shape_stops_at, shapes_at, shapes_stop_at}
use Rattle.qtt_implicit.proofs.Solved.{stop_goes_on}
use Rattle.qtt_implicit.proofs.Steps.{done_at, exits, goes_after, stop_at, stops_after, walk_at, walk_stops_at}
use Rattle.qtt_implicit.proofs.filling.walking.Walk.+seen.Goals as goal

pub shape-returns-in_err-put_in-in-Variable : goal.shape-returns-in_err-put_in-in-Variable
unfolding ◌>>=◌
shape-returns-in_err-put_in-in-Variable t c =
    let K = known_of c.args.self.now.known.now in
    let v = met_of c.args.met in
    let T = type_tree c.args.ty in
    let left = c.args.left.now.nodes in
    exits _ _ _ _ _ c.from_residual.ensures.1
    (stop_at _ (ap (λ p. walk_shape K v T (shape_tree p) left) c.in-Variable.is)
    (stop_goes_on _ _ _ c.in_err-put_in-in-Variable.ensures))

pub shape-returns-in_ok-with-in-Variable : goal.shape-returns-in_ok-with-in-Variable
unfolding ◌>>=◌
shape-returns-in_ok-with-in-Variable t c =
    let K = known_of c.args.self.now.known.now in
    let v = met_of c.args.met in
    let T = type_tree c.args.ty in
    let left = c.args.left.now.nodes in
    ap (λ p. walk_shape K v T (shape_tree p) left) c.in-Variable.is
    ∙ goes_after _ c.in_ok-put_in-in-Variable.ensures
    (done_at (same_seen _ _ _ _ _ _ (ap shape_tree c.in-Variable.is)
    (c.in_ok-local_name-in-Variable.ensures
    ∙ ap (λ (i : ℕ). local_name i c.in-Variable.name.now c.in-Variable.span) c.number.ensures)
    c.in_ok-with-in-Variable.ensures))

pub shape-returns-in_err-value-in-Dot : goal.shape-returns-in_err-value-in-Dot
unfolding ◌>>=◌
shape-returns-in_err-value-in-Dot t c =
    let K = known_of c.args.self.now.known.now in
    let v = met_of c.args.met in
    let T = type_tree c.args.ty in
    let left = c.args.left.now.nodes in
    exits _ _ _ _ _ c.from_residual-in_err-value-in-Dot.ensures.1
    (stop_at _ (ap (λ p. walk_shape K v T (shape_tree p) left) c.in-Dot.is)
    (stop_goes_on _ _ _ (walk_stops_at _ K (node_tree c.in-Dot.value.now) left c.in_ok-locals-in-Dot.ensures
    c.in_err-value-in-Dot.ensures)))

pub shape-returns-in_ok-value-in-Dot : goal.shape-returns-in_ok-value-in-Dot
unfolding ◌>>=◌
shape-returns-in_ok-value-in-Dot t c =
    let K = known_of c.args.self.now.known.now in
    let v = met_of c.args.met in
    let T = type_tree c.args.ty in
    let left = c.args.left.now.nodes in
    ap (λ p. walk_shape K v T (shape_tree p) left) c.in-Dot.is
    ∙ goes_after _ (walk_at K (node_tree c.in-Dot.value.now) left c.in_ok-locals-in-Dot.ensures
    c.in_ok-value-in-Dot.ensures) refl

pub shape-returns-in_err-fields-in-Constructor : goal.shape-returns-in_err-fields-in-Constructor
unfolding ◌>>=◌
shape-returns-in_err-fields-in-Constructor t c =
    let K = known_of c.args.self.now.known.now in
    let v = met_of c.args.met in
    let T = type_tree c.args.ty in
    let left = c.args.left.now.nodes in
    exits _ _ _ _ _ c.from_residual-in_err-fields-in-Constructor.ensures.1
    (stop_at _ (ap (λ p. walk_shape K v T (shape_tree p) left) c.in-Constructor.is)
    (stop_goes_on _ _ _ (shapes_stop_at _ K v (shape_row c.in-Constructor.fields.now) left
    c.in_ok-columns-in-Constructor.ensures c.in_err-fields-in-Constructor.ensures)))

pub shape-returns-in_ok-constructed-in-Constructor : goal.shape-returns-in_ok-constructed-in-Constructor
unfolding ◌>>=◌
shape-returns-in_ok-constructed-in-Constructor t c =
    let K = known_of c.args.self.now.known.now in
    let v = met_of c.args.met in
    let T = type_tree c.args.ty in
    let left = c.args.left.now.nodes in
    ap (λ p. walk_shape K v T (shape_tree p) left) c.in-Constructor.is
    ∙ goes_after _ (shapes_at K v (shape_row c.in-Constructor.fields.now) left
    c.in_ok-columns-in-Constructor.ensures c.in_ok-fields-in-Constructor.ensures)
    (done_at (same_seen _ _ _ _ _ _ refl c.in_ok-constructed-in-Constructor.ensures refl))

pub shapes-returns-in_err-first-in-More : goal.shapes-returns-in_err-first-in-More
unfolding ◌>>=◌
shapes-returns-in_err-first-in-More t c =
    let K = known_of c.args.self.now.known.now in
    let v = met_of c.args.met in
    let cs = columns_of c.args.columns in
    let left = c.args.left.now.nodes in
    exits _ _ _ _ _ c.from_residual-in_err-first-in-More.ensures.1
    (stop_at _ (ap (λ ps. walk_shapes K v cs (shape_row ps) left) c.in-More.is)
    (stop_goes_on _ _ _ (shape_stops_at _ K v (shape_tree c.in-More.first) left
    c.in_ok-ty-in-More.ensures c.in_err-first-in-More.ensures)))

pub shapes-returns-in_err-others-in-More : goal.shapes-returns-in_err-others-in-More
unfolding ◌>>=◌
shapes-returns-in_err-others-in-More t c =
    let K = known_of c.args.self.now.known.now in
    let v = met_of c.args.met in
    let cs = columns_of c.args.columns in
    let left = c.args.left.now.nodes in
    exits _ _ _ _ _ c.from_residual-in_err-others-in-More.ensures.1
    (stop_at _ (ap (λ ps. walk_shapes K v cs (shape_row ps) left) c.in-More.is)
    (stops_after _ _ (shape_at K v (shape_tree c.in-More.first) left c.in_ok-ty-in-More.ensures
    c.in_ok-first-in-More.ensures)
    (stop_goes_on _ _ _ (shapes_stop_at _ K (met_of c.in_ok-first-in-More.first.met)
    (shape_row c.in-More.others.now) c.shape.new.left.nodes
    c.in_ok-columns-in-More.ensures c.in_err-others-in-More.ensures))))

pub shapes-returns-in_ok-placed-in-More-2 : goal.shapes-returns-in_ok-placed-in-More-2
unfolding ◌>>=◌
shapes-returns-in_ok-placed-in-More-2 t c =
    let K = known_of c.args.self.now.known.now in
    let v = met_of c.args.met in
    let cs = columns_of c.args.columns in
    let left = c.args.left.now.nodes in
    ap (λ ps. walk_shapes K v cs (shape_row ps) left) c.in-More.is
    ∙ goes_after _ (shape_at K v (shape_tree c.in-More.first) left c.in_ok-ty-in-More.ensures
    c.in_ok-first-in-More.ensures)
    (goes_after _ (shapes_at K (met_of c.in_ok-first-in-More.first.met)
    (shape_row c.in-More.others.now) c.shape.new.left.nodes
    c.in_ok-columns-in-More.ensures c.in_ok-others-in-More.ensures)
    (done_at (all_same_seen _ _ _ _ _ _ (ap shape_row c.in_ok-placed-in-More.ensures)
    (ap tree_list c.in_ok-placed-in-More-2.ensures) refl)))
