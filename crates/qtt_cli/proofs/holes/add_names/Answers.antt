use Rattle.std.proofs.Common.{◌++◌, [], ◌∷◌, map, refl, ap, ◌∙◌}
use Rattle.qtt_graph.specs.Graph.{Name}
use Rattle.qtt_cli.specs.Views.{name_of}
use Rattle.qtt_cli.proofs.Written.{written-on, written-all}
use Rattle.qtt_cli.proofs.holes.add_names.Goals as goal

pub loop-hole-preserved : goal.loop-hole-preserved
loop-hole-preserved c =
    let hole = c.hole-item.result in
    let old = c.loop-hole.names.items in
    written-on (map name_of) c.args.holes.now c.loop-hole.hole-index hole (name_of hole ∷ []) refl
    c.loop-hole-test.true c.hole-item.is old c.push.new.self.items
    (c.args.names.now.items ++ map name_of c.args.holes.now)
    (c.in_ok-push.ensures.items ∙ ap (λ (n : Name). old ++ n ∷ []) c.in_ok-copy.ensures) c.loop-hole.invariant

pub returns : goal.returns
returns c =
    written-all (map name_of) c.args.holes.now c.loop-hole.hole-index refl c.loop-hole-test.false
    c.loop-hole.names.items (c.args.names.now.items ++ map name_of c.args.holes.now) c.loop-hole.invariant
