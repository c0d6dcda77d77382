use Rattle.std.proofs.Common.{arith, ◌-◌, ◌∙◌, sym, ap, subst, [], ◌∷◌, ◌++◌}
use Rattle.qtt_graph.specs.Graph.{names}
use Rattle.qtt_graph.specs.Modules.{graph_of, name_at}
use Rattle.qtt_graph.specs.Near.{Near, Stepped, IsFirstWay}
use Rattle.qtt_graph.proofs.NamePlaces.{once, graph-length}
use Rattle.qtt_graph.proofs.Ways.{Going, going-stops, going-ends, going-on}
use Rattle.qtt_graph.proofs.modules.Modules.way.Goals as goal

pub loop-next-init : goal.loop-next-init
loop-next-init c =
    let g = graph_of c.args.self.now.texts.now in
    let there = c.requires.there in
    let long = graph-length c.args.self.now.texts.now in
    subst (λ way. Going g c.args.near.now.items c.args.target c.args.count way c.args.target c.args.count)
    (sym c.new-way.ensures.items) (record {
      within = omega (arith, there, long);
      at = c.requires.back;
      on = λ w f. f;
    })

pub returns-then-left-eq0 : goal.returns-then-left-eq0
returns-then-left-eq0 c =
    let self = c.args.self.now in
    let g = graph_of self.texts.now in
    let near = c.args.near.now.items in
    let there = c.requires.there in
    let long = graph-length self.texts.now in
    let known = subst (λ n. Near g (name_at g c.args.target) n near) (sym long) c.requires.near in
    let step = subst (Stepped g near c.args.target c.loop-next.left c.loop-next.place) c.in-Some.is c.step.ensures in
    let way = c.in_ok-push.ensures.items ∙ ap (λ n. c.loop-next.way.items ++ n ∷ []) c.in_ok-name.ensures in
    subst (IsFirstWay g c.args.count c.args.target c.args.target) (sym way)
    (going-ends g near c.args.target c.args.count c.loop-next.way.items c.loop-next.place c.loop-next.left
    c.in-Some.next
    (once (names g) self.differ) (omega (arith, there, long)) known c.loop-next.invariant step c.if-left-eq0.true)

pub loop-next-preserved : goal.loop-next-preserved
loop-next-preserved c =
    let self = c.args.self.now in
    let g = graph_of self.texts.now in
    let near = c.args.near.now.items in
    let there = c.requires.there in
    let long = graph-length self.texts.now in
    let known = subst (λ n. Near g (name_at g c.args.target) n near) (sym long) c.requires.near in
    let step = subst (Stepped g near c.args.target c.loop-next.left c.loop-next.place) c.in-Some.is c.step.ensures in
    let way = c.in_ok-push.ensures.items ∙ ap (λ n. c.loop-next.way.items ++ n ∷ []) c.in_ok-name.ensures in
    subst (λ ws. Going g near c.args.target c.args.count ws c.in-Some.next (c.loop-next.left - 1)) (sym way)
    (going-on g near c.args.target c.args.count c.loop-next.way.items c.loop-next.place c.loop-next.left c.in-Some.next
    (once (names g) self.differ) (omega (arith, there, long)) known c.loop-next.invariant step c.if-left-eq0.false)

pub returns : goal.returns
returns c =
    let self = c.args.self.now in
    let g = graph_of self.texts.now in
    let near = c.args.near.now.items in
    let there = c.requires.there in
    let long = graph-length self.texts.now in
    let known = subst (λ n. Near g (name_at g c.args.target) n near) (sym long) c.requires.near in
    let step = subst (Stepped g near c.args.target c.loop-next.left c.loop-next.place) c.in_default.is c.step.ensures in
    absurd (going-stops g near c.args.target c.args.count c.loop-next.way.items c.loop-next.place c.loop-next.left
    (once (names g) self.differ) (omega (arith, there, long)) known c.loop-next.invariant step)
