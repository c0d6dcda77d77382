use Rattle.std.proofs.Common.{◌≡◌, ◌∙◌, ◌+◌, ◌++◌, ◌∷◌, [], map, take, IfOk, ap, sym, subst}
use Rattle.std.proofs.lemmas.List.{take_more, map-append}
use Rattle.qtt_syntax.specs.Tree.{shapes}
use Rattle.qtt_syntax.specs.Tree.Shape.{constructor}
use Rattle.qtt_syntax.specs.View.{shape_of}
use Rattle.qtt_syntax.proofs.Rows.{constructor_view}
use Rattle.qtt_split.specs.Group.{dots_in, dots_of}
use Rattle.qtt_module.specs.GroupCalls.{dot_of}
use Rattle.qtt_module.proofs.PatternParts.{dots-of-fields, dots-behind}
use Rattle.qtt_module.proofs.pattern_parts.+dots.Goals as goal

pub dots_among-loop-pattern-preserved : goal.dots_among-loop-pattern-preserved
dots_among-loop-pattern-preserved t c =
    let ps = c.args.patterns.now in
    let i = c.loop-pattern.pattern-index in
    let p = c.pattern-item.result in
    let before = map dot_of c.args.before.items in
    let more : map shape_of (take (i + 1) ps) ≡ map shape_of (take i ps) ++ shape_of p ∷ [] =
    ap (map shape_of) (take_more ps i p c.loop-pattern-test.true
    ∙ ap (λ q. take i ps ++ q ∷ []) (sym c.pattern-item.is)) ∙ map-append shape_of (take i ps) (p ∷ []) in
    c.in_ok-dots.ensures
    ∙ dots-behind before (map dot_of c.loop-pattern.dots.items) (map shape_of (take i ps)) (shape_of p)
    c.loop-pattern.invariant
    ∙ ap (λ xs. before ++ dots_of xs) (sym more)

pub dots_in-returns-in-Constructor : goal.dots_in-returns-in-Constructor
dots_in-returns-in-Constructor t c =
    let x = c.in-Constructor in
    let ps = map shape_of x.arguments.items in
    let form : shape_of c.args.pattern.now ≡ constructor x.mark x.head (shapes ps) x.span =
    ap shape_of x.is ∙ constructor_view x.mark x.head x.arguments x.span in
    let same : dots_of (map shape_of c.deref.result.now) ≡ dots_in (shape_of c.args.pattern.now) =
    ap (λ xs. dots_of (map shape_of xs)) c.deref.ensures.value ∙ sym (dots-of-fields ps)
    ∙ sym (ap dots_in form) in
    subst (λ ds. IfOk c.dots_among.result (λ dots. map dot_of dots.items ≡ map dot_of c.args.before.items ++ ds)) same
    c.dots_among.ensures
