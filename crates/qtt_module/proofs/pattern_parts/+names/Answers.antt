use Rattle.std.proofs.Common.{◌≡◌, ◌∙◌, ◌+◌, ◌++◌, ◌∷◌, [], map, take, IfOk, ap, sym, subst}
use Rattle.std.proofs.lemmas.List.{take_more, map-append}
use Rattle.qtt_syntax.specs.Tree.{shapes}
use Rattle.qtt_syntax.specs.Tree.Shape.{constructor}
use Rattle.qtt_syntax.specs.View.{shape_of}
use Rattle.qtt_syntax.proofs.Rows.{constructor_view}
use Rattle.qtt_module.specs.Sides.{names_in, names_of}
use Rattle.qtt_module.proofs.PatternParts.{names-of-fields, names-behind}
use Rattle.qtt_module.proofs.pattern_parts.+names.Goals as goal

pub names_among-loop-pattern-preserved : goal.names_among-loop-pattern-preserved
names_among-loop-pattern-preserved t c =
    let ps = c.args.patterns.now in
    let i = c.loop-pattern.pattern-index in
    let p = c.pattern-item.result in
    let more : map shape_of (take (i + 1) ps) ≡ map shape_of (take i ps) ++ shape_of p ∷ [] =
    ap (map shape_of) (take_more ps i p c.loop-pattern-test.true
    ∙ ap (λ q. take i ps ++ q ∷ []) (sym c.pattern-item.is)) ∙ map-append shape_of (take i ps) (p ∷ []) in
    c.in_ok-names.ensures
    ∙ names-behind c.args.before.items c.loop-pattern.names.items (map shape_of (take i ps)) (shape_of p)
    c.loop-pattern.invariant
    ∙ ap (λ xs. c.args.before.items ++ names_of xs) (sym more)

pub names_in-returns-in-Constructor : goal.names_in-returns-in-Constructor
names_in-returns-in-Constructor t c =
    let x = c.in-Constructor in
    let ps = map shape_of x.arguments.items in
    let form : shape_of c.args.pattern.now ≡ constructor x.mark x.head (shapes ps) x.span =
    ap shape_of x.is ∙ constructor_view x.mark x.head x.arguments x.span in
    let same : names_of (map shape_of c.deref.result.now) ≡ names_in (shape_of c.args.pattern.now) =
    ap (λ xs. names_of (map shape_of xs)) c.deref.ensures.value ∙ sym (names-of-fields ps)
    ∙ sym (ap names_in form) in
    subst (λ ns. IfOk c.names_among.result (λ names. names.items ≡ c.args.before.items ++ ns)) same
    c.names_among.ensures
