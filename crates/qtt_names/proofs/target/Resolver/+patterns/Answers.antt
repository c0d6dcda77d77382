-- The patterns of a constructor, and the pattern that stops a row.
use Rattle.std.proofs.Common.{◌≡◌, ◌∙◌, ap, sym, arith, Ok, map, []}
use Rattle.std.proofs.lemmas.Grind.{common_steps}
use Rattle.qtt_syntax.specs.View.{shape_of}
use Rattle.qtt_names.specs.Patterns.{behind_shape, filled_shape}
use Rattle.qtt_names.specs.View.{names_of}
use Rattle.qtt_names.proofs.Steps.{in_turn-at}
use Rattle.qtt_syntax.proofs.Rows.{constructor_view}
use Rattle.qtt_names.specs.InTurn.{in_turn}
use Rattle.qtt_names.proofs.Shapes.{shape_parts, constructor_form, constructor_found}
use Rattle.qtt_names.proofs.target.Resolver.+patterns.Goals as goal

pub patterns-returns-in_err-pattern-clause-gives : goal.patterns-returns-in_err-pattern-clause-gives
patterns-returns-in_err-pattern-clause-gives t c =
    let at = in_turn-at (filled_shape (names_of c.args.self.now) c.args.variables.now.items) behind_shape shape_of
    c.args.before.now.keys c.args.source.now c.loop-pattern.pattern-index c.pattern-item.result
    c.loop-pattern-test.true c.pattern-item.is in
    rw at (grind (arith, shape_parts))

pub pattern-returns-in_err-arguments-in-Constructor-clause-gives :
    goal.pattern-returns-in_err-arguments-in-Constructor-clause-gives
pattern-returns-in_err-arguments-in-Constructor-clause-gives t c =
    rw (constructor_form _ _ _ _ _ c.in-Constructor.is) (grind (arith, shape_parts))

pub pattern-returns-in_ok-arguments-in-Constructor-clause-behind :
    goal.pattern-returns-in_ok-arguments-in-Constructor-clause-behind
pattern-returns-in_ok-arguments-in-Constructor-clause-behind t c =
    rw (constructor_form _ _ _ _ _ c.in-Constructor.is) (grind (arith, shape_parts))

pub pattern-returns-in_ok-arguments-in-Constructor-clause-gives :
    goal.pattern-returns-in_ok-arguments-in-Constructor-clause-gives
pattern-returns-in_ok-arguments-in-Constructor-clause-gives t c =
    let names = names_of c.args.self.now in
    let one : names [] c.in-Constructor.head ≡ Ok c.in_ok-head-in-Constructor.head = grind (arith, common_steps) in
    let other : in_turn (filled_shape names c.args.variables.now.items) behind_shape c.args.before.now.keys
    (map shape_of c.in-Constructor.arguments.items) ≡ Ok
    (map shape_of c.in_ok-arguments-in-Constructor.arguments.items) = grind (arith, common_steps) in
    ap (filled_shape names c.args.variables.now.items c.args.before.now.keys)
    (constructor_form _ _ _ _ _ c.in-Constructor.is)
    ∙ constructor_found names _ _ _ _ _ _ _ _ one other
    ∙ ap Ok (sym (constructor_view c.in-Constructor.mark c.in_ok-head-in-Constructor.head
    c.in_ok-arguments-in-Constructor.arguments c.in-Constructor.span))
