use Rattle.std.proofs.Common.{◌≡◌, arith}
use Rattle.std.proofs.lemmas.Grind.{common_steps}
use Rattle.qtt_term.specs.declared.term.Term.{the_lemmas}
use Rattle.qtt_term.specs.Term.{Call}
use Rattle.qtt_term.specs.View.{term, terms, side_by_side}
use Rattle.qtt_conv.proofs.Literals.{call-is_focus}
use Rattle.qtt_conv.proofs.frame.taken_apart.Goals as goal

pub returns-in-None : goal.returns-in-None
returns-in-None c =
    let p = c.in-Prim in
    let is : term c.args.t.now ≡ Call p.prim (side_by_side (terms p.arguments.items)) =
    grind (arith, common_steps, the_lemmas) in
    let parts = c.in_ok-before-in-Prim.ensures.parts in
    call-is_focus p.prim p.arguments.items c.in_ok-before-in-Prim.before.items c.in_ok-before-in-Prim.rest.now
    (term c.args.t.now) is (grind (arith, common_steps, parts)) (omega (arith, c.in-None.ensures.cases))
