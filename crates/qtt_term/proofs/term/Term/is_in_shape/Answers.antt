use Rattle.std.proofs.Common.{Bool, ◌↔◌, IsTrue, sym, subst}
use Rattle.qtt_term.specs.Globals.{env}
use Rattle.qtt_term.specs.Shape.{InShape}
use Rattle.qtt_term.specs.View.{term}
use Rattle.qtt_term.proofs.InShape.{shape-decided}
use Rattle.qtt_term.proofs.term.Term.is_in_shape.Goals as goal

pub returns : goal.returns
returns c =
    let E = env c.args.env.now in
    let t = term c.args.self.now in subst (λ (b : Bool). IsTrue b ↔ InShape E t) (sym c.in_shape.ensures)
    (shape-decided E t)
