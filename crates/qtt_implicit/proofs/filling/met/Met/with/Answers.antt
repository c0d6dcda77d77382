-- The next variable is met.
use Rattle.std.proofs.Common.{◌≡◌, ◌∙◌, ap, suc, arith}
use Rattle.qtt_implicit.specs.Walk.{Types}
use Rattle.qtt_implicit.specs.TextTypes.{local_types, type_tree}
use Rattle.qtt_implicit.proofs.MetVariables.{among, one_met}
use Rattle.qtt_implicit.proofs.filling.met.Met.with.Goals as goal

pub returns-in_ok-placed-in-Some : goal.returns-in_ok-placed-in-Some
returns-in_ok-placed-in-Some c =
    let before : c.args.self.unmet ≡ suc c.in-Some.unmet = omega (arith, c.in-Some.ensures) in
    ap (λ (Γ : Types). among c.in-Some.unmet Γ) (ap local_types c.in_ok-placed-in-Some.ensures)
    ∙ one_met c.in-Some.unmet c.args.self.unmet (local_types c.args.self.locals.now) (type_tree c.args.ty) before
