use Rattle.std.proofs.Common.{◌≡◌, [], ◌∷◌, map, sym, ap, ◌∙◌}
use mathlib.Core.Path.{ap₂}
use Rattle.qtt_term.specs.Substitution.{ren, shift}
use Rattle.qtt_term.specs.View.{term}
use Rattle.qtt_term.proofs.Moves.{raised-zero}
use Rattle.qtt_unify.specs.Equations.{Found}
use Rattle.qtt_unify.specs.View.{found}
use Rattle.qtt_unify.proofs.Within.{on_done, reached}
use Rattle.qtt_unify.proofs.unifier.Unifier.stuck.Goals as goal

pub returns : goal.returns
returns g c =
    let target : term c.in_ok-target.target ≡ ren (shift c.args.fields) (term c.args.target.now) =
    c.in_ok-target.ensures ∙ raised-zero c.args.fields (term c.args.target.now) in
    let index : term c.in_ok-copy.field-0 ≡ term c.args.index.now = c.in_ok-copy.ensures in
    reached on_done
    (ap₂ (λ u t. Found.sticks u t ∷ []) (sym index) (sym target) ∙ ap (map found) (sym c.in_ok-alone.ensures))
