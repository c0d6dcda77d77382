use Rattle.std.proofs.Common.{◌∙◌, ap, eqb, sym}
use Rattle.qtt_term.specs.Question.{same}
use Rattle.qtt_term.specs.Substitution.{shift}
use Rattle.qtt_term.specs.Term.{var}
use Rattle.qtt_term.specs.View.{term}
use Rattle.qtt_term.proofs.Moves.{shift-add}
use Rattle.qtt_core_check.proofs.Views.{var-seen}
use Rattle.qtt_module.proofs.constructors.is_variable.Goals as goal

pub returns-in-Var : goal.returns-in-Var
returns-in-Var c =
    let v = var (shift c.args.newest c.args.place) in
    c.is_above.ensures ∙ ap (eqb c.in-Var.index) (sym (shift-add c.args.newest c.args.place))
    ∙ sym (ap (λ t. same t v) (ap term c.in-Var.is ∙ var-seen c.in-Var.index))
