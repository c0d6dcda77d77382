use Rattle.std.proofs.Common.{sym, ◌∙◌}
use Rattle.std.proofs.lemmas.Result.{IfOk-weaker}
use Rattle.qtt_term.specs.View.{term}
use Rattle.qtt_term.specs.Globals.{env as env_of}
use Rattle.qtt_term.proofs.Kept.{globals-closed}
use Rattle.qtt_confluence.proofs.Facts.{equal_is_convertible, different_is_apart}
use Rattle.qtt_confluence.proofs.deciding.decide.Goals as goal

pub returns-clause-equal : goal.returns-clause-equal
returns-clause-equal g c =
    IfOk-weaker c.compare.result _ _
    (λ a exact equal. equal_is_convertible (env_of c.args.env.now) c.args.n (term c.args.t.now)
    (term c.args.u.now) (sym exact ∙ equal))
    c.compare.ensures

pub returns-clause-different : goal.returns-clause-different
returns-clause-different g c =
    IfOk-weaker c.compare.result _ _
    (λ a exact path different. different_is_apart (env_of c.args.env.now) (globals-closed c.args.env.now) c.args.n
    (term c.args.t.now) (term c.args.u.now) path (sym exact ∙ different))
    c.compare.ensures
