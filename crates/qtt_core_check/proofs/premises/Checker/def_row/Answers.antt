use Rattle.std.proofs.Common.{◌≡◌, Some, None, sym, ap, rules}
use Rattle.qtt_usage.specs.Usage.{no_usage}
use Rattle.qtt_term.specs.Substitution.{sub, closed}
use Rattle.qtt_term.specs.Globals.{env}
use Rattle.qtt_term.specs.Contexts.{part}
use Rattle.qtt_term.specs.Items.{definition}
use Rattle.qtt_term.specs.View.{term}
use Rattle.qtt_term.specs.Infer.{inferred}
use Rattle.qtt_core_check.specs.Seen.{ctx, judged}
use Rattle.std.proofs.Common.{length}
use Rattle.qtt_core_check.proofs.Within.{reached}
use Rattle.qtt_core_check.proofs.Continuing.{finished}
use Rattle.qtt_core_check.proofs.Families.{def-missing, def-unusable, def-found}
use Rattle.qtt_core_check.proofs.premises.Checker.def_row.Goals as goal

pub returns-in_default-clause-gives : goal.returns-in_default-clause-gives
returns-in_default-clause-gives g c =
    let e : (env c.args.self.now.globals.now).definition c.args.id ≡ None = search rules in
    def-missing (env c.args.self.now.globals.now) (part c.args.sigma) (ctx c.args.scope.now) c.args.id e

pub returns-then-not-usable-clause-gives : goal.returns-then-not-usable-clause-gives
returns-then-not-usable-clause-gives g c =
    let e : (env c.args.self.now.globals.now).definition c.args.id ≡ Some (definition c.in-Some.definition.now) =
    search rules in
    def-unusable (env c.args.self.now.globals.now) (part c.args.sigma) (ctx c.args.scope.now) c.args.id
    (definition c.in-Some.definition.now) e (search rules)

pub returns-clause-gives : goal.returns-clause-gives
returns-clause-gives g c =
    let D = definition c.in-Some.definition.now in
    let e : (env c.args.self.now.globals.now).definition c.args.id ≡ Some D = search rules in
    let t : term c.in_ok-ty.ty ≡ sub closed D.type = search rules in
    finished _ judged c.plain_row.result
    (reached (def-found (env c.args.self.now.globals.now) (part c.args.sigma) (ctx c.args.scope.now) c.args.id D e
    (search rules))
    (ap (λ A. inferred A (no_usage (length (ctx c.args.scope.now)))) (sym t)))
    c.plain_row.ensures.gives
