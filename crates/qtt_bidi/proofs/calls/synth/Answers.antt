use Rattle.std.proofs.Common.{Ok}
use Rattle.qtt_syntax.specs.View.{tree_of}
use Rattle.qtt_term.specs.Contexts.{part}
use Rattle.qtt_term.specs.Entries.{entries, env}
use Rattle.qtt_term.specs.Scope.{scope_of}
use Rattle.qtt_term.proofs.Kept.{globals-closed}
use Rattle.qtt_rules.specs.Judged.{Mode}
use Rattle.qtt_bidi.specs.Elaborated.{found_as}
use Rattle.qtt_bidi.proofs.Meant.{elaborated}
use Rattle.qtt_bidi.proofs.Within.{passed}
use Rattle.qtt_bidi.proofs.calls.synth.Goals as goal

pub returns-in_err-found : goal.returns-in_err-found
returns-in_err-found g c =
    elaborated (entries c.args.globals.now) c.args.budget (part c.args.sigma) (scope_of c.args.context.now) Mode.synth
    (tree_of c.args.e.now) (globals-closed c.args.globals.now) found_as c.from_residual.result
    (passed (env (entries c.args.globals.now)) c.args.budget _ found_as c.from_residual.result
    c.in_err-found.field-0.0 c.from_residual.ensures.1 c.in_err-found.ensures.gives)

pub returns : goal.returns
returns g c =
    let j = c.in_ok-found.found in
    elaborated (entries c.args.globals.now) c.args.budget (part c.args.sigma) (scope_of c.args.context.now) Mode.synth
    (tree_of c.args.e.now) (globals-closed c.args.globals.now) found_as
    (Ok (record { ty = j.ty; core = j.core; usage = j.uses })) c.in_ok-found.ensures.gives
