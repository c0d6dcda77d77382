use Rattle.std.proofs.Common.{◌∙◌, Err, sym, ap, subst}
use Rattle.qtt_syntax.specs.View.{module_of}
use Rattle.qtt_names.specs.Scope.{module_name}
use Rattle.qtt_module.specs.Answer.{Gives}
use Rattle.qtt_module.specs.Prepared.{looked_up}
use Rattle.qtt_module.proofs.Preparing.{scope-same}
use Rattle.qtt_module.proofs.prepared.named.Goals as goal

pub returns-in-Ok : goal.returns-in-Ok
returns-in-Ok c =
    let m = module_of c.args.text.now in
    ap (looked_up (module_name m))
    (scope-same c.args.«module» m c.args.imports.now c.in_ok-scope.scope c.in_ok-scope.ensures ∙ c.in-Ok.ensures)

pub returns-in-Err-Fault : goal.returns-in-Err-Fault
returns-in-Err-Fault c =
    let m = module_of c.args.text.now in
    subst (λ o. Gives module_of (Err c.wrong_names.result) (looked_up (module_name m) o))
    (sym (scope-same c.args.«module» m c.args.imports.now c.in_ok-scope.scope c.in_ok-scope.ensures
    ∙ rw c.in-Err-Fault.field-0-is at c.in-Err-Fault.ensures)) c.wrong_names.ensures
