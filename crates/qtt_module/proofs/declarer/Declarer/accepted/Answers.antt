use Rattle.qtt_term.specs.Entries.{entries, env}
use Rattle.qtt_term.specs.Scope.{scope_of}
use Rattle.qtt_term.specs.View.{term}
use Rattle.qtt_core_check.specs.Meaning.{typed_as}
use Rattle.qtt_module.proofs.Accepted.{accepted-on, untyped-refused}
use Rattle.qtt_module.proofs.Alike.{gives-alike}
use Rattle.qtt_module.proofs.declarer.Declarer.accepted.Goals as goal

pub returns-in-Ok : goal.returns-in-Ok
returns-in-Ok g c =
    let G = entries c.args.self.now.elaborator.globals.now in
    let n = c.args.self.now.elaborator.budget in
    let S = scope_of c.args.context.now in
    let A = term c.args.ty.now in
    gives-alike (env G) (env G) n _ _
    (accepted-on G n S c.args.name.now c.args.bound c.args.span A (typed_as (c.in-Ok.found, c.in-Ok.field-0-1))
    c.in-Ok.ensures.gives) (λ u. u) c.sort_within.result c.sort_within.ensures

pub returns : goal.returns
returns g c =
    let G = entries c.args.self.now.elaborator.globals.now in
    let n = c.args.self.now.elaborator.budget in
    let S = scope_of c.args.context.now in
    untyped-refused G n S c.args.name.now c.args.bound c.args.span (term c.args.ty.now) c.in-Err.refusal
    c.in-Err.ensures.gives c.untyped.result c.untyped.ensures
