use Rattle.std.proofs.Common.{◌≡◌, ◌+◌, ◌≤◌, length, Some, slice_get, rules, arith, sym, ◌∙◌, ap}
use Rattle.std.proofs.lemmas.Grind.{common_steps}
use mathlib.Core.Path.{ap₂}
use Rattle.qtt_term.specs.View.{term}
use Rattle.qtt_term.specs.Globals.{env}
use Rattle.qtt_term.specs.Contexts.{part}
use Rattle.qtt_term.specs.Infer.{inferred, use_at}
use Rattle.qtt_core_check.specs.Seen.{ctx}
use Rattle.qtt_term.proofs.Moves.{raised-zero}
use Rattle.qtt_core_check.proofs.Within.{reached}
use Rattle.qtt_core_check.proofs.Variables.{before-end, var-missing, var-unusable, var-found}
use Rattle.qtt_core_check.proofs.premises.Checker.var_row.Goals as goal

pub returns-in_default-clause-gives : goal.returns-in_default-clause-gives
returns-in_default-clause-gives g c =
    var-missing (env c.args.self.now.globals.now) (part c.args.sigma) (ctx c.args.scope.now) c.args.index (search rules)

pub returns-then-not-usable-clause-gives : goal.returns-then-not-usable-clause-gives
returns-then-not-usable-clause-gives g c =
    var-unusable (env c.args.self.now.globals.now) (part c.args.sigma) (ctx c.args.scope.now) c.args.index
    (c.in-Some.mult, term c.in-Some.ty.now) (search rules) (search rules)

pub overflow_add-index : goal.overflow_add-index
overflow_add-index g c =
    let e : slice_get (ctx c.args.scope.now) c.args.index ≡ Some (c.in-Some.mult, term c.in-Some.ty.now) =
    search rules in
    let h = before-end (ctx c.args.scope.now) c.args.index (c.in-Some.mult, term c.in-Some.ty.now) e in
    let d : c.in_ok-depth.depth ≡ length (ctx c.args.scope.now) = c.in_ok-depth.ensures in
    let k : c.args.index + 1 ≤ c.in_ok-depth.depth = omega arith in grind (arith, common_steps)

pub use_at-requires : goal.use_at-requires
use_at-requires g c =
    let e : slice_get (ctx c.args.scope.now) c.args.index ≡ Some (c.in-Some.mult, term c.in-Some.ty.now) =
    search rules in
    let h = before-end (ctx c.args.scope.now) c.args.index (c.in-Some.mult, term c.in-Some.ty.now) e in
    let d : c.in_ok-depth.depth ≡ length (ctx c.args.scope.now) = c.in_ok-depth.ensures in omega arith

pub returns-clause-gives : goal.returns-clause-gives
returns-clause-gives g c =
    reached (var-found (env c.args.self.now.globals.now) (part c.args.sigma) (ctx c.args.scope.now) c.args.index
    (c.in-Some.mult, term c.in-Some.ty.now) (search rules) (search rules))
    (ap₂ inferred (sym (raised-zero (c.args.index + 1) (term c.in-Some.ty.now)) ∙ sym c.in_ok-shift.ensures)
    (ap (λ n. use_at (part c.args.sigma) n c.args.index) (sym c.in_ok-depth.ensures) ∙ sym c.in_ok-use_at.ensures.uses))
