use Rattle.std.proofs.Common.{◌≡◌, ◌≤◌, length, rules, arith}
use Rattle.qtt_term.specs.Judgement.{ext}
use Rattle.qtt_term.specs.Telescopes.{tele}
use Rattle.qtt_core_check.specs.Seen.{ctx}
use Rattle.qtt_core_check.proofs.Scopes.{several-inner, several-outer}
use Rattle.qtt_core_check.proofs.scope.Scope.+entry.Goals as goal

pub returns-then-place-binders : goal.returns-then-place-binders
returns-then-place-binders t c =
    let e : ctx c.args.self.now ≡ ext (ctx c.in-Several.outer.now) (tele c.in-Several.binders.now) = search rules in
    rw e (several-inner (ctx c.in-Several.outer.now) c.in-Several.binders.now c.args.index _ (omega arith))

pub returns-else-place-binders : goal.returns-else-place-binders
returns-else-place-binders t c =
    let e : ctx c.args.self.now ≡ ext (ctx c.in-Several.outer.now) (tele c.in-Several.binders.now) = search rules in
    let h : length c.in-Several.binders.now ≤ c.args.index = omega arith in
    rw (e, several-outer (ctx c.in-Several.outer.now) c.in-Several.binders.now c.args.index h) (search rules)
