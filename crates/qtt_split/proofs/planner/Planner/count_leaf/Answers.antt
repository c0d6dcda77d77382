use Rattle.std.proofs.Common.{◌≡◌, ◌+◌, ◌-◌, suc, sym, subst, arith}
use Rattle.qtt_term.specs.Entries.{entries, env}
use Rattle.qtt_split.specs.Answers.{Refuses}
use Rattle.qtt_split.specs.Calls.{group_of}
use Rattle.qtt_split.specs.Split.{count_leaf}
use Rattle.qtt_split.proofs.Leaves.{no-leaf, one-leaf}
use Rattle.qtt_split.proofs.planner.Planner.count_leaf.Goals as goal

pub returns-then-left-eq0 : goal.returns-then-left-eq0
returns-then-left-eq0 g c =
    let E = env (entries c.args.self.now.unifier.globals.now) in
    let n = c.args.self.now.unifier.budget in
    let G = group_of c.args.self.now in
    let k : c.from.result + 1 ≡ suc c.args.self.now.limit = omega (arith, c.from.ensures) in
    subst (λ e. Refuses E n (count_leaf G c.args.left) e) (sym c.refused.ensures)
    (no-leaf E n G c.args.left (c.from.result + 1) c.if-left-eq0.true k)

pub returns : goal.returns
returns g c =
    one-leaf (env (entries c.args.self.now.unifier.globals.now)) c.args.self.now.unifier.budget
    (group_of c.args.self.now) c.args.left (c.args.left - 1) (omega (arith, c.if-left-eq0.false))
