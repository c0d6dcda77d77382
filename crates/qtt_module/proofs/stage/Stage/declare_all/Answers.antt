use Rattle.std.proofs.Common.{arith}
use Rattle.qtt_term.specs.Entries.{entries}
use Rattle.qtt_module.specs.Declaring.{all_declared}
use Rattle.qtt_module.specs.Module.{in_turn}
use Rattle.qtt_module.specs.Stages.{home, stage_of}
use Rattle.qtt_module.specs.Text.{standing_in_turn}
use Rattle.qtt_module.proofs.Passing.{declared-one, one-passes, one-stops, all-pass, passes-on}
use Rattle.qtt_module.proofs.stage.Stage.declare_all.Goals as goal

pub returns-in_err-declare : goal.returns-in_err-declare
returns-in_err-declare g c =
    let M = home c.args.judge.now in
    let n = c.args.judge.now.budget in
    let S = stage_of c.args.self.now in
    let xs = c.args.declarations.now in
    let x = c.declaration-item.result in
    let w = declared-one x in
    let e = c.in_err-declare.field-0.0 in
    passes-on M n (in_turn M n S (all_declared xs)) (standing_in_turn M n S (all_declared xs))
    (stage_of c.declare.new.self) c.from_residual.result e c.from_residual.ensures.1
    (one-stops M n S (stage_of c.loop-declaration.self) xs c.loop-declaration.declaration-index
    c.loop-declaration.invariant x c.declaration-item.is c.loop-declaration-test.true
    (entries c.declare.new.self.globals) e (c.in_err-declare.ensures w.it w.is))

pub loop-declaration-preserved : goal.loop-declaration-preserved
loop-declaration-preserved g c =
    let x = c.declaration-item.result in
    let w = declared-one x in
    one-passes (home c.args.judge.now) c.args.judge.now.budget (stage_of c.args.self.now)
    (stage_of c.loop-declaration.self) c.args.declarations.now c.loop-declaration.declaration-index
    c.loop-declaration.invariant x c.declaration-item.is c.loop-declaration-test.true (stage_of c.declare.new.self)
    (c.in_ok-declare.ensures w.it w.is)

pub returns : goal.returns
returns g c =
    all-pass (home c.args.judge.now) c.args.judge.now.budget (stage_of c.args.self.now)
    (stage_of c.loop-declaration.self) c.args.declarations.now c.loop-declaration.declaration-index
    c.loop-declaration.invariant (omega arith) c.all_have_clauses.result c.all_have_clauses.ensures
