use Rattle.qtt_code.specs.Value.{Value, Values}
use Rattle.qtt_machine.specs.View.{state}
use Rattle.qtt_machine.proofs.Doing.{makes_within}
use Rattle.qtt_machine.proofs.step.con.Goals as goal

pub parts-requires : goal.parts-requires
parts-requires c =
    makes_within (Value.con c.args.tag) c.args.count Values.none (state c.args.frames.now).frame.pushed
    (state c.args.frames.now) c.requires.unstuck

pub replace-requires-clause-pushed : goal.replace-requires-clause-pushed
replace-requires-clause-pushed c =
    makes_within (Value.con c.args.tag) c.args.count Values.none (state c.args.frames.now).frame.pushed
    (state c.args.frames.now) c.requires.unstuck
