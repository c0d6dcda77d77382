use Rattle.std.proofs.Common.{◌≡◌, ◌+◌, ◌-◌, suc, length, reverse, arith}
use Rattle.qtt_machine.proofs.Stacking.{locals_dropped}
use Rattle.qtt_machine.proofs.frames.Frames.drop_locals.Goals as goal

pub returns : goal.returns
returns c =
    let m = c.args.self.now in
    let own : c.saturating_sub.result ≡ (length m.locals.items - m.running.locals) - c.args.count = omega arith in
    let place : m.running.place + 1 ≡ suc m.running.place = omega arith in
    locals_dropped m.locals.items m.pushed.items c.truncate.new.self.items m.running
    (reverse m.waiting.items) c.args.count
    c.saturating_sub.result (m.running.place + 1) m.stacked c.truncate.ensures.items own place
