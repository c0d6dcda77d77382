use Rattle.std.proofs.Common.{◌≡◌, ◌+◌, ◌-◌, ◌≤◌, arith}
use Rattle.qtt_machine.specs.Machine.{Advanced}
use Rattle.qtt_run.proofs.Stepping.{computes-ready, computes-broken, halt-failed, after-advance, advance-within}
use Rattle.qtt_run.proofs.running.Running.compute.Goals as goal

pub advance-requires : goal.advance-requires
advance-requires c = computes-ready c.args.self.now c.requires.4

pub returns-in_err-halt-clause-halts : goal.returns-in_err-halt-clause-halts
returns-in_err-halt-clause-halts c = λ o i u t a.
    halt-failed o _ i u t c.from_residual.result c.from_residual.ensures.0 (computes-broken c.args.self.now a)

pub returns-clause-halts : goal.returns-clause-halts
returns-clause-halts c = λ o i u t a.
    let m = c.args.self.now in
    let x = c.advance.new.self in
    let h = c.in_ok-halt.halt in
    let b : Advanced m.machine m.left h x = c.in_ok-halt.ensures in
    let n : x.used ≡ m.machine.used + b.made = b.used in
    let w : b.made ≤ m.left = advance-within m x h b in
    after-advance m x (m.left - (c.used.result - c.used-before.result)) h a b
    (omega (arith, n, w, c.used.ensures, c.used-before.ensures))
