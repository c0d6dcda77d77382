use Rattle.std.proofs.Common.{◌≡◌, ◌≤◌, ◌+◌, ◌-◌, ◌∙◌, Err, refl, sym, arith}
use Rattle.qtt_run.specs.declared.stop.Stop.TheVariants as stop
use Rattle.qtt_run.proofs.Starting.{start-jumps, start-answers, start-broken, begins-underway, origin}
use Rattle.qtt_run.proofs.Answered.{answered, came-left, error-is, source-failed, sink-failed, tape-failed, counts-so}
use Rattle.qtt_run.proofs.program.run_program.Goals as goal

pub start-requires-clause-jumps : goal.start-requires-clause-jumps
start-requires-clause-jumps g c =
    let (E, k) = c.requires.code in
    start-jumps c.args.compiled.now c.args.main E k c.in-Some.block (sym c.entry.ensures ∙ c.in-Some.is)

pub start-requires-clause-answers : goal.start-requires-clause-answers
start-requires-clause-answers g c =
    let (E, k) = c.requires.code in
    start-answers c.args.compiled.now c.args.main E k c.in-Some.block (sym c.entry.ensures ∙ c.in-Some.is)

pub returns-in_err-running-clause-runs : goal.returns-in_err-running-clause-runs
returns-in_err-running-clause-runs g c = λ E k.
    let begins = sym c.entry.ensures ∙ c.in-Some.is in
    let content = g.S.Source.content c.args.input.now in
    let held = g.O.Sink.content c.args.out.now in
    let told = g.T.Tapes.tapes c.args.tapes.now in
    let o = origin c.args.compiled.now c.args.main E k c.in-Some.block begins c.args.bound c.requires.steps
    content held told in
    answered c.args.compiled.now c.args.main E k o refl begins held told 0 c.args.bound (omega arith)
    (Err stop.Memory) c.from_residual.result
    (start-broken c.args.compiled.now c.args.main E k c.in-Some.block begins c.args.bound c.requires.steps content
    held told c.requires.empty)
    (error-is c.from_residual.result c.from_residual.ensures.0)

pub go_on-came-requires : goal.go_on-came-requires
go_on-came-requires g c =
    let (E, k) = c.requires.code in
    let begins = sym c.entry.ensures ∙ c.in-Some.is in
    let content = g.S.Source.content c.args.input.now in
    let held = g.O.Sink.content c.args.out.now in
    let told = g.T.Tapes.tapes c.args.tapes.now in
    let s = c.in_ok-running.ensures in (
      origin c.args.compiled.now c.args.main E k c.in-Some.block begins c.args.bound c.requires.steps content held told,
      begins-underway c.args.compiled.now c.args.main E k c.in-Some.block begins c.args.bound c.requires.steps
          content held told
          c.in_ok-running.running s.stands (s.rests content) s.left c.requires.empty (s.mirrors told c.requires.empty),
    )

pub overflow_sub-bound : goal.overflow_sub-bound
overflow_sub-bound g c =
    let (E, k) = c.requires.code in
    let begins = sym c.entry.ensures ∙ c.in-Some.is in
    let content = g.S.Source.content c.args.input.now in
    let held = g.O.Sink.content c.args.out.now in
    let told = g.T.Tapes.tapes c.args.tapes.now in
    let s = c.in_ok-running.ensures in
    let o = origin c.args.compiled.now c.args.main E k c.in-Some.block begins c.args.bound c.requires.steps
    content held told in
    let left = c.go_on-came.new.self.left in
    let u = g.O.Sink.content c.go_on-came.new.out in
    let t = g.T.Tapes.tapes c.go_on-came.new.tapes in
    let came = c.go_on-came.ensures.comes o
    (begins-underway c.args.compiled.now c.args.main E k c.in-Some.block begins c.args.bound c.requires.steps
    content held told
    c.in_ok-running.running s.stands (s.rests content) s.left c.requires.empty (s.mirrors told c.requires.empty)) in
    let most : left ≤ c.args.bound = came-left o left u t c.go_on-came.result came in
    omega (arith, c.left.ensures, most)

pub returns-clause-runs : goal.returns-clause-runs
returns-clause-runs g c = λ E k.
    let begins = sym c.entry.ensures ∙ c.in-Some.is in
    let content = g.S.Source.content c.args.input.now in
    let held = g.O.Sink.content c.args.out.now in
    let told = g.T.Tapes.tapes c.args.tapes.now in
    let s = c.in_ok-running.ensures in
    let o = origin c.args.compiled.now c.args.main E k c.in-Some.block begins c.args.bound c.requires.steps
    content held told in
    let left = c.go_on-came.new.self.left in
    let u = g.O.Sink.content c.go_on-came.new.out in
    let t = g.T.Tapes.tapes c.go_on-came.new.tapes in
    let came = c.go_on-came.ensures.comes o
    (begins-underway c.args.compiled.now c.args.main E k c.in-Some.block begins c.args.bound c.requires.steps
    content held told
    c.in_ok-running.running s.stands (s.rests content) s.left c.requires.empty (s.mirrors told c.requires.empty)) in
    let most : left ≤ c.args.bound = came-left o left u t c.go_on-came.result came in
    let counted : (c.args.bound - c.left.result) + left ≡ c.args.bound = omega (arith, c.left.ensures, most) in
    answered c.args.compiled.now c.args.main E k o refl begins u t (c.args.bound - c.left.result) left counted
    c.go_on-came.result
    c.answer.result came c.answer.ensures

pub returns-clause-source : goal.returns-clause-source
returns-clause-source g c =
    let (E, k) = c.requires.code in
    let begins = sym c.entry.ensures ∙ c.in-Some.is in
    let content = g.S.Source.content c.args.input.now in
    let held = g.O.Sink.content c.args.out.now in
    let told = g.T.Tapes.tapes c.args.tapes.now in
    let s = c.in_ok-running.ensures in
    let o = origin c.args.compiled.now c.args.main E k c.in-Some.block begins c.args.bound c.requires.steps
    content held told in
    let left = c.go_on-came.new.self.left in
    let u = g.O.Sink.content c.go_on-came.new.out in
    let t = g.T.Tapes.tapes c.go_on-came.new.tapes in
    let came = c.go_on-came.ensures.comes o
    (begins-underway c.args.compiled.now c.args.main E k c.in-Some.block begins c.args.bound c.requires.steps
    content held told
    c.in_ok-running.running s.stands (s.rests content) s.left c.requires.empty (s.mirrors told c.requires.empty)) in
    counts-so c.go_on-came.ensures.source
    (λ x. source-failed o left u t (c.args.bound - c.left.result) c.go_on-came.result c.answer.result came
    c.answer.ensures x)

pub returns-clause-sink : goal.returns-clause-sink
returns-clause-sink g c =
    let (E, k) = c.requires.code in
    let begins = sym c.entry.ensures ∙ c.in-Some.is in
    let content = g.S.Source.content c.args.input.now in
    let held = g.O.Sink.content c.args.out.now in
    let told = g.T.Tapes.tapes c.args.tapes.now in
    let s = c.in_ok-running.ensures in
    let o = origin c.args.compiled.now c.args.main E k c.in-Some.block begins c.args.bound c.requires.steps
    content held told in
    let left = c.go_on-came.new.self.left in
    let u = g.O.Sink.content c.go_on-came.new.out in
    let t = g.T.Tapes.tapes c.go_on-came.new.tapes in
    let came = c.go_on-came.ensures.comes o
    (begins-underway c.args.compiled.now c.args.main E k c.in-Some.block begins c.args.bound c.requires.steps
    content held told
    c.in_ok-running.running s.stands (s.rests content) s.left c.requires.empty (s.mirrors told c.requires.empty)) in
    counts-so c.go_on-came.ensures.sink
    (λ x. sink-failed o left u t (c.args.bound - c.left.result) c.go_on-came.result c.answer.result came
    c.answer.ensures x)

pub returns-clause-tape : goal.returns-clause-tape
returns-clause-tape g c =
    let (E, k) = c.requires.code in
    let begins = sym c.entry.ensures ∙ c.in-Some.is in
    let content = g.S.Source.content c.args.input.now in
    let held = g.O.Sink.content c.args.out.now in
    let told = g.T.Tapes.tapes c.args.tapes.now in
    let s = c.in_ok-running.ensures in
    let o = origin c.args.compiled.now c.args.main E k c.in-Some.block begins c.args.bound c.requires.steps
    content held told in
    let left = c.go_on-came.new.self.left in
    let u = g.O.Sink.content c.go_on-came.new.out in
    let t = g.T.Tapes.tapes c.go_on-came.new.tapes in
    let came = c.go_on-came.ensures.comes o
    (begins-underway c.args.compiled.now c.args.main E k c.in-Some.block begins c.args.bound c.requires.steps
    content held told
    c.in_ok-running.running s.stands (s.rests content) s.left c.requires.empty (s.mirrors told c.requires.empty)) in
    counts-so c.go_on-came.ensures.tape
    (λ x. tape-failed o left u t (c.args.bound - c.left.result) c.go_on-came.result c.answer.result came
    c.answer.ensures x)
