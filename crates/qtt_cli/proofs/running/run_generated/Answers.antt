use Rattle.std.proofs.Common.{Ok, Option, Some, codes, map, inr, refl, ap, subst, ◌∙◌}
use Rattle.std.proofs.lemmas.Result.{err_from_is_err_and}
use Rattle.qtt_graph.specs.Graph.{Name}
use Rattle.qtt_words.specs.Asked.{Work}
use Rattle.qtt_words.specs.Requested.{requested}
use Rattle.qtt_load.specs.Reading.{Texts}
use Rattle.qtt_module.specs.TextCalls.{accepted_of}
use Rattle.qtt_run.specs.Program.{DidAll}
use Rattle.qtt_gen_load.specs.Texts.{generated_texts}
use Rattle.qtt_outcome.specs.Outcome.{run_of}
use Rattle.qtt_cli.specs.declared.verdict.Verdict.{Verdict}
use Rattle.qtt_cli.specs.Commands.{program_for}
use Rattle.qtt_cli.specs.Printed.{Puts}
use Rattle.qtt_cli.specs.Stops.{AnswersOver}
use Rattle.qtt_cli.specs.Texts.{counts_of}
use Rattle.qtt_cli.specs.Views.{program_of, told, verdict_of}
use Rattle.qtt_cli.proofs.Answered.{answers-apart, counts-by}
use Rattle.qtt_cli.proofs.Carried.{carries-stop, has-program}
use Rattle.qtt_cli.proofs.Generating.{generated-program, never-rises}
use Rattle.qtt_cli.proofs.Overs.{does-nothing}
use Rattle.qtt_cli.proofs.Ran.{worked-counted, silent, carries-broken, carries-silent, carries-unmade, carries-counts}
use Rattle.qtt_cli.proofs.Seeing.{seen_apart}
use Rattle.qtt_cli.proofs.Shapes.{ran_counted, shape-gen}
use Rattle.qtt_cli.proofs.running.run_generated.Goals as goal

pub returns-in_err-program-clause-runs : goal.returns-in_err-program-clause-runs
returns-in_err-program-clause-runs g c texts =
    let r = requested c.args.request.now in
    let n = c.args.generation.now.number in
    let gen = c.requires.generates in
    let s = seen_apart texts (g.I.Source.content c.args.input.now) (g.O.Sink.content c.args.out.now)
    (g.O.Sink.content c.args.out.now) (g.T.Tapes.tapes c.args.tapes.now) (g.T.Tapes.tapes c.args.tapes.now) in
    let e = c.in_err-program.field-0.0 in
    let p = err_from_is_err_and c.from_residual-in_err-program.result c.from_residual-in_err-program.ensures.1 in
    let all = subst (λ (f : Option Texts). AnswersOver f (program_for (codes "Main") r.budget) program_of c.program.result)
    c.in_ok-vault.ensures
    (subst (λ (m : Name). AnswersOver (told c.in_ok-vault.vault) (program_for m r.budget) program_of c.program.result)
    c.in_ok-root.ensures c.program.ensures.answers) in
    rw (p.1, p.2)
    (carries-stop s r c.requires.empty (λ t. program_for (codes "Main") r.budget (generated_texts n)) program_of
    (λ i q. Ok (ran_counted r i q)) (λ t i. shape-gen t i r n gen) c.program.result e c.in_err-program.was
    (answers-apart (generated_texts n) (program_for (codes "Main") r.budget) program_of (Some texts) texts refl
    c.program.result all) (does-nothing (g.O.Sink.content c.args.out.now) (g.T.Tapes.tapes c.args.tapes.now))
    (λ a. inr (record {
      number = n;
      is = gen;
      positive = c.args.generation.now.positive;
      bounded = c.args.generation.now.bounded;
    })) (λ f. absurd (never-rises (c.program.ensures.failed.rose f))))

pub returns-in_err-went-clause-runs : goal.returns-in_err-went-clause-runs
returns-in_err-went-clause-runs g c texts =
    let r = requested c.args.request.now in
    let n = c.args.generation.now.number in
    let gen = c.requires.generates in
    let s = seen_apart texts (g.I.Source.content c.args.input.now) (g.O.Sink.content c.args.out.now)
    (g.O.Sink.content c.run.new.out) (g.T.Tapes.tapes c.args.tapes.now) (g.T.Tapes.tapes c.run.new.tapes) in
    let q = program_of c.in_ok-program.program in
    let a = generated-program (generated_texts n) r.budget c.in_ok-vault.vault c.in_ok-root.root c.in_ok-program.program
    c.in_ok-vault.ensures c.in_ok-root.ensures c.in_ok-program.ensures.answers in
    let h = has-program (codes "Main") r.budget (generated_texts n) q a in
    let ran = c.in_err-went.ensures.runs in
    let p = err_from_is_err_and c.from_residual-in_err-went.result c.from_residual-in_err-went.ensures.1 in
    rw (p.1, p.2)
    (carries-broken s r (Work.gen n) gen texts refl ran.input ran.told q h c.in_err-went.field-0.0 ran.did
    (record { input = λ f. tt; output = λ f. tt; tape = λ f. tt }))

pub returns-in_err-count_lines-in-Ended-clause-runs : goal.returns-in_err-count_lines-in-Ended-clause-runs
returns-in_err-count_lines-in-Ended-clause-runs g c texts =
    let r = requested c.args.request.now in
    let n = c.args.generation.now.number in
    let gen = c.requires.generates in
    let s = seen_apart texts (g.I.Source.content c.args.input.now) (g.O.Sink.content c.args.out.now)
    (g.O.Sink.content c.run.new.out) (g.T.Tapes.tapes c.args.tapes.now) (g.T.Tapes.tapes c.run.new.tapes) in
    let q = program_of c.in_ok-program.program in
    let a = generated-program (generated_texts n) r.budget c.in_ok-vault.vault c.in_ok-root.root c.in_ok-program.program
    c.in_ok-vault.ensures c.in_ok-root.ensures c.in_ok-program.ensures.answers in
    let h = has-program (codes "Main") r.budget (generated_texts n) q a in
    let ran = c.in_ok-went.ensures.runs in
    let used = c.in_ok-went.went.used in
    let p = err_from_is_err_and c.from_residual-in_err-count_lines-in-Ended.result
    c.from_residual-in_err-count_lines-in-Ended.ensures.1 in
    let d = subst (λ (v : Verdict). DidAll (run_of r.steps q.0 q.1 ran.input) (verdict_of v) used s.outside)
    c.in-Ended.is ran.did in
    rw (p.1, p.2)
    (carries-unmade s r (Work.gen n) gen texts refl ran.input ran.told q h n gen
    (worked-counted texts ran.input r n gen q a) (g.O.Sink.content c.run.new.out) used d refl)

pub returns-in-Ended-clause-runs : goal.returns-in-Ended-clause-runs
returns-in-Ended-clause-runs g c texts =
    let r = requested c.args.request.now in
    let n = c.args.generation.now.number in
    let gen = c.requires.generates in
    let s = seen_apart texts (g.I.Source.content c.args.input.now) (g.O.Sink.content c.args.out.now)
    (g.O.Sink.content c.put.new.out) (g.T.Tapes.tapes c.args.tapes.now) (g.T.Tapes.tapes c.run.new.tapes) in
    let at_run = seen_apart texts (g.I.Source.content c.args.input.now) (g.O.Sink.content c.args.out.now)
    (g.O.Sink.content c.run.new.out) (g.T.Tapes.tapes c.args.tapes.now) (g.T.Tapes.tapes c.run.new.tapes) in
    let q = program_of c.in_ok-program.program in
    let a = generated-program (generated_texts n) r.budget c.in_ok-vault.vault c.in_ok-root.root c.in_ok-program.program
    c.in_ok-vault.ensures c.in_ok-root.ensures c.in_ok-program.ensures.answers in
    let h = has-program (codes "Main") r.budget (generated_texts n) q a in
    let ran = c.in_ok-went.ensures.runs in
    let used = c.in_ok-went.went.used in
    let mid = g.O.Sink.content c.run.new.out in
    let d = subst (λ (v : Verdict). DidAll (run_of r.steps q.0 q.1 ran.input) (verdict_of v) used at_run.outside)
    c.in-Ended.is ran.did in
    carries-counts s r (Work.gen n) gen texts refl ran.input ran.told q h n gen
    (worked-counted texts ran.input r n gen q a) mid used d c.put.result
    (subst (λ bytes. Puts bytes mid (g.O.Sink.content c.put.new.out) c.put.result)
    (c.deref-in-Ended.ensures.value ∙ c.in_ok-count_lines-in-Ended.ensures
    ∙ ap (λ order. counts_of (map accepted_of order) used) c.deref.ensures.value) c.put.ensures.puts) (λ f. tt)

pub returns : goal.returns
returns g c =
    let r = requested c.args.request.now in
    let n = c.args.generation.now.number in
    let gen = c.requires.generates in
    let q = program_of c.in_ok-program.program in
    let a = generated-program (generated_texts n) r.budget c.in_ok-vault.vault c.in_ok-root.root c.in_ok-program.program
    c.in_ok-vault.ensures c.in_ok-root.ensures c.in_ok-program.ensures.answers in
    let h = has-program (codes "Main") r.budget (generated_texts n) q a in
    let ran = c.in_ok-went.ensures.runs in
    let went = c.in_ok-went.went in
    record {
      runs = λ texts.
          let s = seen_apart texts (g.I.Source.content c.args.input.now) (g.O.Sink.content c.args.out.now)
          (g.O.Sink.content c.run.new.out) (g.T.Tapes.tapes c.args.tapes.now) (g.T.Tapes.tapes c.run.new.tapes) in
          carries-silent s r (Work.gen n) gen texts refl ran.input ran.told q h n gen
          (worked-counted texts ran.input r n gen q a) (g.O.Sink.content c.run.new.out) went.used went.verdict
          (silent q.0 (run_of r.steps q.0 q.1 ran.input) went.verdict c.in_default.not-Ended) ran.did;
      source = counts-by (g.I.Source.faults c.args.input.now) (g.I.Source.faults c.run.new.input)
          (λ e. absurd (cc e)) c.run.ensures.source;
      sink = counts-by (g.O.Sink.faults c.args.out.now) (g.O.Sink.faults c.run.new.out)
          (λ e. absurd (cc e)) c.run.ensures.sink;
      tape = counts-by (g.T.Tapes.faults c.args.tapes.now) (g.T.Tapes.faults c.run.new.tapes)
          (λ e. absurd (cc e)) c.run.ensures.tape;
    }
