use Rattle.std.proofs.Common.{Ok, Err, inl, refl, ap, subst, ◌∙◌}
use Rattle.std.proofs.lemmas.Result.{err_from_is_err_and}
use Rattle.qtt_words.specs.Asked.{Work}
use Rattle.qtt_words.specs.Requested.{requested, work}
use Rattle.qtt_cli.specs.Commands.{check_for, core_for, code_for, program_for}
use Rattle.qtt_cli.specs.Parts.{prints, asks_vault}
use Rattle.qtt_cli.specs.Printed.{Puts}
use Rattle.qtt_cli.specs.Views.{bytes_of, program_of}
use Rattle.qtt_cli.proofs.Carried.{carries-stop, carries-put, has-program}
use Rattle.qtt_cli.proofs.Overs.{some-texts, does-nothing}
use Rattle.qtt_cli.proofs.Ran.{worked-ran, carries-broken, carries-ran, carries-generated}
use Rattle.qtt_cli.proofs.Seeing.{seen_at, count}
use Rattle.qtt_cli.proofs.Shapes.{shown, shape-check, shape-core, shape-code, shape-run, ran}
use Rattle.qtt_cli.proofs.work.carry_out.Goals as goal

pub returns-in_err-check-in-Check-clause-carries : goal.returns-in_err-check-in-Check-clause-carries
returns-in_err-check-in-Check-clause-carries g c =
    let r = requested c.args.request.now in
    let root = c.in-Check.root in
    let n = c.args.request.now.budget in
    let is = ap work c.in-Check.is in
    let e = c.in_err-check-in-Check.field-0.0 in
    let p = err_from_is_err_and c.from_residual.result c.from_residual.ensures.1 in
    let s = seen_at (g.V.Vault.texts c.args.vault.now) (g.I.Source.content c.args.input.now)
    (g.O.Sink.content c.args.out.now) (g.O.Sink.content c.args.out.now) (g.T.Tapes.tapes c.args.tapes.now)
    (g.T.Tapes.tapes c.args.tapes.now) (count (g.V.Vault.faults c.args.vault.now) (g.V.Vault.faults c.check.new.vault))
    (count (g.I.Source.faults c.args.input.now) (g.I.Source.faults c.args.input.now))
    (count (g.O.Sink.faults c.args.out.now) (g.O.Sink.faults c.args.out.now))
    (count (g.T.Tapes.faults c.args.tapes.now) (g.T.Tapes.faults c.args.tapes.now))
    (count (g.V.Vault.misses c.args.vault.now) (g.V.Vault.misses c.check.new.vault)) in
    rw (p.1, p.2)
    (carries-stop s r c.requires (check_for root n) bytes_of (λ i. shown)
    (λ t i. shape-check t i r root is) c.check.result e c.in_err-check-in-Check.was
    c.check.ensures.answers (does-nothing (g.O.Sink.content c.args.out.now) (g.T.Tapes.tapes c.args.tapes.now))
    (λ a. inl (c.check.ensures.absent.rose a)) (λ f. (c.check.ensures.failed.rose f, ap asks_vault is)))

pub returns-in_ok-check-in-Check-clause-carries : goal.returns-in_ok-check-in-Check-clause-carries
returns-in_ok-check-in-Check-clause-carries g c =
    let r = requested c.args.request.now in
    let root = c.in-Check.root in
    let n = c.args.request.now.budget in
    let is = ap work c.in-Check.is in
    let text = c.in_ok-check-in-Check.field-0.items in
    let s = seen_at (g.V.Vault.texts c.args.vault.now) (g.I.Source.content c.args.input.now)
    (g.O.Sink.content c.args.out.now) (g.O.Sink.content c.put.new.out) (g.T.Tapes.tapes c.args.tapes.now)
    (g.T.Tapes.tapes c.args.tapes.now) (count (g.V.Vault.faults c.args.vault.now) (g.V.Vault.faults c.check.new.vault))
    (count (g.I.Source.faults c.args.input.now) (g.I.Source.faults c.args.input.now))
    (count (g.O.Sink.faults c.args.out.now) (g.O.Sink.faults c.put.new.out))
    (count (g.T.Tapes.faults c.args.tapes.now) (g.T.Tapes.faults c.args.tapes.now))
    (count (g.V.Vault.misses c.args.vault.now) (g.V.Vault.misses c.check.new.vault)) in
    carries-put s r c.requires (check_for root n) (λ t i. shape-check t i r root is) (ap prints is) text
    c.in_ok-check-in-Check.ensures.answers c.put.result
    (subst
    (λ bytes. Puts bytes (g.O.Sink.content c.args.out.now) (g.O.Sink.content c.put.new.out) c.put.result)
    c.deref.ensures.value c.put.ensures.puts)
    refl c.put.ensures.failed.rose

pub returns-in_err-core-in-Core-clause-carries : goal.returns-in_err-core-in-Core-clause-carries
returns-in_err-core-in-Core-clause-carries g c =
    let r = requested c.args.request.now in
    let root = c.in-Core.root in
    let n = c.args.request.now.budget in
    let is = ap work c.in-Core.is in
    let e = c.in_err-core-in-Core.field-0.0 in
    let p = err_from_is_err_and c.from_residual-in_err-core-in-Core.result
    c.from_residual-in_err-core-in-Core.ensures.1 in
    let s = seen_at (g.V.Vault.texts c.args.vault.now) (g.I.Source.content c.args.input.now)
    (g.O.Sink.content c.args.out.now) (g.O.Sink.content c.args.out.now) (g.T.Tapes.tapes c.args.tapes.now)
    (g.T.Tapes.tapes c.args.tapes.now) (count (g.V.Vault.faults c.args.vault.now) (g.V.Vault.faults c.core.new.vault))
    (count (g.I.Source.faults c.args.input.now) (g.I.Source.faults c.args.input.now))
    (count (g.O.Sink.faults c.args.out.now) (g.O.Sink.faults c.args.out.now))
    (count (g.T.Tapes.faults c.args.tapes.now) (g.T.Tapes.faults c.args.tapes.now))
    (count (g.V.Vault.misses c.args.vault.now) (g.V.Vault.misses c.core.new.vault)) in
    rw (p.1, p.2)
    (carries-stop s r c.requires (core_for root n) bytes_of (λ i. shown)
    (λ t i. shape-core t i r root is) c.core.result e c.in_err-core-in-Core.was
    c.core.ensures.answers (does-nothing (g.O.Sink.content c.args.out.now) (g.T.Tapes.tapes c.args.tapes.now))
    (λ a. inl (c.core.ensures.absent.rose a)) (λ f. (c.core.ensures.failed.rose f, ap asks_vault is)))

pub returns-in_ok-core-in-Core-clause-carries : goal.returns-in_ok-core-in-Core-clause-carries
returns-in_ok-core-in-Core-clause-carries g c =
    let r = requested c.args.request.now in
    let root = c.in-Core.root in
    let n = c.args.request.now.budget in
    let is = ap work c.in-Core.is in
    let text = c.in_ok-core-in-Core.field-0.items in
    let s = seen_at (g.V.Vault.texts c.args.vault.now) (g.I.Source.content c.args.input.now)
    (g.O.Sink.content c.args.out.now) (g.O.Sink.content c.put-in-Core.new.out) (g.T.Tapes.tapes c.args.tapes.now)
    (g.T.Tapes.tapes c.args.tapes.now) (count (g.V.Vault.faults c.args.vault.now) (g.V.Vault.faults c.core.new.vault))
    (count (g.I.Source.faults c.args.input.now) (g.I.Source.faults c.args.input.now))
    (count (g.O.Sink.faults c.args.out.now) (g.O.Sink.faults c.put-in-Core.new.out))
    (count (g.T.Tapes.faults c.args.tapes.now) (g.T.Tapes.faults c.args.tapes.now))
    (count (g.V.Vault.misses c.args.vault.now) (g.V.Vault.misses c.core.new.vault)) in
    carries-put s r c.requires (core_for root n) (λ t i. shape-core t i r root is) (ap prints is) text
    c.in_ok-core-in-Core.ensures.answers c.put-in-Core.result
    (subst
    (λ bytes. Puts bytes (g.O.Sink.content c.args.out.now) (g.O.Sink.content c.put-in-Core.new.out)
    c.put-in-Core.result)
    c.deref-in-Core.ensures.value c.put-in-Core.ensures.puts)
    refl c.put-in-Core.ensures.failed.rose

pub returns-in_err-code-in-Code-clause-carries : goal.returns-in_err-code-in-Code-clause-carries
returns-in_err-code-in-Code-clause-carries g c =
    let r = requested c.args.request.now in
    let root = c.in-Code.root in
    let n = c.args.request.now.budget in
    let is = ap work c.in-Code.is in
    let e = c.in_err-code-in-Code.field-0.0 in
    let p = err_from_is_err_and c.from_residual-in_err-code-in-Code.result
    c.from_residual-in_err-code-in-Code.ensures.1 in
    let s = seen_at (g.V.Vault.texts c.args.vault.now) (g.I.Source.content c.args.input.now)
    (g.O.Sink.content c.args.out.now) (g.O.Sink.content c.args.out.now) (g.T.Tapes.tapes c.args.tapes.now)
    (g.T.Tapes.tapes c.args.tapes.now) (count (g.V.Vault.faults c.args.vault.now) (g.V.Vault.faults c.code.new.vault))
    (count (g.I.Source.faults c.args.input.now) (g.I.Source.faults c.args.input.now))
    (count (g.O.Sink.faults c.args.out.now) (g.O.Sink.faults c.args.out.now))
    (count (g.T.Tapes.faults c.args.tapes.now) (g.T.Tapes.faults c.args.tapes.now))
    (count (g.V.Vault.misses c.args.vault.now) (g.V.Vault.misses c.code.new.vault)) in
    rw (p.1, p.2)
    (carries-stop s r c.requires (code_for root n) bytes_of (λ i. shown)
    (λ t i. shape-code t i r root is) c.code.result e c.in_err-code-in-Code.was
    c.code.ensures.answers (does-nothing (g.O.Sink.content c.args.out.now) (g.T.Tapes.tapes c.args.tapes.now))
    (λ a. inl (c.code.ensures.absent.rose a)) (λ f. (c.code.ensures.failed.rose f, ap asks_vault is)))

pub returns-in_ok-code-in-Code-clause-carries : goal.returns-in_ok-code-in-Code-clause-carries
returns-in_ok-code-in-Code-clause-carries g c =
    let r = requested c.args.request.now in
    let root = c.in-Code.root in
    let n = c.args.request.now.budget in
    let is = ap work c.in-Code.is in
    let text = c.in_ok-code-in-Code.field-0.items in
    let s = seen_at (g.V.Vault.texts c.args.vault.now) (g.I.Source.content c.args.input.now)
    (g.O.Sink.content c.args.out.now) (g.O.Sink.content c.put-in-Code.new.out) (g.T.Tapes.tapes c.args.tapes.now)
    (g.T.Tapes.tapes c.args.tapes.now) (count (g.V.Vault.faults c.args.vault.now) (g.V.Vault.faults c.code.new.vault))
    (count (g.I.Source.faults c.args.input.now) (g.I.Source.faults c.args.input.now))
    (count (g.O.Sink.faults c.args.out.now) (g.O.Sink.faults c.put-in-Code.new.out))
    (count (g.T.Tapes.faults c.args.tapes.now) (g.T.Tapes.faults c.args.tapes.now))
    (count (g.V.Vault.misses c.args.vault.now) (g.V.Vault.misses c.code.new.vault)) in
    carries-put s r c.requires (code_for root n) (λ t i. shape-code t i r root is) (ap prints is) text
    c.in_ok-code-in-Code.ensures.answers c.put-in-Code.result
    (subst
    (λ bytes. Puts bytes (g.O.Sink.content c.args.out.now) (g.O.Sink.content c.put-in-Code.new.out)
    c.put-in-Code.result)
    c.deref-in-Code.ensures.value c.put-in-Code.ensures.puts)
    refl c.put-in-Code.ensures.failed.rose

pub returns-in_err-program-in-Run-clause-carries : goal.returns-in_err-program-in-Run-clause-carries
returns-in_err-program-in-Run-clause-carries g c =
    let r = requested c.args.request.now in
    let root = c.in-Run.root in
    let is = ap work c.in-Run.is in
    let e = c.in_err-program-in-Run.field-0.0 in
    let p = err_from_is_err_and c.from_residual-in_err-program-in-Run.result
    c.from_residual-in_err-program-in-Run.ensures.1 in
    let s = seen_at (g.V.Vault.texts c.args.vault.now) (g.I.Source.content c.args.input.now)
    (g.O.Sink.content c.args.out.now) (g.O.Sink.content c.args.out.now) (g.T.Tapes.tapes c.args.tapes.now)
    (g.T.Tapes.tapes c.args.tapes.now)
    (count (g.V.Vault.faults c.args.vault.now) (g.V.Vault.faults c.program.new.vault))
    (count (g.I.Source.faults c.args.input.now) (g.I.Source.faults c.args.input.now))
    (count (g.O.Sink.faults c.args.out.now) (g.O.Sink.faults c.args.out.now))
    (count (g.T.Tapes.faults c.args.tapes.now) (g.T.Tapes.faults c.args.tapes.now))
    (count (g.V.Vault.misses c.args.vault.now) (g.V.Vault.misses c.program.new.vault)) in
    rw (p.1, p.2)
    (carries-stop s r c.requires (program_for root c.args.request.now.budget) program_of (λ i q. Ok (ran r i q))
    (λ t i. shape-run t i r root is) c.program.result e c.in_err-program-in-Run.was
    c.program.ensures.answers (does-nothing (g.O.Sink.content c.args.out.now) (g.T.Tapes.tapes c.args.tapes.now))
    (λ a. inl (c.program.ensures.absent.rose a)) (λ f. (c.program.ensures.failed.rose f, ap asks_vault is)))

pub returns-in_err-run-in-Run-clause-carries : goal.returns-in_err-run-in-Run-clause-carries
returns-in_err-run-in-Run-clause-carries g c =
    let r = requested c.args.request.now in
    let root = c.in-Run.root in
    let is = ap work c.in-Run.is in
    let q = program_of c.in_ok-program-in-Run.program in
    let a = c.in_ok-program-in-Run.ensures.answers in
    let h = has-program root c.args.request.now.budget a.0 q a.2 in
    let ran = c.in_err-run-in-Run.ensures.runs in
    let e = c.in_err-run-in-Run.field-0.0 in
    let p = err_from_is_err_and c.from_residual-in_err-run-in-Run.result
    c.from_residual-in_err-run-in-Run.ensures.1 in
    let s = seen_at (g.V.Vault.texts c.args.vault.now) (g.I.Source.content c.args.input.now)
    (g.O.Sink.content c.args.out.now) (g.O.Sink.content c.run.new.out) (g.T.Tapes.tapes c.args.tapes.now)
    (g.T.Tapes.tapes c.run.new.tapes) (count (g.V.Vault.faults c.args.vault.now) (g.V.Vault.faults c.program.new.vault))
    (count (g.I.Source.faults c.args.input.now) (g.I.Source.faults c.run.new.input))
    (count (g.O.Sink.faults c.args.out.now) (g.O.Sink.faults c.run.new.out))
    (count (g.T.Tapes.faults c.args.tapes.now) (g.T.Tapes.faults c.run.new.tapes))
    (count (g.V.Vault.misses c.args.vault.now) (g.V.Vault.misses c.program.new.vault)) in
    rw (p.1, p.2)
    (carries-broken s r (Work.run root) is a.0 a.1 ran.input ran.told q h e ran.did (record {
      input = λ f. c.run.ensures.source.rose (c.in_err-run-in-Run.was ∙ ap (λ y. Err y) f);
      output = λ f. c.run.ensures.sink.rose (c.in_err-run-in-Run.was ∙ ap (λ y. Err y) f);
      tape = λ f. c.run.ensures.tape.rose (c.in_err-run-in-Run.was ∙ ap (λ y. Err y) f);
    }))

pub returns-in_ok-run-in-Run-clause-carries : goal.returns-in_ok-run-in-Run-clause-carries
returns-in_ok-run-in-Run-clause-carries g c =
    let r = requested c.args.request.now in
    let root = c.in-Run.root in
    let is = ap work c.in-Run.is in
    let q = program_of c.in_ok-program-in-Run.program in
    let a = c.in_ok-program-in-Run.ensures.answers in
    let h = has-program root c.args.request.now.budget a.0 q a.2 in
    let ran = c.in_ok-run-in-Run.ensures.runs in
    let went = c.in_ok-run-in-Run.field-0 in
    let s = seen_at (g.V.Vault.texts c.args.vault.now) (g.I.Source.content c.args.input.now)
    (g.O.Sink.content c.args.out.now) (g.O.Sink.content c.run.new.out) (g.T.Tapes.tapes c.args.tapes.now)
    (g.T.Tapes.tapes c.run.new.tapes) (count (g.V.Vault.faults c.args.vault.now) (g.V.Vault.faults c.program.new.vault))
    (count (g.I.Source.faults c.args.input.now) (g.I.Source.faults c.run.new.input))
    (count (g.O.Sink.faults c.args.out.now) (g.O.Sink.faults c.run.new.out))
    (count (g.T.Tapes.faults c.args.tapes.now) (g.T.Tapes.faults c.run.new.tapes))
    (count (g.V.Vault.misses c.args.vault.now) (g.V.Vault.misses c.program.new.vault)) in
    carries-ran s r (Work.run root) is a.0 a.1 ran.input ran.told q h (worked-ran a.0 ran.input r root is q a.2)
    went.verdict went.used ran.did

pub returns-in-Generate-clause-carries : goal.returns-in-Generate-clause-carries
returns-in-Generate-clause-carries g c =
    let r = requested c.args.request.now in
    let t = some-texts (g.V.Vault.texts c.args.vault.now) in
    let s = seen_at (g.V.Vault.texts c.args.vault.now) (g.I.Source.content c.args.input.now)
    (g.O.Sink.content c.args.out.now) (g.O.Sink.content c.run_generated.new.out) (g.T.Tapes.tapes c.args.tapes.now)
    (g.T.Tapes.tapes c.run_generated.new.tapes)
    (count (g.V.Vault.faults c.args.vault.now) (g.V.Vault.faults c.args.vault.now))
    (count (g.I.Source.faults c.args.input.now) (g.I.Source.faults c.run_generated.new.input))
    (count (g.O.Sink.faults c.args.out.now) (g.O.Sink.faults c.run_generated.new.out))
    (count (g.T.Tapes.faults c.args.tapes.now) (g.T.Tapes.faults c.run_generated.new.tapes))
    (count (g.V.Vault.misses c.args.vault.now) (g.V.Vault.misses c.args.vault.now)) in
    carries-generated s r t.0 t.1 c.run_generated.result (c.run_generated.ensures.runs t.0)
    c.run_generated.ensures.source.rose c.run_generated.ensures.sink.rose c.run_generated.ensures.tape.rose
