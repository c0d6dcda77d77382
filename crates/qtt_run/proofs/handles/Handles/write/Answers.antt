use Rattle.qtt_prims.specs.Tapes.{with_line}
use Rattle.qtt_run.proofs.Outcome.{on-err}
use Rattle.qtt_run.proofs.Handling.{number-open, outside-open, changes-place, keeps-place, mirrors-written}
use Rattle.qtt_run.proofs.handles.Handles.write.Goals as goal

pub append-requires : goal.append-requires
append-requires g c =
    outside-open c.args.self.now (g.T.Tapes.tapes c.args.tapes.now) c.args.place c.index.result.now c.requires
    c.index.ensures

pub returns-in_err-append-clause-err : goal.returns-in_err-append-clause-err
returns-in_err-append-clause-err g c =
    let told = g.T.Tapes.tapes in
    let handle = c.index.result.now in
    on-err c.from_residual.result
    (keeps-place (told c.args.tapes.now) (told c.append.new.self) handle.number c.args.place
    (number-open c.args.self.now (told c.args.tapes.now) c.args.place handle c.requires c.index.ensures)
    c.in_err-append.ensures.err)

pub returns-clause-ok : goal.returns-clause-ok
returns-clause-ok g c =
    let told = g.T.Tapes.tapes in
    let handle = c.index.result.now in
    changes-place (told c.args.tapes.now) (told c.append.new.self) (with_line c.args.line.now) handle.number
    c.args.place
    (number-open c.args.self.now (told c.args.tapes.now) c.args.place handle c.requires c.index.ensures)
    c.in_ok-append.ensures.ok

pub returns-clause-mirrors : goal.returns-clause-mirrors
returns-clause-mirrors g c = λ ts mirrors.
    mirrors-written c.args.self.now (g.T.Tapes.tapes c.args.tapes.now) (g.T.Tapes.tapes c.append.new.self) ts
    c.args.place c.args.line.now
    mirrors (returns-clause-ok g c)
