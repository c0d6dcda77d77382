use Rattle.std.proofs.Common.{false, refl, ap, ◌∙◌}
use Rattle.std.proofs.lemmas.List.{get_or_default}
use Rattle.qtt_prims.specs.Tapes.{shut}
use Rattle.qtt_run.specs.Handles.{number_of}
use Rattle.qtt_run.proofs.Outcome.{on-err}
use Rattle.qtt_run.proofs.Handling.{place-within, number-open, outside-open, changes-place, keeps-place, mirrors-closed}
use Rattle.qtt_run.proofs.handles.Handles.close.Goals as goal

pub close-requires : goal.close-requires
close-requires g c =
    outside-open c.args.self.now (g.T.Tapes.tapes c.args.tapes.now) c.args.place c.index_mut-handle.result.now
    c.requires
    c.index_mut-handle.ensures.value

pub returns-in_err-close-clause-err : goal.returns-in_err-close-clause-err
returns-in_err-close-clause-err g c =
    let told = g.T.Tapes.tapes in
    let handle = c.index_mut-handle.result.now in
    on-err c.from_residual.result
    (keeps-place (told c.args.tapes.now) (told c.close.new.self) handle.number c.args.place
    (number-open c.args.self.now (told c.args.tapes.now) c.args.place handle c.requires
    c.index_mut-handle.ensures.value)
    c.in_err-close.ensures.err)

pub returns-clause-ok : goal.returns-clause-ok
returns-clause-ok g c =
    let told = g.T.Tapes.tapes in
    let handle = c.index_mut-handle.result.now in
    changes-place (told c.args.tapes.now) (told c.close.new.self) shut handle.number c.args.place
    (number-open c.args.self.now (told c.args.tapes.now) c.args.place handle c.requires
    c.index_mut-handle.ensures.value)
    c.in_ok-close.ensures.ok

pub returns-clause-mirrors : goal.returns-clause-mirrors
returns-clause-mirrors g c = λ ts mirrors.
    let told = g.T.Tapes.tapes in
    let handle = c.index_mut-handle.result.now in
    let within = place-within c.args.self.now (told c.args.tapes.now) c.args.place c.requires in
    mirrors-closed c.args.self.now _ (told c.args.tapes.now) (told c.close.new.self) ts c.args.place
    (record { number = handle.number; is_open = false }) mirrors (returns-clause-ok g c) refl refl
    (ap number_of (c.index_mut-handle.ensures.value ∙ get_or_default c.args.self.now.all.items c.args.place handle
    _ within))
