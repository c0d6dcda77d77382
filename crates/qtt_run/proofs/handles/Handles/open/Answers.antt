use Rattle.std.proofs.Common.{◌≡◌, [], ◌∷◌, ◌++◌, true, refl}
use Rattle.qtt_run.proofs.Handling.{mirrors-opened}
use Rattle.qtt_run.specs.declared.handles.Handle.{Handle}
use Rattle.qtt_run.proofs.handles.Handles.open.Goals as goal

pub returns-clause-mirrors : goal.returns-clause-mirrors
returns-clause-mirrors g c = λ ts mirrors.
    let told = g.T.Tapes.tapes in
    let handle : Handle = record { number = c.in_ok-number.number; is_open = true } in
    let items : c.push.new.self.items ≡ c.args.self.now.all.items ++ handle ∷ [] =
    cc (c.in_ok-push.ensures.items, c.in_ok-reserve.ensures.items) in
    mirrors-opened c.args.self.now (record { all = c.push.new.self }) (told c.args.tapes.now)
    (told c.create.new.self) ts handle
    c.args.name.now mirrors c.in_ok-number.ensures.ok items refl c.in_ok-number.ensures.number
