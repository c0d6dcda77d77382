use Rattle.std.proofs.Common.{◌≡◌, ◌<◌, length, option_map, ap, ◌∙◌, subst, arith}
use Rattle.qtt_run.specs.Handles.{Mirrors}
use Rattle.qtt_run.proofs.Outcome.{on-err}
use Rattle.qtt_run.proofs.Handling.{same-length}
use Rattle.qtt_run.proofs.Closing.{shut_front, shut-all, open-here, closed-front, shuts-none, shuts-one, shuts-same}
use Rattle.qtt_run.proofs.handles.Handles.close_all.Goals.{then-index+in_ok-close, else-index}
use Rattle.qtt_run.proofs.handles.Handles.close_all.Goals as goal

pub places-init : goal.places-init
places-init g c = record { shuts = shuts-none c.args.self.now (g.T.Tapes.tapes c.args.tapes.now); faults = omega arith }

pub close-requires : goal.close-requires
close-requires g c =
    let mirrors = c.places.invariant.shuts.mirrors c.requires.mirrors.0 c.requires.mirrors.1 in
    let tapes = shut_front c.places.place c.requires.mirrors.0 in
    let within : c.places.place < length c.places.self.all.items = omega (arith, c.places.invariant.shuts.count) in
    let items = c.places.self.all.items in (
      tapes,
      mirrors,
      open-here c.places.place items tapes c.index.result.now mirrors.flags within c.index.ensures
          c.if-index.true,
    )

pub returns-in_err-close-clause-err : goal.returns-in_err-close-clause-err
returns-in_err-close-clause-err g c = λ ts mirrors.
    let told = g.T.Tapes.tapes in
    let place = c.places.place in
    let items = c.places.self.all.items in
    let within : place < length items = omega (arith, c.places.invariant.shuts.count) in
    let flags = (c.places.invariant.shuts.mirrors ts mirrors).flags in
    on-err c.from_residual.result
    (closed-front ts (told c.args.tapes.now) (told c.places.tapes) (told c.close.new.tapes) place
    (c.places.invariant.shuts.told ts mirrors)
    (open-here place items (shut_front place ts) c.index.result.now flags within c.index.ensures c.if-index.true)
    c.in_err-close.ensures.err)

pub returns-clause-ok : goal.returns-clause-ok
returns-clause-ok g c = λ ts mirrors.
    let told = g.T.Tapes.tapes in
    let same = same-length c.args.self.now.all.items ts mirrors.flags in
    let all : c.places.place ≡ length ts = omega (arith, c.places.auto.place-end) in
    c.places.invariant.shuts.told ts mirrors ∙ ap (λ us. option_map (λ _. us) (told c.args.tapes.now))
    (shut-all c.places.place ts all)

pub returns-clause-mirrors : goal.returns-clause-mirrors
returns-clause-mirrors g c = λ ts mirrors.
    let same = same-length c.args.self.now.all.items ts mirrors.flags in
    let all : c.places.place ≡ length ts = omega (arith, c.places.auto.place-end) in
    subst (Mirrors c.places.self (g.T.Tapes.tapes c.places.tapes)) (shut-all c.places.place ts all)
    (c.places.invariant.shuts.mirrors ts mirrors)

pub places-preserved : goal.places-preserved
places-preserved g c =
    let told = g.T.Tapes.tapes in
    let before = told c.args.tapes.now in
    let initial = c.args.self.now in
    let within : c.places.place < length c.places.self.all.items = omega (arith, c.places.invariant.shuts.count) in
    elim c.if-index.branch [
      | then-index+in_ok-close w ↦
          rw (w.self-is, w.tapes-is)
          (record {
            shuts =
                shuts-one initial c.places.self w.close.new.self before (told c.places.tapes)
                (told w.close.new.tapes) c.places.place
                c.requires.mirrors c.places.invariant.shuts w.in_ok-close.ensures.mirrors w.in_ok-close.ensures.ok;
            faults = omega (arith, c.places.invariant.faults, w.in_ok-close.ensures.failed.later);
          })
      | else-index w ↦
          rw (w.self-is, w.tapes-is)
          (record {
            shuts =
                shuts-same initial c.places.self before (told c.places.tapes) c.places.place c.index.result.now
                c.places.invariant.shuts within
                c.index.ensures w.if-index.false;
            faults = c.places.invariant.faults;
          })
    ]
