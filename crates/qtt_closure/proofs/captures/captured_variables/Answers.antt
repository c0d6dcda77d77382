use Rattle.std.proofs.Common.{◌≡◌, ◌++◌, take, drop, length, arith}
use Rattle.std.proofs.lemmas.Grind.{common_steps}
use Rattle.qtt_erase.specs.View.{lean}
use Rattle.qtt_closure.specs.Scopes.{slots}
use Rattle.qtt_closure.proofs.Marking.{captures_marked}
use Rattle.qtt_closure.proofs.captures.captured_variables.Goals as goal

pub returns : goal.returns
returns c =
    let e = captures_marked (slots c.args.scope.now) (lean c.args.body.now) c.args.takes in
    let whole : take c.in_ok-marks.marks.len
    (c.mark.new.marks ++ drop (length c.mark.new.marks) c.in_ok-marks.marks.items) ≡ c.mark.new.marks =
    grind (arith, common_steps, c.mark.auto.marks, c.deref_mut.ensures.value, c.in_ok-marks.marks.ok) in
    rw whole (grind (
      arith,
      common_steps,
      e,
      c.in_ok-mark.ensures,
      c.deref_mut.ensures.value,
      c.in_ok-marks.ensures.items,
      c.in_ok-count.ensures,
    ))
