use Rattle.std.proofs.Common.{length, map, arith}
use Rattle.std.proofs.lemmas.List.{length-map}
use Rattle.qtt_term.specs.declared.term.Case.{out-Case}
use Rattle.qtt_term.specs.View.{branch, branches}
use Rattle.qtt_envconv.proofs.Framing.{place-is}
use Rattle.qtt_envconv.proofs.frame.scrutinee_place.Goals as goal

pub returns-in-Some-checked_add : goal.returns-in-Some-checked_add
returns-in-Some-checked_add c =
    let a = out-Case c.args.case.now in
    let ns = map (λ b. b.0) (branches a.branches.items) in
    let count = length-map (branches a.branches.items) (λ b. b.0) in
    let seen = length-map a.branches.items branch in
    place-is (length a.params.items) ns c.in-Some-checked_add.place
    (omega (arith, count, seen, a.params.ok.0, a.branches.ok.0, c.in-Some.ensures, c.in-Some-checked_add.ensures))
