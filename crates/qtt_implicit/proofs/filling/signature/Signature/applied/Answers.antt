-- More braces than binders, or no more.
use Rattle.std.proofs.Common.{◌∙◌, ap, sym, subst, ℕ, ◌<◌, ◌≤◌, arith, length, Result, Err}
use mathlib.Core.Path.{ap₂}
use Rattle.qtt_syntax.specs.Tree.{Tree}
use Rattle.qtt_implicit.specs.Filling.{Stop}
use Rattle.qtt_implicit.specs.Matching.{Slots}
use Rattle.qtt_implicit.specs.Meeting.{Meets}
use Rattle.qtt_implicit.specs.Nodes.{used_name}
use Rattle.qtt_implicit.specs.Signatures.{signature_of}
use Rattle.qtt_implicit.specs.TextTypes.{given_list, walked_of}
use Rattle.qtt_implicit.specs.Walk.{Walked, at_slots, in_braces}
use Rattle.qtt_implicit.proofs.Solved.{applied_braces, applied_fits}
use Rattle.qtt_implicit.proofs.filling.signature.Signature.applied.Goals as goal

pub returns-then-found-self : goal.returns-then-found-self
returns-then-found-self c =
    let S = signature_of c.args.self in
    let n = used_name c.args.call.name in
    let xs = given_list c.args.call.givens.now in
    let s = c.args.call.span in
    let left = c.args.left.now.nodes in
    let e = c.in_ok-found.ensures in
    let h : S.braces < length (in_braces xs) = omega (arith, e) in
    applied_braces S n xs s left h
    ∙ ap (λ (m : ℕ). let o : Result (Walked × ℕ) Stop = Err (Stop.braces S.braces m n.span) in o) (sym e)

pub returns : goal.returns
returns c =
    let S = signature_of c.args.self in
    let n = used_name c.args.call.name in
    let xs = given_list c.args.call.givens.now in
    let s = c.args.call.span in
    let left = c.args.left.now.nodes in
    let e = c.in_ok-found.ensures in
    let h : length (in_braces xs) ≤ S.braces = omega (arith, e) in
    let j = c.in_ok-judged.ensures in
    let pair = ap₂ (λ (σ : Slots) (t : Tree). let r : Slots × Tree = (σ, t) in r) j.0 j.1 in
    let P : Result (Walked × ℕ) Stop → Type 0 = λ o. Meets walked_of c.at_slots.result o c.at_slots.new.left.nodes in
    subst P (ap (λ (r : Slots × Tree). at_slots S n xs s r left) pair ∙ sym (applied_fits S n xs s left h))
    c.at_slots.ensures
