-- A local name takes no braces.
use Rattle.std.proofs.Common.{◌∙◌, ap, sym, ℕ, ◌<◌, ◌≤◌, arith, length, Result, Ok, Err}
use Rattle.qtt_implicit.specs.Filling.{Stop}
use Rattle.qtt_implicit.specs.Nodes.{used_name}
use Rattle.qtt_implicit.specs.TextTypes.{given_list, type_tree}
use Rattle.qtt_implicit.specs.Walk.{Walked, in_braces}
use Rattle.qtt_implicit.proofs.Solved.{local_braces, local_fits}
use Rattle.qtt_implicit.proofs.filling.signature.Call.of_local.Goals as goal

pub returns-then-found-gt0 : goal.returns-then-found-gt0
returns-then-found-gt0 c =
    let xs = given_list c.args.self.givens.now in
    let e = c.in_ok-found.ensures in
    let h : 0 < length (in_braces xs) = omega (arith, e) in
    local_braces (type_tree c.args.ty) (used_name c.args.self.name) xs c.args.self.span c.args.left.now.nodes h
    ∙ ap (λ (m : ℕ). let r : Result (Walked × ℕ) Stop = Err (Stop.braces 0 m c.args.self.name.span) in r) (sym e)

pub returns-in_ok-plainly : goal.returns-in_ok-plainly
returns-in_ok-plainly c =
    let xs = given_list c.args.self.givens.now in
    let e = c.in_ok-found.ensures in
    let h : length (in_braces xs) ≤ 0 = omega (arith, e) in
    local_fits (type_tree c.args.ty) (used_name c.args.self.name) xs c.args.self.span c.args.left.now.nodes h
    ∙ ap (λ (w : Walked). let r : Result (Walked × ℕ) Stop = Ok (w, c.args.left.now.nodes) in r)
    (sym c.in_ok-plainly.ensures)
