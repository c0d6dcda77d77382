-- A slot that is not filled, nodes that are too many, and the application.
use Rattle.std.proofs.Common.{◌∙◌, ◌++◌, ap, sym, subst, ℕ, map, take, length, sum_by, Result, Ok}
use mathlib.Core.Path.{ap₂}
use Rattle.std.specs.Prelude.{min}
use Rattle.qtt_syntax.specs.Tree.{Tree}
use Rattle.qtt_syntax.specs.Tree.Tree.{name}
use Rattle.qtt_implicit.specs.Filling.{Stop, Filling, done, put, goes_on}
use Rattle.qtt_implicit.specs.Judging.{judged_pair}
use Rattle.qtt_implicit.specs.Matching.{Slots}
use Rattle.qtt_implicit.specs.Meeting.{IsStop}
use Rattle.qtt_implicit.specs.Nodes.{node_tree, used_name}
use Rattle.qtt_implicit.specs.Signatures.{signature_of}
use Rattle.qtt_implicit.specs.Solving.{first_unsolved, names_in_braces, solved}
use Rattle.qtt_implicit.specs.TextTypes.{given_list, open_list, type_tree}
use Rattle.qtt_implicit.specs.Walk.{Walked, application, binder_names, given_argument, in_braces, inserted_nodes, not_in_braces, walked}
use Rattle.qtt_implicit.proofs.Solved.{at_slots_put, at_slots_unsolved, filled_arguments, stop_goes_on, with_arguments}
use Rattle.qtt_implicit.proofs.filling.signature.Signature.at_slots.Goals as goal

pub returns-in-Err : goal.returns-in-Err
returns-in-Err c =
    let S = signature_of c.args.self in
    let n = used_name c.args.call.name in
    let xs = given_list c.args.call.givens.now in
    let s = c.args.call.span in
    let r = judged_pair c.args.judged in
    let left = c.args.left.now.nodes in
    let OS = take c.args.self.braces (open_list c.in_ok-slots.slots) in
    let slots = c.in_ok-slots.ensures in
    let names = ap (λ (t : Tree). binder_names c.args.self.braces t) c.behind_binders-chain.ensures in
    at_slots_unsolved S n xs s r c.in-Err.name.now left
    (sym (ap₂ first_unsolved names slots) ∙ c.in-Err.ensures.solved)

pub returns-in-Err-put : goal.returns-in-Err-put
returns-in-Err-put c =
    let S = signature_of c.args.self in
    let n = used_name c.args.call.name in
    let xs = given_list c.args.call.givens.now in
    let s = c.args.call.span in
    let r = judged_pair c.args.judged in
    let left = c.args.left.now.nodes in
    let OS = take c.args.self.braces (open_list c.in_ok-slots.slots) in
    let slots = c.in_ok-slots.ensures in
    let names = ap (λ (t : Tree). binder_names c.args.self.braces t) c.behind_binders-chain.ensures in
    let F : Unit {0} → Filling Walked = λ added. done (with_arguments S n xs s r) in
    let N = sum_by inserted_nodes (filled_arguments S n xs r.0) in
    let NS = binder_names c.args.self.braces (node_tree c.behind_binders-chain.result.now) in
    let counted = c.in-Ok.ensures.ok n.span
    ∙ ap (λ (k : ℕ). min (sum_by inserted_nodes (solved n.span k NS OS)) 1000001) c.requires
    ∙ ap₂ (λ ns os. min (sum_by inserted_nodes (solved n.span (length (in_braces xs)) ns os)) 1000001) names slots in
    let none = sym (ap₂ first_unsolved names slots) ∙ c.in-Ok.ensures.solved in
    let answer = at_slots_put S n xs s r left none in
    subst (IsStop c.in-Err-put.stop) (sym answer)
    (stop_goes_on c.in-Err-put.stop (put N left) F (c.in-Err-put.ensures N counted))

pub returns-in_ok-filled-in-Ok-put : goal.returns-in_ok-filled-in-Ok-put
returns-in_ok-filled-in-Ok-put c =
    let S = signature_of c.args.self in
    let n = used_name c.args.call.name in
    let xs = given_list c.args.call.givens.now in
    let s = c.args.call.span in
    let r = judged_pair c.args.judged in
    let left = c.args.left.now.nodes in
    let OS = take c.args.self.braces (open_list c.in_ok-slots.slots) in
    let slots = c.in_ok-slots.ensures in
    let names = ap (λ (t : Tree). binder_names c.args.self.braces t) c.behind_binders-chain.ensures in
    let F : Unit {0} → Filling Walked = λ added. done (with_arguments S n xs s r) in
    let N = sum_by inserted_nodes (filled_arguments S n xs r.0) in
    let NS = binder_names c.args.self.braces (node_tree c.behind_binders-chain.result.now) in
    let counted = c.in-Ok.ensures.ok n.span
    ∙ ap (λ (k : ℕ). min (sum_by inserted_nodes (solved n.span k NS OS)) 1000001) c.requires
    ∙ ap₂ (λ ns os. min (sum_by inserted_nodes (solved n.span (length (in_braces xs)) ns os)) 1000001) names slots in
    let none = sym (ap₂ first_unsolved names slots) ∙ c.in-Ok.ensures.solved in
    let answer = at_slots_put S n xs s r left none in
    let Y = map given_argument (not_in_braces xs) in
    let T = type_tree c.args.judged.ty in
    let same = c.in_ok-filled-in-Ok-put.ensures
    ∙ ap (λ (k : ℕ). walked (application (name n) (solved n.span k (names_in_braces S) OS ++ Y) s) T) c.requires
    ∙ ap (λ (os : Slots). walked (application (name n)
    (solved n.span (length (in_braces xs)) (names_in_braces S) os ++ Y) s) T) slots in
    answer
    ∙ ap (λ (o : Result (Unit {0} × ℕ) Stop). goes_on o F) (c.in-Ok-put.ensures N counted)
    ∙ ap (λ (v : Walked). let o : Result (Walked × ℕ) Stop = Ok (v, c.put.new.self.nodes) in o) (sym same)
