use Rattle.std.proofs.lemmas.Result.{err_from_is_err_and}
use Rattle.qtt_syntax.specs.View.{module_of}
use Rattle.qtt_load.specs.Reading.{has_name}
use Rattle.qtt_load.specs.Answer.{nothing}
use Rattle.qtt_load.proofs.Stages.{by_fault, by_tree, at_name, at_end}
use Rattle.qtt_load.proofs.text.tree_of_module.Goals as goal

pub returns-in_err-tree : goal.returns-in_err-tree
returns-in_err-tree c =
    let p = err_from_is_err_and c.from_residual.result c.from_residual.ensures.1 in
    rw (p.1, p.2)
    (by_tree module_of c.in_err-tree.field-0.0 c.args.asked.now c.args.text.now c.in_err-tree.ensures)

pub returns-in_err-has_name : goal.returns-in_err-has_name
returns-in_err-has_name c =
    let m = module_of c.in_ok-tree.tree in
    let p = err_from_is_err_and c.from_residual-in_err-has_name.result c.from_residual-in_err-has_name.ensures.1 in
    rw (p.1, p.2, at_name c.args.asked.now c.args.text.now m c.in_ok-tree.ensures)
    (by_fault nothing module_of c.in_err-has_name.field-0.0 (has_name c.args.asked.now m) _ c.in_err-has_name.ensures)

pub returns : goal.returns
returns c =
    at_end c.args.asked.now c.args.text.now (module_of c.in_ok-tree.tree) c.in_ok-tree.ensures c.in_ok-has_name.ensures
