use Rattle.std.proofs.Common.{◌≡◌, ℕ, ◌+◌, List, ◌∷◌, ◌++◌, map, drop, ap, append_assoc}
use Rattle.qtt_syntax.specs.View.{param_of, tree_of}
use Rattle.qtt_syntax.specs.Words.{written}
use Rattle.qtt_syntax.specs.Printing.{params, in_brackets, binding, expr}
use Rattle.qtt_syntax.proofs.Written.{one_more, written-append}
use Rattle.qtt_syntax.proofs.printer.items.put_params.Goals as goal

pub loop-param-preserved : goal.loop-param-preserved
loop-param-preserved c =
    let x = c.param-item.result in
    let first = in_brackets (binding x.mult x.name (expr 0 (tree_of x.ty))) in
    let rest = params (map param_of (drop (c.loop-param.param-index + 1) c.args.list.now)) in
    let grows : c.put-in-loop-param.new.out.items ≡ c.loop-param.out.items ++ 32 ∷ written first =
    simp (append_assoc, written-append)
    (simp (
      c.in_ok-put_expr.ensures,
      c.in_ok-put_binding.ensures,
      c.in_ok-put.ensures,
      append_assoc,
      written-append,
    ) at c.in_ok-put-2.ensures) in
    one_more (λ xs. written (params (map param_of xs))) c.args.list.now c.loop-param.param-index x
    c.args.out.now.items c.loop-param.out.items c.put-in-loop-param.new.out.items
    (32 ∷ written first) c.loop-param-test.true c.param-item.is
    (ap (λ (v : List ℕ). 32 ∷ v) (written-append first rest)) c.loop-param.invariant grows
