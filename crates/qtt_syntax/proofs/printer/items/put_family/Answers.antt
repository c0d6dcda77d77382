use Rattle.std.proofs.Common.{map}
use Rattle.qtt_syntax.specs.View.{tree_of, param_of, con_of}
use Rattle.qtt_syntax.proofs.Written.{family_grows}
use Rattle.qtt_syntax.proofs.printer.items.put_family.Goals as goal

pub returns : goal.returns
returns c =
    let family = c.args.family.now in
    let params = simp c.deref.ensures.value at c.in_ok-put_params.ensures in
    let breaks = simp c.ends_open.ensures at c.in_ok-put_parted.ensures in
    let last = simp c.deref-2.ensures.value at c.put_constructors.ensures in
    rw (family_grows family.name family.name_span (map param_of family.params.items) (tree_of family.ty)
    (map con_of family.constructors.items) family.span c.args.out.now.items c.put.new.out.items
    c.put_name.new.out.items c.put_params.new.out.items c.put-2.new.out.items c.put_expr.new.out.items
    c.put_parted.new.out.items c.put-3.new.out.items c.in_ok-put.ensures c.in_ok-put_name.ensures params
    c.in_ok-put-2.ensures c.in_ok-put_expr.ensures breaks c.in_ok-put-3.ensures) at last
