use Rattle.std.proofs.Common.{◌≡◌, sym, ◌∙◌, append_assoc}
use Rattle.qtt_gen.specs.Generated.{module_name as name_of_module, numbered}
use Rattle.qtt_gen.proofs.texts.module_name.Goals as goal

pub returns : goal.returns
unfolding numbered
returns c =
    let e : c.as_str.result.now ≡ name_of_module c.args.i c.args.j =
    simp append_assoc (c.as_str.ensures.value ∙ c.in_ok-format.ensures.ok) in rw (sym e) c.name_of.ensures
