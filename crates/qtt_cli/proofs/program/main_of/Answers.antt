use Rattle.std.proofs.Common.{find, map, sym, ap, ◌∙◌}
use Rattle.qtt_module.specs.TextCalls.{accepted_of}
use Rattle.qtt_build.specs.Built.{is_named}
use Rattle.qtt_cli.proofs.Programs.{not-lacking}
use Rattle.qtt_cli.proofs.program.main_of.Goals as goal

pub unreachable-requires : goal.unreachable-requires
unreachable-requires c =
    let p = is_named c.args.root.now in
    not-lacking p (map accepted_of c.args.built.now.order.items) c.requires
    (ap (λ xs. find p (map accepted_of xs)) (sym c.deref.ensures.value) ∙ sym c.in_default.ensures)
