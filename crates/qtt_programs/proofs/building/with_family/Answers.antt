use Rattle.qtt_term.specs.Items.{family_entry}
use Rattle.qtt_programs.proofs.Growing.{first-family, prim-lacks}
use Rattle.qtt_programs.proofs.building.with_family.Goals as goal

pub returns : goal.returns
returns c =
    first-family c.in_ok-globals.globals c.add.new.globals (family_entry c.args.family) c.requires
    (prim-lacks c.in_ok-globals.globals 0 c.in_ok-globals.ensures.families c.in_ok-globals.ensures.definitions)
    c.in_ok-add.ensures.families c.in_ok-add.ensures.definitions c.in_ok-globals.ensures.env
