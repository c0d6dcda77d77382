use Rattle.qtt_syntax.specs.View.{tree_of}
use Rattle.qtt_term.specs.Entries.{entries}
use Rattle.qtt_module.specs.Families.{signature}
use Rattle.qtt_module.proofs.Added.{signature-put}
use Rattle.qtt_module.proofs.additions.add_signature.Goals as goal

pub returns-clause-gives : goal.returns-clause-gives
returns-clause-gives g c =
    let G = entries c.args.globals.now in
    let d = c.args.declared.now in
    let e = c.in_ok-add_signature.ensures in
    signature-put G (entries c.add_signature.new.self) c.args.budget
    (signature G c.args.id c.args.home.now d.name d.mult (tree_of d.ty)) c.in_ok-definition.definition
    c.in_ok-definition.ensures.gives c.in_ok-definition.ensures.bare e.families e.ok
