use Rattle.qtt_term.specs.View.{term}
use Rattle.qtt_programs.proofs.Growing.{defined-at}
use Rattle.std.proofs.Common.{refl}
use Rattle.qtt_programs.proofs.building.define.Goals as goal

pub returns : goal.returns
returns c = λ fs ds e.
    defined-at c.args.globals.now c.add_signature.new.self c.set_body.new.self c.args.new.number c.item-id.result
    _ (term c.args.new.ty) (term c.args.new.body)
    c.item-id.ensures (c.if-not-is_absent.ensures.0 refl) c.in_ok-add_signature.ensures.ok
    c.in_ok-add_signature.ensures.families
    c.in_ok-set_body.ensures.definitions c.in_ok-set_body.ensures.families fs ds e
