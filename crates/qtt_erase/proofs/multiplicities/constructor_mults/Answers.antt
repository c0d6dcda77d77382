use Rattle.std.proofs.Common.{◌<◌, length, arith, sym}
use Rattle.std.proofs.lemmas.Grind.{common_steps}
use Rattle.std.proofs.lemmas.Bool.{ltb-true}
use Rattle.qtt_term.specs.Items.{constructor}
use Rattle.qtt_erase.proofs.Fields.{fields_found}
use Rattle.qtt_erase.proofs.multiplicities.constructor_mults.Goals as goal

pub returns-in-Some : goal.returns-in-Some
returns-in-Some c =
    let h : c.args.place < length c.args.constructors.now =
    ltb-true c.args.place (length c.args.constructors.now) (sym c.in-Some.ensures.lookup.0) in
    let e = fields_found constructor c.args.constructors.now c.args.place c.in-Some.constructor.now h in
    grind (arith, common_steps, e, c.tele_mults.ensures, c.deref.ensures.value, c.in-Some.ensures.lookup.1)
