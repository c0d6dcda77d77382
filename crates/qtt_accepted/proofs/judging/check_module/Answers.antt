use Rattle.std.proofs.Common.{map}
use Rattle.qtt_names.specs.Exports.{exports_of}
use Rattle.qtt_syntax.specs.View.{module_of}
use Rattle.qtt_term.specs.Entries.{entries}
use Rattle.qtt_accepted.proofs.Promised.{promised}
use Rattle.qtt_accepted.proofs.judging.check_module.Goals as goal

pub returns-clause-promises : goal.returns-clause-promises
returns-clause-promises g c over =
    promised c.args.«module» c.args.budget c.args.asked.now (map exports_of c.args.imports.now)
    (entries c.args.globals.now) (module_of c.args.text.now) over _ c.check_module.ensures.sound
    c.check_module.ensures.refused
