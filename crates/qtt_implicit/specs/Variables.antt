-- What is met of the variables of a clause, in code.
use Rattle.std.specs.Prelude.{◌++◌, replicate, length}
use Rattle.qtt_implicit.specs.declared.filling.met.Met as met_code
use Rattle.qtt_implicit.specs.Moving.{unknown}
use Rattle.qtt_implicit.specs.Patterns.{Met}
use Rattle.qtt_implicit.specs.TextTypes.{local_types}

abbrev pub met_of : met_code.Met → Met
met_of m = record {
  count = length (local_types m.locals.now);
  types = replicate m.unmet unknown ++ local_types m.locals.now;
}
