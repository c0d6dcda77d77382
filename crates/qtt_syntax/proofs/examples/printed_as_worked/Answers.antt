use Rattle.std.specs.Prelude.{refl}
use Rattle.std.specs.Fmt.{digits}
use Rattle.qtt_syntax.proofs.examples.printed_as_worked.Goals as goal

pub returns : goal.returns
unfolding digits
returns c = record {
  program = refl;
  domain_in_brackets = refl;
  not_flattened = refl;
  name_kept = refl;
  level_shown = refl;
  negative_in_braces = refl;
  block_on_lines = refl;
  block_ended = refl;
  block_in_brackets = refl;
  block_in_braces = refl;
}
