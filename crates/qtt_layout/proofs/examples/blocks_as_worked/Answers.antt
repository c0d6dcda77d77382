use Rattle.std.specs.Prelude.{refl}
use Rattle.qtt_layout.specs.Rules.{put_from, laid}
use Rattle.qtt_layout.proofs.examples.blocks_as_worked.Goals as goal

pub returns : goal.returns
unfolding laid put_from
returns c = record {
  nothing = refl;
  two_items = refl;
  empty = refl;
  bracket = refl;
  left = refl;
}
