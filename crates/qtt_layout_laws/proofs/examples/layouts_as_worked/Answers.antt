use Rattle.std.specs.Prelude.{refl}
use Rattle.qtt_layout.specs.Rules.{put_from, laid}
use Rattle.qtt_layout_laws.proofs.Answering.{worked, worked_refusal}
use Rattle.qtt_layout_laws.proofs.examples.layouts_as_worked.Goals as goal

pub returns : goal.returns
unfolding laid put_from
returns c = record {
  constructors = worked _ _ refl refl;
  inner_block = worked _ _ refl refl;
  two_ends = worked _ _ refl refl;
  bracket = worked _ _ refl refl;
  bare = worked _ _ refl refl;
  no_block = worked _ _ refl refl;
  left = worked_refusal _ _ refl refl;
}
