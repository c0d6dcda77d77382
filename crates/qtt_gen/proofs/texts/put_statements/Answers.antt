use Rattle.std.proofs.Common.{append_assoc}
use Rattle.qtt_gen.specs.Generated.{put_line}
use Rattle.qtt_gen.proofs.Pieces.{written_more}
use Rattle.qtt_gen.proofs.texts.put_statements.Goals as goal

pub loop-j-preserved : goal.loop-j-preserved
loop-j-preserved c = rw (written_more (put_line c.args.i) c.loop-j.j) (simp append_assoc (simp (
  c.in_ok-put_name.ensures,
  c.in_ok-put.ensures,
  c.loop-j.invariant,
  append_assoc,
) at c.in_ok-put-2.ensures))
