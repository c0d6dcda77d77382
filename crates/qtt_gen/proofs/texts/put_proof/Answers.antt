use Rattle.std.proofs.Common.{append_assoc}
use Rattle.qtt_gen.proofs.texts.put_proof.Goals as goal

pub returns : goal.returns
returns c = simp append_assoc (simp (
  c.in_ok-put_name-3.ensures,
  c.in_ok-put-3.ensures,
  c.in_ok-put_value.ensures,
  c.in_ok-put-2.ensures,
  c.in_ok-put_name-2.ensures,
  c.in_ok-put.ensures,
  c.in_ok-put_name.ensures,
  append_assoc,
) at c.put-4.ensures)
