use Rattle.std.proofs.Common.{◌≤◌, vec_len}
use Rattle.qtt_edge.proofs.adapters.folder_vault.first_bytes.Given as goal

abbrev pub invariant-reads : goal.invariant-reads
invariant-reads g l = vec_len l.text ≤ l.max
