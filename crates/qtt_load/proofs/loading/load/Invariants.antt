use Rattle.std.proofs.Common.{◌≡◌, ◌-◌, ◌≤◌, map, vec_len}
use Rattle.qtt_syntax.specs.View.{module_of}
use Rattle.qtt_load.proofs.Standing.{Standing}
use Rattle.qtt_load.proofs.loading.load.Given as goal

abbrev pub invariant-modules : goal.invariant-modules
invariant-modules g l = record {
  stands : Standing (g.V.Vault.texts l.fn.vault) l.root l.known.keys (map module_of l.texts.items);
  same : g.V.Vault.texts l.vault ≡ g.V.Vault.texts l.fn.vault;
  faults : g.V.Vault.faults l.fn.vault ≤ g.V.Vault.faults l.vault;
  misses : g.V.Vault.misses l.fn.vault ≤ g.V.Vault.misses l.vault;
}

abbrev pub decreases-modules : goal.decreases-modules
decreases-modules g l = 1000 - vec_len l.texts
