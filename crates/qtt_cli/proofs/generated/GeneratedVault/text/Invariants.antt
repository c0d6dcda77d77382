use Rattle.std.proofs.Common.{◌≡◌, drop, find, map}
use Rattle.qtt_gen.specs.Seen.{seen}
use Rattle.qtt_cli.specs.Views.{is_of}
use Rattle.qtt_cli.proofs.generated.GeneratedVault.text.Given as goal

-- it is none of those before
abbrev pub invariant-loop-found : goal.invariant-loop-found
invariant-loop-found l =
    find (is_of l.name) (map seen (drop l.found-index l.found-items)) ≡ find (is_of l.name) (map seen l.found-items)
