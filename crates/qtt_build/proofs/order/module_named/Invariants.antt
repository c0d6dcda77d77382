use Rattle.std.proofs.Common.{◌≡◌, drop, map}
use Rattle.std.specs.Prelude.{find}
use Rattle.qtt_module.specs.TextCalls.{accepted_of}
use Rattle.qtt_build.specs.Built.{is_named}
use Rattle.qtt_build.proofs.order.module_named.Given as goal

-- it is none of those before
abbrev pub invariant-loop-checked : goal.invariant-loop-checked
invariant-loop-checked l =
    find (is_named l.name) (map accepted_of (drop l.checked-index l.order)) ≡
    find (is_named l.name) (map accepted_of l.order)
