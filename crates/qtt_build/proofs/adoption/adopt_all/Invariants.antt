use Rattle.std.proofs.Common.{◌≡◌, drop, map}
use Rattle.qtt_term.specs.Entries.{entries}
use Rattle.qtt_build.specs.Built.{all_adopted}
use Rattle.qtt_module.specs.TextCalls.{accepted_of}
use Rattle.qtt_build.specs.Parts.{Follow}
use Rattle.qtt_build.proofs.adoption.adopt_all.Given as goal

-- those that are left follow
abbrev pub invariant-loop-checked : goal.invariant-loop-checked
invariant-loop-checked l = record {
  follow : Follow (entries l.globals) (map accepted_of (drop l.checked-index l.rank));
  same : all_adopted (entries l.globals) (map accepted_of (drop l.checked-index l.rank)) ≡ all_adopted
      (entries l.fn.globals) (map accepted_of l.rank);
}
