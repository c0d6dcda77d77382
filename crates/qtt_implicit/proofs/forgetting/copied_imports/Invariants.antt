-- What has been passed is copied.
use Rattle.std.proofs.Common.{◌≡◌, take}
use Rattle.qtt_implicit.proofs.forgetting.copied_imports.Given as goal

abbrev pub invariant-loop-import : goal.invariant-loop-import
invariant-loop-import l = l.copies.items ≡ take l.import-index l.source
