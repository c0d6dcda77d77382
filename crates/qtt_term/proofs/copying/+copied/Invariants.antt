use Rattle.std.proofs.Common.{◌≡◌, take}
use Rattle.qtt_term.specs.View.{terms, branches}
use Rattle.qtt_term.proofs.copying.+copied.Given as goal

abbrev pub invariant-copy_all-loop-source : goal.invariant-copy_all-loop-source
invariant-copy_all-loop-source l = terms l.copies.items ≡ terms (take l.source-index l.sources)

abbrev pub invariant-copy_branches-loop-source : goal.invariant-copy_branches-loop-source
invariant-copy_branches-loop-source l = branches l.copies.items ≡ branches (take l.source-index l.sources)
