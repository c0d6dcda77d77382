-- The source grows smaller; a tree is written after its box.
use Rattle.std.proofs.Common.{◌+◌, ◌*◌}
use Rattle.qtt_implicit.specs.declared.filling.trees.Node.{size-Node}
use Rattle.qtt_implicit.specs.declared.filling.trees.Annotation.{size-Annotation}
use Rattle.qtt_implicit.specs.declared.filling.trees.Arguments.{size-Arguments}
use Rattle.qtt_implicit.specs.declared.filling.trees.Binders.{size-Binders}
use Rattle.qtt_implicit.specs.declared.filling.trees.Statements.{size-Statements}
use Rattle.qtt_implicit.proofs.filling.writing.+written.Given as goal

abbrev pub decreases-written : goal.decreases-written
decreases-written l = 2 * size-Node l.source.now

abbrev pub decreases-boxed : goal.decreases-boxed
decreases-boxed l = 2 * size-Node l.source.now + 1

abbrev pub decreases-written_annotation : goal.decreases-written_annotation
decreases-written_annotation l = 2 * size-Annotation l.source.now

abbrev pub decreases-with_arguments : goal.decreases-with_arguments
decreases-with_arguments l = 2 * size-Arguments l.source.now

abbrev pub decreases-with_binders : goal.decreases-with_binders
decreases-with_binders l = 2 * size-Binders l.source.now

abbrev pub decreases-with_statements : goal.decreases-with_statements
decreases-with_statements l = 2 * size-Statements l.source.now
