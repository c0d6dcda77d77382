-- What the code's columns, rows and decisions stand for.
use Rattle.std.specs.Prelude.{List, map, drop}
use Rattle.qtt_syntax.specs.View.{shape_of}
use Rattle.qtt_term.specs.View.{term}
use Rattle.qtt_split.specs.declared.columns.Column as code_column
use Rattle.qtt_split.specs.declared.columns.Row as code_row
use Rattle.qtt_split.specs.declared.columns.Settled as code_settled
use Rattle.qtt_split.specs.declared.columns.Settled.TheVariants as settled
use Rattle.qtt_split.specs.declared.columns.Decision as code_decision
use Rattle.qtt_split.specs.declared.columns.Decision.TheVariants as decision
use Rattle.qtt_split.specs.declared.columns.Examined as code_examined
use Rattle.qtt_split.specs.Node.{Column, Row, column, Settled, Decision, Examined}

abbrev pub column_of : code_column.Column → Column
column_of c = column (shape_of c.pattern.now) (term c.term) (term c.ty)

abbrev pub row_of : code_row.Row → Row
row_of r = record { clause = r.clause; columns = map column_of r.columns.items }

abbrev pub settled_of : code_settled.Settled → Settled
settled_of (settled.Columns cs) = Settled.columns (map column_of cs.items)
settled_of settled.Goes = Settled.goes
settled_of (settled.Sticks s t) = Settled.sticks s (term t)

-- of these rows, where those behind the one that decides begin at place n
abbrev pub decision_of : List code_row.Row → code_decision.Decision → Decision
decision_of rows decision.NoneLeft = Decision.none_left
decision_of rows (decision.StuckOn s t) = Decision.stuck_on s (term t)
decision_of rows (decision.Decides r n) = Decision.decides (row_of r) (map row_of (drop n rows))

abbrev pub examined_of : code_examined.Examined → Examined
examined_of x = record { variable = x.variable; constructor = x.constructor.now; span = x.span }
