-- Laws of messages.
use Rattle.std.specs.Prelude.{◌≡◌}
use Rattle.qtt_syntax.specs.Tree.{Shape, Shapes}
use Rattle.qtt_syntax.specs.Words.{written}
use Rattle.qtt_syntax.specs.Printing.{pattern, patterns}
use Rattle.qtt_term.specs.Entries.{Entries}
use Rattle.qtt_rules.specs.declared.detail.Detail.{Detail}
use Rattle.qtt_rules.specs.Kinds.{kind_of}
use Rattle.qtt_diag.specs.Kept.{detail}
use Rattle.qtt_diag.specs.Messages.{told}
use Rattle.qtt_diag.specs.Patterns.{shown, shown_all, pattern_text, patterns_text}

-- the number in the table is that of the kind
abbrev pub KindsAgree : Type 0
KindsAgree = (N : Entries) (d : Detail) → (told N (detail d)).kind ≡ kind_of d

-- patterns are told as the printer of module texts writes them, constructors without their modules and variables as `_`
pub record PatternsAsPrinted : Type 0 where
  pub one : (p : Shape) → pattern_text p ≡ written (pattern (shown p))
  pub all : (ps : Shapes) → patterns_text ps ≡ written (patterns (shown_all ps))
