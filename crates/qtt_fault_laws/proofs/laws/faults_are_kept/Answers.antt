use Rattle.qtt_fault_laws.proofs.Lexing.{lexing_kept}
use Rattle.qtt_fault_laws.proofs.Stages.{layout_kept, grammar_kept}
use Rattle.qtt_fault_laws.proofs.Items.{names_kept}
use Rattle.qtt_fault_laws.proofs.laws.faults_are_kept.Goals as goal

pub returns : goal.returns
returns c =
    record { of_lexing = lexing_kept; of_layout = layout_kept; of_grammar = grammar_kept; of_names = names_kept }
