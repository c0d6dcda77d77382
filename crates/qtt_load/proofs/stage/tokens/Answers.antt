use Rattle.qtt_lexer.specs.Lexed.{seen}
use Rattle.qtt_load.proofs.stage.tokens.Goals as goal

pub refused-requires : goal.refused-requires
refused-requires c =
    c.faults_are_kept.ensures.of_lexing c.args.text.now (seen c.in-Err-Fault.fault)
    (rw c.in-Err-Fault.field-0-is at c.in-Err-Fault.ensures.exact)
