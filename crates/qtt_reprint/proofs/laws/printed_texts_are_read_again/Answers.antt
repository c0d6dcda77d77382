use Rattle.qtt_reprint.proofs.PrintedAgain.{printed_read_again}
use Rattle.qtt_reprint.proofs.laws.printed_texts_are_read_again.Goals as goal

pub returns : goal.returns
returns c = printed_read_again
