use Rattle.qtt_reprint.proofs.Again.{words_read_again}
use Rattle.qtt_reprint.proofs.laws.printed_words_are_read_again.Goals as goal

pub returns : goal.returns
returns c = words_read_again
