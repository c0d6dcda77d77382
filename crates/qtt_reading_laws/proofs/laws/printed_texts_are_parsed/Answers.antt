use Rattle.qtt_reading_laws.proofs.Printing.{parsed_again}
use Rattle.qtt_reading_laws.proofs.laws.printed_texts_are_parsed.Goals as goal

pub returns : goal.returns
returns c = parsed_again
