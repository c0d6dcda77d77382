use Rattle.qtt_words.proofs.Alike.{takes_lines}
use Rattle.qtt_words.proofs.laws.clap_takes_lines.Goals as goal

pub returns : goal.returns
returns c = takes_lines
