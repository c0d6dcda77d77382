use Rattle.qtt_words.proofs.Alike.{clap_asks}
use Rattle.qtt_words.proofs.laws.clap_asks_alike.Goals as goal

pub returns : goal.returns
returns c = clap_asks
