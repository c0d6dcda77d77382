use Rattle.qtt_words.proofs.Rows.{clap_rows_hold as computed}
use Rattle.qtt_words.proofs.examples.clap_as_worked.Goals as goal

pub returns : goal.returns
returns c = computed
