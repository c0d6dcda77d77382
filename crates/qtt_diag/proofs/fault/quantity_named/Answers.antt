use Rattle.std.proofs.Common.{rules, tests, ◌∙◌}
use Rattle.std.proofs.lemmas.Iterator.{YieldsList-from_slice}
use Rattle.std.proofs.lemmas.Iterator.Consumers.{YieldsList-from_copied}
use Rattle.std.proofs.lemmas.Iterator.Search.{find_from_yields_List}
use Rattle.std.specs.Str.{bytes_eq}
use Rattle.qtt_base.specs.Limits.{words_of}
use Rattle.qtt_diag.specs.Fault.{quantities}
use Rattle.qtt_diag.proofs.Spelled.{same_option}
use Rattle.qtt_diag.proofs.fault.quantity_named.Goals as goal

pub returns : goal.returns
returns c =
    same_option c.find.result ∙
    find_from_yields_List (λ q. bytes_eq (words_of q) c.args.word.now) _ _ _ c.find.ensures.ran
    (YieldsList-from_copied (YieldsList-from_slice quantities cc)) (λ x b q k. search (rules, tests))
