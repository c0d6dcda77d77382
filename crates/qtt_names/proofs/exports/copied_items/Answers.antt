-- A copy of the entries is the entries.
use Rattle.std.proofs.Common.{rules, arith}
use Rattle.std.proofs.lemmas.Grind.{common_steps}
use Rattle.std.proofs.lemmas.List.Elements.{same_from_all_zip}
use Rattle.qtt_names.proofs.exports.copied_items.Goals as goal

pub returns : goal.returns
returns c = same_from_all_zip _ _ _ c.in_ok-clone.ensures.cases
    (λ p q h. first_of (search rules, grind (arith, common_steps)))
