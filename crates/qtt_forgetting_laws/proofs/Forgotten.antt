-- What was read, resolved and filled is forgotten back.
use Rattle.std.proofs.Common.{All, map}
use Rattle.qtt_names.specs.Exports.{Exports}
use Rattle.qtt_implicit.specs.Laws.{HasItsBinders, FilledIsForgotten}
use Rattle.qtt_module.specs.Prepared.{imported}
use Rattle.qtt_forgetting_laws.specs.Laws.{ReadTextsAreWritten, SignaturesHaveTheirBinders, IsGiven, ReadTextsAreForgotten}

module _ (written : ReadTextsAreWritten) (binders : SignaturesHaveTheirBinders) (back : FilledIsForgotten) where
  given_have : (e : Exports) → IsGiven e → All HasItsBinders e.sigs
  given_have _ IsGiven.by_prim = binders.of_prim
  given_have _ (IsGiven.by_module id n asked imports G m A h) = binders.of_judged id n asked imports G m A h

  pub are_forgotten : ReadTextsAreForgotten
  are_forgotten ms home imports t u r e given names f =
      back home imports u r (λ k d lt. given_have _ (given k d lt))
      (written.with_targets home (map imported imports) t u (written.read ms t e) names) f
