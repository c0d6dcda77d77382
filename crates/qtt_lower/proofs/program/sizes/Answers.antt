use Rattle.std.proofs.Common.{sym, ◌∙◌, rules}
use Rattle.std.proofs.lemmas.List.{map-id}
use Rattle.qtt_term.specs.Globals.{env}
use Rattle.qtt_lower.specs.Compiled.{sized}
use Rattle.qtt_lower.proofs.Answering.{answered-map, if_ok}
use Rattle.qtt_lower.proofs.program.sizes.Goals as goal

pub returns : goal.returns
returns g c =
    if_ok c.grouped.result c.grouped.ensures
    (λ v a. sym (map-id v.items) ∙ answered-map _ _ (λ x. x) (sized (env c.args.env.now))
    (λ j x call. search (rules, call.met)) c.args.ids.now v.items a)
