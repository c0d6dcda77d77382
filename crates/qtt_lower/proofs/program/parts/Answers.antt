use Rattle.std.proofs.Common.{rules}
use Rattle.qtt_term.specs.Globals.{env}
use Rattle.qtt_erase.specs.Erasure.{erased_bodies}
use Rattle.qtt_code.specs.View.{blocks}
use Rattle.qtt_lower.specs.Sizes.{blocks_of}
use Rattle.qtt_lower.specs.View.{bases}
use Rattle.qtt_lower.proofs.Answering.{answered-map, if_ok}
use Rattle.qtt_lower.proofs.program.parts.Goals as goal

pub returns : goal.returns
returns g c =
    if_ok c.grouped.result c.grouped.ensures
    (λ v a. answered-map _ _ (λ p. blocks p.items)
    (λ d. blocks_of (bases c.args.bases.now) d (erased_bodies (env c.args.env.now) d))
    (λ j x call. search (rules, call.met)) c.args.ids.now v.items a)
