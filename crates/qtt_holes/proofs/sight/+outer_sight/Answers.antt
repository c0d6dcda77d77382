use Rattle.std.proofs.Common.{◌≡◌, map, subst, MatchResult}
use Rattle.qtt_rules.specs.declared.errors.ElabError.TheVariants.{Memory}
use Rattle.qtt_bidi.specs.Seen.{locals}
use Rattle.qtt_holes.specs.View.{seen as seen_of}
use Rattle.qtt_holes.proofs.Sighted.{outer-more}
use Rattle.qtt_holes.proofs.sight.+outer_sight.Goals as goal

pub returns-in_ok-seen-in-len1-up : goal.returns-in_ok-seen-in-len1-up
returns-in_ok-seen-in-len1-up t c =
    subst (λ ys. MatchResult c.put.result (λ v. map seen_of v.items ≡ ys) (λ e. e ≡ Memory))
    (outer-more c.args.names.now c.name-item.result (locals c.args.scope.now).names c.args.index
    c.in_ok-next-in-len1-up.field-0 _ c.in-len1-up.len_at_least c.name-item.is c.in_ok-next-in-len1-up.ensures
    c.in_ok-seen-in-len1-up.ensures)
    c.put.ensures
