use Rattle.std.proofs.Common.{◌≡◌, ◌∙◌, ap, sym, drop, map, subst, MatchResult}
use Rattle.qtt_rules.specs.declared.errors.ElabError.TheVariants.{Memory}
use Rattle.qtt_bidi.specs.Seen.{locals}
use Rattle.qtt_holes.specs.Calls.{untold_sight}
use Rattle.qtt_holes.specs.View.{seen as seen_of, names_of}
use Rattle.qtt_holes.proofs.Sighted.{inner-more}
use Rattle.qtt_holes.proofs.sight.+in_sight.Goals as goal

pub returns-in_ok-seen-in-Inner : goal.returns-in_ok-seen-in-Inner
returns-in_ok-seen-in-Inner t c =
    let xs = (locals c.args.scope.now).names in
    let i = c.args.index in
    subst (λ ys. MatchResult c.put.result (λ v. map seen_of v.items ≡ ys) (λ e. e ≡ Memory))
    (inner-more c.in-Inner.name.now (names_of c.in-Inner.outer.now) xs i c.in_ok-next-in-Inner.field-0 _
    c.in_ok-next-in-Inner.ensures c.in_ok-seen-in-Inner.ensures
    ∙ ap (λ m. untold_sight (names_of m) (drop i xs)) (sym c.in-Inner.is))
    c.put.ensures
