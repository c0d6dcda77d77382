use Rattle.std.proofs.Common.{◌≡◌, ◌∙◌, ◌-◌, ◌++◌, suc, true, false, [], ◌∷◌, ap, sym, rules, arith}
use Rattle.qtt_split.specs.Seen.{live, any_shows}
use Rattle.qtt_split.specs.Sights.{sights_of}
use Rattle.qtt_split.proofs.Living.{live-more, live-same}
use Rattle.qtt_split.proofs.reverting.live.Goals as goal

pub loop-variable-preserved-in-Continue-1 : goal.loop-variable-preserved-in-Continue-1
loop-variable-preserved-in-Continue-1 c =
    let n = c.loop-variable.variable - 1 in
    let e : c.loop-variable.variable ≡ suc n = omega (arith, c.loop-variable-test.true) in
    let there : any_shows n (sights_of c.args.seen.now) ≡ true = sym c.any_shows.ensures ∙ c.if-any_shows.true in
    let now : c.push.new.self.items ≡ c.loop-variable.live.items ++ n ∷ [] = search rules in
    c.loop-variable.invariant ∙
    ap (λ k. c.loop-variable.live.items ++ live k (sights_of c.args.seen.now)) e ∙
    live-more n (sights_of c.args.seen.now) c.loop-variable.live.items there ∙
    ap (λ xs. xs ++ live n (sights_of c.args.seen.now)) (sym now)

pub loop-variable-preserved : goal.loop-variable-preserved
loop-variable-preserved c =
    let n = c.loop-variable.variable - 1 in
    let e : c.loop-variable.variable ≡ suc n = omega (arith, c.loop-variable-test.true) in
    let none : any_shows n (sights_of c.args.seen.now) ≡ false = sym c.any_shows.ensures ∙ c.if-any_shows.false in
    c.loop-variable.invariant ∙
    ap (λ k. c.loop-variable.live.items ++ live k (sights_of c.args.seen.now)) e ∙
    ap (λ xs. c.loop-variable.live.items ++ xs) (live-same n (sights_of c.args.seen.now) none)
