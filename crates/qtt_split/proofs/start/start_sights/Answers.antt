use Rattle.std.proofs.Common.{◌≡◌, ◌∙◌, ◌-◌, ◌++◌, suc, [], ◌∷◌, map, ap, sym, rules, arith}
use Rattle.qtt_split.specs.declared.sights.Seen as code_seen
use Rattle.qtt_split.specs.declared.sights.Seen.TheVariants as code
use Rattle.qtt_split.specs.Seen.{Seen, oldest_first}
use Rattle.qtt_split.specs.Sights.{seen_of}
use Rattle.qtt_split.proofs.Started.{opens, one-opened, all-opened}
use Rattle.qtt_split.proofs.start.start_sights.Goals as goal

pub loop-variable-preserved : goal.loop-variable-preserved
loop-variable-preserved c =
    let n = c.loop-variable.variable - 1 in
    let seen = c.loop-variable.seen.items in
    let e : c.loop-variable.variable ≡ suc n = omega (arith, c.loop-variable-test.true) in
    let one : seen_of (code.OpenAt n) ≡ Seen.open_at n = search (rules, code_seen.the_lemmas) in
    let now : c.push.new.self.items ≡ seen ++ code.OpenAt n ∷ [] = search rules in
    c.loop-variable.invariant ∙
    ap (λ k. map seen_of seen ++ opens (oldest_first k)) e ∙
    one-opened n seen (code.OpenAt n) one ∙
    ap (λ xs. map seen_of xs ++ opens (oldest_first n)) (sym now)

pub returns : goal.returns
returns c =
    let seen = c.loop-variable.seen.items in
    let e : c.loop-variable.variable ≡ 0 = omega (arith, c.loop-variable-test.false) in
    all-opened c.args.count seen
    (c.loop-variable.invariant ∙ ap (λ k. map seen_of seen ++ opens (oldest_first k)) e)
