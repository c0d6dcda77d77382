use Rattle.std.proofs.Common.{◌≡◌, vec_len, arith, sym}
use Rattle.std.proofs.lemmas.Bool.Decides.{Decides-eqb}
use Rattle.qtt_grammar.proofs.PatternTrees.{group_empty, group_some}
use Rattle.qtt_grammar.proofs.pattern.group.Goals as goal

pub returns-then-is_empty : goal.returns-then-is_empty
returns-then-is_empty c =
    group_empty c.args.head c.args.arguments c.args.span
    (let b : vec_len c.args.arguments ≡ 0 = (Decides-eqb (vec_len c.args.arguments) 0).0
    (sym c.if-is_empty.ensures) in omega (arith, b, c.args.arguments.ok.0))

pub returns : goal.returns
returns c = group_some c.args.head c.args.arguments c.args.span
    (λ z. let a = c.if-is_empty.ensures in let l : vec_len c.args.arguments ≡ 0 = omega
    (arith, z, c.args.arguments.ok.0) in let y = (Decides-eqb (vec_len c.args.arguments) 0).1 l in cc)
