use Rattle.std.proofs.Common.{◌≡◌, ◌∙◌, [], map, rules, ap}
use Rattle.qtt_syntax.specs.View.{shape_of}
use Rattle.qtt_term.specs.View.{term}
use Rattle.qtt_split.specs.declared.tree.Tree.{the_lemmas}
use Rattle.qtt_split.specs.declared.tree.Tree.TheVariants as code
use Rattle.qtt_split.specs.Split.{grown}
use Rattle.qtt_split.specs.Tree.{Tree}
use Rattle.qtt_split.specs.View.{tree_of}
use Rattle.qtt_split.proofs.growing.missing.Goals as goal

pub returns : goal.returns
returns c =
    let A = c.args.goal in
    let ps = c.new-patterns.result in
    let none : ps.items ≡ [] = search rules in
    let seen : tree_of (code.Missing A ps) ≡ Tree.missing (term A) (map shape_of ps.items) =
    search (rules, the_lemmas) in
    ap (λ t. grown t c.args.left) (seen ∙ ap (λ xs. Tree.missing (term A) (map shape_of xs)) none)
