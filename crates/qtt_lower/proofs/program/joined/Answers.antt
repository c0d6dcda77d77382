use Rattle.std.proofs.Common.{sym, ◌∙◌, ap, rules}
use Rattle.std.proofs.lemmas.List.{map-id}
use Rattle.std.proofs.lemmas.Iterator.Adapters.{YieldsList-from_vec}
use Rattle.std.proofs.lemmas.Iterator.Consumers.{YieldsList-end}
use Rattle.qtt_lower.specs.Compiled.{joined}
use Rattle.qtt_lower.specs.View.{part_list}
use Rattle.qtt_lower.proofs.program.joined.Goals as goal

pub returns : goal.returns
returns c =
    let start = YieldsList-from_vec {s = c.into_iter-part-iterator.result} c.args.parts.items (search rules)
    (search rules) in
    let end = YieldsList-end start c.loop-part.yielded c.loop-part.part-iterator c.loop-part.yielded_by
    c.next.result c.next.new.self c.in-None.is c.next.ensures.steps in
    c.loop-part.invariant ∙ ap (λ ps. joined (part_list ps)) (sym (map-id c.loop-part.yielded) ∙ end.0)
