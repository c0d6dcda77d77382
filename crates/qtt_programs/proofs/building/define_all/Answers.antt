use Rattle.std.proofs.Common.{ℕ, map, reverse, sym, ◌∙◌, ap, rules}
use Rattle.std.proofs.lemmas.List.{map-id}
use Rattle.std.proofs.lemmas.Iterator.Adapters.{YieldsList-from_vec}
use Rattle.std.proofs.lemmas.Iterator.Consumers.{YieldsList-end}
use Rattle.qtt_term.specs.Programs.{many, program}
use Rattle.qtt_term.specs.Signature.{Definition}
use Rattle.qtt_term.specs.View.{term}
use Rattle.qtt_programs.specs.declared.building.Item.{Item}
use Rattle.qtt_programs.proofs.Growing.{reverse-more}
use Rattle.qtt_programs.proofs.building.define_all.Goals as goal

abbrev entry : Item → ℕ × Definition
entry x = (x.number, many (term x.ty) (term x.body))

pub loop-new-preserved : goal.loop-new-preserved
loop-new-preserved c = λ fs e.
    c.in_ok-define.ensures fs (reverse (map entry c.loop-new.yielded)) (c.loop-new.invariant fs e)
    ∙ ap (program fs) (sym (reverse-more entry c.loop-new.yielded c.in-Some.new))

pub returns : goal.returns
returns c =
    let start = YieldsList-from_vec {s = c.into_iter-new-iterator.result} c.args.items.items (search rules)
    (search rules) in
    let end = YieldsList-end start c.loop-new.yielded c.loop-new.new-iterator c.loop-new.yielded_by c.next.result
    c.next.new.self c.in-None.is c.next.ensures.steps in
    λ fs e. c.loop-new.invariant fs e ∙ ap (λ xs. program fs (reverse (map entry xs)))
    (sym (map-id c.loop-new.yielded) ∙ end.0)
