use Rattle.std.proofs.Common.{◌≡◌, length, leb, eqb, ◌∙◌, rules}
use mathlib.Core.Path.{ap₂}
use Rattle.std.specs.List.{list_all}
use Rattle.qtt_term.proofs.Tests.{few-are, can_add}
use Rattle.qtt_term.proofs.globals.Globals.can_add.Goals as goal

pub returns : goal.returns
returns c =
    let F = c.args.family.now in
    let count : c.len.result ≡ length F.constructors.items = search rules in
    let indices : c.len-2.result ≡ length F.indices.items = search rules in
    can_add c.args.self.now F (leb c.len.result 4294967295) c.has_no_ids_of-new_ids.result c.are_counted-counted.result
    (few-are c.len.result (length F.constructors.items) count) c.has_no_ids_of-new_ids.ensures
    (c.are_counted-counted.ensures ∙ ap₂ (λ cs n. list_all (λ d. eqb (length d.result.items) n) cs)
    c.deref.ensures.value indices)
