use Rattle.std.proofs.Common.{◌≡◌, length, leb, eqb, sym, ap, ◌∙◌, refl, rules}
use Rattle.std.specs.List.{list_all}
use Rattle.qtt_term.proofs.Tests.{few-are, can_give, cannot_give}
use Rattle.qtt_term.proofs.globals.Globals.can_give.Goals as goal

pub returns-in-Some : goal.returns-in-Some
returns-in-Some c =
    let F = c.in-Some.found.now in
    let cs = c.args.constructors.now in
    let count : c.len-bare.result ≡ length F.constructors.items = search rules in
    let indices : c.len.result ≡ length F.indices.items = search rules in
    can_give c.args.self.now c.args.family cs F (eqb c.len-bare.result 0) (leb (length cs) 4294967295)
    c.are_different-differ.result c.are_absent-absent.result c.are_counted-counted.result
    (sym c.in-Some.ensures.found) (ap (λ n. eqb n 0) count) (few-are (length cs) (length cs) refl)
    c.are_different-differ.ensures c.are_absent-absent.ensures
    (c.are_counted-counted.ensures ∙ ap (λ n. list_all (λ d. eqb (length d.result.items) n) cs) indices)

pub returns-in-None : goal.returns-in-None
returns-in-None c = cannot_give c.args.self.now c.args.family c.args.constructors.now (sym c.in-None.ensures.found)
