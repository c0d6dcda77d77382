use Rattle.std.proofs.Common.{rules, ◌≡◌, length, map, arith, ap, ◌∙◌}
use Rattle.qtt_term.specs.declared.term.Term.{the_lemmas}
use Rattle.qtt_term.specs.declared.term.Case.{out-Case, roll-Case}
use Rattle.qtt_term.specs.View.{term, terms, branches, case}
use Rattle.qtt_term.proofs.Components.{case_of}
use Rattle.qtt_envconv.proofs.Assembling.{case-made, bodies-left}
use Rattle.qtt_envconv.proofs.assembly.case_with.Goals as goal

pub branches_with-requires : goal.branches_with-requires
branches_with-requires c =
    let a = out-Case c.args.source.now in
    let left = bodies-left (length a.params.items) (length a.branches.items) c.in_ok-params.params.items
    c.in_ok-motive.motive.items c.in_ok-motive.bodies.items c.last-scrutinee.new.parts.items
    c.in_ok-params.behind.items c.args.parts.items c.last-scrutinee.result
    (omega (arith, c.args.parts.ok.0, c.requires)) (omega (arith, c.in_ok-params.ensures.0, a.params.ok.0))
    c.in_ok-params.ensures.1 c.last-scrutinee.ensures c.in_ok-motive.ensures.1 c.in_ok-motive.ensures.0 in
    let seen = ap length c.deref.ensures.value in
    omega (arith, left, seen, c.in_ok-motive.bodies.ok.0)

pub returns : goal.returns
returns c =
    let a = out-Case c.args.source.now in
    let form : case (roll-Case (record {
      mult = a.mult;
      family = a.family;
      params = c.in_ok-params.params;
      indices = a.indices;
      motive = c.one.result;
      branches = c.in_ok-branches_with.field-0;
      scrutinee = c.last-scrutinee.result;
    })) ≡ case_of a.mult a.family (terms c.in_ok-params.params.items) a.indices (term c.one.result)
    (branches c.in_ok-branches_with.field-0.items) (term c.last-scrutinee.result) =
    search (rules, the_lemmas) in
    form ∙ case-made a.mult a.family a.indices (length a.params.items)
    (map (λ b. b.0) (branches a.branches.items)) c.in_ok-params.params.items c.in_ok-motive.motive.items
    c.in_ok-motive.bodies.items c.last-scrutinee.new.parts.items c.in_ok-params.behind.items c.args.parts.items
    c.one.result c.last-scrutinee.result (branches c.in_ok-branches_with.field-0.items)
    (omega (arith, c.in_ok-params.ensures.0, a.params.ok.0)) c.in_ok-params.ensures.1 c.last-scrutinee.ensures
    c.in_ok-motive.ensures.1 c.one.ensures
    (c.in_ok-branches_with.ensures.fields ∙ ap (λ bs. map (λ b. b.0) (branches bs)) c.deref.ensures.value)
    c.in_ok-branches_with.ensures.bodies
