use Rattle.std.proofs.Common.{map, sym, ◌∙◌}
use Rattle.std.proofs.lemmas.List.{length-map}
use Rattle.qtt_usage.specs.Mult.{𝟘}
use Rattle.qtt_term.specs.Globals.{env}
use Rattle.qtt_term.specs.View.{branch, branches}
use Rattle.qtt_term.proofs.Shaped.{case-there}
use Rattle.qtt_term.proofs.shape.has_case.Goals as goal

pub returns-in-Some : goal.returns-in-Some
returns-in-Some c =
    let bs = c.args.branches.now in
    let ns = map (λ b. b.0) (branches bs) in
    c.is_case_of.ensures
    ∙ sym (case-there (env c.args.env.now) c.args.id c.in-Some.family.now
    (sym c.in-Some.ensures.env) 𝟘 c.args.params c.args.indices ns _
    (sym (length-map (branches bs) (λ b. b.0) ∙ length-map bs branch)))
