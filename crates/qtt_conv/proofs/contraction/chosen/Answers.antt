use Rattle.std.proofs.Common.{◌≡◌, length, ap, ◌∙◌, sym, Some}
use Rattle.std.proofs.lemmas.List.{length-map}
use Rattle.qtt_term.specs.Question.{wrap}
use Rattle.qtt_term.specs.Substitution.{sub}
use Rattle.qtt_term.specs.Shift.{values_in}
use Rattle.qtt_term.specs.View.{term, terms, branches}
use Rattle.qtt_conv.specs.Frames.{body_for}
use Rattle.qtt_conv.proofs.Contracting.{iota-other, iota-chosen}
use Rattle.qtt_conv.proofs.contraction.chosen.Goals as goal

pub returns-in-None-branch_for : goal.returns-in-None-branch_for
returns-in-None-branch_for c =
    let b = c.args.branching.now in
    let fs = c.in-Some.fields.now in
    let count : length fs ≡ length (terms fs) = sym (length-map fs term) in
    ap (wrap (sub (values_in (terms fs))))
    (c.in-None-branch_for.ensures ∙ ap (body_for b.family (branches b.branches.items) c.in-Some.con) count)
    ∙ iota-chosen b.family (branches b.branches.items) (term b.motive) (term c.args.scrutinee.now) c.in-Some.con
    (terms fs) c.in-Some.ensures

pub returns-in_ok-subst-in-Some-branch_for : goal.returns-in_ok-subst-in-Some-branch_for
returns-in_ok-subst-in-Some-branch_for c =
    let b = c.args.branching.now in
    let fs = c.in-Some.fields.now in
    let count : length fs ≡ length (terms fs) = sym (length-map fs term) in
    ap Some c.in_ok-subst-in-Some-branch_for.ensures
    ∙ ap (wrap (sub (values_in (terms fs))))
    (c.in-Some-branch_for.ensures ∙ ap (body_for b.family (branches b.branches.items) c.in-Some.con) count)
    ∙ iota-chosen b.family (branches b.branches.items) (term b.motive) (term c.args.scrutinee.now) c.in-Some.con
    (terms fs) c.in-Some.ensures

pub returns-in-None : goal.returns-in-None
returns-in-None c =
    let b = c.args.branching.now in
    iota-other b.family (branches b.branches.items) (term b.motive) (term c.args.scrutinee.now) c.in-None.ensures
