use Rattle.std.proofs.Common.{ap, ◌∙◌, map, option_map}
use Rattle.std.proofs.lemmas.Result.{IfOk-weaker}
use Rattle.qtt_term.specs.Term.{ε, ◌▸◌, ◌+++◌}
use Rattle.qtt_term.specs.Contraction.{iota, deletion}
use Rattle.qtt_term.specs.View.{term, branches, side_by_side}
use Rattle.qtt_conv.specs.Frames.{delete_parts}
use Rattle.qtt_conv.proofs.Contracting.{argument-contracts, case-contracts, delete-contracts, call-waits}
use Rattle.qtt_conv.proofs.contraction.frame_contracted.Goals as goal

pub returns-in-Argument : goal.returns-in-Argument
returns-in-Argument c =
    IfOk-weaker c.applied.result _ _
    (λ o e E fits. argument-contracts E c.args.frame.now c.in-Argument.mult c.in-Argument.argument
    (term c.args.inner.now) (option_map term o) c.in-Argument.is e) c.applied.ensures

pub returns-in-Case : goal.returns-in-Case
returns-in-Case c =
    let t = term c.args.inner.now in
    IfOk-weaker c.chosen.result _ _
    (λ o e E fits. case-contracts E c.args.frame.now c.in-Case.branching t (option_map term o) c.in-Case.is
    (e ∙ ap (λ b. iota b.family (map (λ x. x.0) (branches b.branches.items))
    (term b.motive ▸ (side_by_side (map (λ x. x.1) (branches b.branches.items)) +++ (t ▸ ε))))
    c.deref.ensures)) c.chosen.ensures

pub returns-in-Delete : goal.returns-in-Delete
returns-in-Delete c =
    let t = term c.args.inner.now in
    IfOk-weaker c.deleted.result _ _
    (λ o e E fits. delete-contracts E c.args.frame.now c.in-Delete.deletion t (option_map term o) c.in-Delete.is
    (e ∙ ap (λ d. deletion (delete_parts d t)) c.deref-in-Delete.ensures)) c.deleted.ensures

pub returns-in-Prim : goal.returns-in-Prim
returns-in-Prim c = λ E fits. call-waits E c.args.frame.now c.in-Prim.field-0 c.in-Prim.field-1 c.in-Prim.field-2
    (term c.args.inner.now) c.in-Prim.is fits
