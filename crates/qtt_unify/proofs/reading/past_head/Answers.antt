use Rattle.std.proofs.Common.{◌+◌, Some, subst, sym}
use Rattle.qtt_term.specs.Globals.{env}
use Rattle.qtt_term.specs.Question.{weight}
use Rattle.qtt_term.specs.View.{term}
use Rattle.qtt_term.proofs.Binders.{if-ok}
use Rattle.qtt_unify.specs.Unread.{con_of, plug_all, behinds, TakenApart, StepsTo}
use Rattle.qtt_unify.proofs.reading.past_head.Goals as goal

pub returns-in-Some : goal.returns-in-Some
returns-in-Some c =
    let E = env c.args.env.now in
    let a = c.in-Some.applied in
    let made = con_of a.con a.params.items a.fields.items in
    let apart : TakenApart E c.args.head c.taken_apart.new.head (Some a) =
    subst (TakenApart E c.args.head c.taken_apart.new.head) c.in-Some.is c.in_ok-applied.ensures in
    if-ok (λ s. StepsTo E (plug_all c.args.around.items made) (weight made + behinds c.args.around.items) s)
    (λ s. StepsTo E (plug_all c.args.around.items (term c.args.head))
    (weight (term c.args.head) + behinds c.args.around.items) s)
    c.into_fields.result
    (λ s h. subst (λ v. StepsTo E (plug_all c.args.around.items v) (weight v + behinds c.args.around.items) s)
    (sym apart.0) h)
    (c.into_fields.ensures E apart.1 c.requires.around)
