use Rattle.std.proofs.Common.{◌≡◌, ◌≤◌, ◌<◌, ◌+◌, sym, ap, subst, ◌∙◌, arith}
use Rattle.qtt_term.specs.Answers.{head as head_of}
use Rattle.qtt_term.specs.Globals.{env}
use Rattle.qtt_term.specs.Question.{Head, head as head_in, weight}
use Rattle.qtt_term.specs.View.{term}
use Rattle.qtt_confluence.proofs.Facts.{head_is_exact}
use Rattle.qtt_unify.specs.declared.reading.Step.TheVariants as step
use Rattle.qtt_unify.specs.Unread.{plug_all, behinds, StepsTo}
use Rattle.qtt_unify.proofs.Unread.{toward-goes, toward-spent, toward-none, goes-same}
use Rattle.qtt_unify.proofs.reading.past_one.Goals as goal

pub overflow_sub-result : goal.overflow_sub-result
overflow_sub-result g c =
    let E = env c.args.env.now in
    let t = term c.args.reading.focus in
    let e : head_in E c.args.n t ≡ Head.done (term c.in-Done.head) c.in-Done.made =
    sym c.in_ok-head_within.ensures ∙ ap head_of c.in-Done.is in
    ((head_is_exact.found E c.args.n c.in-Done.made t (term c.in-Done.head)).0 e).2

pub returns-then-made-gt0 : goal.returns-then-made-gt0
returns-then-made-gt0 g c =
    let E = env c.args.env.now in
    let n = c.args.n in
    let made = c.in-Done.made in
    let t = term c.args.reading.focus in
    let h = term c.in-Done.head in
    let ps = c.args.reading.around.items in
    let e : head_in E n t ≡ Head.done h made = sym c.in_ok-head_within.ensures ∙ ap head_of c.in-Done.is in
    let f = (head_is_exact.found E n made t h).0 e in
    let within : made ≤ n = f.2 in
    let some : 0 < made = c.if-made-gt0.true in (
      toward-goes E ps n made t h c.requires f.0 within,
      c.requires,
      omega arith,
      λ x. absurd (omega (arith, x, within, some)),
    )

pub past_head-requires-clause-head : goal.past_head-requires-clause-head
past_head-requires-clause-head g c =
    let E = env c.args.env.now in
    let t = term c.args.reading.focus in
    let e : head_in E c.args.n t ≡ Head.done (term c.in-Done.head) c.in-Done.made =
    sym c.in_ok-head_within.ensures ∙ ap head_of c.in-Done.is in
    ((head_is_exact.found E c.args.n c.in-Done.made t (term c.in-Done.head)).0 e).1

pub returns-in-Spent : goal.returns-in-Spent
returns-in-Spent g c = λ made.
    let E = env c.args.env.now in
    let t = term c.args.reading.focus in
    let e : head_in E c.args.n t ≡ Head.spent = sym c.in_ok-head_within.ensures ∙ ap head_of c.in-Spent.is in
    let f = (head_is_exact.spent E c.args.n t).0 e in
    toward-spent E c.args.reading.around.items c.args.n t f.0 c.requires f.1 made

pub returns-in-Whole : goal.returns-in-Whole
returns-in-Whole g c =
    let E = env c.args.env.now in
    let t = term c.args.reading.focus in
    let h = term c.in-Done.head in
    let ps = c.args.reading.around.items in
    let e : head_in E c.args.n t ≡ Head.done h c.in-Done.made =
    sym c.in_ok-head_within.ensures ∙ ap head_of c.in-Done.is in
    let f = (head_is_exact.found E c.args.n c.in-Done.made t h).0 e in
    let none : c.in-Done.made ≡ 0 = omega (arith, c.if-made-gt0.false) in
    let same : h ≡ t = toward-none c.in-Done.made none f.0 in
    let s : StepsTo E (plug_all ps h) (weight h + behinds ps) (step.Whole c.in-Whole.read) =
    subst (λ x. StepsTo E (plug_all ps h) (weight h + behinds ps) x) c.in-Whole.is c.in_ok-read-in-Done.ensures in
    subst (λ x. StepsTo E (plug_all ps x) (weight x + behinds ps) (step.Whole c.in-Whole.read)) same s

pub returns-in-Next : goal.returns-in-Next
returns-in-Next g c =
    let E = env c.args.env.now in
    let n = c.args.n in
    let t = term c.args.reading.focus in
    let h = term c.in-Done.head in
    let ps = c.args.reading.around.items in
    let e : head_in E n t ≡ Head.done h c.in-Done.made = sym c.in_ok-head_within.ensures ∙ ap head_of c.in-Done.is in
    let f = (head_is_exact.found E n c.in-Done.made t h).0 e in
    let none : c.in-Done.made ≡ 0 = omega (arith, c.if-made-gt0.false) in
    let same : h ≡ t = toward-none c.in-Done.made none f.0 in
    let raw : StepsTo E (plug_all ps h) (weight h + behinds ps) (step.Next c.in-Next.next) =
    subst (λ x. StepsTo E (plug_all ps h) (weight h + behinds ps) x) c.in-Next.is c.in_ok-read-in-Done.ensures in
    let s : StepsTo E (plug_all ps t) (weight t + behinds ps) (step.Next c.in-Next.next) =
    subst (λ x. StepsTo E (plug_all ps x) (weight x + behinds ps) (step.Next c.in-Next.next)) same raw in (
      goes-same E n (plug_all ps t) (plug_all c.in-Next.next.around.items (term c.in-Next.next.focus)) s.0,
      s.1,
      omega arith,
      λ x. (s.0, s.2),
    )
