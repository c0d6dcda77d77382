use Rattle.std.proofs.Common.{◌≡◌, ◌∙◌, map, eqb, true, rules, ap, sym}
use Rattle.std.proofs.lemmas.Bool.{eq-eqb}
use Rattle.qtt_term.specs.Substitution.{shift}
use Rattle.qtt_term.specs.View.{term}
use Rattle.qtt_term.proofs.Moves.{shift-add}
use Rattle.qtt_unify.specs.View.{solution}
use Rattle.qtt_split.specs.declared.sights.Seen.{the_lemmas}
use Rattle.qtt_split.specs.declared.sights.Seen.TheVariants as code
use Rattle.qtt_split.specs.Seen.{Seen}
use Rattle.qtt_split.specs.Sights.{seen_of, sights_of}
use Rattle.qtt_split.proofs.Branched.{split-seen, first-solved, past-all}
use Rattle.qtt_split.proofs.branching.Branching.under_fields.Goals as goal

pub returns-then-variable-self : goal.returns-then-variable-self
returns-then-variable-self c =
    let b = c.args.self.now in
    let v = c.in_ok-start_sights.field-0 in
    let view : seen_of (code.MadeOf b.con v) ≡ Seen.made_of b.con (sights_of v.items) = search (rules, the_lemmas) in
    view ∙ ap (Seen.made_of b.con) c.in_ok-start_sights.ensures ∙
    sym (split-seen b.variable b.con (map solution b.solved.now) b.fields c.args.variable c.if-variable-self.true)

pub returns-then-other-variable : goal.returns-then-other-variable
returns-then-other-variable c =
    let b = c.args.self.now in
    let x = c.loop-other-item.result in
    let t = c.in_ok-copy.field-0 in
    let view : seen_of (code.ByEquation t) ≡ Seen.by_equation (term t) = search (rules, the_lemmas) in
    let here : eqb c.args.variable x.0 ≡ true = eq-eqb _ _ (sym c.if-other-variable.true) in
    view ∙ ap Seen.by_equation c.in_ok-copy.ensures ∙
    sym (c.loop-other.invariant ∙
    first-solved b.solved.now c.loop-other.other-index x (λ i. Seen.open_at (shift b.fields i)) c.args.variable
    c.loop-other-test.true c.loop-other-item.is here)

pub returns : goal.returns
returns c =
    let b = c.args.self.now in
    let n = c.in_ok-sum.field-0 in
    let view : seen_of (code.OpenAt n) ≡ Seen.open_at n = search (rules, the_lemmas) in
    view ∙ ap Seen.open_at (c.in_ok-sum.ensures ∙ sym (shift-add b.fields c.args.variable)) ∙
    sym (c.loop-other.invariant ∙
    past-all b.solved.now c.loop-other.other-index (λ i. Seen.open_at (shift b.fields i)) c.args.variable
    c.loop-other-test.false)
