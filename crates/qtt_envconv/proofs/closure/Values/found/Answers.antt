-- What a variable stands for, value by value.
use Rattle.std.proofs.Common.{◌≡◌, ◌∙◌, refl, ap, sym, arith}
use Rattle.std.proofs.lemmas.Grind.{common_steps}
use Rattle.qtt_term.specs.declared.term.Term.{the_lemmas}
use Rattle.qtt_term.specs.Term.{var}
use Rattle.qtt_term.specs.Substitution.{ren, sub, shift}
use Rattle.qtt_term.specs.View.{term}
use Rattle.qtt_term.proofs.Binders.{var-seen}
use Rattle.qtt_envconv.specs.Closures.{values, referent}
use Rattle.qtt_envconv.proofs.Closures.{shift-none, shift-shift, shift-suc, shift-var, lift-newest, lift-older, cons-newest, cons-older}
use Rattle.qtt_envconv.proofs.closure.Values.found.Goals as goal

pub loop-values-init : goal.loop-values-init
loop-values-init c = shift-none 0 (values c.args.self.now c.args.index) refl

pub returns-in-Own-clause-means : goal.returns-in-Own-clause-means
returns-in-Own-clause-means c =
    let d = c.loop-values.depth in
    let i = c.loop-values.index in
    shift-var d i c.in_ok-deeper-in-Own.field-0 c.in_ok-deeper-in-Own.ensures
    ∙ sym (ap (λ v. ren (shift d) (values v i)) c.in-Own.is) ∙ c.loop-values.invariant

pub loop-values-preserved-in-Moved : goal.loop-values-preserved-in-Moved
loop-values-preserved-in-Moved c =
    let d = c.loop-values.depth in
    let i = c.loop-values.index in
    sym (shift-shift d c.in-Moved.by c.in_ok-depth-in-Moved.depth (values c.in-Moved.older.now i)
    c.in_ok-depth-in-Moved.ensures)
    ∙ sym (ap (λ v. ren (shift d) (values v i)) c.in-Moved.is) ∙ c.loop-values.invariant

pub returns-in-None-clause-means : goal.returns-in-None-clause-means
returns-in-None-clause-means c =
    let d = c.loop-values.depth in
    let i = c.loop-values.index in
    shift-var d 0 d (omega arith)
    ∙ ap (ren (shift d)) (sym (lift-newest (values c.in-Under.older.now) i (omega arith)))
    ∙ sym (ap (λ v. ren (shift d) (values v i)) c.in-Under.is) ∙ c.loop-values.invariant

pub loop-values-preserved-in-Some : goal.loop-values-preserved-in-Some
loop-values-preserved-in-Some c =
    let d = c.loop-values.depth in
    let i = c.loop-values.index in
    let j = c.in-Some.older_index in
    let older = values c.in-Under.older.now in
    sym (shift-suc d c.in_ok-depth-in-Some.depth (older j) c.in_ok-depth-in-Some.ensures)
    ∙ ap (ren (shift d)) (sym (lift-older older i j (omega arith)))
    ∙ sym (ap (λ v. ren (shift d) (values v i)) c.in-Under.is) ∙ c.loop-values.invariant

pub loop-values-preserved-in-Some-checked_sub : goal.loop-values-preserved-in-Some-checked_sub
loop-values-preserved-in-Some-checked_sub c =
    let d = c.loop-values.depth in
    let i = c.loop-values.index in
    let j = c.in-Some-checked_sub.older_index in
    let older = values c.in-Bound.older.now in
    ap (ren (shift d)) (sym (cons-older (referent c.in-Bound.newest) older i j (omega arith)))
    ∙ sym (ap (λ v. ren (shift d) (values v i)) c.in-Bound.is) ∙ c.loop-values.invariant

pub returns-in-Variable-clause-means : goal.returns-in-Variable-clause-means
returns-in-Variable-clause-means c =
    let d = c.loop-values.depth in
    let i = c.loop-values.index in
    let older = values c.in-Bound.older.now in
    shift-var d c.in-Variable.i c.in_ok-deeper-in-Variable.field-0 c.in_ok-deeper-in-Variable.ensures
    ∙ ap (ren (shift d)) (sym (ap referent c.in-Variable.is))
    ∙ ap (ren (shift d)) (sym (cons-newest (referent c.in-Bound.newest) older i (omega arith)))
    ∙ sym (ap (λ v. ren (shift d) (values v i)) c.in-Bound.is) ∙ c.loop-values.invariant

pub loop-values-preserved : goal.loop-values-preserved
loop-values-preserved c =
    let d = c.loop-values.depth in
    let i = c.loop-values.index in
    let older = values c.in-Bound.older.now in
    let inner = values c.in-Closure.closure.values.now in
    let seen : term c.in-Closure.closure.code.now ≡ var c.in-Var.i = ap term c.in-Var.is ∙ var-seen c.in-Var.i in
    ap (λ t. ren (shift d) (sub inner t)) (sym seen)
    ∙ ap (ren (shift d)) (sym (ap referent c.in-Closure.is))
    ∙ ap (ren (shift d)) (sym (cons-newest (referent c.in-Bound.newest) older i (omega arith)))
    ∙ sym (ap (λ v. ren (shift d) (values v i)) c.in-Bound.is) ∙ c.loop-values.invariant

pub returns-in_default : goal.returns-in_default
returns-in_default c =
    let d = c.loop-values.depth in
    let i = c.loop-values.index in
    let older = values c.in-Bound.older.now in
    let t = term c.in-Closure.closure.code.now in
    record {
      means = c.in_ok-values-in_default.ensures t
          ∙ ap (ren (shift d)) (sym (ap referent c.in-Closure.is))
          ∙ ap (ren (shift d)) (sym (cons-newest (referent c.in-Bound.newest) older i (omega arith)))
          ∙ sym (ap (λ v. ren (shift d) (values v i)) c.in-Bound.is) ∙ c.loop-values.invariant;
      found = grind (arith, common_steps, the_lemmas);
    }
