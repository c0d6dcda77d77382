use Rattle.std.proofs.Common.{◌≡◌, ◌≢◌, Bool, sym, subst, ◌∙◌, rules, arith}
use Rattle.qtt_layout.specs.Rules.{laid, by_column}
use Rattle.qtt_layout.specs.Between.{state_of, Lays}
use Rattle.qtt_layout.specs.declared.role.Role.TheVariants as role
use Rattle.qtt_layout.proofs.Laying.{laid_more, laid_bad, laid_end, laid_out}
use Rattle.qtt_layout.proofs.layout.marks_of.Goals as goal

pub returns-then-eq : goal.returns-then-eq
unfolding laid
returns-then-eq c =
    let is : c.role_of-role.result ≡ role.End = search rules in
    rw c.in_ok-into_laid.ensures
    (sym c.loop-token.invariant.same
    ∙ laid_end c.args.tokens.now c.loop-token.token-index c.token-item.result c.loop-token-test.true
    c.token-item.is c.role_of-role.result (state_of c.loop-token.between) c.loop-token.marks
    c.finish.new.marks c.role_of-role.ensures is c.in_ok-finish.ensures)

pub returns-then-not-branch : goal.returns-then-not-branch
unfolding laid
returns-then-not-branch c =
    let is : c.role_of-role.result ≢ role.End = search rules in
    let s = state_of c.loop-token.between in
    let found = subst (λ (b : Bool). Lays c.role_of-role.result s c.token-item.result
    (by_column s c.token-item.result) c.loop-token.marks c.lay.new.marks (state_of c.lay.new.self) b)
    c.if-not-branch.true c.in_ok-lay.ensures.value in
    rw c.bad_indent.ensures
    (sym c.loop-token.invariant.same
    ∙ laid_bad c.args.tokens.now c.loop-token.token-index c.token-item.result c.loop-token-test.true
    c.token-item.is c.role_of-role.result s c.loop-token.marks c.lay.new.marks
    (state_of c.lay.new.self) c.role_of-role.ensures is found)

pub loop-token-preserved : goal.loop-token-preserved
loop-token-preserved c =
    let is : c.role_of-role.result ≢ role.End = search rules in
    let s = state_of c.loop-token.between in
    let found = subst (λ (b : Bool). Lays c.role_of-role.result s c.token-item.result
    (by_column s c.token-item.result) c.loop-token.marks c.lay.new.marks (state_of c.lay.new.self) b)
    c.if-not-branch.false c.in_ok-lay.ensures.value in
    record {
      brackets = omega (arith, c.in_ok-lay.ensures.brackets c.if-not-branch.false, c.loop-token.invariant.brackets);
      same = laid_more c.args.tokens.now c.loop-token.token-index c.token-item.result c.loop-token-test.true
          c.token-item.is c.role_of-role.result s c.loop-token.marks c.lay.new.marks
          (state_of c.lay.new.self) c.role_of-role.ensures is found
          ∙ c.loop-token.invariant.same;
    }

pub returns : goal.returns
unfolding laid
returns c =
    rw c.in_ok-into_laid-2.ensures
    (sym c.loop-token.invariant.same
    ∙ laid_out c.args.tokens.now c.loop-token.token-index (state_of c.loop-token.between) c.loop-token.marks
    c.loop-token-test.false)
