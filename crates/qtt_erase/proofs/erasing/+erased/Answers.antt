use Rattle.std.proofs.Common.{arith, ◌+◌, length}
use Rattle.qtt_term.specs.Globals.{env}
use Rattle.qtt_term.specs.View.{action, terms, branches, term, side_by_side}
use Rattle.qtt_term.specs.declared.term.Case.{out-Case}
use Rattle.qtt_erase.specs.Scopes.{slots}
use Rattle.qtt_erase.proofs.Components.{erasures, fam_left, con_left, act_left, case_left}
use Rattle.qtt_erase.proofs.erasing.+erased.Goals as goal

pub erased-returns-in-Fam : goal.erased-returns-in-Fam
erased-returns-in-Fam n c =
    grind (
      arith,
      erasures,
      fam_left (env c.args.env.now) (slots c.args.scope.now) c.in-Fam.field-0
          (side_by_side (terms c.in-Fam.field-1.items)),
      c.in-Fam.is,
    )

pub erased-returns-in_ok-fields-in-Con : goal.erased-returns-in_ok-fields-in-Con
erased-returns-in_ok-fields-in-Con n c =
    let e = con_left (env c.args.env.now) (slots c.args.scope.now) c.in-Con.con.family c.in-Con.con.place
    (terms c.in-Con.field-1.items) (terms c.in-Con.fields.items) in
    grind (arith, erasures, e, c.in_ok-fields-in-Con.ensures, c.in_ok-mults-in-Con.ensures, c.in-Con.is)

pub erased-returns-in_ok-kept-in-Act-2 : goal.erased-returns-in_ok-kept-in-Act-2
erased-returns-in_ok-kept-in-Act-2 n c =
    let ts = terms c.in-Act.types.items in let us = terms c.in-Act.args.items in
    let e = act_left (env c.args.env.now) (slots c.args.scope.now) (action c.in-Act.kind) (length ts) ts us in
    grind (
      arith,
      erasures,
      e,
      c.in_ok-mults-in-Act.ensures,
      c.in_ok-kept-in-Act.ensures,
      c.in_ok-kept-in-Act-2.ensures,
      c.in-Act.is,
    )

pub erased_case-returns : goal.erased_case-returns
erased_case-returns n c =
    let e = case_left (env c.args.env.now) (slots c.args.scope.now) (out-Case c.args.source.now).mult
    (out-Case c.args.source.now).family (terms (out-Case c.args.source.now).params.items)
    ((out-Case c.args.source.now).indices + 1) (term (out-Case c.args.source.now).motive)
    (branches (out-Case c.args.source.now).branches.items) (term (out-Case c.args.source.now).scrutinee) in
    grind (
      arith,
      erasures,
      e,
      c.in_ok-branches.ensures,
      c.in_ok-erased.ensures,
      c.in_ok-scrutinee.ensures.value_returned,
    )
