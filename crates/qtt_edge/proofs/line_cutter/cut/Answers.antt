use Rattle.std.proofs.Common.{◌≡◌, ◌∙◌, rules, refl, sym, subst, arith, take, true}
use Rattle.qtt_prims.specs.Lines.{line_of, is_line}
use Rattle.qtt_edge.proofs.LineLemmas.{short_front, is_utf8-no, is_line-yes}
use Rattle.qtt_edge.proofs.line_cutter.cut.Goals as goal

pub returns-in_default-clause-cuts : goal.returns-in_default-clause-cuts
returns-in_default-clause-cuts c = (
  short_front c.args.held.now.items c.args.len (omega arith),
  rw (← c.deref.ensures.value) (is_utf8-no _ c.in_default.ensures.cases.0),
  refl,
)

pub returns-clause-cuts : goal.returns-clause-cuts
returns-clause-cuts c = (
  rw (← c.deref.ensures.value)
      (is_line-yes _ (short_front c.deref.result.now c.args.len (omega arith)) c.in-Ok.ensures.cases.1),
  rw (← c.deref.ensures.value) (c.in-Ok-from_str.ensures ∙ c.in-Ok.ensures.cases.0),
  search rules,
)

pub returns-clause-line : goal.returns-clause-line
returns-clause-line c =
    let front = take c.args.len c.args.held.now.items in
    let same : c.in-Ok-from_str.text ≡ front =
    rw (← c.deref.ensures.value) (c.in-Ok-from_str.ensures ∙ c.in-Ok.ensures.cases.0) in
    let line : is_line front ≡ true =
    rw (← c.deref.ensures.value)
    (is_line-yes _ (short_front c.deref.result.now c.args.len (omega arith)) c.in-Ok.ensures.cases.1) in
    (subst (λ t. is_line t ≡ true) (sym same) line, subst (λ t. line_of t ≡ t) (sym same) c.requires.no_end)
