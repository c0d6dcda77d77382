use Rattle.std.proofs.Common.{◌≡◌, length, map, rules, sym, ap, ◌∙◌}
use Rattle.qtt_syntax.specs.View.{param_of, tree_of}
use Rattle.qtt_term.specs.Entries.{entries}
use Rattle.qtt_bidi.proofs.Within.{passed}
use Rattle.qtt_module.proofs.Headed.{params-refused, level-refused, indices-refused, head-given, scope-back, names-back, opened-back}
use Rattle.qtt_module.proofs.declarer.Declarer.family_head.Goals as goal

pub returns-in_err-params : goal.returns-in_err-params
returns-in_err-params g c =
    let G = entries c.args.self.now.elaborator.globals.now in
    let n = c.args.self.now.elaborator.budget in
    let ps = map param_of c.args.params.now in
    let t = tree_of c.args.ty.now in
    let e = c.in_err-params.field-0.0 in
    passed _ _ _ _ c.from_residual.result e c.from_residual.ensures.1
    (params-refused G n c.args.id c.args.self.now.home.now c.args.name.now ps t c.no_context.result
    c.no_context.ensures.scope e c.in_err-params.ensures.gives)

pub returns-in_err-level : goal.returns-in_err-level
returns-in_err-level g c =
    let G = entries c.args.self.now.elaborator.globals.now in
    let n = c.args.self.now.elaborator.budget in
    let ps = map param_of c.args.params.now in
    let t = tree_of c.args.ty.now in
    let N = c.no_context.ensures in
    let P = c.in_ok-params.params in
    let B = c.in_ok-behind.behind in
    let e = c.in_err-level.field-0.0 in
    passed _ _ _ _ c.from_residual-in_err-level.result e c.from_residual-in_err-level.ensures.1
    (level-refused G n c.args.id c.args.self.now.home.now c.args.name.now ps t c.no_context.result N.scope P B N.none
    c.in_ok-params.ensures.gives c.in_ok-behind.ensures.scope _ c.end_of.ensures e c.in_err-level.ensures)

pub returns-in_err-types : goal.returns-in_err-types
returns-in_err-types g c =
    let G = entries c.args.self.now.elaborator.globals.now in
    let n = c.args.self.now.elaborator.budget in
    let ps = map param_of c.args.params.now in
    let t = tree_of c.args.ty.now in
    let N = c.no_context.ensures in
    let P = c.in_ok-params.params in
    let B = c.in_ok-behind.behind in
    let C = c.with_first_names.result in
    let count : c.len-count.result ≡ length P.names.items = search rules in
    let back = scope-back P B C c.len-count.result count c.in_ok-behind.ensures.vars c.in_ok-behind.ensures.names
    c.with_first_names.ensures.vars c.with_first_names.ensures.names in
    let e = c.in_err-types.field-0.0 in
    passed _ _ _ _ c.from_residual-in_err-types.result e c.from_residual-in_err-types.ensures.1
    (indices-refused G n c.args.id c.args.self.now.home.now c.args.name.now ps t c.no_context.result N.scope P B
    N.none c.in_ok-params.ensures.gives c.in_ok-behind.ensures.scope _ c.end_of.ensures c.in_ok-level.level
    c.in_ok-level.ensures C back e c.in_err-types.ensures.gives)

pub returns : goal.returns
returns g c =
    let G = entries c.args.self.now.elaborator.globals.now in
    let n = c.args.self.now.elaborator.budget in
    let ps = map param_of c.args.params.now in
    let t = tree_of c.args.ty.now in
    let N = c.no_context.ensures in
    let P = c.in_ok-params.params in
    let B = c.in_ok-behind.behind in
    let C = c.with_first_names.result in
    let K = c.in_ok-types.field-0.context in
    let Q = c.with_first_names-2.result in
    let i = c.in_ok-types.ensures in
    let w = c.with_first_names.ensures in
    let b = c.in_ok-behind.ensures in
    let count : c.len-count.result ≡ length P.names.items = search rules in
    let back = scope-back P B C c.len-count.result count b.vars b.names w.vars w.names in
    let same = names-back P B C c.len-count.result count b.vars b.names w.vars w.names in
    let again = scope-back C K Q c.len-count.result (count ∙ sym (ap length same)) i.vars i.names
    c.with_first_names-2.ensures.vars c.with_first_names-2.ensures.names in
    head-given G n c.args.id c.args.self.now.home.now c.args.name.now ps t c.no_context.result N.scope P B N.none
    c.in_ok-params.ensures.gives b.scope _ c.end_of.ensures c.in_ok-level.level c.in_ok-level.ensures C back
    c.new.result.items c.in_ok-types.field-0.types.items c.new.ensures.items i.gives Q
    (opened-back P Q (c.with_first_names-2.ensures.vars ∙ i.vars ∙ w.vars ∙ b.vars) (again ∙ back)) c.in_ok-copy.field-0
    c.in_ok-copy.ensures
