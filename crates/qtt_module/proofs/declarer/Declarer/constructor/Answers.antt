use Rattle.std.proofs.Common.{◌≡◌, ◌-◌, length, refl, rules, ap}
use Rattle.qtt_syntax.specs.View.{tree_of}
use Rattle.qtt_term.specs.Entries.{entries}
use Rattle.qtt_bidi.proofs.Within.{passed}
use Rattle.qtt_module.proofs.Made.{fields-refused, results-refused, constructor-made}
use Rattle.qtt_module.proofs.declarer.Declarer.constructor.Goals as goal

pub returns-in_err-context : goal.returns-in_err-context
returns-in_err-context g c =
    let G = entries c.args.self.now.elaborator.globals.now in
    let n = c.args.self.now.elaborator.budget in
    let d = c.args.declared.now in
    let p = c.in_ok-params.ensures in
    let e = c.in_err-context.field-0.0 in
    passed _ _ _ _ c.from_residual-in_err-context.result e c.from_residual-in_err-context.ensures.1
    (fields-refused G n c.args.self.now.home.now c.args.head.now c.args.place d.name (tree_of d.ty) d.span
    c.in_ok-params.params p.scope p.len e c.in_err-context.ensures.gives)

pub returns-in_err-result : goal.returns-in_err-result
returns-in_err-result g c =
    let G = entries c.args.self.now.elaborator.globals.now in
    let n = c.args.self.now.elaborator.budget in
    let H = c.args.head.now in
    let d = c.args.declared.now in
    let p = c.in_ok-params.ensures in
    let Γ = c.in_ok-context.context in
    let j : c.len-count.result ≡ length H.params.vars.items = search rules in
    let v : c.len.result ≡ length Γ.vars.items = search rules in
    let e = c.in_err-result.field-0.0 in
    passed _ _ _ _ c.from_residual-in_err-result.result e c.from_residual-in_err-result.ensures.1
    (results-refused G n c.args.self.now.home.now H c.args.place d.name (tree_of d.ty) d.span
    c.in_ok-params.params p.scope p.len Γ c.in_ok-context.ensures.gives _ _ j (ap (λ m. m - c.len-count.result) v) _
    c.end_of.ensures e
    c.in_err-result.ensures)

pub returns : goal.returns
returns g c =
    let G = entries c.args.self.now.elaborator.globals.now in
    let n = c.args.self.now.elaborator.budget in
    let H = c.args.head.now in
    let d = c.args.declared.now in
    let p = c.in_ok-params.ensures in
    let Γ = c.in_ok-context.context in
    let j : c.len-count.result ≡ length H.params.vars.items = search rules in
    let v : c.len.result ≡ length Γ.vars.items = search rules in
    constructor-made G n c.args.self.now.home.now H c.args.place d.name (tree_of d.ty) d.span
    c.in_ok-params.params p.scope p.len Γ c.in_ok-context.ensures.gives _ _ j (ap (λ m. m - c.len-count.result) v) _
    c.end_of.ensures _
    (record {
      id = c.in_ok-item_behind.field-0;
      name = c.in_ok-qualified.field-0;
      fields = c.in_ok-split_off.field-0;
      labels = c.in_ok-labels.field-0;
      result = c.in_ok-result.result;
    })
    c.in_ok-result.ensures c.in_ok-item_behind.ensures c.in_ok-qualified.ensures c.in_ok-labels.ensures
    c.in_ok-split_off.ensures.tail refl
