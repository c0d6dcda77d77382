use Rattle.std.proofs.Common.{◌≡◌, ◌∙◌, suc, ◌+◌, length, map, sym, ap, rules}
use Rattle.std.proofs.lemmas.List.{length-map}
use Rattle.qtt_syntax.specs.View.{con_of, param_of, tree_of}
use Rattle.qtt_term.specs.Ask.{within}
use Rattle.qtt_term.specs.Entries.{entries, env}
use Rattle.qtt_module.specs.Declaring.{family_declared}
use Rattle.qtt_module.specs.Module.{declare}
use Rattle.qtt_module.specs.Stages.{home, stage_of}
use Rattle.qtt_module.specs.Text.{standing}
use Rattle.qtt_module.proofs.Passing.{family-passes-as, family-stops-as, passes-on}
use Rattle.qtt_module.proofs.stage.Stage.family.Goals as goal

pub returns-in_err-add_family : goal.returns-in_err-add_family
returns-in_err-add_family g c =
    let S = stage_of c.args.self.now in
    let M = home c.args.judge.now in
    let n = c.args.judge.now.budget in
    let d = c.args.declared.now in
    let e = c.in_err-add_family.field-0.0 in
    passes-on M n (within (env S.globals) n (declare M S (family_declared d))) (standing M n S (family_declared d)) _
    c.from_residual-in_err-add_family.result e c.from_residual-in_err-add_family.ensures.1
    (family-stops-as M n S c.item-id.result c.item-id.ensures d.name (map param_of d.params.items) (tree_of d.ty)
    (map con_of d.constructors.items)
    (entries c.add_family.new.globals) e c.in_err-add_family.ensures.gives c.in_err-add_family.ensures.left)

pub returns : goal.returns
returns g c =
    let S = stage_of c.args.self.now in
    let d = c.args.declared.now in
    let cs = map con_of d.constructors.items in
    let H = entries c.add_family.new.globals in
    let count : c.len.result ≡ length d.constructors.items = search rules in
    let next : c.in_ok-next.next ≡ suc (length cs + S.next) =
    c.in_ok-next.ensures ∙ ap (λ k. suc (k + S.next)) (count ∙ sym (length-map d.constructors.items con_of)) in
    family-passes-as (home c.args.judge.now) c.args.judge.now.budget S c.item-id.result c.item-id.ensures d.name
    (map param_of d.params.items) (tree_of d.ty) cs H _ c.in_ok-add_family.ensures.gives
    (ap (λ k. record { globals = H; next = k; signed = S.signed; holes = S.holes }) next)
