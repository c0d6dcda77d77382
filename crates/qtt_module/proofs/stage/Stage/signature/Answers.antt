use Rattle.std.proofs.Common.{◌≡◌, ◌∙◌, [], ◌∷◌, ◌++◌, map, false, ap, arith, rules}
use Rattle.std.proofs.lemmas.List.{map-append}
use Rattle.qtt_syntax.specs.View.{tree_of}
use Rattle.qtt_term.specs.Ask.{within}
use Rattle.qtt_term.specs.Entries.{entries, env}
use Rattle.qtt_term.specs.Scope.{name_of}
use Rattle.qtt_module.specs.declared.signed.Signed as code_signed
use Rattle.qtt_module.specs.Declaring.{signature_declared}
use Rattle.qtt_module.specs.GivenBodies.{signed_of}
use Rattle.qtt_module.specs.Module.{declare}
use Rattle.qtt_module.specs.Stages.{home, stage_of}
use Rattle.qtt_module.proofs.Passing.{signature-passes-as, signature-stops-as, passes-on}
use Rattle.qtt_module.proofs.stage.Stage.signature.Goals as goal

pub returns-in_err-add_signature : goal.returns-in_err-add_signature
returns-in_err-add_signature g c =
    let S = stage_of c.args.self.now in
    let M = home c.args.judge.now in
    let n = c.args.judge.now.budget in
    let d = c.args.declared.now in
    let e = c.in_err-add_signature.field-0.0 in
    passes-on M n (within (env S.globals) n (declare M S (signature_declared d))) S.globals _
    c.from_residual-in_err-add_signature.result e c.from_residual-in_err-add_signature.ensures.1
    (signature-stops-as M n S c.item-id.result c.item-id.ensures d.partial d.mult d.name d.name_span (tree_of d.ty)
    (entries c.add_signature.new.globals) e
    c.in_err-add_signature.ensures.gives c.in_err-add_signature.ensures.err)

pub returns : goal.returns
returns g c =
    let S = stage_of c.args.self.now in
    let d = c.args.declared.now in
    let ls = c.in_ok-labels.field-0 in
    let x : code_signed.Signed = record {
      id = c.item-id.result;
      name = c.in_ok-copy.field-0;
      place = d.name_span;
      labels = ls;
      may_miss = d.partial;
      has_clauses = false;
    } in
    let now : c.push.new.self.items ≡ c.args.self.now.signed.items ++ x ∷ [] = search rules in
    signature-passes-as (home c.args.judge.now) c.args.judge.now.budget S c.item-id.result c.item-id.ensures d.partial
    d.mult d.name d.name_span (tree_of d.ty) (entries c.add_signature.new.globals) c.in_ok-copy.field-0
    (map name_of ls.items) c.in_ok-next.next (map signed_of c.push.new.self.items)
    c.in_ok-add_signature.ensures.gives c.in_ok-copy.ensures (ap (map name_of) c.in_ok-labels.ensures)
    (omega (arith, c.in_ok-next.ensures))
    (ap (map signed_of) now ∙ map-append signed_of c.args.self.now.signed.items (x ∷ []))
