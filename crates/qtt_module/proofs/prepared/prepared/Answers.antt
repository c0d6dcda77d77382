use Rattle.std.proofs.Common.{Ok, Err, List, map, ap}
use Rattle.qtt_base.specs.declared.place.ModuleId.{ModuleId}
use Rattle.qtt_syntax.specs.Tree.{Module}
use Rattle.qtt_syntax.specs.View.{module_of}
use Rattle.qtt_names.specs.Exports.{Exports, exports_of}
use Rattle.qtt_names.specs.Scope.{module_name}
use Rattle.qtt_implicit.specs.Answering.{filled_text_of}
use Rattle.qtt_implicit.specs.Filled.{FilledText, filled}
use Rattle.qtt_module.specs.Prepared.{filled_in, has_name, named}
use Rattle.qtt_module.specs.Refused.{Answer, ◌>>=◌}
use Rattle.qtt_module.proofs.Preparing.{first-refused, then-gives}
use Rattle.qtt_module.proofs.prepared.prepared.Goals as goal

-- behind the header's name, and behind the names
abbrev behind_names : ModuleId → List Exports → Module → Module → Answer FilledText
behind_names id imports m t = filled_in (module_name m) (filled id imports t)

abbrev behind_header : ModuleId → List Exports → Module → Unit {0} → Answer FilledText
behind_header id imports m u = named id imports m >>= behind_names id imports m

pub returns-in_err-has_name : goal.returns-in_err-has_name
returns-in_err-has_name c =
    let m = module_of c.args.text.now in
    let imports = map exports_of c.args.imports.now in
    first-refused (λ u. u) filled_text_of (has_name c.args.asked.now m) (behind_header c.args.«module» imports m)
    c.from_residual.result c.in_err-has_name.field-0.0 c.from_residual.ensures.1 c.in_err-has_name.ensures

pub returns-in_err-named : goal.returns-in_err-named
returns-in_err-named c =
    let m = module_of c.args.text.now in
    let imports = map exports_of c.args.imports.now in
    let r = c.from_residual-in_err-named.result in
    then-gives (λ u. u) filled_text_of (has_name c.args.asked.now m) (behind_header c.args.«module» imports m)
    c.in_ok-has_name.field-0 r c.in_ok-has_name.ensures
    (first-refused module_of filled_text_of (named c.args.«module» imports m)
    (behind_names c.args.«module» imports m) r c.in_err-named.field-0.0 c.from_residual-in_err-named.ensures.1
    c.in_err-named.ensures)

pub returns-in-Ok : goal.returns-in-Ok
returns-in-Ok c =
    let m = module_of c.args.text.now in
    let imports = map exports_of c.args.imports.now in
    then-gives (λ u. u) filled_text_of (has_name c.args.asked.now m) (behind_header c.args.«module» imports m)
    c.in_ok-has_name.field-0 (Ok c.in-Ok.filled) c.in_ok-has_name.ensures
    (then-gives module_of filled_text_of (named c.args.«module» imports m) (behind_names c.args.«module» imports m)
    c.in_ok-named.named (Ok c.in-Ok.filled) c.in_ok-named.ensures
    (ap (filled_in (module_name m)) c.in-Ok.ensures.gives))

pub returns : goal.returns
returns c =
    let m = module_of c.args.text.now in
    let imports = map exports_of c.args.imports.now in
    let r = Err c.not_filled.result in
    then-gives (λ u. u) filled_text_of (has_name c.args.asked.now m) (behind_header c.args.«module» imports m)
    c.in_ok-has_name.field-0 r c.in_ok-has_name.ensures
    (then-gives module_of filled_text_of (named c.args.«module» imports m) (behind_names c.args.«module» imports m)
    c.in_ok-named.named r c.in_ok-named.ensures
    (c.not_filled.ensures (filled c.args.«module» imports (module_of c.in_ok-named.named)) c.in-Err.ensures.gives))
