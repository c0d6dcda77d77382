use Rattle.std.proofs.lemmas.Result.{err_from_is_err_and}
use Rattle.std.proofs.Common.{Ok, Err}
use Rattle.qtt_build.specs.Answer.{of_load, of_module}
use Rattle.qtt_build.proofs.Meaning.{meant, complete}
use Rattle.qtt_build.proofs.Stopping.{not-loaded}
use Rattle.qtt_build.proofs.build.build_all.Goals as goal

pub returns-in_err-loaded-clause-builds : goal.returns-in_err-loaded-clause-builds
returns-in_err-loaded-clause-builds g c =
    let told = g.V.Vault.texts c.args.vault.now in
    let e = c.in_err-loaded.field-0.0 in
    let p = err_from_is_err_and c.from_residual.result c.from_residual.ensures.1 in
    rw (p.1, p.2) (not-loaded c.kinds_agree.ensures told c.args.root.now c.args.budget e c.in_err-loaded.ensures.loads)

pub returns-in_err-loaded-clause-meant : goal.returns-in_err-loaded-clause-meant
returns-in_err-loaded-clause-meant g c =
    let told = g.V.Vault.texts c.args.vault.now in
    let e = c.in_err-loaded.field-0.0 in
    let p = err_from_is_err_and c.from_residual.result c.from_residual.ensures.1 in
    rw (p.1, p.2) (meant c.build_laws.ensures told c.args.root.now c.args.budget (Err (of_load e))
    (not-loaded c.kinds_agree.ensures told c.args.root.now c.args.budget e c.in_err-loaded.ensures.loads))

pub returns-in_err-loaded-clause-complete : goal.returns-in_err-loaded-clause-complete
returns-in_err-loaded-clause-complete g c =
    let told = g.V.Vault.texts c.args.vault.now in
    let e = c.in_err-loaded.field-0.0 in
    let p = err_from_is_err_and c.from_residual.result c.from_residual.ensures.1 in
    rw (p.1, p.2) (complete c.build_laws.ensures told c.args.root.now c.args.budget (Err (of_load e))
    (not-loaded c.kinds_agree.ensures told c.args.root.now c.args.budget e c.in_err-loaded.ensures.loads))

pub returns-in_err-built-clause-builds : goal.returns-in_err-built-clause-builds
returns-in_err-built-clause-builds g c =
    let told = g.V.Vault.texts c.args.vault.now in
    let p = err_from_is_err_and c.from_residual-in_err-built.result c.from_residual-in_err-built.ensures.1 in
    rw (p.1, p.2) (c.in_err-built.ensures told c.in_ok-loaded.ensures.loads)

pub returns-in_err-built-clause-meant : goal.returns-in_err-built-clause-meant
returns-in_err-built-clause-meant g c =
    let told = g.V.Vault.texts c.args.vault.now in
    let e = c.in_err-built.field-0.0 in
    let p = err_from_is_err_and c.from_residual-in_err-built.result c.from_residual-in_err-built.ensures.1 in
    rw (p.1, p.2) (meant c.build_laws.ensures told c.args.root.now c.args.budget (Err (of_module e))
    (c.in_err-built.ensures told c.in_ok-loaded.ensures.loads))

pub returns-in_err-built-clause-complete : goal.returns-in_err-built-clause-complete
returns-in_err-built-clause-complete g c =
    let told = g.V.Vault.texts c.args.vault.now in
    let e = c.in_err-built.field-0.0 in
    let p = err_from_is_err_and c.from_residual-in_err-built.result c.from_residual-in_err-built.ensures.1 in
    rw (p.1, p.2) (complete c.build_laws.ensures told c.args.root.now c.args.budget (Err (of_module e))
    (c.in_err-built.ensures told c.in_ok-loaded.ensures.loads))

pub returns-clause-meant : goal.returns-clause-meant
returns-clause-meant g c =
    let told = g.V.Vault.texts c.args.vault.now in
    meant c.build_laws.ensures told c.args.root.now c.args.budget (Ok c.in_ok-built.field-0)
    (c.in_ok-built.ensures told c.in_ok-loaded.ensures.loads)

pub returns-clause-complete : goal.returns-clause-complete
returns-clause-complete g c =
    let told = g.V.Vault.texts c.args.vault.now in
    complete c.build_laws.ensures told c.args.root.now c.args.budget (Ok c.in_ok-built.field-0)
    (c.in_ok-built.ensures told c.in_ok-loaded.ensures.loads)
