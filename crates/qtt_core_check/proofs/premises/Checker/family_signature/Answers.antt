use Rattle.std.proofs.Common.{◌≡◌, ◌≢◌, ◌++◌, ◌∙◌, Some, None, length, sym, ap, rules}
use Rattle.qtt_term.specs.Globals.{env}
use Rattle.qtt_term.specs.Signature.{index_binders}
use Rattle.qtt_term.specs.Judgement.{erase_binds}
use Rattle.qtt_term.specs.Items.{family}
use Rattle.qtt_term.specs.Telescopes.{tele}
use Rattle.qtt_term.specs.Term.{Sort}
use Rattle.qtt_core_check.proofs.Views.{sort-seen}
use Rattle.qtt_core_check.proofs.Families.{found-family, fam-missing, fam-uncounted, fam-counted}
use Rattle.qtt_core_check.proofs.premises.Checker.family_signature.Goals as goal

pub returns-in_default-clause-gives : goal.returns-in_default-clause-gives
returns-in_default-clause-gives g c =
    let e : (env c.args.self.now.globals.now).family c.args.id ≡ None = search rules in
    fam-missing (env c.args.self.now.globals.now) c.args.id c.args.count e

pub returns-then-len-count-clause-gives : goal.returns-then-len-count-clause-gives
returns-then-len-count-clause-gives g c =
    let F = family c.in-Some.family.now in
    let bs = c.in_ok-arguments.arguments.items in
    let e : (env c.args.self.now.globals.now).family c.args.id ≡ Some F = search rules in
    let s : tele bs ≡ erase_binds (F.params ++ index_binders 0 F.indices) = search rules in
    let d : length bs ≢ c.args.count = search rules in
    fam-uncounted (env c.args.self.now.globals.now) c.args.id F e bs s c.args.count d

pub returns-clause-gives : goal.returns-clause-gives
returns-clause-gives g c =
    let F = family c.in-Some.family.now in
    let bs = c.in_ok-arguments.arguments.items in
    let e : (env c.args.self.now.globals.now).family c.args.id ≡ Some F = search rules in
    let s : tele bs ≡ erase_binds (F.params ++ index_binders 0 F.indices) = search rules in
    let d : length bs ≡ c.args.count = search rules in
    fam-counted (env c.args.self.now.globals.now) c.args.id F e bs s c.args.count d

pub returns-clause-arguments : goal.returns-clause-arguments
returns-clause-arguments g c =
    let F = family c.in-Some.family.now in
    let e : (env c.args.self.now.globals.now).family c.args.id ≡ Some F = search rules in
    let s : tele c.in_ok-arguments.arguments.items ≡ erase_binds (F.params ++ index_binders 0 F.indices) =
    search rules in
    s ∙ ap (λ S. erase_binds (S.params ++ S.indices))
    (sym (found-family (env c.args.self.now.globals.now) c.args.id F e))

pub returns-clause-ty : goal.returns-clause-ty
returns-clause-ty g c =
    let F = family c.in-Some.family.now in
    let e : (env c.args.self.now.globals.now).family c.args.id ≡ Some F = search rules in
    sort-seen c.in-Some.family.now.level ∙ ap (λ S. Sort S.level)
    (sym (found-family (env c.args.self.now.globals.now) c.args.id F e))
