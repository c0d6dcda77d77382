use Rattle.std.proofs.Common.{◌≡◌, IfOk, List, subst}
use Rattle.qtt_term.specs.Items.{FamilyEntry, DefinitionEntry}
use Rattle.qtt_term.specs.Globals.{families, definitions}
use Rattle.qtt_term.proofs.Order.{filter_all}
use Rattle.qtt_term.proofs.globals.Globals.copy.Goals as goal

pub returns-clause-families : goal.returns-clause-families
returns-clause-families c =
    let P : List FamilyEntry → Type 0 = λ Fs. IfOk c.copied.result (λ g. families g ≡ Fs) in
    subst P (filter_all (families c.args.self.now)) c.copied.ensures.families

pub returns-clause-definitions : goal.returns-clause-definitions
returns-clause-definitions c =
    let P : List DefinitionEntry → Type 0 = λ ds. IfOk c.copied.result (λ g. definitions g ≡ ds) in
    subst P (filter_all (definitions c.args.self.now)) c.copied.ensures.definitions
