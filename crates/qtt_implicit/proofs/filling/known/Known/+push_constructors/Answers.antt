-- The constructors in turn are own items.
use Rattle.std.proofs.Common.{◌∙◌, ap, sym, [], ◌∷◌, map}
use Rattle.std.proofs.lemmas.Result.{on_ok_weaker}
use Rattle.qtt_names.specs.Exports.{Sig}
use Rattle.qtt_implicit.specs.Filled.{own_con, with_own}
use Rattle.qtt_implicit.specs.Items.{con_row, param_row}
use Rattle.qtt_implicit.specs.KnownItems.{known_of}
use Rattle.qtt_implicit.specs.Signatures.{signature_of}
use Rattle.qtt_implicit.specs.declared.filling.signatures.ConRow.{ConRow}
use Rattle.qtt_implicit.proofs.Growth.{all_added, none_added}
use Rattle.qtt_implicit.proofs.filling.known.Known.+push_constructors.Goals as goal

pub returns-in-End : goal.returns-in-End
returns-in-End t c =
    let K = known_of c.args.self.now in
    let PS = param_row c.args.params.now in
    none_added K ∙ ap (λ (r : ConRow). with_own (map (own_con PS) (con_row r)) K) (sym c.in-End.is)

pub returns-in_ok-push-in-More : goal.returns-in_ok-push-in-More
returns-in_ok-push-in-More t c =
    let K = known_of c.args.self.now in
    let PS = param_row c.args.params.now in
    let n = c.in-More.source.now.name in
    let more = map (own_con PS) (con_row c.in-More.others.now) in
    let sig = signature_of c.in_ok-constructor_sig-in-More.field-0 in
    let pushed = c.in_ok-push-in-More.ensures
    ∙ ap (λ (S : Sig). with_own ((n, S) ∷ []) K) c.in_ok-constructor_sig-in-More.ensures in
    on_ok_weaker c.push_constructors.result (λ e. e
    ∙ ap (with_own more) pushed ∙ all_added _ more K
    ∙ ap (λ (r : ConRow). with_own (map (own_con PS) (con_row r)) K) (sym c.in-More.is)) c.push_constructors.ensures
