use Rattle.std.proofs.Common.{map, refl, subst, sym}
use Rattle.qtt_syntax.specs.View.{con_of}
use Rattle.qtt_term.specs.Items.{family}
use Rattle.qtt_bidi.specs.Answers.{Reaches, Gives}
use Rattle.qtt_bidi.proofs.Within.{on_done}
use Rattle.qtt_positive.proofs.Decided.{none_bad}
use Rattle.qtt_module.specs.Families as families
use Rattle.qtt_module.proofs.families.all_good.Goals as goal

pub returns-in-Ok : goal.returns-in-Ok
returns-in-Ok c =
    let F = c.args.family.now in
    let cs = map con_of c.args.declared.now in
    λ E n. subst (λ o. Reaches E n (families.none_bad cs o) tt)
    (sym ((none_bad F.id (family F)).1 (c.in-Ok.ensures.ok.0 refl))) on_done

pub returns-in-Err : goal.returns-in-Err
returns-in-Err c =
    let cs = map con_of c.args.declared.now in
    λ E n. subst (λ o. Gives E n (families.none_bad cs o) (λ u. u) c.refused_bad.result) (sym c.in-Err.ensures.first)
    (c.refused_bad.ensures E n)
