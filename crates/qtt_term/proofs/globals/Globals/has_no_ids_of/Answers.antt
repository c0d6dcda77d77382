use Rattle.std.proofs.Common.{map, not, eqb, ap, ◌∙◌}
use Rattle.std.specs.List.{list_all}
use Rattle.qtt_term.specs.Term.{same_id}
use Rattle.qtt_term.specs.Keyed.{ids_differ}
use Rattle.qtt_term.specs.Globals.{is_absent}
use Rattle.qtt_term.proofs.Tests.{is_new}
use Rattle.qtt_term.proofs.globals.Globals.has_no_ids_of.Goals as goal

pub returns : goal.returns
returns c =
    let g = c.args.self.now in
    let F = c.args.family.now in
    is_new g F c.is_apart-apart.result c.are_different-differ.result c.are_of-of_module.result
    c.is_absent-absent.result c.are_absent-all_absent.result
    (c.is_apart-apart.ensures ∙ ap (list_all (λ d. not (same_id F.id d.id))) c.deref.ensures.value)
    (c.are_different-differ.ensures ∙ ap (λ ds. ids_differ (map (λ d. d.id) ds)) c.deref-2.ensures.value)
    (c.are_of-of_module.ensures ∙ ap (list_all (λ d. eqb d.id.module.0 F.id.module.0)) c.deref-3.ensures.value)
    c.is_absent-absent.ensures
    (c.are_absent-all_absent.ensures ∙ ap (list_all (λ d. is_absent g d.id)) c.deref-4.ensures.value)
