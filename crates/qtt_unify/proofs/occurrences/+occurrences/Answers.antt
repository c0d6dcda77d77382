use Rattle.std.proofs.Common.{◌≡◌, ◌+◌, rules, ap, sym, ◌∙◌}
use Rattle.qtt_term.specs.declared.term.Term.{the_lemmas}
use Rattle.qtt_term.specs.Reading.{occurrences as occurrences_of}
use Rattle.qtt_term.specs.Term.{Delete}
use Rattle.qtt_term.specs.View.{term, delete}
use Rattle.qtt_unify.specs.Frequency.{how_often, both}
use Rattle.qtt_unify.proofs.Counted.{delete-counted}
use Rattle.qtt_unify.proofs.occurrences.+occurrences.Goals as goal

pub occurrences_in_delete-returns : goal.occurrences_in_delete-returns
occurrences_in_delete-returns t c =
    let x = c.args.source.now in
    let i = c.args.variable in
    let form : delete x ≡ Delete x.mult (term x.ty) (term x.point) (term x.motive) (term x.branch) (term x.scrutinee) =
    search (rules, the_lemmas) in
    let ty : c.in_ok-ty.ty ≡ how_often (occurrences_of i (term x.ty)) = c.in_ok-ty.ensures in
    let point : c.in_ok-point.point ≡ how_often (occurrences_of i (term x.point)) = c.in_ok-point.ensures in
    let under : c.in_ok-under.field-0 ≡ 1 + i = c.in_ok-under.ensures in
    let inside : c.in_ok-motive.motive ≡ how_often (occurrences_of c.in_ok-under.field-0 (term x.motive)) =
    c.in_ok-motive.ensures in
    let motive : c.in_ok-motive.motive ≡ how_often (occurrences_of (1 + i) (term x.motive)) =
    inside ∙ ap (λ j. how_often (occurrences_of j (term x.motive))) under in
    let branch : c.in_ok-branch.branch ≡ how_often (occurrences_of i (term x.branch)) = c.in_ok-branch.ensures in
    let scrutinee : c.in_ok-scrutinee.scrutinee ≡ how_often (occurrences_of i (term x.scrutinee)) =
    c.in_ok-scrutinee.ensures in
    let first : c.and.result ≡ both c.in_ok-ty.ty c.in_ok-point.point = c.and.ensures in
    let second : c.and-2.result ≡ both c.and.result c.in_ok-motive.motive = c.and-2.ensures in
    let third : c.and-3.result ≡ both c.and-2.result c.in_ok-branch.branch = c.and-3.ensures in
    let fourth : c.and-4.result ≡ both c.and-3.result c.in_ok-scrutinee.scrutinee = c.and-4.ensures in
    let total : c.and-4.result ≡ both (both (both (both (how_often (occurrences_of i (term x.ty)))
    (how_often (occurrences_of i (term x.point)))) (how_often (occurrences_of (1 + i) (term x.motive))))
    (how_often (occurrences_of i (term x.branch)))) (how_often (occurrences_of i (term x.scrutinee))) = cc in
    total ∙ sym (delete-counted i x.mult (term x.ty) (term x.point) (term x.motive) (term x.branch) (term x.scrutinee))
    ∙
    ap (λ u. how_often (occurrences_of i u)) (sym form)
