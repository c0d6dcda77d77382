use Rattle.std.proofs.Common.{◌≡◌, ◌+◌, List, ◌∷◌, drop, map, refl, sym, ap, ◌∙◌, subst}
use Rattle.std.proofs.lemmas.List.{at_drop_more}
use mathlib.Core.Path.{ap₂}
use Rattle.qtt_term.specs.Entries.{Entries, entries}
use Rattle.qtt_module.specs.declared.checked.Checked.{Checked}
use Rattle.qtt_accepted.specs.Texts.{adopted}
use Rattle.qtt_build.specs.Built.{all_adopted}
use Rattle.qtt_module.specs.TextCalls.{accepted_of}
use Rattle.qtt_build.specs.Parts.{Follow}
use Rattle.qtt_build.proofs.Numbers.{follow-apart, follow-on}
use Rattle.qtt_build.proofs.adoption.adopt_all.Goals as goal

pub adopt-requires : goal.adopt-requires
adopt-requires c =
    let rank = c.args.rank.now in
    let at = c.loop-checked.checked-index in
    let one = c.checked-item.result in
    let rest = drop (at + 1) rank in
    let G = c.loop-checked.globals in
    let left : drop at rank ≡ one ∷ rest =
    at_drop_more (λ (cs : List Checked). cs) rank at one c.loop-checked-test.true
    ∙ ap (λ x. x ∷ rest) (sym c.checked-item.is) in
    follow-apart G (accepted_of one) one.part (map accepted_of rest) refl
    (subst (λ cs. Follow (entries G) (map accepted_of cs)) left c.loop-checked.invariant.follow)

pub loop-checked-preserved : goal.loop-checked-preserved
loop-checked-preserved c =
    let rank = c.args.rank.now in
    let at = c.loop-checked.checked-index in
    let one = c.checked-item.result in
    let rest = drop (at + 1) rank in
    let G = c.loop-checked.globals in
    let left : drop at rank ≡ one ∷ rest =
    at_drop_more (λ (cs : List Checked). cs) rank at one c.loop-checked-test.true
    ∙ ap (λ x. x ∷ rest) (sym c.checked-item.is) in
    let together : entries c.adopt.new.self ≡ adopted (entries G) (entries one.part) =
    ap₂ (λ fs ds. record { families = fs; definitions = ds }) c.in_ok-adopt.ensures.families
    c.in_ok-adopt.ensures.definitions in
    record {
      follow = subst (λ (H : Entries). Follow H (map accepted_of rest)) (sym together)
          (follow-on (entries G) (accepted_of one) (map accepted_of rest)
          (subst (λ cs. Follow (entries G) (map accepted_of cs)) left c.loop-checked.invariant.follow));
      same = ap (λ (H : Entries). all_adopted H (map accepted_of rest)) together
          ∙ ap (λ cs. all_adopted (entries G) (map accepted_of cs)) (sym left) ∙ c.loop-checked.invariant.same;
    }
