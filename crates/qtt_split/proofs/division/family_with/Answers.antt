use Rattle.std.proofs.Common.{◌≡◌, ◌∙◌, length, min, take, drop, rules, ap}
use Rattle.std.proofs.lemmas.List.{take_min, drop_min}
use mathlib.Core.Path.{ap₂}
use Rattle.qtt_term.specs.Forms.{front}
use Rattle.qtt_term.specs.Term.{Terms, skip}
use Rattle.qtt_term.specs.View.{terms, side_by_side}
use Rattle.qtt_unify.specs.View.{all_terms}
use Rattle.qtt_split.specs.Split.{FamilyAt}
use Rattle.qtt_split.proofs.Divided.{front-taken, skip-dropped}
use Rattle.qtt_split.proofs.division.family_with.Goals as goal

pub returns : goal.returns
returns c =
    let ts = c.args.arguments.now in
    let k = c.args.count in
    let m = c.min.result in
    let ps = c.in_ok-copy_all.field-0.items in
    let is = c.in_ok-copy_all-2.field-0.items in
    let least : m ≡ min k (length ts) = search rules in
    let first : terms ps ≡ terms (take m ts) = search rules in
    let others : terms is ≡ terms (drop m ts) = search rules in
    let params : all_terms ps ≡ front k (all_terms ts) =
    ap side_by_side first ∙ ap all_terms (ap (λ j. take j ts) least ∙ take_min k ts) ∙ front-taken k ts in
    let indices : all_terms is ≡ skip k (all_terms ts) =
    ap side_by_side others ∙ ap all_terms (ap (λ j. drop j ts) least ∙ drop_min k ts) ∙ skip-dropped k ts in
    let whole : Terms → Terms → FamilyAt = λ x y. record { family = c.args.family; params = x; indices = y } in
    ap₂ whole params indices
