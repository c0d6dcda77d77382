use Rattle.std.proofs.Common.{◌≡◌, ◌≢◌, ◌∙◌, ◌&&◌, cond, Bool, Some, None, eqb, true, false, length, refl, sym, ap, rules}
use mathlib.Core.Path.{ap₂}
use Rattle.std.proofs.lemmas.Bool.{eq-eqb, ne_eqb}
use Rattle.std.proofs.lemmas.List.{length-map}
use Rattle.qtt_term.specs.declared.term.Term.{the_lemmas}
use Rattle.qtt_term.specs.Term.{Fam, same_id, size}
use Rattle.qtt_term.specs.Infer.{as_family}
use Rattle.qtt_term.specs.View.{term, terms, side_by_side}
use Rattle.qtt_core_check.proofs.ArgumentLists.{size-side}
use Rattle.qtt_core_check.proofs.premises.as_family.Goals.{else-same_id-via-then-same_id+else-len-count, else-same_id-via-else-same_id}
use Rattle.qtt_core_check.proofs.premises.as_family.Goals as goal

no-first : (a b : Bool) → a ≡ false → (a && b) ≡ false
no-first true b e = absurd (cc e)
no-first false b e = refl

no-second : (a b : Bool) → b ≡ false → (a && b) ≡ false
no-second true b e = e
no-second false b e = refl

pub returns-then-len-count-clause-gives : goal.returns-then-len-count-clause-gives
returns-then-len-count-clause-gives c =
    let ts = c.in-Fam.args.items in
    let all = side_by_side (terms ts) in
    let d : term c.args.head ≡ Fam c.in-Fam.found all = search (rules, the_lemmas) in
    let s : same_id c.args.id c.in-Fam.found ≡ true = search rules in
    let l : length ts ≡ c.args.count = search rules in
    let z : size all ≡ c.args.count = size-side (terms ts) ∙ length-map ts term ∙ l in
    let r : c.replace.result.items ≡ ts = search rules in
    ap (λ us. Some (side_by_side (terms us))) r
    ∙ sym (ap (as_family c.args.id c.args.count) d
    ∙ ap (λ b. cond b (Some all) None) (ap₂ (λ a b. a && b) s (eq-eqb (size all) c.args.count z)))

pub returns-in-Fam-clause-gives : goal.returns-in-Fam-clause-gives
returns-in-Fam-clause-gives c =
    let ts = c.in-Fam.args.items in
    let all = side_by_side (terms ts) in
    let d : term c.args.head ≡ Fam c.in-Fam.found all = search (rules, the_lemmas) in
    let z : size all ≡ length ts = size-side (terms ts) ∙ length-map ts term in
    let s : (same_id c.args.id c.in-Fam.found && eqb (length ts) c.args.count) ≡ false =
    elim c.else-same_id.branch [
      | else-same_id-via-then-same_id+else-len-count w ↦ let n : length ts ≢ c.args.count =
          search rules in no-second _ _ (ne_eqb (length ts) c.args.count n)
      | else-same_id-via-else-same_id w ↦ let n : same_id c.args.id c.in-Fam.found ≡ false =
          search rules in no-first _ _ n
    ] in
    sym (ap (as_family c.args.id c.args.count) d
    ∙ ap (λ b. cond b (Some all) None) (ap (λ n. same_id c.args.id c.in-Fam.found && eqb n c.args.count) z ∙ s))
