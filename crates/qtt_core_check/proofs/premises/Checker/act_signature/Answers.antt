use Rattle.std.proofs.Common.{◌≡◌, ℕ, ◌+◌, ◌∙◌, Bool, true, false, eqb, length, refl, sym, ap, rules}
use Rattle.std.proofs.lemmas.Bool.{eq-eqb, eqb-true, and_parts, and_from}
use Rattle.qtt_term.specs.Term.{Action}
use Rattle.qtt_term.specs.View.{action}
use Rattle.qtt_term.specs.Signature.{act_signature, type_arguments}
use Rattle.qtt_term.specs.Telescopes.{signature}
use Rattle.qtt_core_check.specs.TwoLists.{act_shaped}
use Rattle.qtt_core_check.proofs.Scopes.{length-tele}
use Rattle.qtt_core_check.proofs.Within.{holds, unmet}
use Rattle.qtt_core_check.proofs.premises.Checker.act_signature.Goals.{then-types-type_arguments-via-then-types-type_arguments, then-types-type_arguments-via-else-types-type_arguments+then-len-count}
use Rattle.qtt_core_check.proofs.premises.Checker.act_signature.Goals as goal

unshaped : (a : Action) (k n : ℕ) → (k ≡ type_arguments a → n ≡ length (act_signature a).arguments → ⊥) →
    act_shaped a k n ≡ false
unshaped a k n d = by_test (act_shaped a k n) refl
  where
    by_test : (b : Bool) → act_shaped a k n ≡ b → b ≡ false
    by_test true e =
        let p = and_parts (eqb k (type_arguments a)) (eqb n (length (act_signature a).arguments)) e in
        absurd (d (eqb-true k (type_arguments a) p.0) (eqb-true n (length (act_signature a).arguments) p.1))
    by_test false e = refl

pub returns-then-types-type_arguments-clause-gives : goal.returns-then-types-type_arguments-clause-gives
returns-then-types-type_arguments-clause-gives g c =
    let a = action c.args.kind in let bs = c.in_ok-signature.signature.arguments.items in
    let s : signature c.in_ok-signature.signature ≡ act_signature a = search rules in
    let l : length (act_signature a).arguments ≡ length bs = ap (λ s. length s.arguments) (sym s) ∙ length-tele bs in
    unmet _ _ (elim c.then-types-type_arguments.branch [
      | then-types-type_arguments-via-then-types-type_arguments w ↦
          unshaped a c.args.types (c.args.types + c.args.args)
          (λ k n. w.if-types-type_arguments.true (k ∙ sym c.type_arguments.ensures))
      | then-types-type_arguments-via-else-types-type_arguments+then-len-count w ↦
          unshaped a c.args.types (c.args.types + c.args.args)
          (λ k n. w.if-len-count.true (search (rules, w.len.ensures, n, l)))
    ])

pub returns-clause-gives : goal.returns-clause-gives
returns-clause-gives g c =
    let a = action c.args.kind in let bs = c.in_ok-signature.signature.arguments.items in
    let s : signature c.in_ok-signature.signature ≡ act_signature a = search rules in
    let l : length (act_signature a).arguments ≡ length bs = ap (λ s. length s.arguments) (sym s) ∙ length-tele bs in
    let k : c.args.types ≡ type_arguments a = c.if-types-type_arguments.false ∙ c.type_arguments.ensures in
    let n : c.args.types + c.args.args ≡ length (act_signature a).arguments = search (rules, l) in
    holds _ _ (and_from _ _ (eq-eqb _ _ k) (eq-eqb _ _ n))
