-- The numbers of the fields of branches.
use Rattle.std.proofs.Common.{◌≡◌, ℕ, zero, suc, ◌<◌, List, [], ◌∷◌, map, length, get_or, sym, ◌∙◌, ap, arith}
use Rattle.qtt_term.specs.declared.term.Term.{the_lemmas}
use Rattle.qtt_term.specs.declared.term.Branch as code_branch
use Rattle.qtt_term.specs.View.{branch, branches}

fields-seen : (b : code_branch.Branch) → (branch b).0 ≡ b.fields
fields-seen b = grind (arith, the_lemmas)

pub fields-at : (xs ys : List code_branch.Branch) (i : ℕ) (x y : code_branch.Branch) → i < length xs →
    i < length ys → x ≡ get_or xs i x → y ≡ get_or ys i y →
    map (λ b. b.0) (branches xs) ≡ map (λ b. b.0) (branches ys) → x.fields ≡ y.fields
fields-at [] ys i x y p q d e h = absurd (omega arith)
fields-at (a ∷ xs) [] i x y p q d e h = absurd (omega arith)
fields-at (a ∷ xs) (b ∷ ys) zero x y p q d e h =
    let firsts : (branch a).0 ≡ (branch b).0 = cc h in
    ap (λ z. z.fields) d ∙ sym (fields-seen a) ∙ firsts ∙ fields-seen b ∙ sym (ap (λ z. z.fields) e)
fields-at (a ∷ xs) (b ∷ ys) (suc i) x y p q d e h =
    let rests : map (λ b. b.0) (branches xs) ≡ map (λ b. b.0) (branches ys) = cc h in
    fields-at xs ys i x y (omega arith) (omega arith) d e rests
