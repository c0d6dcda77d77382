-- Texts that grow piece by piece.
use Rattle.std.proofs.Common.{◌≡◌, ℕ, zero, suc, ◌+◌, ◌-◌, ◌≤◌, List, [], ◌∷◌, ◌++◌, ap, ◌∙◌, sym, arith, Result, Ok, Err, OnOk}
use Rattle.std.proofs.lemmas.Grind.{flat_map-append}
use Rattle.std.proofs.lemmas.List.{append-nil}
use Rattle.qtt_core_print.specs.Printing.{behind_blank, behind_blanks, binder_at, next_binders}

pub on_ok : {T E P Q : Type 0} (r : Result T E) → (P → Q) → OnOk r P → OnOk r Q
on_ok (Ok x) f p = f p
on_ok (Err e) f p = p

-- ---- binders
next_more : (n k : ℕ) → next_binders n (suc k) ≡ next_binders n k ++ binder_at (n + k) ∷ []
next_more n zero =
    let e : n + 0 ≡ n = omega arith in ap (λ (k : ℕ). binder_at k ∷ []) (sym e)
next_more n (suc k) =
    let e : n + suc k ≡ suc n + k = omega arith in
    rw e (ap (λ (v : List (List ℕ)). binder_at n ∷ v) (next_more (suc n) k))

pub one_more_binder : (n l : ℕ) → n ≤ l →
    behind_blanks (next_binders n (l + 1 - n)) ≡ behind_blanks (next_binders n (l - n)) ++ behind_blank (binder_at l)
one_more_binder n l h =
    let e : l + 1 - n ≡ suc (l - n) = omega (arith, h) in
    let i : n + (l - n) ≡ l = omega (arith, h) in
    rw e (ap behind_blanks (next_more n (l - n)) ∙
    flat_map-append behind_blank (next_binders n (l - n)) (binder_at (n + (l - n)) ∷ []) ∙
    ap (λ (v : List ℕ). behind_blanks (next_binders n (l - n)) ++ v)
    (append-nil (behind_blank (binder_at (n + (l - n))))) ∙
    ap (λ (k : ℕ). behind_blanks (next_binders n (l - n)) ++ behind_blank (binder_at k)) i)
