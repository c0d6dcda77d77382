-- Variables that are bound again, one after another.
use Rattle.std.proofs.Common.{◌≡◌, ◌∙◌, ℕ, suc, ◌+◌, ◌<◌, ◌≤◌, List, [], ◌∷◌, ◌++◌, length, get_or, drop, refl, sym, ap, append_assoc, append-nil}
use mathlib.Core.Path.{fun_ext}
use Rattle.std.proofs.lemmas.List.{map-append, drop_more, drop_all}
use Rattle.qtt_usage.specs.declared.mult.Mult.{Mult}
use Rattle.qtt_term.specs.declared.term.Term as code
use Rattle.qtt_term.specs.Term.{Term, var}
use Rattle.qtt_term.specs.Substitution.{ren, sub}
use Rattle.qtt_term.specs.Judgement.{Ctx, type_at}
use Rattle.qtt_term.specs.Telescopes.{tele}
use Rattle.qtt_term.specs.View.{term}
use Rattle.qtt_split.specs.Branch.{put, again, bound_again}

-- what is bound again so far, where this stood for the variables at first and that stands for them now
pub record ReboundSoFar (Γ : Ctx) (rs : List (Mult × ℕ)) (i : ℕ) (first now : ℕ → Term)
    (done : List (Mult × code.Term)) : Type 0 where
  pub binders : again Γ rs first ≡ tele done ++ again Γ (drop i rs) now
  pub stands : bound_again rs first ≡ bound_again (drop i rs) now

pub none-rebound : (Γ : Ctx) (rs : List (Mult × ℕ)) (δ : ℕ → Term) → ReboundSoFar Γ rs 0 δ δ []
none-rebound Γ rs δ = record { binders = refl; stands = refl }

pub one-rebound : (Γ : Ctx) (rs : List (Mult × ℕ)) (i : ℕ) (first δ ε : ℕ → Term) (done : List (Mult × code.Term))
    (d : Mult × ℕ) (u : code.Term) → i < length rs → term u ≡ sub δ (type_at Γ (get_or rs i d).1) →
    ((j : ℕ) → ε j ≡ put (get_or rs i d).1 (var 0) (λ k. ren suc (δ k)) j) → ReboundSoFar Γ rs i first δ done →
    ReboundSoFar Γ rs (i + 1) first ε (done ++ ((get_or rs i d).0, u) ∷ [])
one-rebound Γ rs i first δ ε done d u h t s so =
    let b = get_or rs i d in
    let left : drop i rs ≡ b ∷ drop (i + 1) rs = drop_more rs i d h in
    let next : ε ≡ put b.1 (var 0) (λ k. ren suc (δ k)) = fun_ext s in
    let rest = again Γ (drop (i + 1) rs) ε in
    record {
      binders =
          so.binders ∙
          ap (λ xs. tele done ++ xs)
          (ap (λ xs. again Γ xs δ) left ∙
          ap (λ σ. (b.0, sub δ (type_at Γ b.1)) ∷ again Γ (drop (i + 1) rs) σ) (sym next) ∙
          ap (λ x. (b.0, x) ∷ rest) (sym t)) ∙
          sym (append_assoc (tele done) ((b.0, term u) ∷ []) rest) ∙
          ap (λ xs. xs ++ rest) (sym (map-append (λ (x : Mult × code.Term). (x.0, term x.1)) done ((b.0, u) ∷ [])));
      stands =
          so.stands ∙ ap (λ xs. bound_again xs δ) left ∙ ap (bound_again (drop (i + 1) rs)) (sym next);
    }

pub all-rebound : (Γ : Ctx) (rs : List (Mult × ℕ)) (i : ℕ) (first δ : ℕ → Term) (done : List (Mult × code.Term)) →
    length rs ≤ i → ReboundSoFar Γ rs i first δ done → tele done ≡ again Γ rs first
all-rebound Γ rs i first δ done h so =
    sym (so.binders ∙ ap (λ xs. tele done ++ again Γ xs δ) (drop_all i rs h) ∙ append-nil (tele done))

pub all-stand : (Γ : Ctx) (rs : List (Mult × ℕ)) (i : ℕ) (first δ : ℕ → Term) (done : List (Mult × code.Term)) →
    length rs ≤ i → ReboundSoFar Γ rs i first δ done → (j : ℕ) → δ j ≡ bound_again rs first j
all-stand Γ rs i first δ done h so j =
    ap (λ (σ : ℕ → Term). σ j) (sym (so.stands ∙ ap (λ xs. bound_again xs δ) (drop_all i rs h)))
