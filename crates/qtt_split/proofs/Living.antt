-- Variables of a context: which are live, and their types.
use Rattle.std.proofs.Common.{◌≡◌, ◌∙◌, ℕ, zero, suc, ◌-◌, ◌<◌, ◌≤◌, true, false, cond, List, [], ◌∷◌, ◌++◌, length, get_or, map, refl, sym, ap, arith, append_assoc}
use Rattle.std.proofs.lemmas.List.{length-map, length-reverse, get_or-reverse}
use Rattle.std.specs.List.{filter}
use mathlib.Core.Path.{fun_ext}
use Rattle.qtt_usage.specs.declared.mult.Mult.{Mult}
use Rattle.qtt_term.specs.declared.term.Term as code
use Rattle.qtt_term.specs.Term.{Term, var}
use Rattle.qtt_term.specs.Substitution.{ren, shift}
use Rattle.qtt_term.specs.Judgement.{Ctx, type_at}
use Rattle.qtt_term.specs.View.{term}
use Rattle.qtt_term.proofs.Subst.{ren-is-sub, sub-ren}
use Rattle.qtt_unify.specs.View.{binders}
use Rattle.qtt_split.specs.Seen.{Sights, any_shows, oldest_first, live}

pub live-more : (n : ℕ) (ss : Sights) (front : List ℕ) → any_shows n ss ≡ true →
    front ++ live (suc n) ss ≡ (front ++ n ∷ []) ++ live n ss
live-more n ss front e =
    let rest = filter (λ i. any_shows i ss) (oldest_first n) in
    ap (λ b. front ++ cond b (n ∷ rest) rest) e ∙ sym (append_assoc front (n ∷ []) (live n ss))

pub live-same : (n : ℕ) (ss : Sights) → any_shows n ss ≡ false → live (suc n) ss ≡ live n ss
live-same n ss e =
    let rest = filter (λ i. any_shows i ss) (oldest_first n) in ap (λ b. cond b (n ∷ rest) rest) e

-- ---- types
shift-one : (i : ℕ) → shift (suc zero) i ≡ suc i
shift-one i = refl

shift-again : (n j : ℕ) → suc (shift n j) ≡ shift (suc n) j
shift-again n j = refl

ren-again : (ρ : ℕ → ℕ) (t : Term) → ren suc (ren ρ t) ≡ ren (λ i. suc (ρ i)) t
ren-again ρ t =
    ren-is-sub suc (ren ρ t) ∙ sub-ren t (λ i. var (suc i)) ρ ∙ sym (ren-is-sub (λ i. suc (ρ i)) t)

type-got : (Γ : Ctx) (i : ℕ) (d : Mult × Term) → i < length Γ → type_at Γ i ≡ ren (shift (suc i)) (get_or Γ i d).1
type-got [] i d h = absurd (omega arith)
type-got (b ∷ Γ) zero d h = ap (λ ρ. ren ρ b.1) (fun_ext (λ (i : ℕ). sym (shift-one i)))
type-got (b ∷ Γ) (suc i) d h =
    ap (ren suc) (type-got Γ i d (omega arith)) ∙ ren-again (shift (suc i)) (get_or Γ i d).1 ∙
    ap (λ ρ. ren ρ (get_or Γ i d).1) (fun_ext (λ (j : ℕ). shift-again (suc i) j))

type-past : (Γ : Ctx) (i : ℕ) → length Γ ≤ i → type_at Γ i ≡ var i
type-past [] i h = refl
type-past (b ∷ Γ) zero h = absurd (omega arith)
type-past (b ∷ Γ) (suc i) h = ap (ren suc) (type-past Γ i (omega arith))

abbrev bound : Mult × code.Term → Mult × Term
bound b = (b.0, term b.1)

at-map : (bs : List (Mult × code.Term)) (i : ℕ) (d : Mult × code.Term) →
    get_or (map bound bs) i (bound d) ≡ bound (get_or bs i d)
at-map [] i d = refl
at-map (b ∷ bs) zero d = refl
at-map (b ∷ bs) (suc i) d = at-map bs i d

pub length-binders : (bs : List (Mult × code.Term)) → length (binders bs) ≡ length bs
length-binders bs = length-reverse (map bound bs) ∙ length-map bs bound

pub type-of : (bs : List (Mult × code.Term)) (i : ℕ) (b : Mult × code.Term) → i < length bs →
    b ≡ get_or bs (length bs - 1 - i) b → ren (shift (suc i)) (term b.1) ≡ type_at (binders bs) i
type-of bs i b h e =
    let l : length (map bound bs) ≡ length bs = length-map bs bound in
    let k : i < length (map bound bs) = omega (arith, l) in
    let j : i < length (binders bs) = omega (arith, length-binders bs) in
    ap (λ (x : Mult × code.Term). ren (shift (suc i)) (term x.1)) e ∙
    sym (type-got (binders bs) i (bound b) j ∙
    ap (λ (x : Mult × Term). ren (shift (suc i)) x.1) (get_or-reverse (map bound bs) i (bound b) k ∙
    ap (λ n. get_or (map bound bs) (n - 1 - i) (bound b)) l ∙ at-map bs (length bs - 1 - i) b))

pub type-past_all : (bs : List (Mult × code.Term)) (i : ℕ) → length bs ≤ i → var i ≡ type_at (binders bs) i
type-past_all bs i h = sym (type-past (binders bs) i (omega (arith, length-binders bs)))
