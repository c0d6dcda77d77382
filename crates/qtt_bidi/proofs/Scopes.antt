-- Variables and names of the code's contexts, and those of further binders.
use Rattle.std.proofs.Common.{◌≡◌, ℕ, zero, suc, ◌+◌, ◌-◌, ◌<◌, ◌≤◌, List, [], ◌∷◌, ◌++◌, length, map, reverse, get_or, Option, Some, None, option_map, slice_get, refl, sym, ◌∙◌, ap, arith}
use Rattle.std.proofs.lemmas.List.{length-map, length-reverse, get_or-reverse, map-append, reverse-append}
use Rattle.std.proofs.lemmas.Grind.{common_steps}
use Rattle.std.proofs.lemmas.Option.{slice_get-get_or, slice_get_past}
use mathlib.Core.Path.{ap₂, fun_ext}
use Rattle.qtt_usage.specs.declared.mult.Mult.{Mult}
use Rattle.qtt_usage.specs.Mult.{𝟘}
use Rattle.qtt_term.specs.declared.term.Term as code
use Rattle.qtt_term.specs.declared.context.Ctx as code_ctx
use Rattle.qtt_term.specs.Term.{Term, var}
use Rattle.qtt_term.specs.Substitution.{ren, sub, shift}
use Rattle.qtt_term.specs.View.{term}
use Rattle.qtt_term.specs.Shift.{raised}
use Rattle.qtt_term.specs.Judgement.{Ctx, mult_at}
use Rattle.qtt_term.specs.Scope.{shifted, scope_of}
use Rattle.qtt_term.specs.Telescopes.{tele}
use Rattle.qtt_term.proofs.Moves.{shift-add, raised-zero}
use Rattle.qtt_term.proofs.Subst.{ren-is-sub, ren-sub, sub-id}
use Rattle.qtt_bidi.specs.Seen.{stands, risen}

at-map : {A B : Type 0} (f : A → B) (xs : List A) (i : ℕ) (d : A) → get_or (map f xs) i (f d) ≡ f (get_or xs i d)
at-map f [] i d = refl
at-map f (x ∷ xs) zero d = refl
at-map f (x ∷ xs) (suc i) d = at-map f xs i d

-- an entry of a list that was turned round
turned : {A B : Type 0} (f : A → B) (xs : List A) (i : ℕ) (d : A) → i < length xs →
    slice_get (reverse (map f xs)) i ≡ Some (f (get_or xs (length xs - 1 - i) d))
turned f xs i d h =
    let n : length (map f xs) ≡ length xs = length-map xs f in
    let k : i < length (map f xs) = omega (arith, n) in
    let j : i < length (reverse (map f xs)) = omega (arith, n, length-reverse (map f xs)) in
    slice_get-get_or (reverse (map f xs)) i (f d) j ∙ ap Some (get_or-reverse (map f xs) i (f d) k
    ∙ ap (λ m. get_or (map f xs) (m - 1 - i) (f d)) n ∙ at-map f xs (length xs - 1 - i) d)

turned-past : {A B : Type 0} (f : A → B) (xs : List A) (i : ℕ) → length xs ≤ i →
    slice_get (reverse (map f xs)) i ≡ None
turned-past f xs i h =
    slice_get_past (reverse (map f xs)) i (omega (arith, length-map xs f, length-reverse (map f xs)))

-- ---- multiplicities
mult-there : (Γ : Ctx) (i : ℕ) (b : Mult × Term) → slice_get Γ i ≡ Some b → mult_at Γ i ≡ b.0
mult-there [] i b e = absurd (cc e)
mult-there (c ∷ Γ) zero b e = let s : c ≡ b = cc e in ap (λ b. b.0) s
mult-there (c ∷ Γ) (suc i) b e = mult-there Γ i b e

mult-past : (Γ : Ctx) (i : ℕ) → slice_get Γ i ≡ None → mult_at Γ i ≡ 𝟘
mult-past [] i e = refl
mult-past (c ∷ Γ) zero e = absurd (cc e)
mult-past (c ∷ Γ) (suc i) e = mult-past Γ i e

pub mult-next : (b : Mult × Term) (Γ : Ctx) (i : ℕ) → (i ≡ 0 → ⊥) → mult_at (b ∷ Γ) i ≡ mult_at Γ (i - 1)
mult-next b Γ zero h = absurd (h refl)
mult-next b Γ (suc i) h = let e : i ≡ suc i - 1 = omega arith in ap (mult_at Γ) e

pub outer-mult : (vs : List (Mult × code.Term)) (i : ℕ) (d : Mult × code.Term) → i < length vs →
    mult_at (reverse (tele vs)) i ≡ (get_or vs (length vs - 1 - i) d).0
outer-mult vs i d h =
    mult-there (reverse (tele vs)) i _ (turned (λ (b : Mult × code.Term). (b.0, term b.1)) vs i d h)

pub outer-no-mult : (vs : List (Mult × code.Term)) (i : ℕ) → length vs ≤ i → mult_at (reverse (tele vs)) i ≡ 𝟘
outer-no-mult vs i h =
    mult-past (reverse (tele vs)) i (turned-past (λ (b : Mult × code.Term). (b.0, term b.1)) vs i h)

-- ---- names
pub outer-name : (ns : List (code.Term × code.Term)) (i : ℕ) (d : code.Term × code.Term) → i < length ns →
    slice_get (reverse (map stands ns)) i ≡ Some (stands (get_or ns (length ns - 1 - i) d))
outer-name ns i d h = turned stands ns i d h

pub outer-no-name : (ns : List (code.Term × code.Term)) (i : ℕ) → length ns ≤ i →
    slice_get (reverse (map stands ns)) i ≡ None
outer-no-name ns i h = turned-past stands ns i h

pub shift-zero : (k : ℕ) → shift k 0 ≡ k
shift-zero k = let e : k + 0 ≡ k = omega arith in shift-add k 0 ∙ e

shift-next : (k i : ℕ) → shift k (suc i) ≡ shift (k + 1) i
shift-next k i =
    let e : k + suc i ≡ (k + 1) + i = omega arith in shift-add k (suc i) ∙ e ∙ sym (shift-add (k + 1) i)

pub ren-more : (k : ℕ) (A : Term) → ren (shift k) (ren suc A) ≡ ren (shift (k + 1)) A
ren-more k A =
    ap (ren (shift k)) (ren-is-sub suc A) ∙ ren-sub A (shift k) (λ i. var (suc i))
    ∙ ap (λ (f : ℕ → ℕ). sub (λ i. var (f i)) A) (fun_ext λ i. shift-next k i) ∙ sym (ren-is-sub (shift (k + 1)) A)

pub risen-more : (k : ℕ) (x : Term × Term) → risen k (ren suc x.0, ren suc x.1) ≡ risen (k + 1) x
risen-more k x = ap₂ (λ a b. (a, b)) (ren-more k x.0) (ren-more k x.1)

-- under one binder more
pub names-more : (k : ℕ) (ns : List (Term × Term)) (i : ℕ) →
    option_map (risen k) (slice_get (shifted ns) i) ≡ option_map (risen (k + 1)) (slice_get ns i)
names-more k [] i = refl
names-more k (x ∷ ns) zero = ap Some (risen-more k x)
names-more k (x ∷ ns) (suc i) = names-more k ns i

pub name-next : (k : ℕ) (x : Term × Term) (ns : List (Term × Term)) (i : ℕ) → (i ≡ 0 → ⊥) →
    option_map (risen k) (slice_get (x ∷ shifted ns) i) ≡ option_map (risen (k + 1)) (slice_get ns (i - 1))
name-next k x ns zero h = absurd (h refl)
name-next k x ns (suc i) h =
    let e : i ≡ suc i - 1 = omega arith in
    names-more k ns i ∙ ap (λ j. option_map (risen (k + 1)) (slice_get ns j)) e

pub name-newest : (k : ℕ) (A : Term) → risen k (var 0, ren suc A) ≡ (var k, ren (shift (k + 1)) A)
name-newest k A = ap₂ (λ a b. (a, b)) (ap var (shift-zero k)) (ren-more k A)

pub outer-depth : (c : code_ctx.Ctx) → length (scope_of c).vars ≡ length c.vars.items
outer-depth c =
    length-reverse (map (λ (b : Mult × code.Term). (b.0, term b.1)) c.vars.items)
    ∙ length-map c.vars.items (λ (b : Mult × code.Term). (b.0, term b.1))

pub one-more-var : (vs : List (Mult × code.Term)) (b : Mult × code.Term) →
    reverse (tele (vs ++ b ∷ [])) ≡ (b.0, term b.1) ∷ reverse (tele vs)
one-more-var vs b =
    ap reverse (map-append (λ (b : Mult × code.Term). (b.0, term b.1)) vs (b ∷ []))
    ∙ reverse-append (tele vs) ((b.0, term b.1) ∷ [])

-- all that the functions of a scope want
pub ruleset scopes = (
  common_steps,
  outer-depth,
  one-more-var,
  mult-next,
  outer-mult,
  outer-no-mult,
  outer-name,
  outer-no-name,
  raised-zero,
  name-next,
  name-newest,
  names-more,
)

ren-zero : (t : Term) → ren (shift 0) t ≡ t
ren-zero t = ren-is-sub (shift 0) t ∙ sub-id t

risen-zero : (o : Option (Term × Term)) → option_map (risen 0) o ≡ o
risen-zero None = refl
risen-zero (Some x) = ap Some (ap₂ (λ a b. (a, b)) (ren-zero x.0) (ren-zero x.1))

-- what a name stands for, without further variables
pub name-here : (o : Option (code.Term × code.Term)) (ns : List (Term × Term)) (i : ℕ) →
    option_map stands o ≡ option_map (risen 0) (slice_get ns i) → slice_get ns i ≡ option_map stands o
name-here o ns i e = sym (e ∙ risen-zero (slice_get ns i))

pub raised-one : (t : Term) → ren (raised 0 1) t ≡ ren suc t
raised-one t = raised-zero 1 t ∙ ap (λ (f : ℕ → ℕ). ren f t) (fun_ext λ i. refl)
