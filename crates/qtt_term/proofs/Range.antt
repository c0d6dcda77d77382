-- Literals stay in the range of 64 bits: primitives answer in it, and no contraction brings in another literal.
use Rattle.std.proofs.Common.{◌≡◌, ℕ, zero, suc, ◌+◌, ◌-◌, ◌*◌, ◌/◌, ◌<◌, ◌≤◌, ◌^◌, ◌&&◌, ℤ, pos, negsuc, neg_ℤ, unsigned_abs, int_div, int_rem, List, [], ◌∷◌, Bool, true, false, cond, eqb, Some, le_trans, lt_of_lt_of_le, div-le_self, mod-lt, true≢false, sym, subst, refl, arith}
use Rattle.std.proofs.lemmas.Int.{rem_below, fits_signed_from_abs}
use mir.ValLaws.{to_z-Fits}
use Rattle.std.specs.Prelude.{FitsSigned}
use Rattle.std.specs.Int.{w64, cast_unsigned, cast_signed, int_wrapping_div}
use Rattle.std.specs.Ordering.{int_eq}
use Rattle.qtt_base.specs.declared.place.GlobalId.{GlobalId}
use Rattle.qtt_usage.specs.declared.mult.Mult.{Mult}
use Rattle.qtt_usage.specs.Mult.{same_mult}
use Rattle.qtt_prims.specs.declared.prim.Primitive.{Primitive}
use Rattle.qtt_prims.specs.declared.prim.Primitive.TheVariants as prim
use Rattle.qtt_prims.specs.declared.lit.Lit.{Lit}
use Rattle.qtt_prims.specs.declared.lit.Lit.TheVariants as literal
use Rattle.qtt_prims.specs.declared.answer.PrimAnswer.{PrimAnswer}
use Rattle.qtt_prims.specs.declared.answer.PrimAnswer.TheVariants as answer
use Rattle.qtt_prims.specs.Apply.{apply, of_numbers, of_number, of_texts, number}
use Rattle.qtt_term.specs.Term.{Named, Form, first, rest, binders, Term, Terms, var, node, ε, ◌▸◌, size, skip, same_id}
use Rattle.qtt_term.specs.Substitution.{lifts_ren, ren, rens, lift, lifts, sub, subs, cons, push, inst}
use Rattle.qtt_term.specs.Signature.{Env, eq_id}
use Rattle.qtt_term.specs.Contraction.{chain, Function, as_lam, call, Made, as_con, as_lit, scrutinee, branch_at, select, iota, when_refl, literals, answer_term, computed, contract, Step, Steps}
use Rattle.qtt_term.specs.Literals.{InRange, LiteralsInRange, AllInRange, BodiesInRange, StepsKeepRange}
use Rattle.qtt_term.proofs.Options.{none≢some, some-injective, chain-some, cond-some}

-- ---- numbers
-- what 64 bits hold, read as a signed number
word_fits : (n : ℕ) → n < 2 ^ 64 → FitsSigned w64 (cast_signed w64 n)
word_fits n h = to_z-Fits w64 n (record { fits = h })

-- a number of no more than 2 ^ 63 has its bits in a word
bits_below : (z : ℤ) → unsigned_abs z ≤ 2 ^ 63 → cast_unsigned w64 z < 2 ^ 64
bits_below (pos n) h = omega arith
bits_below (negsuc n) h = omega arith

word_positive : 0 < 2 ^ 64
word_positive = omega arith

size_of_fitting : (z : ℤ) → FitsSigned w64 z → unsigned_abs z ≤ 2 ^ 63
size_of_fitting (pos n) f = omega (arith, f.sfits)
size_of_fitting (negsuc n) f = omega (arith, f.sfits)

abs_neg : (n : ℕ) → unsigned_abs (neg_ℤ (pos n)) ≡ n
abs_neg zero = refl
abs_neg (suc n) = refl

-- a quotient is no larger than what is divided
quotient_size : (x y : ℤ) → unsigned_abs (int_div x y) ≤ unsigned_abs x
quotient_size (pos a) (pos b) = div-le_self a b
quotient_size (pos a) (negsuc b) = subst (λ n. n ≤ a) (sym (abs_neg (a / suc b))) (div-le_self a (suc b))
quotient_size (negsuc a) (pos b) = subst (λ n. n ≤ suc a) (sym (abs_neg (suc a / b))) (div-le_self (suc a) b)
quotient_size (negsuc a) (negsuc b) = div-le_self (suc a) (suc b)

not_zero : (y : ℤ) → int_eq y (pos 0) ≡ false → 0 < unsigned_abs y
not_zero (pos zero) e = absurd (true≢false e)
not_zero (pos (suc n)) e = omega arith
not_zero (negsuc n) e = omega arith

-- ---- answers
abbrev AnswersInRange : PrimAnswer → Type 0
AnswersInRange (answer.Value l) = InRange l
AnswersInRange a = Unit {0}

abbrev AllLits : List Lit → Type 0
AllLits [] = Unit {0}
AllLits (l ∷ ls) = InRange l × AllLits ls

division_in_range : (x y : ℤ) → FitsSigned w64 x →
    (b : Bool) → AnswersInRange (cond b answer.DivisionByZero (number (int_wrapping_div w64 x y)))
division_in_range x y f true = tt
division_in_range x y f false =
    word_fits (cast_unsigned w64 (int_div x y))
    (bits_below (int_div x y) (le_trans (quotient_size x y) (size_of_fitting x f)))

remainder_in_range : (x y : ℤ) → FitsSigned w64 y →
    (b : Bool) → int_eq y (pos 0) ≡ b → AnswersInRange (cond b answer.DivisionByZero (number (int_rem x y)))
remainder_in_range x y f true e = tt
remainder_in_range x y f false e =
    fits_signed_from_abs w64 (int_rem x y) (lt_of_lt_of_le (rem_below x y (not_zero y e)) (size_of_fitting y f))

of_numbers_in_range : (f : ℤ → ℤ → PrimAnswer) →
    ((x y : ℤ) → FitsSigned w64 x → FitsSigned w64 y → AnswersInRange (f x y)) →
    (ls : List Lit) → AllLits ls → AnswersInRange (of_numbers f ls)
of_numbers_in_range f g (literal.Int x ∷ literal.Int y ∷ []) h = g x y h.0 h.1.0
of_numbers_in_range f g [] h = tt
of_numbers_in_range f g (literal.Text s ∷ ls) h = tt
of_numbers_in_range f g (literal.Int x ∷ []) h = tt
of_numbers_in_range f g (literal.Int x ∷ literal.Text s ∷ ls) h = tt
of_numbers_in_range f g (literal.Int x ∷ literal.Int y ∷ l ∷ ls) h = tt

of_number_in_range : (f : ℤ → PrimAnswer) → ((x : ℤ) → AnswersInRange (f x)) →
    (ls : List Lit) → AnswersInRange (of_number f ls)
of_number_in_range f g (literal.Int x ∷ []) = g x
of_number_in_range f g [] = tt
of_number_in_range f g (literal.Text s ∷ ls) = tt
of_number_in_range f g (literal.Int x ∷ l ∷ ls) = tt

of_texts_in_range : (f : List ℕ → List ℕ → PrimAnswer) → ((s t : List ℕ) → AnswersInRange (f s t)) →
    (ls : List Lit) → AnswersInRange (of_texts f ls)
of_texts_in_range f g (literal.Text s ∷ literal.Text t ∷ []) = g s t
of_texts_in_range f g [] = tt
of_texts_in_range f g (literal.Int x ∷ ls) = tt
of_texts_in_range f g (literal.Text s ∷ []) = tt
of_texts_in_range f g (literal.Text s ∷ literal.Int x ∷ ls) = tt
of_texts_in_range f g (literal.Text s ∷ literal.Text t ∷ l ∷ ls) = tt

apply_in_range : (p : Primitive) (ls : List Lit) → AllLits ls → AnswersInRange (apply p ls)
apply_in_range prim.AddInt ls h =
    of_numbers_in_range _
    (λ x y f g. word_fits _ (mod-lt (cast_unsigned w64 x + cast_unsigned w64 y) word_positive)) ls h
apply_in_range prim.SubInt ls h =
    of_numbers_in_range _
    (λ x y f g. word_fits _ (mod-lt (cast_unsigned w64 x + (2 ^ 64 - cast_unsigned w64 y)) word_positive)) ls h
apply_in_range prim.MulInt ls h =
    of_numbers_in_range _
    (λ x y f g. word_fits _ (mod-lt (cast_unsigned w64 x * cast_unsigned w64 y) word_positive)) ls h
apply_in_range prim.DivInt ls h = of_numbers_in_range _ (λ x y f g. division_in_range x y f (int_eq y (pos 0))) ls h
apply_in_range prim.ModInt ls h =
    of_numbers_in_range _ (λ x y f g. remainder_in_range x y g (int_eq y (pos 0)) refl) ls h
apply_in_range prim.EqInt ls h = of_numbers_in_range _ (λ x y f g. tt) ls h
apply_in_range prim.LtInt ls h = of_numbers_in_range _ (λ x y f g. tt) ls h
apply_in_range prim.AppendString ls h = of_texts_in_range _ (λ s t. tt) ls
apply_in_range prim.EqString ls h = of_texts_in_range _ (λ s t. tt) ls
apply_in_range prim.ShowInt ls h = of_number_in_range _ (λ x. tt) ls

answer-in_range : (a : PrimAnswer) (t : Term) → AnswersInRange a → answer_term a ≡ Some t → LiteralsInRange t
answer-in_range (answer.Value l) t h e = subst LiteralsInRange (some-injective e) (h, tt)
answer-in_range (answer.Truth true) t h e = subst LiteralsInRange (some-injective e) (tt, tt)
answer-in_range (answer.Truth false) t h e = subst LiteralsInRange (some-injective e) (tt, tt)
answer-in_range answer.DivisionByZero t h e = absurd (none≢some e)
answer-in_range answer.IllTyped t h e = absurd (none≢some e)

lit-in_range : (t : Term) (l : Lit) → LiteralsInRange t → as_lit t ≡ Some l → InRange l
lit-in_range (node (Form.named (Named.lit k)) ε) l h e = subst InRange (some-injective e) h.0
lit-in_range _ l h e = absurd (none≢some e)

lits-in_range : (ts : Terms) (ls : List Lit) → AllInRange ts → literals ts ≡ Some ls → AllLits ls
lits-in_range ε ls h e = subst AllLits (some-injective e) tt
lits-in_range (t ▸ ts) ls h e =
    let w = chain-some (as_lit t) (λ l. chain (literals ts) (λ ls. Some (l ∷ ls))) ls e in
    let v = chain-some (literals ts) (λ ls. Some (w.0 ∷ ls)) ls w.2 in
    subst AllLits (some-injective v.2) (lit-in_range t w.0 h.0 w.1, lits-in_range ts v.0 h.1 v.1)

-- ---- renaming and substitution
mutual
  ren-in_range : (t : Term) (ρ : ℕ → ℕ) → LiteralsInRange t → LiteralsInRange (ren ρ t)
  ren-in_range (var i) ρ h = tt
  ren-in_range (node F ts) ρ h = (h.0, rens-in_range ts (binders F) ρ h.1)

  rens-in_range : (ts : Terms) (ns : List ℕ) (ρ : ℕ → ℕ) → AllInRange ts → AllInRange (rens ns ρ ts)
  rens-in_range ε ns ρ h = tt
  rens-in_range (t ▸ ts) ns ρ h = (ren-in_range t (lifts_ren (first ns) ρ) h.0, rens-in_range ts (rest ns) ρ h.1)

abbrev ValuesInRange : (ℕ → Term) → Type 0
ValuesInRange σ = (i : ℕ) → LiteralsInRange (σ i)

lift-in_range : (σ : ℕ → Term) → ValuesInRange σ → ValuesInRange (lift σ)
lift-in_range σ h zero = tt
lift-in_range σ h (suc i) = ren-in_range (σ i) suc (h i)

lifts-in_range : (k : ℕ) (σ : ℕ → Term) → ValuesInRange σ → ValuesInRange (lifts k σ)
lifts-in_range zero σ h = h
lifts-in_range (suc k) σ h = lifts-in_range k (lift σ) (lift-in_range σ h)

mutual
  sub-in_range : (t : Term) (σ : ℕ → Term) → ValuesInRange σ → LiteralsInRange t → LiteralsInRange (sub σ t)
  sub-in_range (var i) σ v h = v i
  sub-in_range (node F ts) σ v h = (h.0, subs-in_range ts (binders F) σ v h.1)

  subs-in_range : (ts : Terms) (ns : List ℕ) (σ : ℕ → Term) → ValuesInRange σ → AllInRange ts →
      AllInRange (subs ns σ ts)
  subs-in_range ε ns σ v h = tt
  subs-in_range (t ▸ ts) ns σ v h =
      (sub-in_range t (lifts (first ns) σ) (lifts-in_range (first ns) σ v) h.0, subs-in_range ts (rest ns) σ v h.1)

cons-in_range : (a : Term) (σ : ℕ → Term) → LiteralsInRange a → ValuesInRange σ → ValuesInRange (cons a σ)
cons-in_range a σ h v zero = h
cons-in_range a σ h v (suc i) = v i

push-in_range : (fs : Terms) (σ : ℕ → Term) → AllInRange fs → ValuesInRange σ → ValuesInRange (push fs σ)
push-in_range ε σ h v = v
push-in_range (f ▸ fs) σ h v = push-in_range fs (cons f σ) h.1 (cons-in_range f σ h.0 v)

-- ---- what contracts
skip-in_range : (k : ℕ) (ts : Terms) → AllInRange ts → AllInRange (skip k ts)
skip-in_range zero ts h = h
skip-in_range (suc k) ε h = tt
skip-in_range (suc k) (t ▸ ts) h = skip-in_range k ts h.1

scrutinee-in_range : (ns : List ℕ) (ts : Terms) (s : Term) → AllInRange ts → scrutinee ns ts ≡ Some s →
    LiteralsInRange s
scrutinee-in_range [] (t ▸ ε) s h e = subst LiteralsInRange (some-injective e) h.0
scrutinee-in_range (k ∷ ns) (t ▸ ts) s h e = scrutinee-in_range ns ts s h.1 e
scrutinee-in_range [] ε s h e = absurd (none≢some e)
scrutinee-in_range [] (t ▸ r ▸ ts) s h e = absurd (none≢some e)
scrutinee-in_range (k ∷ ns) ε s h e = absurd (none≢some e)

abbrev MadeInRange : Made → Type 0
MadeInRange (Made.made f c fs) = AllInRange fs

con-in_range : (s : Term) (m : Made) → LiteralsInRange s → as_con s ≡ Some m → MadeInRange m
con-in_range (node (Form.con f c k) ts) m h e = subst MadeInRange (some-injective e) (skip-in_range k ts h.1)
con-in_range _ m h e = absurd (none≢some e)

branch-in_range : (c : ℕ) (ns : List ℕ) (ts fs : Terms) (t : Term) → AllInRange ts → AllInRange fs →
    branch_at c ns ts fs ≡ Some t → LiteralsInRange t
branch-in_range zero (k ∷ ns) (r ▸ ts) fs t h d e =
    let w = cond-some (eqb (size fs) k) (Some (sub (push fs var) r)) t e in
    subst LiteralsInRange (some-injective w.1) (sub-in_range r (push fs var) (push-in_range fs var d (λ i. tt)) h.0)
branch-in_range (suc c) (k ∷ ns) (r ▸ ts) fs t h d e = branch-in_range c ns ts fs t h.1 d e
branch-in_range zero [] ts fs t h d e = absurd (none≢some e)
branch-in_range (suc c) [] ts fs t h d e = absurd (none≢some e)
branch-in_range zero (k ∷ ns) ε fs t h d e = absurd (none≢some e)
branch-in_range (suc c) (k ∷ ns) ε fs t h d e = absurd (none≢some e)

select-in_range : (f : GlobalId) (ns : List ℕ) (ts : Terms) (m : Made) (t : Term) → AllInRange ts →
    MadeInRange m → select f ns ts m ≡ Some t → LiteralsInRange t
select-in_range f ns ts (Made.made g c fs) t h d e =
    let w = cond-some (same_id f g) (branch_at c ns ts fs) t e in branch-in_range c ns ts fs t h d w.1

iota-in_range : (f : GlobalId) (ns : List ℕ) (ts : Terms) (t : Term) → AllInRange ts → iota f ns ts ≡ Some t →
    LiteralsInRange t
iota-in_range f ns ε t h e = absurd (none≢some e)
iota-in_range f ns (P ▸ ts) t h e =
    let r = chain-some (scrutinee ns ts) (λ s. chain (as_con s) (select f ns ts)) t e in
    let w = chain-some (as_con r.0) (select f ns ts) t r.2 in
    select-in_range f ns ts w.0 t h.1 (con-in_range r.0 w.0 (scrutinee-in_range ns ts r.0 h.1 r.1) w.1) w.2

abbrev FunctionInRange : Function → Type 0
FunctionInRange (Function.function q b) = LiteralsInRange b

lam-in_range : (g : Term) (f : Function) → LiteralsInRange g → as_lam g ≡ Some f → FunctionInRange f
lam-in_range (node (Form.lam q) (A ▸ b ▸ ε)) f h e = subst FunctionInRange (some-injective e) h.1.1.0
lam-in_range _ f h e = absurd (none≢some e)

call-in_range : (p : Mult) (a : Term) (f : Function) (t : Term) → LiteralsInRange a → FunctionInRange f →
    call p a f ≡ Some t → LiteralsInRange t
call-in_range p a (Function.function q b) t h d e =
    let w = cond-some (same_mult p q) (Some (inst b a)) t e in
    subst LiteralsInRange (some-injective w.1) (sub-in_range b (cons a var) (cons-in_range a var h (λ i. tt)) d)

refl-in_range : (b t : Term) (m : Made) → LiteralsInRange b → when_refl b m ≡ Some t → LiteralsInRange t
refl-in_range b t (Made.made f c fs) h e =
    let w = cond-some (same_id f eq_id && eqb c 0) (Some b) t e in subst LiteralsInRange (some-injective w.1) h

contract-in_range : (E : Env) → BodiesInRange E → (F : Form) (ts : Terms) (t : Term) → contract E F ts ≡ Some t →
    AllInRange ts → LiteralsInRange t
unfolding contract
contract-in_range E bodies (Form.app q) (g ▸ a ▸ ε) t e h =
    let w = chain-some (as_lam g) (call q a) t e in call-in_range q a w.0 t h.1.0 (lam-in_range g w.0 h.0 w.1) w.2
contract-in_range E bodies (Form.case q f k m ns) ts t e h = iota-in_range f ns (skip k ts) t (skip-in_range k ts h) e
contract-in_range E bodies (Form.delete q) (A ▸ s ▸ P ▸ d ▸ p ▸ ε) t e h =
    let w = chain-some (as_con p) (when_refl d) t e in refl-in_range d t w.0 h.1.1.1.0 w.2
contract-in_range E bodies (Form.named (Named.def d)) ε t e h = bodies d t e
contract-in_range E bodies (Form.named (Named.prim p)) ts t e h =
    let w = chain-some (literals ts) (computed p) t e in
    answer-in_range (apply p w.0) t (apply_in_range p w.0 (lits-in_range ts w.0 h w.1)) w.2
contract-in_range E bodies _ ts t e h = absurd (none≢some e)

mutual
  step-in_range : {E : Env} → BodiesInRange E → {t s : Term} → Step E t s → LiteralsInRange t → LiteralsInRange s
  step-in_range {E} bodies (Step.here {F = F} {ts = ts} {t = t} e) h = contract-in_range E bodies F ts t e h.1
  step-in_range bodies (Step.inside d) h = (h.0, steps-in_range bodies d h.1)

  steps-in_range : {E : Env} → BodiesInRange E → {ts ss : Terms} → Steps E ts ss → AllInRange ts → AllInRange ss
  steps-in_range bodies (Steps.at d) h = (step-in_range bodies d h.0, h.1)
  steps-in_range bodies (Steps.after d) h = (h.0, steps-in_range bodies d h.1)

pub steps_keep_range_holds : StepsKeepRange
steps_keep_range_holds E bodies t s d h = step-in_range bodies d h
