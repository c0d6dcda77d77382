-- Lists that go on behind others, as they are judged one by one.
use Rattle.std.proofs.Common.{◌≡◌, ℕ, suc, ◌≤◌, List, [], ◌∷◌, ◌++◌, length, map, take, drop, Bool, true, ◌&&◌, Result, Ok, Err, refl, sym, ap, ◌∙◌, arith}
use Rattle.std.specs.Prelude.{IfOk}
use Rattle.std.proofs.lemmas.Bool.{and_parts}
use mathlib.Core.Path.{ap₂}
use Rattle.std.proofs.lemmas.List.{length-map, map-append, take_all, drop_all}
use Rattle.qtt_usage.specs.declared.mult.Mult.{Mult}
use Rattle.qtt_usage.specs.Mult.{𝟘, same_mult}
use Rattle.qtt_term.specs.declared.context.Ctx as code_ctx
use Rattle.qtt_term.specs.declared.items.Constructor as code_constructor
use Rattle.qtt_term.specs.declared.term.Term as code
use Rattle.qtt_term.specs.Term.{Term}
use Rattle.qtt_term.specs.Signature.{Env}
use Rattle.qtt_term.specs.Ask.{Ask, ◌>>=◌}
use Rattle.qtt_term.specs.Items.{ConstructorEntry, constructor, constructor_entry}
use Rattle.qtt_term.specs.Scope.{scope_of}
use Rattle.qtt_term.specs.Telescopes.{tele}
use Rattle.qtt_term.specs.View.{term, terms}
use Rattle.qtt_rules.specs.declared.errors.ElabError.{ElabError}
use Rattle.qtt_rules.specs.Asks.{Asks}
use Rattle.qtt_bidi.specs.Answers.{Reaches, Gives}
use Rattle.qtt_bidi.proofs.Within.{on, on_done, here, later, reached}
use Rattle.qtt_module.specs.Families.{Opened, behind, opened}
use Rattle.qtt_module.specs.FamilyParts.{are_erased}
use Rattle.qtt_module.specs.FamilyView.{opened_behind}

-- ---- lists
-- what stands behind a list, where one element more and then others stand there
next-first : {X : Type 0} (ys xs : List X) (x : X) → take (suc (length ys)) xs ≡ ys ++ x ∷ [] →
    drop (length ys) xs ≡ x ∷ drop (suc (length ys)) xs
next-first [] [] x h = absurd (cc h)
next-first [] (z ∷ xs) x h = let e : z ≡ x = cc h in ap (λ w. w ∷ xs) e
next-first (y ∷ ys) [] x h = absurd (cc h)
next-first (y ∷ ys) (z ∷ xs) x h = next-first ys xs x (cc h)

first-part : {X : Type 0} (ys xs : List X) (x : X) → take (suc (length ys)) xs ≡ ys ++ x ∷ [] →
    take (length ys) xs ≡ ys
first-part [] xs x h = refl
first-part (y ∷ ys) [] x h = absurd (cc h)
first-part (y ∷ ys) (z ∷ xs) x h =
    let e : z ≡ y = cc h in
    let more : take (suc (length ys)) xs ≡ ys ++ x ∷ [] = cc h in
    ap (λ w. w ∷ take (length ys) xs) e ∙ ap (λ ws. y ∷ ws) (first-part ys xs x more)

length-one-more : {X : Type 0} (ys : List X) (x : X) → length (ys ++ x ∷ []) ≡ suc (length ys)
length-one-more [] x = refl
length-one-more (y ∷ ys) x = ap suc (length-one-more ys x)

pub length-pushed : {X : Type 0} (ys zs : List X) (x : X) → zs ≡ ys ++ x ∷ [] → length zs ≡ suc (length ys)
length-pushed ys zs x e = ap length e ∙ length-one-more ys x

-- as many as these, and one more
module _ {X : Type 0} (ys zs xs : List X) (x : X) (one : zs ≡ ys ++ x ∷ []) (k j : ℕ) (K : k ≡ length ys)
    (J : j ≡ length zs) (kept : take j xs ≡ zs) where
  many : j ≡ suc (length ys)
  many = J ∙ ap length one ∙ length-one-more ys x

  in-front : take (suc (length ys)) xs ≡ ys ++ x ∷ []
  in-front = ap (λ i. take i xs) (sym many) ∙ kept ∙ one

  pub behind-next : x ∷ drop j xs ≡ drop k xs
  behind-next =
      ap (λ i. x ∷ drop i xs) many ∙ sym (next-first ys xs x in-front) ∙ ap (λ i. drop i xs) (sym K)

  pub kept-before : take k xs ≡ ys
  kept-before = ap (λ i. take i xs) K ∙ first-part ys xs x in-front

pub none-behind : {X : Type 0} (k : ℕ) (xs : List X) → k ≡ length xs → drop k xs ≡ []
none-behind k xs e = drop_all k xs (omega (arith, e))

pub all-kept : {X : Type 0} (k : ℕ) (xs : List X) → k ≡ length xs → take k xs ≡ xs
all-kept k xs e = take_all k xs (omega (arith, e))

-- ---- contexts
pub tele-long : (bs : List (Mult × code.Term)) → length bs ≡ length (tele bs)
tele-long bs = sym (length-map bs (λ (b : Mult × code.Term). (b.0, term b.1)))

pub nothing-opened : (c : code_ctx.Ctx) → opened (scope_of c) ≡ opened_behind (length c.vars.items) c
nothing-opened c =
    ap (λ Θ. record { binds = Θ; scope = scope_of c })
    (sym (none-behind (length c.vars.items) (tele c.vars.items) (tele-long c.vars.items)))

-- a context under one more variable, and then under others
module _ (before inner : code_ctx.Ctx) (q : Mult) (T : Term)
    (one : tele inner.vars.items ≡ tele before.vars.items ++ (q, T) ∷ []) where
  module _ (c : code_ctx.Ctx) (kept : take (length inner.vars.items) (tele c.vars.items) ≡ tele inner.vars.items) where
    pub opened-more : behind q T (opened_behind (length inner.vars.items) c) ≡
        opened_behind (length before.vars.items) c
    opened-more =
        ap (λ Θ. record { binds = Θ; scope = scope_of c })
        (behind-next (tele before.vars.items) (tele inner.vars.items) (tele c.vars.items) (q, T) one
        (length before.vars.items) (length inner.vars.items) (tele-long before.vars.items)
        (tele-long inner.vars.items) kept)

    pub vars-kept : take (length before.vars.items) (tele c.vars.items) ≡ tele before.vars.items
    vars-kept =
        kept-before (tele before.vars.items) (tele inner.vars.items) (tele c.vars.items) (q, T) one
        (length before.vars.items) (length inner.vars.items) (tele-long before.vars.items)
        (tele-long inner.vars.items) kept

  pub result-kept : (r : Result code_ctx.Ctx ElabError) →
      IfOk r (λ c. take (length inner.vars.items) (tele c.vars.items) ≡ tele inner.vars.items) →
      IfOk r (λ c. take (length before.vars.items) (tele c.vars.items) ≡ tele before.vars.items)
  result-kept (Ok c) kept = vars-kept c kept
  result-kept (Err e) kept = tt

  pub result-more : (r : Result code_ctx.Ctx ElabError) →
      IfOk r (λ c. length inner.vars.items ≤ length c.vars.items) →
      IfOk r (λ c. length before.vars.items ≤ length c.vars.items)
  result-more (Ok c) h =
      let e : length inner.vars.items ≡ suc (length before.vars.items) =
      tele-long inner.vars.items ∙ ap length one ∙ length-one-more (tele before.vars.items) (q, T)
      ∙ ap suc (sym (tele-long before.vars.items)) in
      omega (arith, e, h)
  result-more (Err e) h = tt

  pub binds-given : (E : Env) (n : ℕ) (m : Asks Term) (k : Term → Asks Opened)
      (r : Result code_ctx.Ctx ElabError) → Reaches E n m T →
      Gives E n (k T) (opened_behind (length inner.vars.items)) r →
      IfOk r (λ c. take (length inner.vars.items) (tele c.vars.items) ≡ tele inner.vars.items) →
      Gives E n (m >>= λ T. k T >>= λ r. Ask.done (behind q T r)) (opened_behind (length before.vars.items)) r
  binds-given E n m k (Ok c) h f kept = on _ h (on _ f (reached on_done (opened-more c kept)))
  binds-given E n m k (Err e) h f kept = later _ _ _ _ e h (here _ _ _ _ e f)

-- ---- binders at 0
and-true : (b c : Bool) → b ≡ true → c ≡ true → (b && c) ≡ true
and-true b c e f = ap (λ b. b && c) e ∙ f

pub still-erased : (Θ Δ : List (Mult × Term)) (T : Term) → Δ ≡ Θ ++ (𝟘, T) ∷ [] → are_erased Θ ≡ true →
    are_erased Δ ≡ true
still-erased Θ Δ T one h = ap are_erased one ∙ all-more Θ h
  where
    all-more : (Θ : List (Mult × Term)) → are_erased Θ ≡ true → are_erased (Θ ++ (𝟘, T) ∷ []) ≡ true
    all-more [] h = refl
    all-more (b ∷ Θ) h =
        let p = and_parts (same_mult 𝟘 b.0) (are_erased Θ) h in
        and-true (same_mult 𝟘 b.0) (are_erased (Θ ++ (𝟘, T) ∷ [])) p.0 (all-more Θ p.1)

at-zero : (q : Mult) → same_mult 𝟘 q ≡ true → 𝟘 ≡ q
at-zero Mult.Zero e = refl
at-zero Mult.One e = absurd (cc e)
at-zero Mult.Many e = absurd (cc e)

erased-so : (Θ : List (Mult × Term)) → are_erased Θ ≡ true → map (λ b. (𝟘, b.1)) Θ ≡ Θ
erased-so [] h = refl
erased-so (b ∷ Θ) h =
    let p = and_parts (same_mult 𝟘 b.0) (are_erased Θ) h in
    ap₂ (λ q Δ. (q, b.1) ∷ Δ) (at-zero b.0 p.0) (erased-so Θ p.1)

typed-so : (Θ : List (Mult × Term)) →
    map {B = Mult × Term} (λ t. (𝟘, t)) (map (λ (b : Mult × Term). b.1) Θ) ≡
    map {B = Mult × Term} (λ (b : Mult × Term). (𝟘, b.1)) Θ
typed-so [] = refl
typed-so (b ∷ Θ) = ap (λ Δ. (𝟘, b.1) ∷ Δ) (typed-so Θ)

-- types of such binders, at 0 again
pub back-at-zero : (Θ : List (Mult × Term)) (ts : List Term) → ts ≡ map (λ (b : Mult × Term). b.1) Θ →
    are_erased Θ ≡ true → map {B = Mult × Term} (λ t. (𝟘, t)) ts ≡ Θ
back-at-zero Θ ts e h = ap (map {B = Mult × Term} (λ t. (𝟘, t))) e ∙ typed-so Θ ∙ erased-so Θ h

-- ---- types of indices
pub terms-long : (ts : List code.Term) → length ts ≡ length (terms ts)
terms-long ts = sym (length-map ts term)

pub one-term-more : (ts us : List code.Term) (t : code.Term) → us ≡ ts ++ t ∷ [] →
    terms us ≡ terms ts ++ term t ∷ []
one-term-more ts us t e = ap terms e ∙ map-append term ts (t ∷ [])

-- ---- constructors
pub entries-long : (cs : List code_constructor.Constructor) → length cs ≡ length (map constructor_entry cs)
entries-long cs = sym (length-map cs constructor_entry)

pub one-entry-more : (cs ds : List code_constructor.Constructor) (c : code_constructor.Constructor) →
    ds ≡ cs ++ c ∷ [] → map constructor_entry ds ≡ map constructor_entry cs ++ constructor_entry c ∷ []
one-entry-more cs ds c e = ap (map constructor_entry) e ∙ map-append constructor_entry cs (c ∷ [])

pub constructors-within : (cs : List code_constructor.Constructor) →
    map constructor cs ≡ map (λ (d : ConstructorEntry). d.constructor) (map constructor_entry cs)
constructors-within [] = refl
constructors-within (c ∷ cs) = ap (λ ds. constructor c ∷ ds) (constructors-within cs)

-- a list that is given behind another, where its first is given before the others
module _ {B X : Type 0} (view : X → List B) (before inner : List B) (b : B)
    (one : inner ≡ before ++ b ∷ []) (k j : ℕ) (K : k ≡ length before) (J : j ≡ length inner) where
  pub list-given : (E : Env) (n : ℕ) (m : Asks B) (l : B → Asks (List B)) (r : Result X ElabError) →
      Reaches E n m b → Gives E n (l b) (λ x. drop j (view x)) r → IfOk r (λ x. take j (view x) ≡ inner) →
      Gives E n (m >>= λ b. l b >>= λ bs. Ask.done (b ∷ bs)) (λ x. drop k (view x)) r
  list-given E n m l (Ok x) h f kept =
      on _ h (on _ f (reached on_done (behind-next before inner (view x) b one k j K J kept)))
  list-given E n m l (Err e) h f kept = later _ _ _ _ e h (here _ _ _ _ e f)

  pub list-kept : (r : Result X ElabError) → IfOk r (λ x. take j (view x) ≡ inner) →
      IfOk r (λ x. take k (view x) ≡ before)
  list-kept (Ok x) kept = kept-before before inner (view x) b one k j K J kept
  list-kept (Err e) kept = tt
