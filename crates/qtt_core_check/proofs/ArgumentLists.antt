-- Arguments one list behind another, within a budget.
use Rattle.std.proofs.Common.{◌≡◌, ℕ, zero, suc, ◌+◌, ◌<◌, ◌≤◌, List, [], ◌∷◌, ◌++◌, length, take, drop, get_or, append_assoc, refl, sym, ◌∙◌, ap, subst, arith}
use mathlib.Core.Path.{ap₂}
use Rattle.std.proofs.lemmas.List.{length-map, length-take-le, take-append-drop, map-append, take_all, take_more}
use Rattle.std.proofs.Math.Seq.{drop-cons}
use Rattle.qtt_usage.specs.declared.mult.Mult.{Mult}
use Rattle.qtt_usage.specs.Usage.{usage_sum, usage_scale, no_usage}
use Rattle.qtt_usage.proofs.Mults.{⊕-assoc, ⊕-zero, zero-⊕}
use Rattle.qtt_term.specs.declared.term.Term as code
use Rattle.qtt_term.specs.Term.{Term, Terms, ε, ◌▸◌, size, ◌+++◌}
use Rattle.qtt_term.specs.Substitution.{sub, cons, push, closed}
use Rattle.qtt_term.specs.Signature.{Tele, Env}
use Rattle.qtt_term.specs.Judgement.{Ctx, Part, under}
use Rattle.qtt_term.specs.View.{term, terms, side_by_side}
use Rattle.qtt_term.specs.Infer.{Asks, Premise, Wanted, wanted, has, infer, arguments}
use Rattle.qtt_core_check.specs.declared.refusal.CoreRefusal.{CoreRefusal}
use Rattle.qtt_term.specs.Telescopes.{tele, filled}
use Rattle.qtt_core_check.specs.Seen.{Reaches, Refuses}
use Rattle.qtt_core_check.proofs.Lists.{length-sum, length-scaled, length-none}
use Rattle.qtt_core_check.proofs.Within.{on, on_done, here, reached}
use Rattle.qtt_core_check.proofs.Continuing.{Passes, middle, done-is, refused, done-passes, passes-then, passes-after, passes-mapped, passes-along}
use Rattle.qtt_core_check.proofs.Arguments.{length-wanted}
use Rattle.qtt_core_check.proofs.Scopes.{length-tele}
use Rattle.qtt_term.proofs.Binders.{side-joined, push-append}

-- ---- sums of uses
sum-assoc : (us vs ws : List Mult) → usage_sum (usage_sum us vs) ws ≡ usage_sum us (usage_sum vs ws)
sum-assoc [] vs ws = refl
sum-assoc (u ∷ us) [] ws = refl
sum-assoc (u ∷ us) (v ∷ vs) [] = refl
sum-assoc (u ∷ us) (v ∷ vs) (w ∷ ws) = ap₂ (λ m ms. m ∷ ms) (⊕-assoc u v w) (sum-assoc us vs ws)

none-sum : (n : ℕ) (us : List Mult) → length us ≡ n → usage_sum (no_usage n) us ≡ us
none-sum zero [] e = refl
none-sum zero (u ∷ us) e = absurd (cc e)
none-sum (suc n) [] e = absurd (cc e)
none-sum (suc n) (u ∷ us) e = ap₂ (λ m ms. m ∷ ms) (zero-⊕ u) (none-sum n us (cc e))

pub sum-none : (n : ℕ) (us : List Mult) → length us ≡ n → usage_sum us (no_usage n) ≡ us
sum-none zero [] e = refl
sum-none zero (u ∷ us) e = absurd (cc e)
sum-none (suc n) [] e = absurd (cc e)
sum-none (suc n) (u ∷ us) e = ap₂ (λ m ms. m ∷ ms) (⊕-zero u) (sum-none n us (cc e))

pub size-side : (ts : List Term) → size (side_by_side ts) ≡ length ts
size-side [] = refl
size-side (t ∷ ts) = ap suc (size-side ts)

module _ {E : Env} {n : ℕ} (p : Part) (Γ : Ctx) where
  pub append-reaches : (xs ys : List Wanted) (σ : ℕ → Term) (ts ss : Terms) (us ws : List Mult) →
      size ts ≡ length xs → length ws ≡ length Γ →
      Reaches E n (arguments E p Γ xs σ ts) us → Reaches E n (arguments E p Γ ys (push ts σ) ss) ws →
      Reaches E n (arguments E p Γ (xs ++ ys) σ (ts +++ ss)) (usage_sum us ws)
  append-reaches [] ys σ ε ss us ws z l r s =
      reached s (sym (ap (λ us. usage_sum us ws) (sym (done-is r)) ∙ none-sum (length Γ) ws l))
  append-reaches [] ys σ (t ▸ ts) ss us ws z l r s = absurd (cc z)
  append-reaches (x ∷ xs) ys σ ε ss us ws z l r s = absurd (cc z)
  append-reaches (x ∷ xs) ys σ (t ▸ ts) ss us ws z l r s =
      let a = middle (has Γ (infer E (under p x.mult) Γ t) (sub σ x.type) x.premise) _ r in
      let b = middle (arguments E p Γ xs (cons t σ) ts) _ a.after in
      let rest = append-reaches xs ys (cons t σ) ts ss b.mid ws (cc z) l b.first s in
      reached (on _ a.first (on _ rest on_done))
      (sym (sum-assoc (usage_scale x.mult a.mid) b.mid ws) ∙ ap (λ us. usage_sum us ws) (done-is b.after))

  pub append-first : (xs ys : List Wanted) (σ : ℕ → Term) (ts ss : Terms) → size ts ≡ length xs →
      Passes E n (arguments E p Γ xs σ ts) (arguments E p Γ (xs ++ ys) σ (ts +++ ss))
  append-first [] ys σ ε ss z = done-passes (no_usage (length Γ)) (arguments E p Γ ys σ ss)
  append-first [] ys σ (t ▸ ts) ss z = absurd (cc z)
  append-first (x ∷ xs) ys σ ε ss z = absurd (cc z)
  append-first (x ∷ xs) ys σ (t ▸ ts) ss z =
      passes-along (has Γ (infer E (under p x.mult) Γ t) (sub σ x.type) x.premise) _ _
      (λ u r. passes-mapped (arguments E p Γ xs (cons t σ) ts) (λ w. usage_sum (usage_scale x.mult u) w) _ _
      (append-first xs ys (cons t σ) ts ss (cc z)))

  pub append-second : (xs ys : List Wanted) (σ : ℕ → Term) (ts ss : Terms) (us : List Mult) → size ts ≡ length xs →
      Reaches E n (arguments E p Γ xs σ ts) us →
      Passes E n (arguments E p Γ ys (push ts σ) ss) (arguments E p Γ (xs ++ ys) σ (ts +++ ss))
  append-second [] ys σ ε ss us z r = record { fails = λ f d. d; spent = λ x q d. d }
  append-second [] ys σ (t ▸ ts) ss us z r = absurd (cc z)
  append-second (x ∷ xs) ys σ ε ss us z r = absurd (cc z)
  append-second (x ∷ xs) ys σ (t ▸ ts) ss us z r =
      let a = middle (has Γ (infer E (under p x.mult) Γ t) (sub σ x.type) x.premise) _ r in
      let b = middle (arguments E p Γ xs (cons t σ) ts) _ a.after in
      passes-after _ _ a.first (passes-then _ (append-second xs ys (cons t σ) ts ss b.mid (cc z) b.first))

  pub one-reaches : (x : Wanted) (σ : ℕ → Term) (t : Term) (us : List Mult) → length us ≡ length Γ →
      Reaches E n (has Γ (infer E (under p x.mult) Γ t) (sub σ x.type) x.premise) us →
      Reaches E n (arguments E p Γ (x ∷ []) σ (t ▸ ε)) (usage_scale x.mult us)
  one-reaches x σ t us l r =
      reached (on _ r (on _ on_done on_done))
      (sum-none (length Γ) (usage_scale x.mult us) (length-scaled x.mult us ∙ l))

-- ---- the code's lists, argument by argument
pub wanted-append : (r : Premise) (Θ Ξ : Tele) → wanted r (Θ ++ Ξ) ≡ wanted r Θ ++ wanted r Ξ
wanted-append r [] Ξ = refl
wanted-append r (b ∷ Θ) Ξ = ap (λ ws. record { premise = r; mult = b.0; type = b.1 } ∷ ws) (wanted-append r Θ Ξ)

pub filled-more : (vs ws ts : List code.Term) → terms ws ≡ terms vs ++ terms ts →
    filled ws ≡ push (side_by_side (terms ts)) (filled vs)
filled-more vs ws ts e =
    ap (λ us. push (side_by_side us) closed) e ∙ ap (λ us. push us closed) (side-joined (terms vs) (terms ts))
    ∙ push-append (side_by_side (terms vs)) (side_by_side (terms ts)) closed

abbrev want : Premise → Mult × code.Term → Wanted
want r x = record { premise = r; mult = x.0; type = term x.1 }

-- the first k of the arguments
abbrev pub first_asks : Env → Part → Ctx → Premise → List (Mult × code.Term) →
    (ℕ → Term) → List code.Term → ℕ → Asks (List Mult)
first_asks E p Γ r bs σ ts k = arguments E p Γ (wanted r (tele (take k bs))) σ (side_by_side (terms (take k ts)))

-- the argument at place k
abbrev pub has_asks : Env → Part → Ctx → Premise → (ℕ → Term) → List code.Term → ℕ → Mult × code.Term →
    code.Term → Asks (List Mult)
has_asks E p Γ r σ ts k x a =
    has Γ (infer E (under p x.0) Γ (term a)) (sub (push (side_by_side (terms (take k ts))) σ) (term x.1)) r

-- so far these are the uses
pub record SoFar (E : Env) (n : ℕ) (p : Part) (Γ : Ctx) (r : Premise) (bs : List (Mult × code.Term))
    (σ : ℕ → Term) (ts : List code.Term) (k : ℕ) (us : List Mult) : Type 0 where
  pub reached : Reaches E n (first_asks E p Γ r bs σ ts k) us
  pub counted : length us ≡ length Γ

taken : {A : Type 0} (xs : List A) (x : A) (k : ℕ) → k < length xs → x ≡ get_or xs k x →
    take (k + 1) xs ≡ take k xs ++ x ∷ []
taken xs x k h e = take_more xs k x h ∙ ap (λ y. take k xs ++ y ∷ []) (sym e)

left : {A : Type 0} (xs : List A) (x : A) (k : ℕ) → k < length xs → x ≡ get_or xs k x →
    xs ≡ take k xs ++ (x ∷ drop (suc k) xs)
left xs x k h e = sym (take-append-drop k xs) ∙ ap (λ ys. take k xs ++ ys)
    (drop-cons xs k x h ∙ ap (λ y. y ∷ drop (suc k) xs) (sym e))

sizes : (r : Premise) (bs : List (Mult × code.Term)) (ts : List code.Term) (k : ℕ) → k ≤ length bs →
    length bs ≡ length ts →
    size (side_by_side (terms (take k ts))) ≡ length (wanted r (tele (take k bs)))
sizes r bs ts k h e =
    size-side (terms (take k ts)) ∙ length-map (take k ts) term ∙ length-take-le k ts (omega arith)
    ∙ sym (length-wanted r (tele (take k bs)) ∙ length-tele (take k bs) ∙ length-take-le k bs h)

module _ {E : Env} {n : ℕ} (p : Part) (Γ : Ctx) (r : Premise) (bs : List (Mult × code.Term)) (σ : ℕ → Term)
    (ts : List code.Term) where
  pub args-none : (us : List Mult) → us ≡ no_usage (length Γ) → SoFar E n p Γ r bs σ ts 0 us
  args-none us e = record { reached = reached on_done (sym e); counted = ap length e ∙ length-none (length Γ) }

  pub args-step : (k : ℕ) (x : Mult × code.Term) (a : code.Term) (acc us ws : List Mult) → k < length bs →
      length bs ≡ length ts → x ≡ get_or bs k x → a ≡ get_or ts k a →
      length us ≡ length Γ → ws ≡ usage_sum acc (usage_scale x.0 us) → SoFar E n p Γ r bs σ ts k acc →
      Reaches E n (has_asks E p Γ r σ ts k x a) us →
      SoFar E n p Γ r bs σ ts (k + 1) ws
  args-step k x a acc us ws h e i j l z s t =
      let w : wanted r (tele (take (k + 1) bs)) ≡ wanted r (tele (take k bs)) ++ want r x ∷ [] =
      ap (λ bs. wanted r (tele bs)) (taken bs x k h i) ∙ ap (wanted r)
      (map-append (λ b. (b.0, term b.1)) (take k bs) (x ∷ []))
      ∙ wanted-append r (tele (take k bs)) ((x.0, term x.1) ∷ []) in
      let d : side_by_side (terms (take (k + 1) ts)) ≡ side_by_side (terms (take k ts)) +++ (term a ▸ ε) =
      ap (λ us. side_by_side (terms us)) (taken ts a k (omega arith) j) ∙ ap side_by_side
      (map-append term (take k ts) (a ∷ []))
      ∙ side-joined (terms (take k ts)) (term a ∷ []) in
      let m : length (usage_scale x.0 us) ≡ length Γ = length-scaled x.0 us ∙ l in
      record {
        reached =
            reached (subst (λ m. Reaches E n m (usage_sum acc (usage_scale x.0 us)))
            (sym (ap₂ (λ ws ss. arguments E p Γ ws σ ss) w d))
            (append-reaches p Γ (wanted r (tele (take k bs))) (want r x ∷ []) σ (side_by_side (terms (take k ts)))
            (term a ▸ ε) acc (usage_scale x.0 us) (sizes r bs ts k (omega arith) e)
            m s.reached (one-reaches p Γ (want r x) (push (side_by_side (terms (take k ts))) σ) (term a) us l t)))
            (sym z);
        counted = ap length z ∙ length-sum acc (usage_scale x.0 us) (length Γ) s.counted m;
      }

  pub args-stop : (k : ℕ) (x : Mult × code.Term) (a : code.Term) (acc : List Mult) (f : CoreRefusal) →
      k < length bs → length bs ≡ length ts → x ≡ get_or bs k x →
      a ≡ get_or ts k a → SoFar E n p Γ r bs σ ts k acc → Refuses E n (has_asks E p Γ r σ ts k x a) f →
      Refuses E n (arguments E p Γ (wanted r (tele bs)) σ (side_by_side (terms ts))) f
  args-stop k x a acc f h e i j s t =
      let w : wanted r (tele bs) ≡ wanted r (tele (take k bs)) ++ (want r x ∷ wanted r (tele (drop (suc k) bs))) =
      ap (λ bs. wanted r (tele bs)) (left bs x k h i) ∙ ap (wanted r)
      (map-append (λ b. (b.0, term b.1)) (take k bs) (x ∷ drop (suc k) bs))
      ∙ wanted-append r (tele (take k bs)) ((x.0, term x.1) ∷ tele (drop (suc k) bs)) in
      let d : side_by_side (terms ts) ≡ side_by_side (terms (take k ts)) +++
      (term a ▸ side_by_side (terms (drop (suc k) ts))) =
      ap (λ us. side_by_side (terms us)) (left ts a k (omega arith) j) ∙ ap side_by_side
      (map-append term (take k ts) (a ∷ drop (suc k) ts))
      ∙ side-joined (terms (take k ts)) (term a ∷ terms (drop (suc k) ts)) in
      subst (λ m. Refuses E n m f) (sym (ap₂ (λ ws ss. arguments E p Γ ws σ ss) w d))
      (refused
      (append-second p Γ (wanted r (tele (take k bs))) (want r x ∷ wanted r (tele (drop (suc k) bs))) σ
      (side_by_side (terms (take k ts)))
      (term a ▸ side_by_side (terms (drop (suc k) ts))) acc (sizes r bs ts k (omega arith) e) s.reached)
      f (here E n _ _ f t))

  pub args-all : (k : ℕ) (acc : List Mult) → length bs ≡ length ts → length ts ≤ k → SoFar E n p Γ r bs σ ts k acc →
      Reaches E n (arguments E p Γ (wanted r (tele bs)) σ (side_by_side (terms ts))) acc
  args-all k acc e h s =
      subst (λ m. Reaches E n m acc)
      (ap₂ (λ bs ts. arguments E p Γ (wanted r (tele bs)) σ (side_by_side (terms ts)))
      (take_all k bs (omega arith)) (take_all k ts h)) s.reached

-- one more value behind those of a telescope before it
pub values-step : (vs ws us : List code.Term) (x a : code.Term) (ts : List code.Term) (k : ℕ) → k < length ts →
    a ≡ get_or ts k a → ws ≡ vs ++ x ∷ [] → term x ≡ term a →
    terms vs ≡ terms us ++ terms (take k ts) → terms ws ≡ terms us ++ terms (take (k + 1) ts)
values-step vs ws us x a ts k h i e s so =
    ap terms e ∙ map-append term vs (x ∷ []) ∙ ap₂ (λ us t. us ++ t ∷ []) so s
    ∙ append_assoc (terms us) (terms (take k ts)) (term a ∷ [])
    ∙ ap (λ vs. terms us ++ vs) (sym (ap terms (taken ts a k h i) ∙ map-append term (take k ts) (a ∷ [])))
