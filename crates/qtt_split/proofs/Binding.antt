-- Binders that a type opens, one after another.
use Rattle.std.proofs.Common.{◌≡◌, ◌∙◌, ℕ, suc, ◌+◌, ◌-◌, ◌<◌, ◌≤◌, List, [], ◌∷◌, ◌++◌, length, reverse, Some, None, refl, sym, ap, subst, arith, append_assoc}
use Rattle.std.proofs.lemmas.List.{length-map, length-append, length-reverse, map-append, reverse-append}
use mathlib.Core.Path.{fun_ext}
use Rattle.qtt_base.specs.declared.place.Span.{Span}
use Rattle.qtt_usage.specs.declared.mult.Mult.{Mult}
use Rattle.qtt_term.specs.declared.term.Term as code
use Rattle.qtt_term.specs.Term.{Form, Term, node, ε, ◌▸◌, Pi}
use Rattle.qtt_term.proofs.Options.{none≢some, some-injective}
use Rattle.qtt_term.specs.Signature.{Env, Tele}
use Rattle.qtt_term.specs.Judgement.{Ctx}
use Rattle.qtt_term.specs.Ask.{Ask, ◌>>=◌, Ending, within}
use Rattle.qtt_term.specs.Forms.{Function, as_function}
use Rattle.qtt_term.specs.Telescopes.{tele}
use Rattle.qtt_term.specs.View.{term}
use Rattle.qtt_rules.specs.declared.errors.ElabError.{ElabError}
use Rattle.qtt_rules.specs.Refusal.{Cause, Place, Refusal, refused}
use Rattle.qtt_rules.specs.Asks.{Asks, head_of, found}
use Rattle.qtt_unify.proofs.Within.{onward, within-then}
use Rattle.qtt_split.specs.Answers.{Reaches, Fails, Refuses}
use Rattle.qtt_split.specs.Plan.{Opened, opened}
use Rattle.qtt_split.specs.Tests.{Test, at}
use Rattle.qtt_split.proofs.Within.{on_done, past, here, refuses-alike}

abbrev pub prefixed : Tele → Opened → Asks Opened
prefixed Θ O = Ask.done (record { binders = Θ ++ O.binders; goal = O.goal })

onward-done : {A : Type 0} (E : Env) (n : ℕ) (e : Ending Refusal Place A) →
    onward e (λ a. within E n (Ask.done a)) ≡ e
unfolding within
onward-done E n (Ending.ok a) = refl
onward-done E n (Ending.fails f) = refl
onward-done E n (Ending.spent p q) = refl

onward-onward : {A B C : Type 0} (e : Ending Refusal Place A) (f : A → Ending Refusal Place B)
    (g : B → Ending Refusal Place C) → onward (onward e f) g ≡ onward e (λ a. onward (f a) g)
onward-onward (Ending.ok a) f g = refl
onward-onward (Ending.fails x) f g = refl
onward-onward (Ending.spent p q) f g = refl

-- one list and then a change of its answer, and what follows that
pub changed-then : {A B C : Type 0} (E : Env) (n : ℕ) (m : Asks A) (f : A → B) (k : B → Asks C) →
    within E n ((m >>= (λ a. Ask.done (f a))) >>= k) ≡ within E n (m >>= (λ a. k (f a)))
unfolding within
changed-then E n m f k =
    within-then E n (m >>= (λ a. Ask.done (f a))) k ∙
    ap (λ e. onward e (λ b. within E n (k b))) (within-then E n m (λ a. Ask.done (f a))) ∙
    onward-onward (within E n m) (λ a. Ending.ok (f a)) (λ b. within E n (k b)) ∙
    sym (within-then E n m (λ a. k (f a)))

pub then-done : {A : Type 0} (E : Env) (n : ℕ) (m : Asks A) → within E n (m >>= (λ a. Ask.done a)) ≡ within E n m
then-done E n m = within-then E n m (λ a. Ask.done a) ∙ onward-done E n (within E n m)

abbrev next : Span → ℕ → Ctx → Function → Asks Opened
next s k Γ F = opened s k ((F.mult, F.domain) ∷ Γ) F.codomain

abbrev with_function : Function → Opened → Opened
with_function F O = record { binders = (F.mult, F.domain) ∷ O.binders; goal = O.goal }

-- behind the head of a function type
opened-past : (E : Env) (n : ℕ) (s : Span) (k : ℕ) (Γ : Ctx) (A : Term) (q : Mult) (D C : Term) →
    Reaches E n (head_of (at s Test.opens) (length Γ) A) (Pi q D C) →
    within E n (opened s (suc k) Γ A)
    ≡ within E n (next s k Γ (record { mult = q; domain = D; codomain = C }) >>=
    (λ O. Ask.done (with_function (record { mult = q; domain = D; codomain = C }) O)))
opened-past E n s k Γ A q D C h =
    let p = at s Test.opens in
    let F : Function = record { mult = q; domain = D; codomain = C } in
    let c = Cause.not_a_function (length Γ) A in
    let rest : Function → Asks Opened = λ F. next s k Γ F >>= (λ O. Ask.done (with_function F O)) in
    past E n (head_of p (length Γ) A) (λ h. found (as_function h) c p >>= rest) h ∙
    past E n (found (as_function (Pi q D C)) c p) rest {a = F} on_done

pub record OpenedSoFar (E : Env) (n : ℕ) (s : Span) (count : ℕ) (A : Term) (i : ℕ) (bs : List (Mult × code.Term))
    (goal : Term) : Type 0 where
  pub is : within E n (opened s count [] A)
      ≡ within E n (opened s (count - i) (reverse (tele bs)) goal >>= prefixed (tele bs))
  pub long : length bs ≡ i

pub none-opened : (E : Env) (n : ℕ) (s : Span) (count : ℕ) (A goal : Term) → goal ≡ A →
    OpenedSoFar E n s count A 0 [] goal
none-opened E n s count A goal e = record {
  is =
      let z : count ≡ count - 0 = omega arith in
      ap (λ k. within E n (opened s k [] A)) z ∙ ap (λ t. within E n (opened s (count - 0) [] t)) (sym e) ∙
      sym (then-done E n (opened s (count - 0) [] goal));
  long = refl;
}

abbrev depth_of : List (Mult × code.Term) → ℕ
depth_of bs = length (reverse (tele bs))

pub depth-is : (bs : List (Mult × code.Term)) → length (reverse (tele bs)) ≡ length bs
depth-is bs = length-reverse (tele bs) ∙ length-map bs (λ b. (b.0, term b.1))

-- one binder more
pub one-opened : (E : Env) (n : ℕ) (s : Span) (count : ℕ) (A : Term) (i : ℕ) (bs : List (Mult × code.Term))
    (goal : Term) (q : Mult) (D : code.Term) (C : Term) → i < count →
    Reaches E n (head_of (at s Test.opens) i goal) (Pi q (term D) C) →
    OpenedSoFar E n s count A i bs goal → OpenedSoFar E n s count A (i + 1) (bs ++ (q, D) ∷ []) C
one-opened E n s count A i bs goal q D C h r so = record {
  is =
      let k : count - i ≡ suc (count - (i + 1)) = omega arith in
      let d : length (reverse (tele bs)) ≡ i = depth-is bs ∙ so.long in
      let F : Function = record { mult = q; domain = term D; codomain = C } in
      let Γ = reverse (tele bs) in
      let at_head : Reaches E n (head_of (at s Test.opens) (length Γ) goal) (Pi q (term D) C) =
      subst (λ m. Reaches E n (head_of (at s Test.opens) m goal) (Pi q (term D) C)) (sym d) r in
      let more : tele (bs ++ (q, D) ∷ []) ≡ tele bs ++ (q, term D) ∷ [] = map-append (λ b. (b.0, term b.1)) bs _ in
      so.is ∙ ap (λ m. within E n (opened s m Γ goal >>= prefixed (tele bs))) k ∙
      within-then E n (opened s (suc (count - (i + 1))) Γ goal) (prefixed (tele bs)) ∙
      ap (λ e. onward e (λ O. within E n (prefixed (tele bs) O)))
      (opened-past E n s (count - (i + 1)) Γ goal q (term D) C at_head) ∙
      sym (within-then E n (next s (count - (i + 1)) Γ F >>= (λ O. Ask.done (with_function F O)))
      (prefixed (tele bs))) ∙
      changed-then E n (next s (count - (i + 1)) Γ F) (with_function F) (prefixed (tele bs)) ∙
      ap (λ f. within E n (next s (count - (i + 1)) Γ F >>= f))
      (fun_ext (λ (O : Opened). ap (λ Θ. Ask.done (record { binders = Θ; goal = O.goal }))
      (sym (append_assoc (tele bs) ((q, term D) ∷ []) O.binders) ∙ ap (λ Θ. Θ ++ O.binders) (sym more)))) ∙
      ap (λ Δ. within E n (opened s (count - (i + 1)) Δ C >>= prefixed (tele (bs ++ (q, D) ∷ []))))
      (sym (ap reverse more ∙ reverse-append (tele bs) ((q, term D) ∷ [])));
  long = length-append bs ((q, D) ∷ []) ∙ ap (λ m. m + 1) so.long;
}

pub opening-refused : (E : Env) (n : ℕ) (s : Span) (count : ℕ) (A : Term) (i : ℕ) (bs : List (Mult × code.Term))
    (goal : Term) (e : ElabError) → i < count → Refuses E n (head_of (at s Test.opens) i goal) e →
    OpenedSoFar E n s count A i bs goal → Refuses E n (opened s count [] A) e
opening-refused E n s count A i bs goal e h r so =
    let k : count - i ≡ suc (count - (i + 1)) = omega arith in
    let d : length (reverse (tele bs)) ≡ i = depth-is bs ∙ so.long in
    let Γ = reverse (tele bs) in
    let m = opened s (suc (count - (i + 1))) Γ goal in
    let inner : Refuses E n m e =
    here E n (head_of (at s Test.opens) (length Γ) goal) _ e
    (subst (λ j. Refuses E n (head_of (at s Test.opens) j goal) e) (sym d) r) in
    refuses-alike E n (m >>= prefixed (tele bs)) (opened s count [] A) e
    (so.is ∙ ap (λ j. within E n (opened s j Γ goal >>= prefixed (tele bs))) k)
    (here E n m (prefixed (tele bs)) e inner)

pub all-opened : (E : Env) (n : ℕ) (s : Span) (count : ℕ) (A : Term) (i : ℕ) (bs : List (Mult × code.Term))
    (goal : Term) → count ≤ i → OpenedSoFar E n s count A i bs goal →
    Reaches E n (opened s count [] A) (record { binders = tele bs; goal = goal })
unfolding within ◌>>=◌
all-opened E n s count A i bs goal h so = record {
  is =
      let k : count - i ≡ 0 = omega arith in
      so.is ∙ ap (λ m. within E n (opened s m (reverse (tele bs)) goal >>= prefixed (tele bs))) k ∙
      ap (λ Θ. Ending.ok (record { binders = Θ; goal = goal })) (append-none (tele bs));
}
  where
    append-none : (Θ : Tele) → Θ ++ [] ≡ Θ
    append-none [] = refl
    append-none (b ∷ Θ) = ap (λ Ξ. b ∷ Ξ) (append-none Θ)

-- the head is no function type
pub no-function : (E : Env) (n : ℕ) (s : Span) (count : ℕ) (A : Term) (i : ℕ) (bs : List (Mult × code.Term))
    (goal h : Term) → i < count → Reaches E n (head_of (at s Test.opens) i goal) h → as_function h ≡ None →
    OpenedSoFar E n s count A i bs goal →
    Fails E n (opened s count [] A) (Cause.not_a_function i goal) (at s Test.opens)
unfolding within ◌>>=◌
no-function E n s count A i bs goal h l r none so = record {
  is =
      let k : count - i ≡ suc (count - (i + 1)) = omega arith in
      let d : length (reverse (tele bs)) ≡ i = depth-is bs ∙ so.long in
      let Γ = reverse (tele bs) in
      let p = at s Test.opens in
      let at_head : Reaches E n (head_of p (length Γ) goal) h =
      subst (λ m. Reaches E n (head_of p m goal) h) (sym d) r in
      let rest : Term → Asks Opened =
      λ t. found (as_function t) (Cause.not_a_function (length Γ) goal) p >>= (λ F. next s (count - (i + 1)) Γ F >>=
      (λ O. Ask.done (with_function F O))) in
      let inner : within E n (opened s (suc (count - (i + 1))) Γ goal)
      ≡ Ending.fails (refused (Cause.not_a_function (length Γ) goal) p) =
      past E n (head_of p (length Γ) goal) rest at_head ∙
      ap (λ o. within E n (found o (Cause.not_a_function (length Γ) goal) p >>= (λ F. next s (count - (i + 1)) Γ F >>=
      (λ O. Ask.done (with_function F O))))) none in
      so.is ∙ ap (λ m. within E n (opened s m Γ goal >>= prefixed (tele bs))) k ∙
      within-then E n (opened s (suc (count - (i + 1))) Γ goal) (prefixed (tele bs)) ∙
      ap (λ e. onward e (λ O. within E n (prefixed (tele bs) O))) inner ∙
      ap (λ m. Ending.fails (refused (Cause.not_a_function m goal) p)) d;
}

-- a head that is a function type
pub pi-of : (h : Term) (F : Function) → as_function h ≡ Some F → h ≡ Pi F.mult F.domain F.codomain
pi-of (node (Form.pi q) (A ▸ B ▸ ε)) F e = ap (λ G. Pi G.mult G.domain G.codomain) (some-injective e)
pi-of _ F e = absurd (none≢some e)
