-- What is left of the components that the code's lists make.
use Rattle.std.proofs.Common.{◌≡◌, ℕ, zero, suc, ◌+◌, ◌<◌, List, [], ◌∷◌, ◌++◌, length, map, drop, get_or, None, refl, ◌∙◌, ap, subst, arith}
use Rattle.std.proofs.lemmas.Grind.{common_steps}
use Rattle.qtt_term.specs.declared.term.Term as term_lemmas
use Rattle.qtt_erase.specs.declared.lean.Lean as lean_lemmas
use Rattle.qtt_usage.specs.declared.mult.Mult.{Mult}
use Rattle.qtt_usage.specs.Mult.{𝟘, 𝟙, ω}
use Rattle.qtt_base.specs.declared.place.GlobalId.{GlobalId}
use Rattle.qtt_prims.specs.declared.prim.Primitive.{Primitive}
use Rattle.qtt_term.specs.Term.{Action, Named, Form, Term, Terms, ε, ◌▸◌, ◌+++◌, node}
use Rattle.qtt_term.specs.Signature.{Constructor, Env, family_at, prim_signature, act_signature}
use Rattle.qtt_term.specs.View as term_view
use Rattle.qtt_term.specs.Value.{mults, field_mults}
use Rattle.qtt_erase.specs.Binding.{Tree, ∅, ◌◂◌, ◌◂◂◌}
use Rattle.qtt_erase.specs.Operator.{Operator, Con, Call, Act, Ty}
use Rattle.qtt_erase.specs.Erasure.{Slot, Slots, field_slot, extend, field_slots, places, arguments, without, branches, fates, kept_binders, erase, erases}
use Rattle.qtt_erase.specs.View.{side_by_side}
use Rattle.qtt_erase.specs.Erased.{erased_at, erased_branch, erased_branches}

-- no field is left where there are no multiplicities
pub none_left : (q : Mult) (n : ℕ) → places (field_slots q [] n) ≡ 0
none_left q zero = refl
none_left q (suc n) = none_left q n

none_dropped : {A : Type 0} (k : ℕ) → drop {A = A} k [] ≡ []
none_dropped zero = refl
none_dropped (suc k) = refl

module _ (E : Env) (Γ : Slots) where
  -- arguments, of which some go
  pub arguments_left : (ms : List Mult) (ts : List Term) →
      erases E Γ (arguments ms) (term_view.side_by_side ts) ≡ side_by_side (erased_at E Γ ms ts)
  arguments_left [] [] = refl
  arguments_left [] (t ∷ ts) = refl
  arguments_left (m ∷ ms) [] = refl
  arguments_left (𝟘 ∷ ms) (t ∷ ts) = arguments_left ms ts
  arguments_left (𝟙 ∷ ms) (t ∷ ts) = ap (λ ls. erase E Γ t ◂ ls) (arguments_left ms ts)
  arguments_left (ω ∷ ms) (t ∷ ts) = ap (λ ls. erase E Γ t ◂ ls) (arguments_left ms ts)

  -- after as many that go
  pub skipped : (ps : List Term) (fs : _) (ts : Terms) →
      erases E Γ (without (length ps) fs) (term_view.side_by_side ps +++ ts) ≡ erases E Γ fs ts
  skipped [] fs ts = refl
  skipped (p ∷ ps) fs ts = skipped ps fs ts

  -- of two lists, one behind the other
  pub both_left : (ms : List Mult) (ts us : List Term) →
      erases E Γ (arguments ms) (term_view.side_by_side ts +++ term_view.side_by_side us) ≡ side_by_side
      (erased_at E Γ ms ts ++ erased_at E Γ (drop (length ts) ms) us)
  both_left [] [] us = arguments_left [] us
  both_left (m ∷ ms) [] us = arguments_left (m ∷ ms) us
  both_left [] (t ∷ ts) us = refl
  both_left (𝟘 ∷ ms) (t ∷ ts) us = both_left ms ts us
  both_left (𝟙 ∷ ms) (t ∷ ts) us = ap (λ ls. erase E Γ t ◂ ls) (both_left ms ts us)
  both_left (ω ∷ ms) (t ∷ ts) us = ap (λ ls. erase E Γ t ◂ ls) (both_left ms ts us)

  -- branches and a scrutinee
  pub branches_left : (q : Mult) (cs : List Constructor) (bs : List (ℕ × Term)) (s : Term) →
      erases E Γ (branches q cs (map (λ b. b.0) bs)) (term_view.side_by_side (map (λ b. b.1) bs) +++ (s ▸ ε))
      ≡ side_by_side (map (λ b. b.1) (erased_branches E Γ q cs bs)) ◂◂ erase E Γ s ◂ ∅
  branches_left q cs [] s = refl
  branches_left q [] (b ∷ bs) s =
      ap (λ ls. erase E (extend Γ (field_slots q [] b.0)) b.1 ◂ ls) (branches_left q [] bs s)
  branches_left q (c ∷ cs) (b ∷ bs) s =
      ap (λ ls. erase E (extend Γ (field_slots q (mults c.fields) b.0)) b.1 ◂ ls) (branches_left q cs bs s)

  pub binders_left : (q : Mult) (cs : List Constructor) (bs : List (ℕ × Term)) →
      kept_binders q cs (map (λ b. b.0) bs) ≡ map (λ b. b.0) (erased_branches E Γ q cs bs)
  binders_left q cs [] = refl
  binders_left q [] (b ∷ bs) = ap (λ ns. places (field_slots q [] b.0) ∷ ns) (binders_left q [] bs)
  binders_left q (c ∷ cs) (b ∷ bs) = ap (λ ns. places (field_slots q (mults c.fields) b.0) ∷ ns) (binders_left q cs bs)

-- ---- forms of the code's terms
module _ (E : Env) (Γ : Slots) where
  pub fam_left : (f : GlobalId) (ts : Terms) → erase E Γ (node (Form.fam f) ts) ≡ Ty
  fam_left f ε = refl
  fam_left f (t ▸ ts) = refl

  pub con_left : (f : GlobalId) (c : ℕ) (ps ts : List Term) →
      erase E Γ (node (Form.con f c (length ps)) (term_view.side_by_side ps +++ term_view.side_by_side ts))
      ≡ Con c (side_by_side (erased_at E Γ (field_mults (family_at E f).constructors c) ts))
  con_left f c ps ts =
      ap (Tree.node (Operator.con c))
      (skipped E Γ ps _ (term_view.side_by_side ts) ∙ arguments_left E Γ
      (field_mults (family_at E f).constructors c) ts)

  pub prim_left : (p : Primitive) (ts : List Term) →
      erase E Γ (node (Form.named (Named.prim p)) (term_view.side_by_side ts)) ≡ Call p
      (side_by_side (erased_at E Γ (mults (prim_signature p).arguments) ts))
  prim_left p ts = ap (Tree.node (Operator.prim p)) (arguments_left E Γ (mults (prim_signature p).arguments) ts)

  pub act_left : (a : Action) (k : ℕ) (ts us : List Term) →
      erase E Γ (node (Form.named (Named.act a k)) (term_view.side_by_side ts +++ term_view.side_by_side us))
      ≡ Act a (side_by_side (erased_at E Γ (mults (act_signature a).arguments) ts ++ erased_at E Γ
      (drop (length ts) (mults (act_signature a).arguments)) us))
  act_left a k ts us = ap (Tree.node (Operator.act a)) (both_left E Γ (mults (act_signature a).arguments) ts us)

  pub case_left : (q : Mult) (f : GlobalId) (ps : List Term) (m : ℕ) (P : Term) (bs : List (ℕ × Term)) (s : Term) →
      erase E Γ (node (Form.case q f (length ps) m (map (λ b. b.0) bs))
      (term_view.side_by_side ps +++ (P ▸ (term_view.side_by_side (map (λ b. b.1) bs) +++ (s ▸ ε)))))
      ≡ Tree.node (Operator.case (map (λ b. b.0) (erased_branches E Γ q (family_at E f).constructors bs)))
      (side_by_side (map (λ b. b.1) (erased_branches E Γ q (family_at E f).constructors bs)) ◂◂ erase E Γ s ◂ ∅)
  case_left q f ps m P bs s =
      ap (λ ns. Tree.node (Operator.case ns)
      (erases E Γ (fates E (Form.case q f (length ps) m (map (λ b. b.0) bs))) components))
      (binders_left E Γ q cs bs)
      ∙ ap (Tree.node (Operator.case (map (λ b. b.0) (erased_branches E Γ q cs bs))))
      (skipped E Γ ps (None ∷ branches q cs (map (λ b. b.0) bs))
      (P ▸ (term_view.side_by_side (map (λ b. b.1) bs) +++ (s ▸ ε))) ∙ branches_left E Γ q cs bs s)
    where
      cs : List Constructor
      cs = (family_at E f).constructors

      components : Terms
      components = term_view.side_by_side ps +++ (P ▸ (term_view.side_by_side (map (λ b. b.1) bs) +++ (s ▸ ε)))

  -- ---- along lists
  pub at_none : (ms : List Mult) → erased_at E Γ ms [] ≡ []
  at_none [] = refl
  at_none (m ∷ ms) = refl

  next_branch : {X : Type 0} (f : X → ℕ × Term) (q : Mult) (cs : List Constructor) (bs : List X) (k : ℕ) (d : X) →
      k < length bs →
      erased_branches E Γ q (drop k cs) (map f (drop k bs))
      ≡ erased_branch E Γ q (field_mults cs k) (f (get_or bs k d)) ∷ erased_branches E Γ q (drop (suc k) cs)
      (map f (drop (suc k) bs))
  next_branch f q cs [] k d h = absurd (omega arith)
  next_branch f q [] (b ∷ bs) zero d h = refl
  next_branch f q (c ∷ cs) (b ∷ bs) zero d h = refl
  next_branch f q [] (b ∷ bs) (suc k) d h =
      subst (λ cs. erased_branches E Γ q cs (map f (drop k bs)) ≡ erased_branch E Γ q [] (f (get_or bs k d)) ∷
      erased_branches E Γ q [] (map f (drop (suc k) bs)))
      (none_dropped k) (next_branch f q [] bs k d (omega arith))
  next_branch f q (c ∷ cs) (b ∷ bs) (suc k) d h = next_branch f q cs bs k d (omega arith)

  pub one_more_branch : {X : Type 0} (f : X → ℕ × Term) (q : Mult) (cs : List Constructor) (bs : List X) (k : ℕ)
      (d : X) → k < length bs →
      erased_branches E Γ q (drop k cs) (map f (drop k bs))
      ≡ erased_branch E Γ q (field_mults cs k) (f (get_or bs k d)) ∷ erased_branches E Γ q (drop (k + 1) cs)
      (map f (drop (k + 1) bs))
  one_more_branch f q cs bs k d h =
      let e : suc k ≡ k + 1 = omega arith in
      next_branch f q cs bs k d h ∙
      ap (λ n. erased_branch E Γ q (field_mults cs k) (f (get_or bs k d)) ∷ erased_branches E Γ q (drop n cs)
      (map f (drop n bs))) e

-- ---- a body under fields
pub body_none : (Γ : Slots) (q : Mult) (n m : ℕ) → n ≡ suc m →
    extend Γ (field_slots q [] n) ≡ extend (Slot.gone ∷ Γ) (field_slots q [] m)
body_none Γ q n m e = ap (λ k. extend Γ (field_slots q [] k)) e

pub body_more : (Γ : Slots) (q p : Mult) (ms : List Mult) (n m : ℕ) → n ≡ suc m →
    extend Γ (field_slots q (p ∷ ms) n) ≡ extend (field_slot q p ∷ Γ) (field_slots q ms m)
body_more Γ q p ms n m e = ap (λ k. extend Γ (field_slots q (p ∷ ms) k)) e

-- what the functions of erasure want
pub ruleset erasures = (
  term_lemmas.the_lemmas,
  lean_lemmas.the_lemmas,
  common_steps,
  fam_left,
  con_left,
  prim_left,
  act_left,
  case_left,
  body_none,
  body_more,
  at_none,
  one_more_branch,
)
