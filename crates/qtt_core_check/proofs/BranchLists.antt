-- The branches of a match one after another, within a budget.
use Rattle.std.proofs.Common.{◌≡◌, ℕ, zero, suc, ◌+◌, ◌<◌, ◌≤◌, Bool, true, false, cond, List, [], ◌∷◌, length, drop, map, Option, Some, None, slice_get, get_or, refl, sym, ◌∙◌, ap, arith}
use mathlib.Core.Path.{ap₂}
use Rattle.std.proofs.lemmas.List.{drop_all}
use Rattle.qtt_base.specs.declared.place.GlobalId.{GlobalId}
use Rattle.qtt_usage.specs.declared.mult.Mult.{Mult}
use Rattle.qtt_term.specs.declared.term.Branch as code_branch
use Rattle.qtt_term.specs.Term.{Term}
use Rattle.qtt_term.specs.View.{branch, branches}
use Rattle.qtt_term.specs.Signature.{Env, Constructor, ConSig, con_sigs}
use Rattle.qtt_term.specs.Judgement.{Ctx, Part}
use Rattle.qtt_term.specs.Ask.{◌>>=◌, within}
use Rattle.qtt_term.specs.Accepted.{is_dead}
use Rattle.qtt_term.specs.Infer.{CaseOf, joined_with, with_branch, joined_use}
use Rattle.qtt_core_check.specs.declared.refusal.CoreRefusal.{CoreRefusal}
use Rattle.qtt_core_check.specs.Cases.{branch_asks, branches_ask}
use Rattle.qtt_core_check.specs.Seen.{Reaches, Refuses}
use Rattle.qtt_core_check.proofs.Lists.{length-join, length-none}
use Rattle.qtt_core_check.proofs.Within.{here, on_done}
use Rattle.qtt_core_check.proofs.Continuing.{reach-then, same-refusal}

-- what is left of a list begins with the entry at this place
pub left-at : {A : Type 0} (xs : List A) (k : ℕ) (x : A) → slice_get xs k ≡ Some x → drop k xs ≡ x ∷ drop (suc k) xs
left-at [] k x e = absurd (cc e)
left-at (y ∷ xs) zero x e = let i : y ≡ x = cc e in ap (λ y. y ∷ xs) i
left-at (y ∷ xs) (suc k) x e = left-at xs k x e

pub record Entry {A : Type 0} (xs : List A) (k : ℕ) : Type 0 where
  pub entry : A
  pub there : slice_get xs k ≡ Some entry

pub entry-at : {A : Type 0} (xs : List A) (k : ℕ) → k < length xs → Entry xs k
entry-at [] k h = absurd (omega arith)
entry-at (x ∷ xs) zero h = record { entry = x; there = refl }
entry-at (x ∷ xs) (suc k) h = let e = entry-at xs k (omega arith) in record { entry = e.entry; there = e.there }

pub length-sigs : (f : GlobalId) (k c : ℕ) (ds : List Constructor) → length (con_sigs f k c ds) ≡ length ds
length-sigs f k c [] = refl
length-sigs f k c (d ∷ ds) = ap suc (length-sigs f k (suc c) ds)

-- the join so far, with what is still asked
pub record Joining (E : Env) (n : ℕ) (p : Part) (Γ : Ctx) (c : CaseOf) (σ : ℕ → Term) (P : Term)
    (ds : List ConSig) (bs : List Term) (k : ℕ) (J : Option (List Mult)) : Type 0 where
  pub same : within E n (branches_ask E p Γ c σ P ds bs None) ≡ within E n
      (branches_ask E p Γ c σ P (drop k ds) (drop k bs) J)
  pub counted : length (joined_use (length Γ) J) ≡ length Γ

joined-counted : (b : Bool) (u : List Mult) (J : Option (List Mult)) (n : ℕ) → length u ≡ n →
    length (joined_use n J) ≡ n → length (joined_use n (cond b J (joined_with u J))) ≡ n
joined-counted true u J n l h = h
joined-counted false u None n l h = l
joined-counted false u (Some w) n l h = length-join w u n h l

left-asks : (E : Env) (p : Part) (Γ : Ctx) (c : CaseOf) (σ : ℕ → Term) (P : Term) (ds : List ConSig)
    (bs : List Term) (k : ℕ) (J : Option (List Mult)) (d : ConSig) (b : Term) →
    slice_get ds k ≡ Some d → slice_get bs k ≡ Some b →
    branches_ask E p Γ c σ P (drop k ds) (drop k bs) J
    ≡ branch_asks E p Γ c σ P d b >>=
    (λ u. branches_ask E p Γ c σ P (drop (k + 1) ds) (drop (k + 1) bs) (with_branch b u J))
left-asks E p Γ c σ P ds bs k J d b i j =
    let s : suc k ≡ k + 1 = omega arith in
    ap₂ (λ ds bs. branches_ask E p Γ c σ P ds bs J) (left-at ds k d i ∙ ap (λ k. d ∷ drop k ds) s)
    (left-at bs k b j ∙ ap (λ k. b ∷ drop k bs) s)

module _ {E : Env} {n : ℕ} (p : Part) (Γ : Ctx) (c : CaseOf) (σ : ℕ → Term) (P : Term) (ds : List ConSig)
    (bs : List Term) where
  pub none-joined : Joining E n p Γ c σ P ds bs 0 None
  none-joined = record { same = refl; counted = length-none (length Γ) }

  pub branch-joined : (k : ℕ) (J : Option (List Mult)) (d : ConSig) (b : Term) (u : List Mult) →
      slice_get ds k ≡ Some d → slice_get bs k ≡ Some b → length u ≡ length Γ →
      Joining E n p Γ c σ P ds bs k J → Reaches E n (branch_asks E p Γ c σ P d b) u →
      Joining E n p Γ c σ P ds bs (k + 1) (with_branch b u J)
  branch-joined k J d b u i j l s r = record {
    same = s.same ∙ ap (within E n) (left-asks E p Γ c σ P ds bs k J d b i j) ∙
        reach-then (branch_asks E p Γ c σ P d b) _ r;
    counted = joined-counted (is_dead b) u J (length Γ) l s.counted;
  }

  pub branch-refused : (k : ℕ) (J : Option (List Mult)) (d : ConSig) (b : Term) (e : CoreRefusal) →
      slice_get ds k ≡ Some d → slice_get bs k ≡ Some b →
      Joining E n p Γ c σ P ds bs k J → Refuses E n (branch_asks E p Γ c σ P d b) e →
      Refuses E n (branches_ask E p Γ c σ P ds bs None) e
  branch-refused k J d b e i j s r =
      same-refusal E n _ _ (s.same ∙ ap (within E n) (left-asks E p Γ c σ P ds bs k J d b i j)) e
      (here E n _ _ e r)

  pub all-joined : (k : ℕ) (J : Option (List Mult)) → length ds ≤ k → Joining E n p Γ c σ P ds bs k J →
      Reaches E n (branches_ask E p Γ c σ P ds bs None) J
  all-joined k J h s =
      record {
        is = s.same ∙ ap (λ ds. within E n (branches_ask E p Γ c σ P ds (drop k bs) J)) (drop_all k ds h) ∙
            (none-left (drop k bs) J).is;
      }
    where
      none-left : (bs : List Term) (J : Option (List Mult)) → Reaches E n (branches_ask E p Γ c σ P [] bs J) J
      none-left bs J = on_done

pub bodies-at : (bs : List code_branch.Branch) (k : ℕ) (x : code_branch.Branch) → k < length bs → x ≡ get_or bs k x →
    slice_get (map (λ b. b.1) (branches bs)) k ≡ Some (branch x).1
bodies-at [] k x h e = absurd (omega arith)
bodies-at (b ∷ bs) zero x h e = ap (λ b. Some (branch b).1) (sym e)
bodies-at (b ∷ bs) (suc k) x h e = bodies-at bs k x (omega arith) e
