-- Terms that are the same but for the parameters of constructors have one erasure.
use Rattle.std.proofs.Common.{◌≡◌, ℕ, zero, suc, List, [], ◌∷◌, Some, None, refl, sym, ◌∙◌, ap, subst}
use mathlib.Core.Path.{ap₂, subst₂}
use Rattle.qtt_term.specs.Term.{Form, binders, first, rest, Term, Terms, var, node, ε, ◌▸◌, skip}
use Rattle.qtt_term.specs.Substitution.{ren, rens, lifts_ren, sub, subs, lift, lifts}
use Rattle.qtt_term.specs.Signature.{Env, family_at}
use Rattle.qtt_term.specs.Value.{field_mults}
use Rattle.qtt_term.proofs.Subst.{sub-sub}
use Rattle.qtt_erase.specs.Binding.{Tree, ◌◂◌}
use Rattle.qtt_erase.specs.Erasure.{Slots, Fate, extend, arguments, without, fates, operator, erase, erases}
use Rattle.qtt_split.specs.Laws.{Alike, AllAlike}
use Rattle.qtt_clause_laws.specs.Erased.{ErasesAlike}

-- ---- erasure
erases-without : (E : Env) (Γ : Slots) (k : ℕ) (fs : List Fate) (ts : Terms) →
    erases E Γ (without k fs) ts ≡ erases E Γ fs (skip k ts)
erases-without E Γ zero fs ts = refl
erases-without E Γ (suc k) fs ε = refl
erases-without E Γ (suc k) fs (t ▸ ts) = erases-without E Γ k fs ts

mutual
  erase-alike : (E : Env) (Γ : Slots) {t s : Term} → Alike t s → erase E Γ t ≡ erase E Γ s
  erase-alike E Γ Alike.at_variable = refl
  erase-alike E Γ (Alike.inside {F = F} h) = ap (Tree.node (operator E F)) (erases-alike E Γ (fates E F) h)
  erase-alike E Γ (Alike.made {f = f} {c = c} {k = k} {l = l} {ts = ts} {ss = ss} h) =
      ap (Tree.node (operator E (Form.con f c k)))
      (erases-without E Γ k (arguments (field_mults (family_at E f).constructors c)) ts
      ∙ erases-alike E Γ (arguments (field_mults (family_at E f).constructors c)) h
      ∙ sym (erases-without E Γ l (arguments (field_mults (family_at E f).constructors c)) ss))

  erases-alike : (E : Env) (Γ : Slots) (fs : List Fate) {ts ss : Terms} → AllAlike ts ss →
      erases E Γ fs ts ≡ erases E Γ fs ss
  erases-alike E Γ fs AllAlike.none = refl
  erases-alike E Γ [] (AllAlike.more h hs) = refl
  erases-alike E Γ (None ∷ fs) (AllAlike.more h hs) = erases-alike E Γ fs hs
  erases-alike E Γ (Some ss ∷ fs) (AllAlike.more h hs) =
      ap₂ ◌◂◌ (erase-alike E (extend Γ ss) h) (erases-alike E Γ fs hs)

-- ---- alike terms for the variables
skip-rens : (k : ℕ) (ts : Terms) (ρ : ℕ → ℕ) → skip k (rens [] ρ ts) ≡ rens [] ρ (skip k ts)
skip-rens zero ts ρ = refl
skip-rens (suc k) ε ρ = refl
skip-rens (suc k) (t ▸ ts) ρ = skip-rens k ts ρ

mutual
  alike-ren : {t s : Term} (ρ : ℕ → ℕ) → Alike t s → Alike (ren ρ t) (ren ρ s)
  alike-ren ρ Alike.at_variable = Alike.at_variable
  alike-ren ρ (Alike.inside {F = F} h) = Alike.inside (all-ren (binders F) ρ h)
  alike-ren ρ (Alike.made {k = k} {l = l} {ts = ts} {ss = ss} h) =
      Alike.made (subst₂ AllAlike (sym (skip-rens k ts ρ)) (sym (skip-rens l ss ρ)) (all-ren [] ρ h))

  all-ren : {ts ss : Terms} (ns : List ℕ) (ρ : ℕ → ℕ) → AllAlike ts ss → AllAlike (rens ns ρ ts) (rens ns ρ ss)
  all-ren ns ρ AllAlike.none = AllAlike.none
  all-ren ns ρ (AllAlike.more h hs) = AllAlike.more (alike-ren (lifts_ren (first ns) ρ) h) (all-ren (rest ns) ρ hs)

alike-lift : (σ τ : ℕ → Term) → ((i : ℕ) → Alike (σ i) (τ i)) → (i : ℕ) → Alike (lift σ i) (lift τ i)
alike-lift σ τ h zero = Alike.at_variable
alike-lift σ τ h (suc i) = alike-ren suc (h i)

alike-lifts : (n : ℕ) (σ τ : ℕ → Term) → ((i : ℕ) → Alike (σ i) (τ i)) → (i : ℕ) → Alike (lifts n σ i) (lifts n τ i)
alike-lifts zero σ τ h = h
alike-lifts (suc n) σ τ h = alike-lifts n (lift σ) (lift τ) (alike-lift σ τ h)

mutual
  alike-fill : (t : Term) (σ τ : ℕ → Term) → ((i : ℕ) → Alike (σ i) (τ i)) → Alike (sub σ t) (sub τ t)
  alike-fill (var i) σ τ h = h i
  alike-fill (node F ts) σ τ h = Alike.inside (all-fill ts (binders F) σ τ h)

  all-fill : (ts : Terms) (ns : List ℕ) (σ τ : ℕ → Term) → ((i : ℕ) → Alike (σ i) (τ i)) →
      AllAlike (subs ns σ ts) (subs ns τ ts)
  all-fill ε ns σ τ h = AllAlike.none
  all-fill (t ▸ ts) ns σ τ h = AllAlike.more (alike-fill t (lifts (first ns) σ) (lifts (first ns) τ)
      (alike-lifts (first ns) σ τ h)) (all-fill ts (rest ns) σ τ h)

pub erases_alike_holds : (E : Env) (Γ : Slots) → ErasesAlike E Γ
erases_alike_holds E Γ = record {
  terms = λ t s h. erase-alike E Γ h;
  sides = λ b π τ parts h. erase-alike E Γ (subst (λ t. Alike t (sub parts b)) (sym (sub-sub π τ b))
      (alike-fill b (λ i. sub π (τ i)) parts h));
}
