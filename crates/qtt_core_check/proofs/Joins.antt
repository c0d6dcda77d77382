-- The join of a Case's branches, in which a dead branch may be left out.
use Rattle.std.proofs.Common.{◌≡◌, Bool, true, false, cond, List, ◌∷◌, length, Option, Some, None, refl, sym, ◌∙◌, ap}
use mathlib.Core.Path.{ap₂}
use Rattle.qtt_usage.specs.declared.mult.Mult.{Mult}
use Rattle.qtt_usage.specs.Mult.{𝟘, ◌⊕◌, join}
use Rattle.qtt_usage.specs.Uses.{Key, Use}
use Rattle.qtt_usage.specs.Usage.{use_of}
use Rattle.qtt_usage.proofs.Mults.{join-self, join-assoc}
use Rattle.qtt_usage.proofs.UsageLemmas.{none_at, join_at}
use Rattle.qtt_term.specs.Term.{Term, Terms, ◌▸◌}
use Rattle.qtt_term.specs.Signature.{Tele}
use Rattle.qtt_term.specs.Judgement.{Ctx, Part, Judged, branch, sum_of, has_branch, join_of}
use Rattle.qtt_term.specs.Accepted.{is_dead, live}
use Rattle.qtt_term.specs.Infer.{joined_with, joined_use}
use Rattle.qtt_core_check.proofs.Lists.{IsNothing, Counts, length-join, length-none, nothing-join}
use Rattle.qtt_core_check.proofs.Derived.{IsErased}

-- the join of the branches so far, as a list and as a use, none where each was dead
pub data JoinedAs (N : Type 0) (p : Part) (Γ : Ctx) : Option (List Mult) → Option Use → Type 0 where
  nothing_yet : JoinedAs N p Γ None None
  so_far : {us : List Mult} {w : Use} → ((x : Key) → Counts N x → w x ≡ use_of us x) → length us ≡ length Γ →
      (IsErased p → IsNothing us) →
      JoinedAs N p Γ (Some us) (Some w)

-- a live branch has a part in a join, and a dead one has none
pub live-branch : (t : Term) (ts : Terms) (Θ : Tele) (A : Term) (u : Use) (js : List Judged) → is_dead t ≡ false →
    live (t ▸ ts) (branch Θ A u ∷ js) ≡ branch Θ A u ∷ live ts js
live-branch t ts Θ A u js e = ap (λ d. cond d (live ts js) (branch Θ A u ∷ live ts js)) e

pub dead-branch : (t : Term) (ts : Terms) (Θ : Tele) (A : Term) (u : Use) (js : List Judged) → is_dead t ≡ true →
    live (t ▸ ts) (branch Θ A u ∷ js) ≡ live ts js
dead-branch t ts Θ A u js e = ap (λ d. cond d (live ts js) (branch Θ A u ∷ live ts js)) e

-- the join of branches so far with that of later branches, where there are some
abbrev pub whole : Option Use → Bool → Mult → Key → Mult
whole None more r x = r
whole (Some w) true r x = join (w x) r
whole (Some w) false r x = w x

-- the use of components, after branches that make the join J
abbrev pub summed : Option Use → List Judged → Use
summed J js x = sum_of js x ⊕ whole J (has_branch js) (join_of js x) x

abbrev pub met : Option Use → Use → Use
met None w x = w x
met (Some v) w x = join (v x) (w x)

pub live-whole : (J : Option Use) (w : Use) (more : Bool) (r : Mult) (x : Key) →
    whole J true (cond more (join (w x) r) (w x)) x ≡ whole (Some (met J w)) more r x
live-whole None w true r x = refl
live-whole None w false r x = refl
live-whole (Some v) w true r x = sym (join-assoc (v x) (w x) r)
live-whole (Some v) w false r x = refl

-- what a dead branch uses: as much as leaves the join as it is
abbrev pub spare : Option Use → Bool → Mult → Key → Mult
spare None more r x = r
spare (Some w) true r x = r
spare (Some w) false r x = w x

pub dead-whole : (J : Option Use) (more : Bool) (r : Mult) (x : Key) →
    whole J true (cond more (join (spare J more r x) r) (spare J more r x)) x ≡ whole J more r x
dead-whole None true r x = join-self r
dead-whole None false r x = refl
dead-whole (Some w) true r x = ap (λ m. join (w x) m) (join-self r)
dead-whole (Some w) false r x = join-self (w x)

pub live-joined : {N : Type 0} {p : Part} {Γ : Ctx} {joined : Option (List Mult)} {J : Option Use} (us : List Mult)
    (w : Use) → JoinedAs N p Γ joined J →
    ((x : Key) → Counts N x → w x ≡ use_of us x) → length us ≡ length Γ → (IsErased p → IsNothing us) →
    JoinedAs N p Γ (joined_with us joined) (Some (met J w))
live-joined us w JoinedAs.nothing_yet c l n = JoinedAs.so_far c l n
live-joined {Γ = Γ} us w (JoinedAs.so_far {us = vs} {w = v} d k m) c l n =
    JoinedAs.so_far (λ x i. ap₂ join (d x i) (c x i) ∙ sym (join_at vs us x (k ∙ sym l)))
    (length-join vs us (length Γ) k l)
    (λ i. nothing-join vs us (k ∙ sym l) (m i) (n i))

pub whole-of : {N : Type 0} {p : Part} {Γ : Ctx} {joined : Option (List Mult)} {J : Option Use} →
    JoinedAs N p Γ joined J → (x : Key) → Counts N x →
    whole J false 𝟘 x ≡ use_of (joined_use (length Γ) joined) x
whole-of {Γ = Γ} JoinedAs.nothing_yet x c = sym (none_at (length Γ) x)
whole-of (JoinedAs.so_far d k m) x c = d x c

pub joined-counted : {N : Type 0} {p : Part} {Γ : Ctx} {joined : Option (List Mult)} {J : Option Use} →
    JoinedAs N p Γ joined J →
    length (joined_use (length Γ) joined) ≡ length Γ
joined-counted {Γ = Γ} JoinedAs.nothing_yet = length-none (length Γ)
joined-counted (JoinedAs.so_far d k m) = k

pub joined-nothing : {N : Type 0} {p : Part} {Γ : Ctx} {joined : Option (List Mult)} {J : Option Use} →
    JoinedAs N p Γ joined J →
    IsErased p → IsNothing (joined_use (length Γ) joined)
joined-nothing {Γ = Γ} JoinedAs.nothing_yet i x = none_at (length Γ) x
joined-nothing (JoinedAs.so_far d k m) i x = m i x
