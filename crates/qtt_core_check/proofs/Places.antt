-- The code's families: their constructors by their places, and how many components they have.
use Rattle.std.proofs.Common.{◌≡◌, ℕ, zero, suc, ◌+◌, ◌<◌, ◌≤◌, List, [], ◌∷◌, ◌++◌, length, map, Some, None, slice_get, get_or, refl, sym, ◌∙◌, ap, arith}
use mathlib.Core.Path.{ap₂}
use Rattle.std.proofs.lemmas.List.{length-map, length-append}
use Rattle.qtt_base.specs.declared.place.GlobalId.{GlobalId}
use Rattle.qtt_usage.specs.Mult.{𝟘}
use Rattle.qtt_term.specs.declared.rule.Rule.TheVariants as rule
use Rattle.qtt_term.specs.declared.items.Constructor as code_constructor
use Rattle.qtt_term.specs.declared.items.Family as code_family
use Rattle.qtt_term.specs.Signature.{ConSig, con_sig, fam_sig, index_binders}
use Rattle.qtt_term.specs.Judgement.{erase_binds}
use Rattle.qtt_term.specs.Items.{family, constructor}
use Rattle.qtt_term.specs.View.{term, terms}
use Rattle.qtt_term.specs.Infer.{at, family_wants}
use Rattle.qtt_preserve.proofs.Travel.{length-scale}
use Rattle.qtt_core_check.proofs.Arguments.{length-wanted}
use Rattle.qtt_core_check.proofs.Families.{sig-there}
use Rattle.qtt_core_check.proofs.Matches.{length-indices}

pub constructor-at : (cs : List code_constructor.Constructor) (k : ℕ) (x : code_constructor.Constructor) →
    k < length cs → x ≡ get_or cs k x →
    slice_get (map constructor cs) k ≡ Some (constructor x)
constructor-at [] k x h e = absurd (omega arith)
constructor-at (c ∷ cs) zero x h e = ap (λ c. Some (constructor c)) (sym e)
constructor-at (c ∷ cs) (suc k) x h e = constructor-at cs k x (omega arith) e

pub constructor-past : (cs : List code_constructor.Constructor) (k : ℕ) → length cs ≤ k →
    slice_get (map constructor cs) k ≡ None
constructor-past [] k h = refl
constructor-past (c ∷ cs) zero h = absurd (omega arith)
constructor-past (c ∷ cs) (suc k) h = constructor-past cs k (omega arith)

pub length-params : (F : code_family.Family) → length (family F).params ≡ length F.params.items
length-params F = length-map (terms F.params.items) (λ t. (𝟘, t)) ∙ length-map F.params.items term

some-is : {A : Type 0} (a b : A) → Some a ≡ Some b → a ≡ b
some-is a b e = cc e

-- the signature at a place is that of the constructor there
pub sig-at : (f : GlobalId) (F : code_family.Family) (k n i : ℕ) (x : code_constructor.Constructor) (d : ConSig) →
    i < length F.constructors.items → x ≡ get_or F.constructors.items i x →
    k ≡ length F.params.items → n ≡ i → slice_get (fam_sig f (family F)).constructors i ≡ Some d →
    con_sig f k n (constructor x) ≡ d
sig-at f F k n i x d h e a b s =
    ap₂ (λ k n. con_sig f k n (constructor x)) (a ∙ sym (length-params F)) b
    ∙ some-is _ _ (sym (sig-there f (length (family F).params) i (map constructor F.constructors.items)
    (constructor x) (constructor-at F.constructors.items i x h e)) ∙ s)

-- as many as parameters and indices
pub wants-number : (f : GlobalId) (F : code_family.Family) →
    length (family_wants (fam_sig f (family F))) ≡ length F.params.items + length F.indices.items
wants-number f F =
    length-wanted (at rule.Fam 1) (erase_binds ((family F).params ++ index_binders 0 (family F).indices))
    ∙ length-scale 𝟘 ((family F).params ++ index_binders 0 (family F).indices) ∙ length-append (family F).params
    (index_binders 0 (family F).indices)
    ∙ ap₂ (λ a b. a + b) (length-params F) (length-indices 0 (family F).indices ∙ length-map F.indices.items term)
