-- Plain families, constructor by constructor.
use Rattle.std.proofs.Common.{◌≡◌, ℕ, zero, suc, ◌+◌, ◌<◌, ◌≤◌, Bool, true, false, ◌&&◌, List, [], ◌∷◌, map, length, get_or, drop, Some, refl, sym, ◌∙◌, ap, arith}
use Rattle.std.specs.List.{list_all}
use Rattle.std.proofs.Math.Seq.{drop-cons}
use Rattle.qtt_base.specs.declared.place.GlobalId.{GlobalId}
use Rattle.qtt_term.specs.declared.term.Term as code
use Rattle.qtt_term.specs.declared.items.Constructor as code_constructor
use Rattle.qtt_term.specs.declared.items.Family as code_family
use Rattle.qtt_term.specs.Signature.{Constructor, Env, family_of, family_at}
use Rattle.qtt_term.specs.Items.{field, constructor, family}
use Rattle.qtt_term.specs.Reading.{plain_fields, no_indices, is_plain}
use Rattle.qtt_term.specs.View.{terms}

abbrev pub plain_constructor : Constructor → Bool
plain_constructor c = plain_fields 0 c.fields

abbrev pub all_plain : List code_constructor.Constructor → Bool
all_plain cs = list_all (λ (c : Constructor). plain_fields 0 c.fields) (map constructor cs)

-- what is behind the first i
constructors-at : (cs : List code_constructor.Constructor) (i : ℕ) (c : code_constructor.Constructor) →
    i < length cs → c ≡ get_or cs i c → drop i cs ≡ c ∷ drop (i + 1) cs
constructors-at cs i c h e =
    let s : suc i ≡ i + 1 = omega arith in
    drop-cons cs i c h ∙ ap (λ x. x ∷ drop (suc i) cs) (sym e) ∙ ap (λ j. c ∷ drop j cs) s

pub plain-more : (cs : List code_constructor.Constructor) (i : ℕ) (c : code_constructor.Constructor) →
    i < length cs → c ≡ get_or cs i c → true ≡ plain_fields 0 (map field c.fields.items) →
    all_plain cs ≡ all_plain (drop i cs) → all_plain cs ≡ all_plain (drop (i + 1) cs)
plain-more cs i c h e p w =
    w ∙ ap all_plain (constructors-at cs i c h e) ∙ ap (λ b. b && all_plain (drop (i + 1) cs)) (sym p)

pub not-plain : (cs : List code_constructor.Constructor) (i : ℕ) (c : code_constructor.Constructor) →
    i < length cs → c ≡ get_or cs i c → false ≡ plain_fields 0 (map field c.fields.items) →
    all_plain cs ≡ all_plain (drop i cs) → false ≡ all_plain cs
not-plain cs i c h e p w =
    sym (w ∙ ap all_plain (constructors-at cs i c h e) ∙ ap (λ b. b && all_plain (drop (i + 1) cs)) (sym p))

past-constructors : (cs : List code_constructor.Constructor) (i : ℕ) → length cs ≤ i → drop i cs ≡ []
past-constructors [] zero h = refl
past-constructors [] (suc i) h = refl
past-constructors (c ∷ cs) zero h = absurd (omega arith)
past-constructors (c ∷ cs) (suc i) h = past-constructors cs i (omega arith)

pub all-plain : (cs : List code_constructor.Constructor) (i : ℕ) → length cs ≤ i →
    all_plain cs ≡ all_plain (drop i cs) → true ≡ all_plain cs
all-plain cs i h w = sym (w ∙ ap all_plain (past-constructors cs i h))

-- ---- of a family that is there
no_terms : (ts : List code.Term) → length ts ≡ 0 → no_indices (terms ts) ≡ true
no_terms [] e = refl
no_terms (t ∷ ts) e = absurd (omega arith)

some_terms : (ts : List code.Term) → (length ts ≡ 0 → ⊥) → false ≡ no_indices (terms ts)
some_terms [] h = absurd (h refl)
some_terms (t ∷ ts) h = refl

pub of-family : (E : Env) (f : GlobalId) (F : code_family.Family) (b : Bool) → E.family f ≡ Some (family F) →
    length F.indices.items ≡ 0 → b ≡ all_plain F.constructors.items → b ≡ is_plain (family_at E f)
of-family E f F b e n h =
    h ∙ sym (ap (λ c. c && all_plain F.constructors.items) (no_terms F.indices.items n)) ∙
    ap (λ o. is_plain (family_of o)) (sym e)

pub with-indices : (E : Env) (f : GlobalId) (F : code_family.Family) → E.family f ≡ Some (family F) →
    (length F.indices.items ≡ 0 → ⊥) → false ≡ is_plain (family_at E f)
with-indices E f F e n =
    ap (λ c. c && all_plain F.constructors.items) (some_terms F.indices.items n) ∙
    ap (λ o. is_plain (family_of o)) (sym e)
