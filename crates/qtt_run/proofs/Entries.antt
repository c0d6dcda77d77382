-- Which definitions have a first block.
use Rattle.std.proofs.Common.{◌≡◌, ℕ, zero, suc, ◌⊎◌, inl, inr, Bool, true, false, cond, List, [], ◌∷◌, Contains, Option, Some, None, option_map, refl, sym, subst, arith}
use Rattle.std.specs.Prelude.{◌↔◌}
use Rattle.qtt_base.specs.declared.place.GlobalId.{GlobalId}
use Rattle.qtt_usage.specs.declared.mult.Mult.{Mult}
use Rattle.qtt_usage.specs.Mult.{𝟘, 𝟙, ω}
use Rattle.qtt_term.specs.Term.{Term, same_id}
use Rattle.qtt_term.specs.Signature.{Definition, Env, There, definition_of}
use Rattle.qtt_term.specs.Judgement.{Part, Usable}
use Rattle.qtt_term.specs.Keyed.{with_id}
use Rattle.qtt_term.proofs.Options.{none≢some}
use Rattle.qtt_term.proofs.Same.{id-same, same_id-is}
use Rattle.qtt_erase.specs.Lean.{Lean}
use Rattle.qtt_erase.specs.Erasure.{erase, erased_body, erased_bodies}
use Rattle.qtt_lower.specs.Programs.{Base, base_id, bases, bases_from, bodies, with_body, numbers_end}
use Rattle.qtt_run.specs.Code.{Lists}
use Rattle.qtt_run.specs.Compiled.{HasCode}

split : {X : Type 0} (x y : X) (xs : List X) → Contains (x ∷ xs) y → (x ≡ y) ⊎ Contains xs y
split x y xs (zero, l, e) = inl e
split x y xs (suc k, l, e) = inr (k, omega (arith, l), e)

-- a body that is there and not 0 has code
coded : (E : Env) (q : Mult) (b : Option Term) → Usable Part.run q → There b → (t : Lean) × (erased_body E q b ≡ Some t)
coded E 𝟘 b u h = absurd u
coded E 𝟙 None u h = absurd h
coded E 𝟙 (Some b) u h = (erase E [] b, refl)
coded E ω None u h = absurd h
coded E ω (Some b) u h = (erase E [] b, refl)

-- what has code is there, is not 0, and has its body
erased-used : (E : Env) (q : Mult) (b : Option Term) (t : Lean) → erased_body E q b ≡ Some t →
    Usable Part.run q × There b
erased-used E 𝟘 b t e = absurd (none≢some e)
erased-used E 𝟙 None t e = absurd (none≢some e)
erased-used E 𝟙 (Some b) t e = (tt, tt)
erased-used E ω None t e = absurd (none≢some e)
erased-used E ω (Some b) t e = (tt, tt)

erased-there : (E : Env) (d : GlobalId) (t : Lean) (o : Option Definition) → E.definition d ≡ o →
    erased_body E (definition_of o).mult (definition_of o).body ≡ Some t → HasCode E d
erased-there E d t None is e = absurd (none≢some e)
erased-there E d t (Some D) is e =
    let (used, body) = erased-used E D.mult D.body t e in
    record { definition = D; there = is; used = used; body = body }

pub has-coded : (E : Env) (d : GlobalId) → HasCode E d → (t : Lean) × (erased_bodies E d ≡ Some t)
has-coded E d h =
    subst (λ o. (t : Lean) × (erased_body E (definition_of o).mult (definition_of o).body ≡ Some t)) (sym h.there)
    (coded E h.definition.mult h.definition.body h.used h.body)

-- a listed definition with code has a first block
module _ (E : Env) (d : GlobalId) (t : Lean) (has : erased_bodies E d ≡ Some t) where
  abbrev IsBased : List Base → Type 0
  IsBased bs = (b : Base) × (with_id base_id d bs ≡ Some b)

  at_head : (o : Bool) (b : Base) (bs : List Base) → IsBased bs →
      (c : Base) × (cond o (Some b) (with_id base_id d bs) ≡ Some c)
  at_head true b bs h = (b, refl)
  at_head false b bs h = h

  based_later : (n : ℕ) (x : GlobalId) (o : Option Lean) (ds : List GlobalId) →
      ((k : ℕ) → IsBased (bases_from k (bodies E ds))) →
      IsBased (bases_from n (with_body x o (bodies E ds)))
  based_later n x None ds next = next n
  based_later n x (Some s) ds next =
      at_head (same_id x d) (record { id = x; block = n }) (bases_from (numbers_end n s) (bodies E ds))
      (next (numbers_end n s))

  based_here : (n : ℕ) (ds : List GlobalId) → IsBased (bases_from n (with_body d (erased_bodies E d) (bodies E ds)))
  based_here n ds =
      subst (λ o. IsBased (bases_from n (with_body d o (bodies E ds)))) (sym has)
      (subst (λ q. (c : Base) ×
      (cond q (Some (record { id = d; block = n }))
      (with_id base_id d (bases_from (numbers_end n t) (bodies E ds))) ≡ Some c))
      (sym (id-same d)) (record { id = d; block = n }, refl))

  pub based : (n : ℕ) (ds : List GlobalId) → Contains ds d → IsBased (bases_from n (bodies E ds))
  based n [] (k, l, e) = absurd (omega (arith, l))
  based n (x ∷ ds) c = elim (split x d ds c) [
    | inl e ↦ subst (λ x. IsBased (bases_from n (with_body x (erased_bodies E x) (bodies E ds)))) (sym e)
        (based_here n ds)
    | inr h ↦ based_later n x (erased_bodies E x) ds (λ k. based k ds h)
  ]

-- what has a first block has code
module _ (E : Env) (d : GlobalId) (b : Base) where
  abbrev HasErased : Type 0
  HasErased = (t : Lean) × (erased_bodies E d ≡ Some t)

  found-here : (x : GlobalId) (s : Lean) (n : ℕ) (bs : List Base) (q : Bool) → erased_bodies E x ≡ Some s →
      same_id x d ≡ q →
      (with_id base_id d bs ≡ Some b → HasErased) →
      cond q (Some (record { id = x; block = n })) (with_id base_id d bs) ≡ Some b → HasErased
  found-here x s n bs true has same next e = (s, subst (λ y. erased_bodies E y ≡ Some s) (same_id-is x d same) has)
  found-here x s n bs false has same next e = next e

  found-later : (n : ℕ) (x : GlobalId) (o : Option Lean) (ds : List GlobalId) → erased_bodies E x ≡ o →
      ((k : ℕ) → with_id base_id d (bases_from k (bodies E ds)) ≡ Some b → HasErased) →
      with_id base_id d (bases_from n (with_body x o (bodies E ds))) ≡ Some b → HasErased
  found-later n x None ds has next e = next n e
  found-later n x (Some s) ds has next e =
      found-here x s n (bases_from (numbers_end n s) (bodies E ds)) (same_id x d) has refl (next (numbers_end n s)) e

  found : (n : ℕ) (ds : List GlobalId) → with_id base_id d (bases_from n (bodies E ds)) ≡ Some b → HasErased
  found n [] e = absurd (none≢some e)
  found n (x ∷ ds) e = found-later n x (erased_bodies E x) ds refl (λ k. found k ds) e

abbrev begins : Option Base → Option ℕ
begins o = option_map (λ b. b.block) o

begun : (E : Env) (ds : List GlobalId) (d : GlobalId) (o : Option Base) → with_id base_id d (bases (bodies E ds)) ≡ o →
    There (begins o) →
    HasCode E d
begun E ds d None is h = elim h [ ]
begun E ds d (Some b) is h =
    let (t, e) = found E d b 0 ds is in erased-there E d t (E.definition d) refl e

pub entries-have-code : (E : Env) (ds : List GlobalId) → Lists E ds → (bs : List Base) → bs ≡ bases (bodies E ds) →
    (d : GlobalId) →
    There (begins (with_id base_id d bs)) ↔ HasCode E d
entries-have-code E ds listed bs is d =
    subst (λ bs. There (begins (with_id base_id d bs)) ↔ HasCode E d) (sym is)
    (begun E ds d (with_id base_id d (bases (bodies E ds))) refl, behind)
  where
    behind : HasCode E d → There (begins (with_id base_id d (bases (bodies E ds))))
    behind h =
        let (t, e) = has-coded E d h in
        let (b, f) = based E d t e 0 ds (listed d t e) in
        subst (λ o. There (begins o)) (sym f) tt
