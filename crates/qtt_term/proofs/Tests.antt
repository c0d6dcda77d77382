-- The tests beside the conditions of an environment's calls.
use Rattle.std.proofs.Common.{◌≡◌, ◌↔◌, ℕ, suc, ◌+◌, ◌-◌, ◌<◌, ◌≤◌, ◌^◌, List, [], ◌∷◌, map, length, take, drop, get_or, Option, Some, None, option_map, IsTrue, Bool, true, false, ◌&&◌, not, eqb, leb, refl, sym, ap, ◌∙◌, arith}
use mathlib.Core.Path.{ap₂}
use mathlib.Core.Bool.{true≢false}
use Rattle.std.specs.List.{list_all}
use Rattle.std.proofs.lemmas.Bool.{and_parts, and_from, eq-eqb, eqb-true, leb-true, le-leb}
use Rattle.std.proofs.lemmas.List.{length-map, length-drop, take_all}
use Rattle.std.proofs.lemmas.List.Folds.{list_all-map}
use Rattle.std.proofs.Math.Seq.{drop-cons}
use Rattle.qtt_base.specs.declared.place.GlobalId.{GlobalId}
use Rattle.qtt_term.specs.declared.globals.Globals.{Globals}
use Rattle.qtt_term.specs.declared.term.Term as code
use Rattle.qtt_term.specs.declared.items.Constructor as code_constructor
use Rattle.qtt_term.specs.declared.items.Family as code_family
use Rattle.qtt_term.specs.Term.{size, same_id}
use Rattle.qtt_term.specs.Items.{FamilyEntry, constructor, constructor_entry, constructor_id, family, family_entry, family_id, given_constructors, ids, results_counted}
use Rattle.qtt_term.specs.Keyed.{with_id, ids_differ}
use Rattle.qtt_term.specs.Globals.{families, IsNew, CanAdd, CanGive, is_absent}
use Rattle.qtt_term.specs.View.{term, terms, side_by_side}
use Rattle.qtt_term.proofs.Options.{some-injective}

-- two tests that are true together are the same
pub tests_agree : (a b : Bool) → IsTrue a ↔ IsTrue b → a ≡ b
tests_agree true b h = sym (h.0 refl)
tests_agree false true h = h.1 refl
tests_agree false false h = refl

differ-step : (cs : List code_constructor.Constructor) (i : ℕ) (x : code_constructor.Constructor) →
    i < length cs → x ≡ get_or cs i x →
    ids_differ (map (λ c. c.id) (drop i cs)) ≡
    (list_all (λ c. not (same_id x.id c.id)) (drop (i + 1) cs) && ids_differ
    (map (λ c. c.id) (drop (i + 1) cs)))
differ-step cs i x h e =
    let s : suc i ≡ i + 1 = omega arith in
    ap (λ ds. ids_differ (map (λ c. c.id) ds)) (drop-cons cs i x h ∙ ap₂ (λ y j. y ∷ drop j cs) (sym e) s)
    ∙ ap (λ b. b && ids_differ (map (λ c. c.id) (drop (i + 1) cs)))
    (list_all-map (λ b. not (same_id x.id b)) (λ c. c.id) (drop (i + 1) cs))

-- a constructor whose id stands again behind it, and one whose id does not
pub differ-here : (cs : List code_constructor.Constructor) (i : ℕ) (x : code_constructor.Constructor) (r : Bool) →
    i < length cs → x ≡ get_or cs i x →
    r ≡ list_all (λ c. not (same_id x.id c.id)) (take (length cs - (i + 1)) (drop (i + 1) cs)) →
    ids_differ (map (λ c. c.id) (drop i cs)) ≡ (r && ids_differ (map (λ c. c.id) (drop (i + 1) cs)))
differ-here cs i x r h e t =
    let l : length (drop (i + 1) cs) ≤ length cs - (i + 1) = omega (arith, length-drop (i + 1) cs) in
    differ-step cs i x h e
    ∙ ap (λ b. b && ids_differ (map (λ c. c.id) (drop (i + 1) cs)))
    (sym (t ∙ ap (list_all (λ c. not (same_id x.id c.id))) (take_all (length cs - (i + 1)) (drop (i + 1) cs) l)))

pub few-are : (n m : ℕ) → n ≡ m → IsTrue (leb n 4294967295) ↔ (m < 2 ^ 32)
few-are n m e = (λ t. omega (arith, leb-true n 4294967295 t), λ h. le-leb n 4294967295 (omega arith))

-- ---- of a family and its constructors
own-ids : (cs : List code_constructor.Constructor) → map constructor_id (map constructor_entry cs) ≡ map (λ c. c.id) cs
own-ids [] = refl
own-ids (c ∷ cs) = ap (λ ds. c.id ∷ ds) (own-ids cs)

all-ids : (p : GlobalId → Bool) (F : code_family.Family) →
    list_all p (ids (family_entry F)) ≡ (p F.id && list_all (λ c. p c.id) F.constructors.items)
all-ids p F =
    ap (λ b. p F.id && b) (ap (list_all p) (own-ids F.constructors.items) ∙ list_all-map p
    (λ c. c.id) F.constructors.items)

all-differ : (F : code_family.Family) → ids_differ (ids (family_entry F)) ≡
    (list_all (λ c. not (same_id F.id c.id)) F.constructors.items && ids_differ (map (λ c. c.id) F.constructors.items))
all-differ F =
    ap₂ (λ a b. a && b) (ap (list_all (λ b. not (same_id F.id b))) (own-ids F.constructors.items) ∙ list_all-map
    (λ b. not (same_id F.id b)) (λ c. c.id) F.constructors.items)
    (ap ids_differ (own-ids F.constructors.items))

size-seen : (ts : List code.Term) → size (side_by_side (terms ts)) ≡ length ts
size-seen [] = refl
size-seen (t ∷ ts) = ap suc (size-seen ts)

pub all-counted : (F : code_family.Family) →
    results_counted (family F) ≡ list_all (λ c. eqb (length c.result.items) (length F.indices.items))
    F.constructors.items
all-counted F = each F.constructors.items
  where
    each : (cs : List code_constructor.Constructor) →
        list_all (λ c. eqb (size c.results) (length (family F).indices)) (map constructor cs) ≡
        list_all (λ c. eqb (length c.result.items) (length F.indices.items)) cs
    each [] = refl
    each (c ∷ cs) =
        ap₂ (λ a b. a && b) (ap₂ eqb (size-seen c.result.items) (length-map F.indices.items term)) (each cs)

-- ---- the conditions
-- five tests at once, where each is what it says
pub is_new : (g : Globals) (F : code_family.Family) (apart differ of_module absent all_absent : Bool) →
    apart ≡ list_all (λ c. not (same_id F.id c.id)) F.constructors.items →
    differ ≡ ids_differ (map (λ c. c.id) F.constructors.items) →
    of_module ≡ list_all (λ c. eqb c.id.module.0 F.id.module.0) F.constructors.items →
    (IsTrue absent ↔ IsTrue (is_absent g F.id)) →
    all_absent ≡ list_all (λ c. is_absent g c.id) F.constructors.items →
    IsTrue (apart && (differ && (of_module && (absent && all_absent)))) ↔ IsNew g (family_entry F)
is_new g F a d m b n ea ed em eb en = (to, from)
  where
    to : IsTrue (a && (d && (m && (b && n)))) → IsNew g (family_entry F)
    to h =
        let p = and_parts a (d && (m && (b && n))) h in
        let q = and_parts d (m && (b && n)) p.1 in
        let r = and_parts m (b && n) q.1 in
        let s = and_parts b n r.1 in
        let cs = F.constructors.items in
        record {
          differ = all-differ F ∙ and_from (list_all (λ c. not (same_id F.id c.id)) cs)
              (ids_differ (map (λ c. c.id) cs)) (sym ea ∙ p.0) (sym ed ∙ q.0);
          one_module =
              all-ids (λ id. eqb id.module.0 F.id.module.0) F
              ∙ and_from (eqb F.id.module.0 F.id.module.0) (list_all (λ c. eqb c.id.module.0 F.id.module.0) cs)
              (eq-eqb F.id.module.0 F.id.module.0 refl) (sym em ∙ r.0);
          absent = all-ids (is_absent g) F ∙ and_from (is_absent g F.id) (list_all (λ c. is_absent g c.id) cs)
              (eb.0 s.0) (sym en ∙ s.1);
        }

    from : IsNew g (family_entry F) → IsTrue (a && (d && (m && (b && n))))
    from h =
        let cs = F.constructors.items in
        let p = and_parts (list_all (λ c. not (same_id F.id c.id)) cs) (ids_differ (map (λ c. c.id) cs))
        (sym (all-differ F) ∙ h.differ) in
        let r = and_parts (eqb F.id.module.0 F.id.module.0) (list_all (λ c. eqb c.id.module.0 F.id.module.0) cs)
        (sym (all-ids (λ id. eqb id.module.0 F.id.module.0) F) ∙ h.one_module) in
        let s = and_parts (is_absent g F.id) (list_all (λ c. is_absent g c.id) cs)
        (sym (all-ids (is_absent g) F) ∙ h.absent) in
        and_from a (d && (m && (b && n))) (ea ∙ p.0)
        (and_from d (m && (b && n)) (ed ∙ p.1) (and_from m (b && n) (em ∙ r.1) (and_from b n (eb.1 s.0) (en ∙ s.1))))

pub can_add : (g : Globals) (F : code_family.Family) (few new_ids counted : Bool) →
    (IsTrue few ↔ (length F.constructors.items < 2 ^ 32)) →
    IsTrue new_ids ↔ IsNew g (family_entry F) →
    counted ≡ list_all (λ c. eqb (length c.result.items) (length F.indices.items)) F.constructors.items →
    IsTrue (few && (new_ids && counted)) ↔ CanAdd g F
can_add g F few new_ids counted ef en ec = (to, from)
  where
    to : IsTrue (few && (new_ids && counted)) → CanAdd g F
    to h =
        let p = and_parts few (new_ids && counted) h in
        let q = and_parts new_ids counted p.1 in
        record { count = ef.0 p.0; new_ids = en.0 q.0; counted = all-counted F ∙ sym ec ∙ q.1 }

    from : CanAdd g F → IsTrue (few && (new_ids && counted))
    from h = and_from few (new_ids && counted) (ef.1 h.count)
        (and_from new_ids counted (en.1 h.new_ids) (ec ∙ sym (all-counted F) ∙ h.counted))

-- ---- constructors that a family is given
given-sizes : (cs : List code_constructor.Constructor) (n : ℕ) →
    list_all (λ c. eqb (size c.results) n) (map (λ c. c.constructor) (map constructor_entry cs)) ≡
    list_all (λ c. eqb (length c.result.items) n) cs
given-sizes [] n = refl
given-sizes (c ∷ cs) n =
    ap₂ (λ a b. a && b) (ap (λ k. eqb k n) (size-seen c.result.items)) (given-sizes cs n)

-- whether a family has no constructors
none-are : (cs : List code_constructor.Constructor) → IsTrue (eqb (length cs) 0) ↔
    (Some (map constructor_entry cs) ≡ Some [])
none-are [] = (λ h. refl, λ h. refl)
none-are (c ∷ cs) =
    (λ h. absurd (not_empty (length cs) (eqb-true (suc (length cs)) 0 h)), λ h. absurd (no_list (some-injective h)))
  where
    not_empty : (n : ℕ) → suc n ≡ 0 → ⊥
    not_empty n e = omega (arith, e)

    no_list : {X : Type 0} {x : X} {xs : List X} → x ∷ xs ≡ [] → ⊥
    no_list e = cc e

-- the tests together, where a family of this id was found
pub can_give : (g : Globals) (f : GlobalId) (cs : List code_constructor.Constructor) (F : code_family.Family)
    (bare few differ absent counted : Bool) → with_id family_id f (families g) ≡ Some (family_entry F) →
    bare ≡ eqb (length F.constructors.items) 0 →
    (IsTrue few ↔ (length cs < 2 ^ 32)) →
    differ ≡ ids_differ (map (λ c. c.id) cs) →
    absent ≡ list_all (λ c. is_absent g c.id) cs →
    counted ≡ list_all (λ c. eqb (length c.result.items) (length F.indices.items)) cs →
    IsTrue (bare && (few && (differ && (absent && counted)))) ↔ CanGive g f cs
can_give g f cs F b w d n k there eb ew ed en ek = (to, from)
  where
    its_counted : Option FamilyEntry → Bool
    its_counted o = elim o [
      | None ↦ true
      | Some G ↦ results_counted (given_constructors (map constructor_entry cs) G).family
    ]

    counts : k ≡ its_counted (with_id family_id f (families g))
    counts =
        ek ∙ sym (ap (λ m. list_all (λ c. eqb (length c.result.items) m) cs) (length-map F.indices.items term))
        ∙ sym (given-sizes cs (length (terms F.indices.items))) ∙ sym (ap its_counted there)

    to : IsTrue (b && (w && (d && (n && k)))) → CanGive g f cs
    to h =
        let p = and_parts b (w && (d && (n && k))) h in
        let q = and_parts w (d && (n && k)) p.1 in
        let r = and_parts d (n && k) q.1 in
        let s = and_parts n k r.1 in
        record {
          bare = ap (option_map (λ G. G.constructors)) there ∙ (none-are F.constructors.items).0 (sym eb ∙ p.0);
          count = ew.0 q.0;
          differ = ap ids_differ (own-ids cs) ∙ sym ed ∙ r.0;
          absent = sym en ∙ s.0;
          counted = sym counts ∙ s.1;
        }

    from : CanGive g f cs → IsTrue (b && (w && (d && (n && k))))
    from h =
        and_from b (w && (d && (n && k)))
        (eb ∙ (none-are F.constructors.items).1 (sym (ap (option_map (λ G. G.constructors)) there) ∙ h.bare))
        (and_from w (d && (n && k)) (ew.1 h.count)
        (and_from d (n && k) (ed ∙ sym (ap ids_differ (own-ids cs)) ∙ h.differ)
        (and_from n k (en ∙ h.absent) (counts ∙ h.counted))))

-- and where there is none
pub cannot_give : (g : Globals) (f : GlobalId) (cs : List code_constructor.Constructor) →
    with_id family_id f (families g) ≡ None → IsTrue false ↔ CanGive g f cs
cannot_give g f cs none =
    (λ h. absurd (true≢false (sym h)), λ h. absurd (cc (sym (ap (option_map (λ G. G.constructors)) none) ∙ h.bare)))
