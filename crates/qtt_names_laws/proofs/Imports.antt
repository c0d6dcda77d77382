-- What imports export, as it is looked up.
use Rattle.std.proofs.Common.{◌≡◌, ◌≢◌, ℕ, eqb, Bool, true, false, cond, List, [], ◌∷◌, filter_map, Option, Some, None, refl, sym, ap, ◌∙◌, subst, true≢false, inl, inr, ◌⊎◌}
use Rattle.std.specs.List.{list_all, cons_option}
use Rattle.std.proofs.lemmas.Bool.{and_parts, and_from, and_cases, eqb-true, eq-eqb}
use mathlib.Core.Path.{ap₂}
use Rattle.qtt_base.specs.declared.place.GlobalId.{GlobalId}
use Rattle.qtt_syntax.specs.declared.expr.Target.TheVariants.{Unknown, Local, Global}
use Rattle.qtt_names.specs.declared.target.Found.{Found}
use Rattle.qtt_names.specs.declared.target.Found.TheVariants.{Nothing, One, Several}
use Rattle.qtt_names.specs.Scope.{Imported, entry_of}
use Rattle.qtt_names.specs.Target.{same_id, one_of, is_source, exported, imported}
use Rattle.qtt_names_laws.specs.Sight.{Entry, Within, Exported, OnlyExported, TwoExported, NoneExported}
use Rattle.qtt_names_laws.proofs.Lists.{same, same_from, Held, held, entry_is}

-- ---- one of several things

same_thing : (a b : GlobalId) → same_id a b ≡ true → a ≡ b
same_thing a b e =
    let p = and_parts (eqb a.module.0 b.module.0) (eqb a.item b.item) e in
    ap₂ (λ (m i : ℕ). record { «module» = record { 0 = m }; item = i }) (eqb-true a.module.0 b.module.0 p.0)
    (eqb-true a.item b.item p.1)

same_thing_from : (a b : GlobalId) → a ≡ b → same_id a b ≡ true
same_thing_from a b e =
    and_from (eqb a.module.0 b.module.0) (eqb a.item b.item)
    (eq-eqb a.module.0 b.module.0 (ap (λ (i : GlobalId). i.module.0) e))
    (eq-eqb a.item b.item (ap (λ (i : GlobalId). i.item) e))

data Among (x : GlobalId) : List GlobalId → Type 0 where
  here : {more : List GlobalId} → Among x (x ∷ more)
  behind : {y : GlobalId} {more : List GlobalId} → Among x more → Among x (y ∷ more)

all_same : (x y : GlobalId) (ids : List GlobalId) → list_all (same_id x) ids ≡ true → Among y ids → y ≡ x
all_same x y _ e (Among.here {more = more}) = sym (same_thing x y (and_parts (same_id x y) _ e).0)
all_same x y _ e (Among.behind {y = z} {more = more} h) = all_same x y more (and_parts (same_id x z) _ e).1 h

one_differs : (x : GlobalId) (ids : List GlobalId) → list_all (same_id x) ids ≡ false →
    (y : GlobalId) × (Among y ids × (x ≢ y))
one_differs x [] e = absurd (true≢false e)
one_differs x (z ∷ ids) e = by (and_cases (same_id x z) (list_all (same_id x) ids) e) (one_differs x ids)
  where
    by : (same_id x z ≡ false) ⊎ (list_all (same_id x) ids ≡ false) →
        (list_all (same_id x) ids ≡ false → (y : GlobalId) × (Among y ids × (x ≢ y))) →
        (y : GlobalId) × (Among y (z ∷ ids) × (x ≢ y))
    by (inl d) more = (z, (Among.here, λ q. true≢false (sym (same_thing_from x z q) ∙ d)))
    by (inr d) more =
        let r = more d in
        (r.0, (Among.behind r.1.0, r.1.1))

-- what the things of a name come to
abbrev OneOf : List GlobalId → Found → Type 0
OneOf ids Nothing = (id : GlobalId) → Among id ids → ⊥
OneOf ids (One Unknown) = ⊥
OneOf ids (One (Local i)) = ⊥
OneOf ids (One (Global id)) = Among id ids × ((other : GlobalId) → Among other ids → other ≡ id)
OneOf ids Several = (a b : GlobalId) × (Among a ids × (Among b ids × (a ≢ b)))

nothing_among : (id : GlobalId) → Among id [] → ⊥
nothing_among id h = elim h [ ]

one_of_is : (ids : List GlobalId) → OneOf ids (one_of ids)
one_of_is [] = nothing_among
one_of_is (x ∷ ids) = by (list_all (same_id x) ids) refl
  where
    only : list_all (same_id x) ids ≡ true → (other : GlobalId) → Among other (x ∷ ids) → other ≡ x
    only e _ Among.here = refl
    only e other (Among.behind h) = all_same x other ids e h

    by : (t : Bool) → list_all (same_id x) ids ≡ t → OneOf (x ∷ ids) (cond t (One (Global x)) Several)
    by true e = (Among.here, only e)
    by false e =
        let r = one_differs x ids e in
        (x, r.0, (Among.here, (Among.behind r.1.0, r.1.1)))

-- ---- what imports export

meant : (within : Option (List ℕ)) (e : Imported) → Within within e → is_source within e ≡ true
meant None e h = refl
meant (Some m) e h = same_from e.name m h

is_meant : (within : Option (List ℕ)) (e : Imported) → is_source within e ≡ true → Within within e
is_meant None e h = tt
is_meant (Some m) e h = same e.name m h

export_is : (within : Option (List ℕ)) (n : List ℕ) (e : Imported) (id : GlobalId) → exported within n e ≡ Some id →
    Within within e × Entry n id e.items
export_is within n e id q = by (is_source within e) refl q
  where
    by : (t : Bool) → is_source within e ≡ t → cond t (entry_of n e.items) None ≡ Some id →
        Within within e × Entry n id e.items
    by true s q = (is_meant within e s, subst (Held n e.items) q (held n e.items))
    by false s q = absurd (cc q)

export_of : (within : Option (List ℕ)) (n : List ℕ) (e : Imported) (id : GlobalId) → Within within e →
    Entry n id e.items → exported within n e ≡ Some id
export_of within n e id w h =
    ap (λ (t : Bool). cond t (entry_of n e.items) None) (meant within e w) ∙ entry_is n id e.items h

module _ (within : Option (List ℕ)) (n : List ℕ) where
  things : List Imported → List GlobalId
  things imports = filter_map (exported within n) imports

  among_exported : (id : GlobalId) (imports : List Imported) → Exported within n id imports →
      Among id (filter_map (exported within n) imports)
  among_exported id _ (Exported.here {e = e} {more = more} w h) =
      subst (λ (o : Option GlobalId). Among id (cons_option o (filter_map (exported within n) more)))
      (sym (export_of within n e id w h)) Among.here
  among_exported id _ (Exported.behind {e = e} {more = more} h) = by (exported within n e) (among_exported id more h)
    where
      by : (o : Option GlobalId) → Among id (filter_map (exported within n) more) →
          Among id (cons_option o (filter_map (exported within n) more))
      by None a = a
      by (Some x) a = Among.behind a

  exported_among : (id : GlobalId) (imports : List Imported) → Among id (filter_map (exported within n) imports) →
      Exported within n id imports
  exported_among id [] h = absurd (nothing_among id h)
  exported_among id (e ∷ imports) h = by (exported within n e) refl (exported_among id imports) h
    where
      at : (x : GlobalId) → exported within n e ≡ Some x → (Among id (filter_map (exported within n) imports) →
          Exported within n id imports) → Among id (x ∷ filter_map (exported within n) imports) →
          Exported within n id (e ∷ imports)
      at _ q rest Among.here =
          let r = export_is within n e id q in
          Exported.here r.0 r.1
      at x q rest (Among.behind a) = Exported.behind (rest a)

      by : (o : Option GlobalId) → exported within n e ≡ o → (Among id (filter_map (exported within n) imports) →
          Exported within n id imports) → Among id (cons_option o (filter_map (exported within n) imports)) →
          Exported within n id (e ∷ imports)
      by None q rest a = Exported.behind (rest a)
      by (Some x) q rest a = at x q rest a

-- what the imports have of a name
abbrev pub Have : Option (List ℕ) → List ℕ → List Imported → Found → Type 0
Have within n imports Nothing = NoneExported within n imports
Have within n imports (One Unknown) = ⊥
Have within n imports (One (Local i)) = ⊥
Have within n imports (One (Global id)) = OnlyExported within n id imports
Have within n imports Several = TwoExported within n imports

pub have : (within : Option (List ℕ)) (n : List ℕ) (imports : List Imported) →
    Have within n imports (imported imports within n)
have within n imports = by (imported imports within n) (one_of_is (filter_map (exported within n) imports))
  where
    by : (f : Found) → OneOf (filter_map (exported within n) imports) f → Have within n imports f
    by Nothing h = λ id x. h id (among_exported within n id imports x)
    by (One Unknown) h = h
    by (One (Local i)) h = h
    by (One (Global id)) h = record {
      exported = exported_among within n id imports h.0;
      only = λ other x. h.1 other (among_exported within n other imports x);
    }
    by Several h = record {
      one = h.0;
      two = h.1;
      first = exported_among within n h.0 imports h.2.0;
      second = exported_among within n h.1 imports h.2.1.0;
      differ = h.2.1.1;
    }

have_unique : (within : Option (List ℕ)) (n : List ℕ) (imports : List Imported) (f g : Found) →
    Have within n imports f → Have within n imports g → f ≡ g
have_unique within n imports Nothing Nothing h k = refl
have_unique within n imports Nothing (One Unknown) h k = absurd k
have_unique within n imports Nothing (One (Local i)) h k = absurd k
have_unique within n imports Nothing (One (Global id)) h k = absurd (h id k.exported)
have_unique within n imports Nothing Several h k = absurd (h k.one k.first)
have_unique within n imports (One Unknown) g h k = absurd h
have_unique within n imports (One (Local i)) g h k = absurd h
have_unique within n imports (One (Global id)) Nothing h k = absurd (k id h.exported)
have_unique within n imports (One (Global id)) (One Unknown) h k = absurd k
have_unique within n imports (One (Global id)) (One (Local i)) h k = absurd k
have_unique within n imports (One (Global id)) (One (Global other)) h k =
    ap (λ (x : GlobalId). One (Global x)) (k.only id h.exported)
have_unique within n imports (One (Global id)) Several h k =
    absurd (k.differ (h.only k.one k.first ∙ sym (h.only k.two k.second)))
have_unique within n imports Several Nothing h k = absurd (k h.one h.first)
have_unique within n imports Several (One Unknown) h k = absurd k
have_unique within n imports Several (One (Local i)) h k = absurd k
have_unique within n imports Several (One (Global id)) h k =
    absurd (h.differ (k.only h.one h.first ∙ sym (k.only h.two h.second)))
have_unique within n imports Several Several h k = refl

pub imported_is : (within : Option (List ℕ)) (n : List ℕ) (imports : List Imported) (f : Found) →
    Have within n imports f → imported imports within n ≡ f
imported_is within n imports f h =
    have_unique within n imports (imported imports within n) f (have within n imports) h
