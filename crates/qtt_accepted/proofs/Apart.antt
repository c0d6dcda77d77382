-- Constructors by their ids: where no family has that of another, each is found wherever its family stands.
use Rattle.std.proofs.Common.{◌≡◌, ℕ, suc, ◌+◌, ◌<◌, ◌≤◌, Bool, true, false, cond, ◌⊎◌, inl, inr, ◌&&◌, is_none, List, [], ◌∷◌, length, map, Option, Some, None, refl, sym, ap, subst, ◌∙◌, arith}
use Rattle.std.specs.List.{list_all, filter}
use Rattle.std.proofs.lemmas.Bool.{and_parts}
use Rattle.qtt_base.specs.declared.place.GlobalId.{GlobalId}
use Rattle.qtt_base.specs.declared.place.ModuleId.{ModuleId}
use Rattle.qtt_syntax.specs.Tree.{Con}
use Rattle.qtt_term.specs.declared.term.ConId.{ConId}
use Rattle.qtt_term.specs.Term.{same_id}
use Rattle.qtt_term.specs.Signature.{There}
use Rattle.qtt_term.specs.Question.{either}
use Rattle.qtt_term.specs.Keyed.{is_of, id_before, ids_differ, with_id, inserted, all_inserted}
use Rattle.qtt_term.specs.Items.{ConstructorEntry, FamilyEntry, constructor_id, constructor_from, constructor_in, constructor_of, constructors_differ}
use Rattle.qtt_term.specs.Entries.{Entries}
use Rattle.qtt_term.specs.PrimItems.{prim_families}
use Rattle.qtt_term.proofs.Options.{none≢some, some-injective}
use Rattle.qtt_term.proofs.Same.{same_id-is, id-same}
use Rattle.qtt_term.proofs.Order.{filter_yes, filter_no}
use Rattle.qtt_clause_laws.specs.Named.{ConstructorsStay}
use Rattle.qtt_module.specs.Families.{Head, item_behind}
use Rattle.qtt_module.specs.FamilyRules.{Constructs, ConstructsAll}
use Rattle.qtt_accepted.specs.Members.{Among}
use Rattle.qtt_accepted.specs.Clauses.{ConstructorsApart, PrimIsApart}
use Rattle.qtt_accepted.proofs.Added.{is-there}

-- ---- members
pub of-first : {X : Type 0} {x y : X} {ys : List X} → Among x (y ∷ ys) → (x ≡ y) ⊎ Among x ys
of-first Among.here = inl refl
of-first (Among.later h) = inr h

module _ {X : Type 0} (key : X → GlobalId) where
  pub among-inserted : (x y : X) (ys : List X) → Among x (inserted key y ys) → (x ≡ y) ⊎ Among x ys
  among-inserted x y [] h = of-first h
  among-inserted x y (z ∷ zs) h = by_order (id_before (key y) (key z)) (among-inserted x y zs) h
    where
      behind : (x ≡ y) ⊎ Among x zs → (x ≡ y) ⊎ Among x (z ∷ zs)
      behind (inl e) = inl e
      behind (inr k) = inr (Among.later k)

      of-either : (x ≡ z) ⊎ Among x (inserted key y zs) →
          (Among x (inserted key y zs) → (x ≡ y) ⊎ Among x zs) → (x ≡ y) ⊎ Among x (z ∷ zs)
      of-either (inl e) rest = inr (subst (λ w. Among x (w ∷ zs)) e Among.here)
      of-either (inr k) rest = behind (rest k)

      by_order : (b : Bool) → (Among x (inserted key y zs) → (x ≡ y) ⊎ Among x zs) →
          Among x (cond b (y ∷ z ∷ zs) (z ∷ inserted key y zs)) → (x ≡ y) ⊎ Among x (z ∷ zs)
      by_order true rest h = of-first h
      by_order false rest h = of-either (of-first h) rest

  pub new-inserted : (y : X) (ys : List X) → Among y (inserted key y ys)
  new-inserted y [] = Among.here
  new-inserted y (z ∷ zs) = by_order (id_before (key y) (key z)) (new-inserted y zs)
    where
      by_order : (b : Bool) → Among y (inserted key y zs) → Among y (cond b (y ∷ z ∷ zs) (z ∷ inserted key y zs))
      by_order true h = Among.here
      by_order false h = Among.later h

  pub old-inserted : (x y : X) (ys : List X) → Among x ys → Among x (inserted key y ys)
  old-inserted x y [] h = elim h [ ]
  old-inserted x y (z ∷ zs) h = by_order (id_before (key y) (key z)) (of-first h) (old-inserted x y zs)
    where
      by_order : (b : Bool) → (x ≡ z) ⊎ Among x zs → (Among x zs → Among x (inserted key y zs)) →
          Among x (cond b (y ∷ z ∷ zs) (z ∷ inserted key y zs))
      by_order true (inl e) rest = Among.later (subst (λ w. Among x (w ∷ zs)) e Among.here)
      by_order true (inr k) rest = Among.later (Among.later k)
      by_order false (inl e) rest = subst (λ w. Among x (w ∷ inserted key y zs)) e Among.here
      by_order false (inr k) rest = Among.later (rest k)

  pub among-all : (x : X) (xs ys : List X) → Among x (all_inserted key xs ys) → Among x xs ⊎ Among x ys
  among-all x [] ys h = inr h
  among-all x (y ∷ xs) ys h = by (among-all x xs (inserted key y ys) h)
    where
      of-new : (x ≡ y) ⊎ Among x ys → Among x (y ∷ xs) ⊎ Among x ys
      of-new (inl e) = inl (subst (λ w. Among x (w ∷ xs)) e Among.here)
      of-new (inr k) = inr k

      by : Among x xs ⊎ Among x (inserted key y ys) → Among x (y ∷ xs) ⊎ Among x ys
      by (inl k) = inl (Among.later k)
      by (inr k) = of-new (among-inserted x y ys k)

  pub old-all : (x : X) (xs ys : List X) → Among x ys → Among x (all_inserted key xs ys)
  old-all x [] ys h = h
  old-all x (y ∷ xs) ys h = old-all x xs (inserted key y ys) (old-inserted x y ys h)

  pub new-all : (x : X) (xs ys : List X) → Among x xs → Among x (all_inserted key xs ys)
  new-all x [] ys h = elim h [ ]
  new-all x (y ∷ xs) ys h = by (of-first h) (new-all x xs (inserted key y ys))
    where
      by : (x ≡ y) ⊎ Among x xs → (Among x xs → Among x (all_inserted key xs (inserted key y ys))) →
          Among x (all_inserted key xs (inserted key y ys))
      by (inl e) rest =
          old-all x xs (inserted key y ys) (subst (λ w. Among x (inserted key w ys)) e (new-inserted x ys))
      by (inr k) rest = rest k

  -- what is among others is found by its id
  pub is-found : (x : X) (xs : List X) → Among x xs → There (with_id key (key x) xs)
  is-found x [] h = elim h [ ]
  is-found x (y ∷ xs) h = by_test (same_id (key y) (key x)) refl (of-first h) (is-found x xs)
    where
      by_test : (b : Bool) → same_id (key y) (key x) ≡ b → (x ≡ y) ⊎ Among x xs →
          (Among x xs → There (with_id key (key x) xs)) → There (cond b (Some y) (with_id key (key x) xs))
      by_test true t h rest = tt
      by_test false t (inl e) rest =
          absurd (cc (sym (id-same (key x)) ∙ ap (λ w. same_id (key w) (key x)) e ∙ t))
      by_test false t (inr k) rest = rest k

  module _ (p : X → Bool) where
    pub of-filtered : (x : X) (xs : List X) → Among x (filter p xs) → Among x xs × (p x ≡ true)
    of-filtered x [] h = elim h [ ]
    of-filtered x (y ∷ xs) h = by_test (p y) refl (of-filtered x xs) h
      where
        of-either : p y ≡ true → (x ≡ y) ⊎ Among x (filter p xs) → (Among x (filter p xs) → Among x xs × (p x ≡ true)) →
            Among x (y ∷ xs) × (p x ≡ true)
        of-either t (inl e) rest = (subst (λ w. Among x (w ∷ xs)) e Among.here, ap p e ∙ t)
        of-either t (inr k) rest = let r = rest k in (Among.later r.0, r.1)

        by_test : (b : Bool) → p y ≡ b → (Among x (filter p xs) → Among x xs × (p x ≡ true)) →
            Among x (filter p (y ∷ xs)) → Among x (y ∷ xs) × (p x ≡ true)
        by_test true t rest h = of-either t (of-first (subst (Among x) (filter_yes p y xs t) h)) rest
        by_test false t rest h = let r = rest (subst (Among x) (filter_no p y xs t) h) in (Among.later r.0, r.1)

    pub in-filtered : (x : X) (xs : List X) → Among x xs → p x ≡ true → Among x (filter p xs)
    in-filtered x [] h t = elim h [ ]
    in-filtered x (y ∷ xs) h t = by_test (p y) refl (of-first h) (λ k. in-filtered x xs k t)
      where
        by_test : (b : Bool) → p y ≡ b → (x ≡ y) ⊎ Among x xs → (Among x xs → Among x (filter p xs)) →
            Among x (filter p (y ∷ xs))
        by_test true s (inl e) rest =
            subst (Among x) (sym (filter_yes p y xs s)) (subst (λ w. Among x (w ∷ filter p xs)) e Among.here)
        by_test true s (inr k) rest = subst (Among x) (sym (filter_yes p y xs s)) (Among.later (rest k))
        by_test false s (inl e) rest = absurd (cc (sym t ∙ ap p e ∙ s))
        by_test false s (inr k) rest = subst (Among x) (sym (filter_no p y xs s)) (rest k)

-- ---- constructors
-- the family of one that is found
pub record HasIt (g : GlobalId) (c : ConId) (Fs : List FamilyEntry) : Type 0 where
  pub family : FamilyEntry
  pub among : Among family Fs
  pub has : constructor_in family g ≡ Some c

pub found-in : (g : GlobalId) (c : ConId) (Fs : List FamilyEntry) → constructor_of Fs g ≡ Some c → HasIt g c Fs
found-in g c [] e = absurd (none≢some e)
found-in g c (F ∷ Fs) e = by (constructor_in F g) refl e (found-in g c Fs)
  where
    by : (o : Option ConId) → constructor_in F g ≡ o → either o (constructor_of Fs g) ≡ Some c →
        (constructor_of Fs g ≡ Some c → HasIt g c Fs) → HasIt g c (F ∷ Fs)
    by None t e rest = let r = rest e in record { family = r.family; among = Among.later r.among; has = r.has }
    by (Some d) t e rest = record { family = F; among = Among.here; has = t ∙ e }

-- one that each family with it has is found
pub has-found : (g : GlobalId) (c : ConId) (Fs : List FamilyEntry) → HasIt g c Fs →
    ((F : FamilyEntry) → Among F Fs → (d : ConId) → constructor_in F g ≡ Some d → d ≡ c) → constructor_of Fs g ≡ Some c
has-found g c [] h all = elim h.among [ ]
has-found g c (F ∷ Fs) h all =
    by (constructor_in F g) refl (of-first h.among)
    (λ k. has-found g c Fs (record { family = h.family; among = k; has = h.has }) (λ X a. all X (Among.later a)))
  where
    by : (o : Option ConId) → constructor_in F g ≡ o → (h.family ≡ F) ⊎ Among h.family Fs →
        (Among h.family Fs → constructor_of Fs g ≡ Some c) → either o (constructor_of Fs g) ≡ Some c
    by None t (inl e) rest =
        absurd (none≢some (sym t ∙ ap (λ (X : FamilyEntry). constructor_in X g) (sym e) ∙ h.has))
    by None t (inr k) rest = rest k
    by (Some d) t k rest = ap Some (all F Among.here d t)

-- what keeps apart stays wherever its families stand
pub stay-apart : (K L : Entries) → ((F : FamilyEntry) → Among F K.families → Among F L.families) →
    ConstructorsApart L → ConstructorsStay K L
stay-apart K L inside a g c e =
    let r = found-in g c K.families e in
    has-found g c L.families (record { family = r.family; among = inside r.family r.among; has = r.has })
    (λ F k d h. a.apart F r.family k (inside r.family r.among) g d c h r.has)

-- ---- Prim's
-- each has an id of its family's module
abbrev owns : FamilyEntry → Bool
owns F = list_all (λ (c : ConstructorEntry). is_of (Some F.id.module) c.id) F.constructors

all-own : (m : ModuleId) (f : GlobalId) (n : ℕ) (cs : List ConstructorEntry) (g : GlobalId) →
    list_all (λ (c : ConstructorEntry). is_of (Some m) c.id) cs ≡ true → There (constructor_from f n cs g) →
    is_of (Some m) g ≡ true
all-own m f n [] g e h = absurd h
all-own m f n (c ∷ cs) g e h =
    let p = and_parts (is_of (Some m) c.id) (list_all (λ (d : ConstructorEntry). is_of (Some m) d.id) cs) e in
    by_test (same_id c.id g) refl h (all-own m f (suc n) cs g p.1) p.0
  where
    by_test : (b : Bool) → same_id c.id g ≡ b →
        There (cond b (Some (record { family = f; place = n })) (constructor_from f (suc n) cs g)) →
        (There (constructor_from f (suc n) cs g) → is_of (Some m) g ≡ true) → is_of (Some m) c.id ≡ true →
        is_of (Some m) g ≡ true
    by_test true t h rest p = ap (is_of (Some m)) (sym (same_id-is c.id g t)) ∙ p
    by_test false t h rest p = rest h

all-owned : (Fs : List FamilyEntry) → list_all owns Fs ≡ true → (F : FamilyEntry) → Among F Fs → owns F ≡ true
all-owned [] e F a = elim a [ ]
all-owned (X ∷ Fs) e F a =
    let p = and_parts (owns X) (list_all owns Fs) e in by (of-first a) p.0 (all-owned Fs p.1 F)
  where
    by : (F ≡ X) ⊎ Among F Fs → owns X ≡ true → (Among F Fs → owns F ≡ true) → owns F ≡ true
    by (inl e) p rest = ap owns e ∙ p
    by (inr k) p rest = rest k

-- none of the others has one of the first's
none-behind : (f : GlobalId) (n : ℕ) (cs : List ConstructorEntry) (Fs : List FamilyEntry) (g : GlobalId) →
    list_all (λ (c : ConstructorEntry). is_none (constructor_of Fs c.id)) cs ≡ true →
    There (constructor_from f n cs g) →
    constructor_of Fs g ≡ None
none-behind f n [] Fs g e h = absurd h
none-behind f n (c ∷ cs) Fs g e h =
    let p = and_parts (is_none (constructor_of Fs c.id))
    (list_all (λ (d : ConstructorEntry). is_none (constructor_of Fs d.id)) cs) e in
    by_test (same_id c.id g) refl h (none-behind f (suc n) cs Fs g p.1) p.0
  where
    is-none : (o : Option ConId) → is_none o ≡ true → o ≡ None
    is-none None e = refl
    is-none (Some d) e = absurd (cc e)

    by_test : (b : Bool) → same_id c.id g ≡ b →
        There (cond b (Some (record { family = f; place = n })) (constructor_from f (suc n) cs g)) →
        (There (constructor_from f (suc n) cs g) → constructor_of Fs g ≡ None) →
        is_none (constructor_of Fs c.id) ≡ true → constructor_of Fs g ≡ None
    by_test true t h rest p = ap (constructor_of Fs) (sym (same_id-is c.id g t)) ∙ is-none (constructor_of Fs c.id) p
    by_test false t h rest p = rest h

none-has : (Fs : List FamilyEntry) (g : GlobalId) → constructor_of Fs g ≡ None → (F : FamilyEntry) → Among F Fs →
    constructor_in F g ≡ None
none-has [] g e F a = elim a [ ]
none-has (X ∷ Fs) g e F a = by (constructor_in X g) refl e (of-first a) (λ d. none-has Fs g d F)
  where
    by : (o : Option ConId) → constructor_in X g ≡ o → either o (constructor_of Fs g) ≡ None →
        (F ≡ X) ⊎ Among F Fs → (constructor_of Fs g ≡ None → Among F Fs → constructor_in F g ≡ None) →
        constructor_in F g ≡ None
    by None t e (inl s) rest = ap (λ (Y : FamilyEntry). constructor_in Y g) s ∙ t
    by None t e (inr k) rest = rest e k
    by (Some d) t e k rest = absurd (none≢some (sym e))

all-apart : (Fs : List FamilyEntry) → constructors_differ Fs ≡ true → (F H : FamilyEntry) → Among F Fs → Among H Fs →
    (g : GlobalId) (c d : ConId) → constructor_in F g ≡ Some c → constructor_in H g ≡ Some d → c ≡ d
all-apart [] e F H a b g c d p q = elim a [ ]
all-apart (X ∷ Fs) e F H a b g c d p q =
    by (of-first a) (of-first b) (λ k l. all-apart Fs parted.1 F H k l g c d p q)
  where
    parted : (list_all (λ (c : ConstructorEntry). is_none (constructor_of Fs c.id)) X.constructors ≡ true)
        × (constructors_differ Fs ≡ true)
    parted =
        let new : Bool = list_all (λ (c : ConstructorEntry). is_none (constructor_of Fs c.id)) X.constructors in
        and_parts new (constructors_differ Fs)
        (and_parts (ids_differ (map constructor_id X.constructors)) (new && constructors_differ Fs) e).1

    first-none : (Y : FamilyEntry) → Among Y Fs → There (constructor_in X g) → constructor_in Y g ≡ None
    first-none Y k h = none-has Fs g (none-behind X.id 0 X.constructors Fs g parted.0 h) Y k

    by : (F ≡ X) ⊎ Among F Fs → (H ≡ X) ⊎ Among H Fs → (Among F Fs → Among H Fs → c ≡ d) → c ≡ d
    by (inl s) (inl t) rest =
        some-injective (sym p ∙ ap (λ (Y : FamilyEntry). constructor_in Y g) (s ∙ sym t) ∙ q)
    by (inl s) (inr k) rest =
        let h = is-there (constructor_in X g) (ap (λ (Y : FamilyEntry). constructor_in Y g) (sym s) ∙ p) in
        absurd (none≢some (sym (first-none H k h) ∙ q))
    by (inr k) (inl t) rest =
        let h = is-there (constructor_in X g) (ap (λ (Y : FamilyEntry). constructor_in Y g) (sym t) ∙ q) in
        absurd (none≢some (sym (first-none F k h) ∙ p))
    by (inr k) (inr l) rest = rest k l

pub prim_is_apart_holds : PrimIsApart
prim_is_apart_holds = record {
  own = λ F a g h. all-own F.id.module F.id 0 F.constructors g (all-owned prim_families refl F a) h;
  apart = all-apart prim_families refl;
}

-- ---- those of a family that is declared have its item's numbers, from the next one on
pub record Numbered (f : GlobalId) (count : ℕ) (g : GlobalId) : Type 0 where
  pub same : g.module ≡ f.module
  pub above : f.item < g.item
  pub within : g.item ≤ f.item + count

numbered : {G : Entries} {F : Head} {k : ℕ} {cs : List Con} {ds : List ConstructorEntry} → ConstructsAll G F k cs ds →
    (f : GlobalId) (n : ℕ) (g : GlobalId) → There (constructor_from f n ds g) → Numbered F.id (k + length cs) g
numbered ConstructsAll.none f n g h = absurd h
numbered {F = F} {k = k} (ConstructsAll.more {cs = cs} {ds = ds} (Constructs.constructs a b c) rest) f n g h =
    by_test (same_id (item_behind F.id k) g) refl h (numbered rest f (suc n) g)
  where
    by_test : (b : Bool) → same_id (item_behind F.id k) g ≡ b →
        There (cond b (Some (record { family = f; place = n })) (constructor_from f (suc n) ds g)) →
        (There (constructor_from f (suc n) ds g) → Numbered F.id (suc k + length cs) g) →
        Numbered F.id (k + suc (length cs)) g
    by_test true t h later =
        let e : item_behind F.id k ≡ g = same_id-is (item_behind F.id k) g t in
        let i : F.id.item + suc k ≡ g.item = ap (λ (j : GlobalId). j.item) e in
        record {
          same = ap (λ (j : GlobalId). j.module) (sym e);
          above = omega (arith, i);
          within = omega (arith, i);
        }
    by_test false t h later =
        let r = later h in
        let w = r.within in
        record { same = r.same; above = r.above; within = omega (arith, w) }

pub all-numbered : {G : Entries} {F : Head} {cs : List Con} {ds : List ConstructorEntry} → ConstructsAll G F 0 cs ds →
    (f : GlobalId) (g : GlobalId) → There (constructor_from f 0 ds g) → Numbered F.id (length cs) g
all-numbered {F = F} {cs = cs} c f g h =
    subst (λ n. Numbered F.id n g) (omega arith) (numbered c f 0 g h)
