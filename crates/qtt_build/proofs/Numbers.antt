-- Numbers of modules: Prim stands below 1, a part keeps what stands below the next number, and a number that is none
-- of those that stand there is new.
use Rattle.std.proofs.Common.{◌≡◌, ℕ, suc, ◌+◌, ◌<◌, ◌≤◌, Bool, true, false, nat_lt, cond, List, [], ◌∷◌, length, All, Option, Some, None, option_map, is_none, ◌&&◌, ◌⊎◌, inl, inr, refl, sym, ap, subst, ◌∙◌, arith}
use Rattle.std.proofs.lemmas.Bool.{and_from, ltb-true, ltb-false}
use Rattle.std.proofs.lemmas.List.Elements.{All-from_recursion, All-nil, All-cons, All-head, All-tail, All-weaker}
use Rattle.qtt_base.specs.declared.place.GlobalId.{GlobalId}
use Rattle.qtt_syntax.specs.Tree.{Module}
use Rattle.qtt_term.specs.declared.globals.Globals.{Globals}
use Rattle.qtt_term.specs.declared.term.ConId.{ConId}
use Rattle.qtt_term.specs.Term.{same_id}
use Rattle.qtt_term.specs.Question.{either}
use Rattle.qtt_term.specs.Keyed.{id_before, with_id, inserted, all_inserted}
use Rattle.qtt_term.specs.Items.{ConstructorEntry, FamilyEntry, DefinitionEntry, family_id, definition_id, constructor_from, constructor_of}
use Rattle.qtt_term.specs.PrimItems.{unit_entry, bool_entry, line_entry, eq_entry, prim_families}
use Rattle.qtt_term.specs.Entries.{Entries, prim_entries, entries}
use Rattle.qtt_term.specs.Globals.{IsAbsent}
use Rattle.qtt_term.specs.Globals as globals
use Rattle.qtt_term.proofs.Same.{same_id-is}
use Rattle.qtt_term.proofs.Order.{found_behind, is-none}
use Rattle.qtt_module.specs.Module.{item_of}
use Rattle.qtt_module.specs.Text.{Accepted, home_of}
use Rattle.qtt_accepted.specs.Stages.{FreshFrom}
use Rattle.qtt_accepted.specs.Texts.{adopted}
use Rattle.qtt_build.specs.Built.{numbered, all_adopted}
use Rattle.qtt_build.specs.Parts.{AllIds, OnlyBelow, OnlyOf, NumberedFrom, Follow}

-- ---- each of the ids
weaker : (P Q : GlobalId → Type 0) → ((i : GlobalId) → P i → Q i) → (G : Entries) → AllIds P G → AllIds Q G
weaker P Q h G a = record {
  families =
      All-weaker (λ (F : FamilyEntry). P F.id) (λ (F : FamilyEntry). Q F.id) (λ F p. h F.id p) G.families a.families;
  constructors =
      All-weaker (λ (F : FamilyEntry). All (λ (c : ConstructorEntry). P c.id) F.constructors)
      (λ (F : FamilyEntry). All (λ (c : ConstructorEntry). Q c.id) F.constructors)
      (λ F b. All-weaker (λ (c : ConstructorEntry). P c.id) (λ (c : ConstructorEntry). Q c.id) (λ c p. h c.id p)
      F.constructors b) G.families a.constructors;
  definitions =
      All-weaker (λ (d : DefinitionEntry). P d.id) (λ (d : DefinitionEntry). Q d.id) (λ d p. h d.id p) G.definitions
      a.definitions;
}

-- Prim has the number 0
first-number : 0 < 1
first-number = omega arith

pub prim-below : OnlyBelow 1 prim_entries
prim-below = record {
  families =
      All-from_recursion (λ (F : FamilyEntry). F.id.module.0 < 1) prim_families
      (first-number, (first-number, (first-number, (first-number, tt))));
  constructors =
      let units = All-from_recursion below unit_entry.constructors (first-number, tt) in
      let truths = All-from_recursion below bool_entry.constructors (first-number, (first-number, tt)) in
      let lines = All-from_recursion below line_entry.constructors (first-number, (first-number, tt)) in
      let equalities = All-from_recursion below eq_entry.constructors (first-number, tt) in
      All-from_recursion (λ (F : FamilyEntry). All below F.constructors) prim_families
      (units, (truths, (lines, (equalities, tt))));
  definitions = All-nil (λ (d : DefinitionEntry). d.id.module.0 < 1);
}
  where
    below : ConstructorEntry → Type 0
    below c = c.id.module.0 < 1

-- what stands below a number stands below later ones
pub below-later : (k l : ℕ) (G : Entries) → k ≤ l → OnlyBelow k G → OnlyBelow l G
below-later k l G le below = weaker (λ i. i.module.0 < k) (λ i. i.module.0 < l) (λ i h. omega arith) G below

-- ---- a part among the others
pub all-inserted : {X : Type 0} (key : X → GlobalId) (P : X → Type 0) (x : X) (xs : List X) → P x → All P xs →
    All P (inserted key x xs)
all-inserted key P x [] p h = All-cons P x [] p h
all-inserted key P x (y ∷ ys) p h =
    by_order (id_before (key x) (key y)) (all-inserted key P x ys p (All-tail P y ys h))
  where
    by_order : (b : Bool) → All P (inserted key x ys) → All P (cond b (x ∷ y ∷ ys) (y ∷ inserted key x ys))
    by_order true rest = All-cons P x (y ∷ ys) p h
    by_order false rest = All-cons P y (inserted key x ys) (All-head P y ys h) rest

all-together : {X : Type 0} (key : X → GlobalId) (P : X → Type 0) (xs ys : List X) → All P xs → All P ys →
    All P (all_inserted key xs ys)
all-together key P [] ys h rest = rest
all-together key P (x ∷ xs) ys h rest =
    all-together key P xs (inserted key x ys) (All-tail P x xs h)
    (all-inserted key P x ys (All-head P x xs h) rest)

all-adopted : (P : GlobalId → Type 0) (G H : Entries) → AllIds P G → AllIds P H → AllIds P (adopted G H)
all-adopted P G H g h = record {
  families = all-together family_id (λ (F : FamilyEntry). P F.id) H.families G.families h.families g.families;
  constructors =
      all-together family_id (λ (F : FamilyEntry). All (λ (c : ConstructorEntry). P c.id) F.constructors) H.families
      G.families h.constructors g.constructors;
  definitions =
      all-together definition_id (λ (d : DefinitionEntry). P d.id) H.definitions G.definitions h.definitions
      g.definitions;
}

-- the part of the module of number k, put among modules below it, is below the next number
pub adopted-below : (k : ℕ) (G P : Entries) → OnlyBelow k G → OnlyOf k P → OnlyBelow (suc k) (adopted G P)
adopted-below k G P g p =
    all-adopted (λ i. i.module.0 < suc k) G P (below-later k (suc k) G (omega arith) g)
    (weaker (λ i. i.module.0 ≡ k) (λ i. i.module.0 < suc k) (λ i h. omega arith) P p)

-- so it is of several, each of the next number
pub all-adopted-below : (k : ℕ) (G : Entries) (As : List Accepted) → OnlyBelow k G → NumberedFrom k As →
    OnlyBelow (k + length As) (all_adopted G As)
all-adopted-below k G [] g n = below-later k (k + 0) G (omega arith) g
all-adopted-below k G (A ∷ As) g n =
    let H : Entries = adopted G A.checked.part in
    below-later (suc k + length As) (k + suc (length As)) (all_adopted H As) (omega arith)
    (all-adopted-below (suc k) H As (adopted-below k G A.checked.part g n.0) n.1)

-- ---- ids that are not there
-- what holds of each id that is there, and not of this one, tells that it is not there
lacks : {X : Type 0} (key : X → GlobalId) (P : GlobalId → Type 0) (id : GlobalId) → (P id → ⊥) → (xs : List X) →
    All (λ (x : X). P (key x)) xs → with_id key id xs ≡ None
lacks key P id never [] h = refl
lacks {X = X} key P id never (x ∷ xs) h =
    by_test (same_id (key x) id) refl (lacks key P id never xs (All-tail (λ (y : X). P (key y)) x xs h))
  where
    by_test : (b : Bool) → same_id (key x) id ≡ b → with_id key id xs ≡ None → with_id key id (x ∷ xs) ≡ None
    by_test true e rest =
        absurd (never (subst P (same_id-is (key x) id e) (All-head (λ (y : X). P (key y)) x xs h)))
    by_test false e rest = found_behind key id x xs e ∙ rest

module _ (P : GlobalId → Type 0) (id : GlobalId) (never : P id → ⊥) where
  no-constructor : (f : GlobalId) (n : ℕ) (cs : List ConstructorEntry) → All (λ (c : ConstructorEntry). P c.id) cs →
      constructor_from f n cs id ≡ None
  no-constructor f n [] h = refl
  no-constructor f n (c ∷ cs) h =
      by_test (same_id c.id id) refl
      (no-constructor f (suc n) cs (All-tail (λ (d : ConstructorEntry). P d.id) c cs h))
    where
      here : Option ConId
      here = Some (record { family = f; place = n })

      by_test : (b : Bool) → same_id c.id id ≡ b → constructor_from f (suc n) cs id ≡ None →
          cond b here (constructor_from f (suc n) cs id) ≡ None
      by_test true e rest =
          absurd (never (subst P (same_id-is c.id id e) (All-head (λ (d : ConstructorEntry). P d.id) c cs h)))
      by_test false e rest = rest

  no-constructors : (Fs : List FamilyEntry) →
      All (λ (F : FamilyEntry). All (λ (c : ConstructorEntry). P c.id) F.constructors) Fs →
      constructor_of Fs id ≡ None
  no-constructors [] h = refl
  no-constructors (F ∷ Fs) h =
      let own : FamilyEntry → Type 0 = λ (E : FamilyEntry). All (λ (c : ConstructorEntry). P c.id) E.constructors in
      ap (λ o. either o (constructor_of Fs id)) (no-constructor F.id 0 F.constructors (All-head own F Fs h))
      ∙ no-constructors Fs (All-tail own F Fs h)

  absent : (g : Globals) → AllIds P (entries g) → IsAbsent g id
  absent g h =
      let Fs : List FamilyEntry = globals.families g in
      let ds : List DefinitionEntry = globals.definitions g in
      and_from (is_none (with_id family_id id Fs))
      (is_none (constructor_of Fs id) && is_none (with_id definition_id id ds))
      (is-none (with_id family_id id Fs) (lacks family_id P id never Fs h.families))
      (and_from (is_none (constructor_of Fs id)) (is_none (with_id definition_id id ds))
      (is-none (constructor_of Fs id) (no-constructors Fs h.constructors))
      (is-none (with_id definition_id id ds) (lacks definition_id P id never ds h.definitions)))

-- no id is that of an item below a number and that of an item of this number
pub apart : (k : ℕ) (G P : Globals) → OnlyBelow k (entries G) → OnlyOf k (entries P) → (id : GlobalId) →
    IsAbsent G id ⊎ IsAbsent P id
apart k G P g p id = by_test (nat_lt id.module.0 k) refl
  where
    by_test : (b : Bool) → nat_lt id.module.0 k ≡ b → IsAbsent G id ⊎ IsAbsent P id
    by_test true e =
        let below : id.module.0 < k = ltb-true id.module.0 k e in
        inr (absent (λ i. i.module.0 ≡ k) id (λ h. absurd (omega (arith, below, h))) P p)
    by_test false e =
        let above : k ≤ id.module.0 = ltb-false id.module.0 k e in
        inl (absent (λ i. i.module.0 < k) id (λ h. absurd (omega (arith, above, h))) G g)

-- where only lower numbers stand the items of the next module are new
not-itself : (n : ℕ) → n < n → ⊥
not-itself n h = omega (arith, h)

pub below-fresh : (k : ℕ) (G : Entries) (m : Module) → OnlyBelow (suc k) G → FreshFrom (home_of (numbered k) m) 0 G
below-fresh k G m g = λ n l.
    let i : GlobalId = item_of (home_of (numbered k) m) n in
    let never : suc k < suc k → ⊥ = not-itself (suc k) in (
      ap (option_map (λ (F : FamilyEntry). F.family))
          (lacks family_id (λ j. j.module.0 < suc k) i never G.families g.families),
      ap (option_map (λ (d : DefinitionEntry). d.definition))
          (lacks definition_id (λ j. j.module.0 < suc k) i never G.definitions g.definitions),
    )

-- ---- parts in turn
-- the first of modules that follow is apart, and those behind it follow
pub follow-apart : (G : Globals) (A : Accepted) (P : Globals) (As : List Accepted) → entries P ≡ A.checked.part →
    Follow (entries G) (A ∷ As) → (id : GlobalId) → IsAbsent G id ⊎ IsAbsent P id
follow-apart G A P As e f = apart f.first G P f.below (subst (OnlyOf f.first) (sym e) f.numbered.0)

pub follow-on : (G : Entries) (A : Accepted) (As : List Accepted) → Follow G (A ∷ As) →
    Follow (adopted G A.checked.part) As
follow-on G A As f = record {
  first = suc f.first;
  below = adopted-below f.first G A.checked.part f.below f.numbered.0;
  numbered = f.numbered.1;
}
