-- An accepted module keeps the environment well formed: an induction over its items.
use Rattle.std.proofs.Common.{◌≡◌, ℕ, suc, ◌+◌, ◌≤◌, ◌⊎◌, inl, inr, Bool, true, false, ◌||◌, not, List, [], ◌∷◌, ◌++◌, map, find, bytes_eq, Some, None, cond, refl, sym, ap, subst, ◌∙◌, arith}
use Rattle.std.proofs.lemmas.Bool.{and_parts}
use Rattle.std.proofs.lemmas.Slice.Eq.{bytes_eq-Decides}
use Rattle.qtt_base.specs.declared.place.GlobalId.{GlobalId}
use Rattle.qtt_term.specs.Term.{Term, same_id}
use Rattle.qtt_term.specs.Signature.{Definition, Env, definition_of, definition_at}
use Rattle.qtt_term.specs.Items.{FamilyEntry, DefinitionEntry}
use Rattle.qtt_term.specs.Environment.{WellFormed}
use Rattle.qtt_term.proofs.Options.{none≢some, some-injective}
use Rattle.qtt_term.proofs.Same.{same_id-is}
use Rattle.qtt_term.specs.Entries.{Entries, env, with_family, with_definition, with_body}
use Rattle.qtt_split.specs.Node.{Clause}
use Rattle.qtt_module.specs.Declarations.{Declaration}
use Rattle.qtt_module.specs.Sides.{Given}
use Rattle.qtt_holes.specs.Hole.{Hole}
use Rattle.qtt_module.specs.Module.{Home, item_of, Signed, Stage, after_family, after_signature, after_group, with_clauses}
use Rattle.qtt_accepted.specs.Members.{Among}
use Rattle.qtt_accepted.specs.Stages.{FreshFrom, group_names, is_among, all_differ}
use Rattle.qtt_accepted.proofs.Added.{Added, kept, apart, itself}
use Rattle.qtt_accepted.proofs.Signed.{definition-added}
use Rattle.qtt_accepted.proofs.Families.{family-entry}
use Rattle.qtt_accepted.proofs.Bodies.{grown, apart-body}

-- ---- lists
pub at-end : {A : Type 0} (x z : A) (xs : List A) → Among x (xs ++ (z ∷ [])) → Among x xs ⊎ (x ≡ z)
at-end x z [] Among.here = inr refl
at-end x z [] (Among.later h) = elim h [ ]
at-end x z (y ∷ ys) Among.here = inl Among.here
at-end x z (y ∷ ys) (Among.later h) = elim (at-end x z ys h) [
  | inl i ↦ inl (Among.later i)
  | inr e ↦ inr e
]

pub record Image {A B : Type 0} (f : A → B) (xs : List A) (y : B) : Type 0 where
  pub source : A
  pub among : Among source xs
  pub is : f source ≡ y

pub in-image : {A B : Type 0} (f : A → B) (xs : List A) (y : B) → Among y (map f xs) → Image f xs y
in-image f [] y h = elim h [ ]
in-image f (x ∷ xs) _ Among.here = record { source = x; among = Among.here; is = refl }
in-image f (x ∷ xs) y (Among.later h) =
    let r = in-image f xs y h in record { source = r.source; among = Among.later r.among; is = r.is }

pub record Hit {A : Type 0} (p : A → Bool) (xs : List A) (x : A) : Type 0 where
  pub among : Among x xs
  pub holds : p x ≡ true

pub hit : {A : Type 0} (p : A → Bool) (xs : List A) (x : A) → find p xs ≡ Some x → Hit p xs x
hit p [] x e = absurd (none≢some e)
hit p (y ∷ ys) x e = by_test (λ h. hit p ys x h) (p y) refl e
  where
    by_test : (find p ys ≡ Some x → Hit p ys x) → (b : Bool) → p y ≡ b → cond b (Some y) (find p ys) ≡ Some x →
        Hit p (y ∷ ys) x
    by_test rest true t h = subst (Hit p (y ∷ ys)) (some-injective h) (record { among = Among.here; holds = t })
    by_test rest false t h = let r = rest h in record { among = Among.later r.among; holds = r.holds }

-- ---- names
pub same-names : (n m : List ℕ) → bytes_eq n m ≡ true → n ≡ m
same-names n m e = (bytes_eq-Decides n m).0 e

pub names-same : (n : List ℕ) → bytes_eq n n ≡ true
names-same n = (bytes_eq-Decides n n).1 refl

pub true≢false : true ≡ false → ⊥
true≢false e = absurd (cc e)

pub not-so : (b : Bool) → not b ≡ true → b ≡ false
not-so true e = absurd (cc e)
not-so false e = refl

pub of-either : (a b : Bool) → a || b ≡ false → (a ≡ false) × (b ≡ false)
of-either true b e = absurd (cc e)
of-either false b e = (refl, e)

-- ---- ids
pub other-item : (M : Home) (a b : ℕ) → (a ≡ b → ⊥) → same_id (item_of M a) (item_of M b) ≡ false
other-item M a b n = by_test (same_id (item_of M a) (item_of M b)) refl
  where
    by_test : (c : Bool) → same_id (item_of M a) (item_of M b) ≡ c → c ≡ false
    by_test true t = absurd (n (ap (λ (i : GlobalId). i.item) (same_id-is (item_of M a) (item_of M b) t)))
    by_test false t = refl

-- ---- what holds between two items, before these declarations
pub record SignedFormed (G : Entries) (ds : List Declaration) (x : Signed) : Type 0 where
  pub definition : Definition
  pub there : (env G).definition x.id ≡ Some definition
  -- without clauses it has no body
  pub bare : x.has_clauses ≡ false → definition.body ≡ None
  -- with clauses none of its name come
  pub done : x.has_clauses ≡ true → is_among x.name (group_names ds) ≡ false

pub record Formed (M : Home) (S : Stage) (ds : List Declaration) : Type 0 where
  pub well : WellFormed (env S.globals)
  pub fresh : FreshFrom M S.next S.globals
  pub signed : (x : Signed) → Among x S.signed → SignedFormed S.globals ds x
  pub once : (x y : Signed) → Among x S.signed → Among y S.signed → x.id ≡ y.id → x.name ≡ y.name

-- ---- a definition that is there stays, and is another than a new one
there-other : (E : Env) (i x : GlobalId) {A : Definition} → E.definition i ≡ None → E.definition x ≡ Some A →
    i ≡ x → ⊥
there-other E i x n e s = none≢some (sym n ∙ ap E.definition s ∙ e)

-- what is asked of signatures is asked of those before
over : (G H : Entries) (ds : List Declaration) (x : Signed) →
    ((A : Definition) → (env G).definition x.id ≡ Some A → (env H).definition x.id ≡ Some A) → SignedFormed G ds x →
    SignedFormed H ds x
over G H ds x stay s = record {
  definition = s.definition;
  there = stay s.definition s.there;
  bare = s.bare;
  done = s.done;
}

-- ---- a family
module _ (M : Home) (S : Stage) (F : FamilyEntry) (count : ℕ) (i : F.id ≡ item_of M S.next) where
  family-lookup : (n : ℕ) → suc (count + S.next) ≤ n → (env S.globals).family (item_of M n) ≡ None →
      (env S.globals).family F.id ≡ None → (env (with_family F S.globals)).family (item_of M n) ≡ None
  family-lookup n l e new =
      sym (apart (family-entry S.globals F new) (item_of M n)
      (ap (λ z. same_id z (item_of M n)) i ∙ other-item M S.next n (λ s. absurd (omega (arith, l, s))))) ∙ e

  pub after-family : (ds : List Declaration) → Formed M S ds → WellFormed (env (with_family F S.globals)) →
      Formed M (after_family F count S) ds
  after-family ds f w =
      let new = ap (env S.globals).family i ∙ (f.fresh S.next (omega arith)).0 in
      record {
        well = w;
        fresh = λ n l. (
          family-lookup n l (f.fresh n (omega (arith, l))).0 new,
          (f.fresh n (omega (arith, l))).1,
        );
        signed = λ x a. over S.globals (with_family F S.globals) ds x (λ A e. e) (f.signed x a);
        once = f.once;
      }

-- ---- a signature
module _ (M : Home) (S : Stage) (D : DefinitionEntry) (x : Signed) (i : D.id ≡ item_of M S.next)
    (j : x.id ≡ item_of M S.next) (bare : D.definition.body ≡ None) (unset : x.has_clauses ≡ false) where
  G : Entries
  G = with_definition D S.globals

  pub after-signed : (ds : List Declaration) → Formed M S ds → WellFormed (env (with_definition D S.globals)) →
      Formed M (after_signature D x S) ds
  after-signed ds f w = record {
    well = w;
    fresh = λ n l. (
      (f.fresh n (omega (arith, l))).0,
      sym (apart added (item_of M n)
          (ap (λ z. same_id z (item_of M n)) i ∙ other-item M S.next n (λ s. absurd (omega (arith, l, s)))))
          ∙ (f.fresh n (omega (arith, l))).1,
    );
    signed = λ y a. of-signed y (at-end y x S.signed a);
    once = λ y z a b e. one-name y z (at-end y x S.signed a) (at-end z x S.signed b) e;
  }
    where
      new : (env S.globals).definition D.id ≡ None
      new = ap (env S.globals).definition i ∙ (f.fresh S.next (omega arith)).1

      added : Added D.id D.definition (env S.globals).definition (env (with_definition D S.globals)).definition
      added = definition-added S.globals D new

      own : SignedFormed (with_definition D S.globals) ds x
      own = record {
        definition = D.definition;
        there = ap (env (with_definition D S.globals)).definition (j ∙ sym i) ∙ itself added;
        bare = λ e. bare;
        done = λ e. absurd (true≢false (sym e ∙ unset));
      }

      of-signed : (y : Signed) → Among y S.signed ⊎ (y ≡ x) → SignedFormed (with_definition D S.globals) ds y
      of-signed y (inl a) =
          over S.globals (with_definition D S.globals) ds y (λ A e. kept added y.id A e) (f.signed y a)
      of-signed y (inr e) = subst (SignedFormed (with_definition D S.globals) ds) (sym e) own

      apart-from : (y : Signed) → Among y S.signed → x.id ≡ y.id → ⊥
      apart-from y a e =
          there-other (env S.globals) x.id y.id
          (ap (env S.globals).definition j ∙ (f.fresh S.next (omega arith)).1) (f.signed y a).there e

      one-name : (y z : Signed) → Among y S.signed ⊎ (y ≡ x) → Among z S.signed ⊎ (z ≡ x) → y.id ≡ z.id →
          y.name ≡ z.name
      one-name y z (inl a) (inl b) e = f.once y z a b e
      one-name y z (inl a) (inr q) e =
          absurd (apart-from y a (sym (e ∙ ap (λ (s : Signed). s.id) q)))
      one-name y z (inr q) (inl b) e = absurd (apart-from z b (sym (ap (λ (s : Signed). s.id) q) ∙ e))
      one-name y z (inr q) (inr r) e = ap (λ (s : Signed). s.name) q ∙ sym (ap (λ (s : Signed). s.name) r)

-- ---- a group of clauses
pub differ-so : (n : List ℕ) (ns : List (List ℕ)) → all_differ (n ∷ ns) ≡ true →
    (is_among n ns ≡ false) × (all_differ ns ≡ true)
differ-so n ns e =
    let (a, b) = and_parts (not (is_among n ns)) (all_differ ns) e in (not-so (is_among n ns) a, b)

-- a name that is marked has clauses
has-clauses : (n : List ℕ) (y : Signed) → bytes_eq n y.name ≡ true → (with_clauses n y).has_clauses ≡ true
has-clauses n y e = ap (λ b. cond b true y.has_clauses) e

pub others-same : (n : List ℕ) (y : Signed) → bytes_eq n y.name ≡ false → (with_clauses n y).has_clauses ≡ y.has_clauses
others-same n y e = ap (λ b. cond b true y.has_clauses) e

module _ (M : Home) (S : Stage) (n : List ℕ) (c : Clause) (cs : List Clause) (ds : List Declaration) (x : Signed)
    (f : Formed M S (Declaration.group n c cs ∷ ds)) (among : Among x S.signed) (named : bytes_eq x.name n ≡ true)
    (differ : all_differ (n ∷ group_names ds) ≡ true) where
  abbrev pub own : SignedFormed S.globals (Declaration.group n c cs ∷ ds) x
  own = f.signed x among

  no-clauses : x.has_clauses ≡ false
  no-clauses = by_test x.has_clauses refl
    where
      by_test : (b : Bool) → x.has_clauses ≡ b → b ≡ false
      by_test true t =
          absurd (true≢false
          (sym named ∙ (of-either (bytes_eq x.name n) (is_among x.name (group_names ds)) (own.done t)).0))
      by_test false t = refl

  pub no-body : own.definition.body ≡ None
  no-body = own.bare no-clauses

  pub definition-is : definition_at (env S.globals) x.id ≡ own.definition
  definition-is = ap definition_of own.there

  -- with what is marked, over an environment in which definitions stay, and those without clauses are as they were
  marked : (H : Entries) →
      ((y : Signed) → Among y S.signed → (A : Definition) → (env S.globals).definition y.id ≡ Some A →
      (B : Definition) × ((env H).definition y.id ≡ Some B)) →
      ((y : Signed) → Among y S.signed → bytes_eq n y.name ≡ false →
      (env H).definition y.id ≡ (env S.globals).definition y.id) →
      (z : Signed) → Image (with_clauses n) S.signed z → SignedFormed H ds z
  marked H stay same z r = subst (SignedFormed H ds) r.is (by_test (bytes_eq n r.source.name) refl)
    where
      y : Signed
      y = r.source

      of-y : SignedFormed S.globals (Declaration.group n c cs ∷ ds) r.source
      of-y = f.signed r.source r.among

      by_test : (b : Bool) → bytes_eq n r.source.name ≡ b → SignedFormed H ds (with_clauses n r.source)
      by_test true t =
          let d = stay r.source r.among of-y.definition of-y.there in
          record {
            definition = d.0;
            there = d.1;
            bare = λ e. absurd (true≢false (sym (has-clauses n r.source t) ∙ e));
            done = λ e.
                subst (λ m. is_among m (group_names ds) ≡ false) (same-names n r.source.name t)
                (differ-so n (group_names ds) differ).0;
          }
      by_test false t = record {
        definition = of-y.definition;
        there = same r.source r.among t ∙ of-y.there;
        bare = λ e. of-y.bare (sym (others-same n r.source t) ∙ e);
        done = λ e.
            (of-either (bytes_eq r.source.name n) (is_among r.source.name (group_names ds))
            (of-y.done (sym (others-same n r.source t) ∙ e))).1;
      }

  one-name : (y z : Signed) → Image (with_clauses n) S.signed y → Image (with_clauses n) S.signed z → y.id ≡ z.id →
      y.name ≡ z.name
  one-name y z a b e =
      ap (λ (s : Signed). s.name) (sym a.is)
      ∙ f.once a.source b.source a.among b.among
      (ap (λ (s : Signed). s.id) a.is ∙ e ∙ ap (λ (s : Signed). s.id) (sym b.is))
      ∙ ap (λ (s : Signed). s.name) b.is

  pub behind-holes : (hs : List Hole) → Formed M (after_group n x.id (Given.holes hs) S) ds
  behind-holes hs = record {
    well = f.well;
    fresh = f.fresh;
    signed = λ z a.
        marked S.globals (λ y b A e. (A, e)) (λ y b e. refl) z (in-image (with_clauses n) S.signed z a);
    once = λ y z a b e.
        one-name y z (in-image (with_clauses n) S.signed y a) (in-image (with_clauses n) S.signed z b) e;
  }

  pub behind-body : (b : Term) → WellFormed (env (with_body x.id b S.globals)) →
      Formed M (after_group n x.id (Given.body b) S) ds
  behind-body b w = record {
    well = w;
    fresh = λ k l. ((f.fresh k l).0, still-new k l);
    signed = λ z a.
        marked (with_body x.id b S.globals) stay same z (in-image (with_clauses n) S.signed z a);
    once = λ y z a d e.
        one-name y z (in-image (with_clauses n) S.signed y a) (in-image (with_clauses n) S.signed z d) e;
  }
    where
      stay : (y : Signed) → Among y S.signed → (A : Definition) → (env S.globals).definition y.id ≡ Some A →
          (B : Definition) × ((env (with_body x.id b S.globals)).definition y.id ≡ Some B)
      stay y a A e =
          let g = grown S.globals x.id b own.definition own.there no-body y.id A e in (g.0, g.1)

      apart-id : (i : GlobalId) → (i ≡ x.id → ⊥) →
          (env (with_body x.id b S.globals)).definition i ≡ (env S.globals).definition i
      apart-id i n = apart-body S.globals x.id b own.definition own.there no-body i (by_test (same_id i x.id) refl)
        where
          by_test : (c : Bool) → same_id i x.id ≡ c → c ≡ false
          by_test true t = absurd (n (same_id-is i x.id t))
          by_test false t = refl

      same : (y : Signed) → Among y S.signed → bytes_eq n y.name ≡ false →
          (env (with_body x.id b S.globals)).definition y.id ≡ (env S.globals).definition y.id
      same y a t = apart-id y.id (λ e.
          true≢false
          (sym (ap (bytes_eq n) (f.once y x a among e ∙ same-names x.name n named) ∙ names-same n) ∙ t))

      still-new : (k : ℕ) → S.next ≤ k → (env (with_body x.id b S.globals)).definition (item_of M k) ≡ None
      still-new k l =
          apart-id (item_of M k)
          (λ e. there-other (env S.globals) (item_of M k) x.id (f.fresh k l).1 own.there e)
          ∙ (f.fresh k l).1
