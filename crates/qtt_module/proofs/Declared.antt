-- What the declaration of a family or a signature ends with is what its rules derive.
use Rattle.std.proofs.Common.{◌≡◌, ℕ, suc, ◌+◌, ◌<◌, ◌≤◌, ◌⊎◌, inl, inr, map, get_or, true, not, nat_lt, List, [], ◌∷◌, length, slice_get, Option, Some, None, refl, ap, sym, subst, arith}
use Rattle.std.proofs.lemmas.Bool.{ltb-false, le-ltb, not-true, not_from_false}
use Rattle.std.proofs.lemmas.Option.{slice_get_cases}
use Rattle.qtt_base.specs.declared.place.GlobalId.{GlobalId}
use Rattle.qtt_base.specs.declared.place.Span.{Span}
use Rattle.qtt_usage.specs.declared.mult.Mult.{Mult}
use Rattle.qtt_usage.specs.Mult.{𝟘}
use Rattle.qtt_syntax.specs.Tree.{Tree, Param, Con}
use Rattle.qtt_syntax.specs.Tree.Param.{param}
use Rattle.qtt_syntax.specs.Tree.Con.{con}
use Rattle.qtt_term.specs.Term.{Term, Sort}
use Rattle.qtt_term.specs.Judgement.{Part}
use Rattle.qtt_term.specs.Items.{ConstructorEntry, FamilyEntry, DefinitionEntry}
use Rattle.qtt_term.specs.Ask.{Ask, ◌>>=◌, Ending, Ends, NoReading}
use Rattle.qtt_term.specs.Premises.{found}
use Rattle.qtt_term.specs.Entries.{Entries, env, with_family}
use Rattle.qtt_term.specs.Scope.{Scope, no_scope, with_name}
use Rattle.qtt_term.specs.Forms.{as_sort}
use Rattle.qtt_term.specs.Signature.{Constructor, Env}
use Rattle.qtt_rules.specs.Refusal.{Place, Refusal}
use Rattle.qtt_rules.specs.Asks.{Asks}
use Rattle.qtt_rules.specs.Judged.{Judged, Mode}
use Rattle.qtt_positive.specs.FirstBad.{or_later, bad_from, first_bad}
use Rattle.qtt_bidi.specs.Elaboration.{Classified, is_type, judge}
use Rattle.qtt_bidi.specs.Rules.{Elaborates, IsType}
use Rattle.qtt_core_check.proofs.Parts.{parts, ended}
use Rattle.qtt_core_check.proofs.Answered.{ends-then as joined}
use Rattle.qtt_bidi.proofs.Endings.{Gives, holding, held, asked, asks, head_found, found_head}
use Rattle.qtt_bidi.proofs.Derived.{derived, typing}
use Rattle.qtt_bidi.proofs.Reached.{ends, typed_so}
use Rattle.qtt_positive.proofs.Decided.{none_bad}
use Rattle.qtt_confluence.proofs.Definitions.{lists-read_definitions}
use Rattle.qtt_module.proofs.Unread.{constructors_unread}
use Rattle.qtt_bidi.proofs.Heads.{sort_head, head_sort}
use Rattle.qtt_module.specs.Families.{Piece, pieces, end_of, Opened, behind, is_within, Head, heading, family_with}
use Rattle.qtt_module.specs.FamilyRules.{UpTo, Again, TypeOf, FieldType, Parameters, Indices, Fields, Constructs, ConstructsAll, DeclaresFamily, DeclaresSignature}
use Rattle.qtt_module.specs.Families as tree

-- ---- what is looked for
looked_for : {E : Env} {X : Type 0} (o : Option X) (r : Refusal) (x : X) →
    Ends E {P = Place} (found o r) (Ending.ok x) → o ≡ Some x
looked_for None r x y = elim y [ ]
looked_for (Some z) r x Ends.is_done = refl

looked_up : {E : Env} {X : Type 0} (o : Option X) (r : Refusal) (x : X) → o ≡ Some x →
    Ends E {P = Place} (found o r) (Ending.ok x)
looked_up o r x e = rw e Ends.is_done

-- ---- bounds
within_so : (k l : ℕ) → not (nat_lt k l) ≡ true → l ≤ k
within_so k l e = ltb-false k l (not-true _ e)

so_within : (k l : ℕ) → l ≤ k → not (nat_lt k l) ≡ true
so_within k l h = not_from_false _ (le-ltb k l h)

bound_so : (b : Option ℕ) (l : ℕ) → is_within b l ≡ true → UpTo b l
bound_so None l e = tt
bound_so (Some k) l e = within_so k l e

so_bound : (b : Option ℕ) (l : ℕ) → UpTo b l → is_within b l ≡ true
so_bound None l u = refl
so_bound (Some k) l u = so_within k l u

sort_is : (t : Term) (l : ℕ) → as_sort t ≡ Some l → t ≡ Sort l
sort_is (Sort k) l e = let d : k ≡ l = cc e in ap Sort d
sort_is _ l e = absurd (cc e)

-- ---- types
again_so : (G : Entries) (S : Scope) (n : List ℕ) (b : Option ℕ) (s : Span) (A : Term) (u : Unit {0}) → Gives (env G)
    (tree.accepted G S n b s A) u → Again G S b A
again_so G S n b s A u x =
    let r = asked _ _ _ _ u x in
    let l = parts _ _ _ r.after in
    record {
      found = r.mid;
      level = l.mid;
      accepted = r.first;
      is_sort = sort_head (head_found _ _ _ r.mid.type _ l.mid l.first);
      within = bound_so b l.mid (holding _ _ u l.after);
    }

so_again : (G : Entries) (S : Scope) (n : List ℕ) (b : Option ℕ) (s : Span) (A : Term) → Again G S b A → Gives (env G)
    (tree.accepted G S n b s A) tt
so_again G S n b s A a = asks _ _ _ _ a.accepted (joined _ _ (found_head _ _ _ a.found.type _ a.level
    (head_sort a.is_sort)) (held _ _ (so_bound b a.level a.within)))

type_so : (G : Entries) (S : Scope) (n : List ℕ) (k : ℕ) (e : Tree) (T : Term) → Gives (env G) (tree.type_of G S n k e)
    T → TypeOf G S e T
type_so G S n k e T x =
    let r = parts _ _ _ x in
    let a = parts _ _ _ r.after in
    subst (λ z. TypeOf G S e z) (ended _ _ a.after) (TypeOf.type_of
    (typing G S e _ _ (derived e G Part.erased S Mode.synth) r.mid r.first) (again_so G S n None _ _ a.mid a.first))

type_of_is : (G : Entries) (S : Scope) (e : Tree) (D : Classified) (l : Place) → IsType G S e D → Gives (env G)
    (is_type S (judge G Part.erased S Mode.synth e) l) D
type_of_is G S e D l (IsType.classified d h) = typed_so G S _ l (ends d) h

so_type : (G : Entries) (S : Scope) (n : List ℕ) (k : ℕ) (e : Tree) (T : Term) → TypeOf G S e T → Gives (env G)
    (tree.type_of G S n k e) T
so_type G S n k e T (TypeOf.type_of {D = D} t a) = joined _ _ (type_of_is G S e D _ t)
    (joined _ _ (so_again G S n None _ _ a) Ends.is_done)

field_so : (G : Entries) (S : Scope) (n : List ℕ) (l : ℕ) (s : Span) (e : Tree) (T : Term) → Gives (env G)
    (tree.field_type G S n l s e) T → FieldType G l S e T
field_so G S n l s e T x =
    let r = parts _ _ _ x in
    let w = parts _ _ _ r.after in
    let a = parts _ _ _ w.after in
    subst (λ z. FieldType G l S e z) (ended _ _ a.after)
    (FieldType.field_type (typing G S e _ _ (derived e G Part.erased S Mode.synth) r.mid r.first)
    (within_so l _ (holding _ _ w.mid w.first)) (again_so G S n (Some l) _ _ a.mid a.first))

so_field : (G : Entries) (S : Scope) (n : List ℕ) (l : ℕ) (s : Span) (e : Tree) (T : Term) → FieldType G l S e T → Gives
    (env G) (tree.field_type G S n l s e) T
so_field G S n l s e T (FieldType.field_type {D = D} t h a) =
    joined _ _ (type_of_is G S e D _ t) (joined _ _ (held _ _ (so_within l _ h))
    (joined _ _ (so_again G S n (Some l) _ _ a) Ends.is_done))

-- ---- binders
more_parameters : (G : Entries) (n : List ℕ) (S : Scope) (q : Mult) (y : List ℕ) (A : Tree) (s : Span) (ps : List Param)
    (rest : Scope → Asks Opened) →
    ((T : Scope) (r : Opened) → Gives (env G) (rest T) r → Parameters G T ps r) →
    (r : Opened) → Gives (env G) (tree.type_of G S n 1 A >>= λ T. rest (with_name 𝟘 T S) >>= λ r. Ask.done
    (behind 𝟘 T r)) r → Parameters G S (param q y A s ∷ ps) r
more_parameters G n S q y A s ps rest f r x =
    let t = parts _ _ _ x in
    let m = parts _ _ _ t.after in
    subst (λ z. Parameters G S (param q y A s ∷ ps) z) (ended _ _ m.after)
    (Parameters.more (type_so G S n 1 A t.mid t.first) (f (with_name 𝟘 t.mid S) m.mid m.first))

parameters_so : (G : Entries) (n : List ℕ) (ps : List Param) (S : Scope) (r : Opened) → Gives (env G)
    (tree.parameters G n S ps) r → Parameters G S ps r
parameters_so G n [] S r x = subst (λ z. Parameters G S [] z) (ended _ _ x) Parameters.none
parameters_so G n (param q y A s ∷ ps) S r x = more_parameters G n S q y A s ps (λ T. tree.parameters G n T ps)
    (λ T r x. parameters_so G n ps T r x) r x

so_parameters : (G : Entries) (n : List ℕ) (S : Scope) (ps : List Param) (r : Opened) → Parameters G S ps r → Gives
    (env G) (tree.parameters G n S ps) r
so_parameters G n S _ _ Parameters.none = Ends.is_done
so_parameters G n S _ _ (Parameters.more t m) = joined _ _ (so_type G S n 1 _ _ t)
    (joined _ _ (so_parameters G n _ _ _ m) Ends.is_done)

indices_so : (G : Entries) (n : List ℕ) (S : Scope) (xs : List Piece) (Ts : List Term) → Gives (env G)
    (tree.indices G n S xs) Ts → Indices G S xs Ts
indices_so G n S [] Ts x = subst (λ z. Indices G S [] z) (ended _ _ x) Indices.none
indices_so G n S (y ∷ xs) Ts x =
    let t = parts _ _ _ x in
    let m = parts _ _ _ t.after in
    subst (λ z. Indices G S (y ∷ xs) z) (ended _ _ m.after) (Indices.more (type_so G S n 3 y.type t.mid t.first)
    (indices_so G n _ xs m.mid m.first))

so_indices : (G : Entries) (n : List ℕ) (S : Scope) (xs : List Piece) (Ts : List Term) → Indices G S xs Ts → Gives
    (env G) (tree.indices G n S xs) Ts
so_indices G n S _ _ Indices.none = Ends.is_done
so_indices G n S _ _ (Indices.more t m) = joined _ _ (so_type G S n 3 _ _ t)
    (joined _ _ (so_indices G n _ _ _ m) Ends.is_done)

more_fields : (G : Entries) (n : List ℕ) (l : ℕ) (S : Scope) (y : Piece) (xs : List Piece) (rest : Scope → Asks Opened)
    →
    ((T : Scope) (r : Opened) → Gives (env G) (rest T) r → Fields G l T xs r) →
    (r : Opened) → Gives (env G) (tree.field_type G S n l y.span y.type >>= λ T. rest (with_name y.mult T S) >>= λ r.
    Ask.done (behind y.mult T r)) r → Fields G l S (y ∷ xs) r
more_fields G n l S y xs rest f r x =
    let t = parts _ _ _ x in
    let m = parts _ _ _ t.after in
    subst (λ z. Fields G l S (y ∷ xs) z) (ended _ _ m.after) (Fields.more (field_so G S n l y.span y.type t.mid t.first)
    (f (with_name y.mult t.mid S) m.mid m.first))

fields_so : (G : Entries) (n : List ℕ) (l : ℕ) (xs : List Piece) (S : Scope) (r : Opened) → Gives (env G)
    (tree.fields G n l S xs) r → Fields G l S xs r
fields_so G n l [] S r x = subst (λ z. Fields G l S [] z) (ended _ _ x) Fields.none
fields_so G n l (y ∷ xs) S r x = more_fields G n l S y xs (λ T. tree.fields G n l T xs)
    (λ T r x. fields_so G n l xs T r x) r x

so_fields : (G : Entries) (n : List ℕ) (l : ℕ) (S : Scope) (xs : List Piece) (r : Opened) → Fields G l S xs r → Gives
    (env G) (tree.fields G n l S xs) r
so_fields G n l S _ _ Fields.none = Ends.is_done
so_fields G n l S _ _ (Fields.more t m) = joined _ _ (so_field G S n l _ _ _ t)
    (joined _ _ (so_fields G n l _ _ _ m) Ends.is_done)

-- ---- constructors
constructs_so : (G : Entries) (F : Head) (k : ℕ) (c : Con) (d : ConstructorEntry) → Gives (env G)
    (tree.constructor G F k c) d → Constructs G F k c d
constructs_so G F k (con n t s) d x =
    let r = parts _ _ _ x in
    let j = parts _ _ _ r.after in
    let u = parts _ _ _ j.after in
    subst (λ z. Constructs G F k (con n t s) z) (ended _ _ u.after)
    (Constructs.constructs (fields_so G n F.level (pieces t) F.params.scope r.mid r.first)
    (derived (end_of t) G Part.erased r.mid.scope Mode.synth j.mid j.first) (looked_for _ _ u.mid u.first))

so_constructs : (G : Entries) (F : Head) (k : ℕ) (c : Con) (d : ConstructorEntry) → Constructs G F k c d → Gives (env G)
    (tree.constructor G F k c) d
so_constructs G F k _ _ (Constructs.constructs {n = n} {us = us} f e h) = joined _ _ (so_fields G n F.level _ _ _ f)
    (joined _ _ (ends e) (joined _ _ (looked_up _ _ us h) Ends.is_done))

all_so : (G : Entries) (F : Head) (k : ℕ) (cs : List Con) (ds : List ConstructorEntry) → Gives (env G)
    (tree.constructors G F k cs) ds → ConstructsAll G F k cs ds
all_so G F k [] ds x = subst (λ z. ConstructsAll G F k [] z) (ended _ _ x) ConstructsAll.none
all_so G F k (c ∷ cs) ds x =
    let r = parts _ _ _ x in
    let m = parts _ _ _ r.after in
    subst (λ z. ConstructsAll G F k (c ∷ cs) z) (ended _ _ m.after)
    (ConstructsAll.more (constructs_so G F k c r.mid r.first) (all_so G F (suc k) cs m.mid m.first))

so_all : (G : Entries) (F : Head) (k : ℕ) (cs : List Con) (ds : List ConstructorEntry) → ConstructsAll G F k cs ds →
    Gives (env G) (tree.constructors G F k cs) ds
so_all G F k _ _ ConstructsAll.none = Ends.is_done
so_all G F k _ _ (ConstructsAll.more c m) = joined _ _ (so_constructs G F k _ _ c)
    (joined _ _ (so_all G F (suc k) _ _ m) Ends.is_done)

-- ---- the first bad field is a constructor's
later_is : (c : ℕ) (o : Option ℕ) (later : Option (ℕ × ℕ)) (i k : ℕ) → or_later c o later ≡ Some (i, k) → (i ≡ c) ⊎
    (later ≡ Some (i, k))
later_is c None later i k e = inr e
later_is c (Some n) later i k e = inl (sym (ap first_one e))
  where
    first_one : Option (ℕ × ℕ) → ℕ
    first_one None = 0
    first_one (Some x) = x.0

bad_within : (f : GlobalId) (c : ℕ) (ds : List Constructor) (i k : ℕ) → bad_from f c ds ≡ Some (i, k) → i < c + length
    ds
bad_within f c [] i k e = absurd (cc e)
bad_within f c (d ∷ ds) i k e = by (later_is c _ _ i k e) (bad_within f (suc c) ds i k)
  where
    by : (i ≡ c) ⊎ (bad_from f (suc c) ds ≡ Some (i, k)) → (bad_from f (suc c) ds ≡ Some (i, k) → i < suc c + length
        ds) → i < c + suc (length ds)
    by (inl h) r = omega (arith, h)
    by (inr h) r = let g = r h in omega (arith, g)

all_counted : {G : Entries} {F : Head} {k : ℕ} {cs : List Con} {ds : List ConstructorEntry} → ConstructsAll G F k cs
    ds → length cs ≡ length ds
all_counted ConstructsAll.none = refl
all_counted (ConstructsAll.more c m) = ap suc (all_counted m)

none_is : {E : _} (cs : List Con) (o : Option (ℕ × ℕ)) (u : Unit {0}) → ((i k : ℕ) → o ≡ Some (i, k) → i < length cs) →
    Gives E (tree.none_bad cs o) u → o ≡ None
none_is cs None u w x = refl
none_is {E} cs (Some y) u w x = by (slice_get cs y.0) x (slice_get_cases cs y.0).1
  where
    by : (o : Option Con) → Gives E (tree.refuse_bad o y.1) u →
        ((c : Con) × (y.0 < length cs) × (o ≡ Some c) × (get_or cs y.0 c ≡ c)) ⊎ ((length cs ≤ y.0) × (o ≡ None)) → ◌≡◌
        {A = Option (ℕ × ℕ)} (Some y) None
    by (Some (con n t s)) z h = elim z [ ]
    by None z (inl h) = absurd (cc h.2)
    by None z (inr h) = let l = w y.0 y.1 refl in absurd (omega (arith, l, h.0))

none_so : {E : _} (cs : List Con) (o : Option (ℕ × ℕ)) → o ≡ None → Gives E (tree.none_bad cs o) tt
none_so cs None e = Ends.is_done
none_so cs (Some y) e = absurd (cc e)

level_so : (G : Entries) (S : Scope) (e : Tree) (l : ℕ) → Gives (env G) (tree.level G S e) l → (j : Judged) × Elaborates
    G Part.erased S Mode.synth e j × (j.core ≡ Sort l)
level_so G S e l x =
    let r = parts _ _ _ x in
    (r.mid, derived e G Part.erased S Mode.synth r.mid r.first, sort_is _ l (looked_for _ _ l r.after))

so_level : (G : Entries) (S : Scope) (e : Tree) (l : ℕ) (j : Judged) → Elaborates G Part.erased S Mode.synth e j →
    j.core ≡ Sort l → Gives (env G) (tree.level G S e) l
so_level G S e l j d h = joined _ _ (ends d) (looked_up _ _ l (ap as_sort h))

-- ---- families
-- constructors are judged beside their family, and their questions don't look at families
beside : (G : Entries) (F : FamilyEntry) {A : Type 0} {m : Asks A} {x : A} → NoReading m → Gives (env G) m x → Gives
    (env (with_family F G)) m x
beside G F u x = (lists-read_definitions _ _ _ (env G) (env (with_family F G)) (λ d. refl)).ends _ _ u x

without : (G : Entries) (F : FamilyEntry) {A : Type 0} {m : Asks A} {x : A} → NoReading m → Gives
    (env (with_family F G)) m x → Gives (env G) m x
without G F u x = (lists-read_definitions _ _ _ (env (with_family F G)) (env G) (λ d. refl)).ends _ _ u x

counted_map : (ds : List ConstructorEntry) → length (map (λ (d : ConstructorEntry). d.constructor) ds) ≡ length ds
counted_map [] = refl
counted_map (d ∷ ds) = ap suc (counted_map ds)

pub family_so : (G : Entries) (f : GlobalId) (M n : List ℕ) (ps : List Param) (t : Tree) (cs : List Con)
    (D : FamilyEntry) →
    Gives (env G) (tree.family G f M n ps t cs) D → DeclaresFamily G f M n ps t cs D
family_so G f M n ps t cs D x =
    let P = parts _ _ _ x in
    let l = parts _ _ _ P.after in
    let T = parts _ _ _ l.after in
    let d = parts _ _ _ T.after in
    let g = parts _ _ _ d.after in
    let (j, e, h) = level_so G _ (end_of t) l.mid l.first in
    let c = all_so _ (heading f M n P.mid T.mid l.mid) 0 cs d.mid
    (beside G (family_with (heading f M n P.mid T.mid l.mid) [])
    (constructors_unread _ (heading f M n P.mid T.mid l.mid) 0 cs) d.first) in
    subst (λ z. DeclaresFamily G f M n ps t cs z) (ended _ _ g.after)
    (DeclaresFamily.declares (parameters_so G n ps no_scope P.mid P.first) e h
    (indices_so G n P.mid.scope (pieces t) T.mid T.first) c
    ((none_bad f (family_with (heading f M n P.mid T.mid l.mid) d.mid).family).0
    (none_is cs _ g.mid (within c) g.first)))
  where
    within : {H : Entries} {F : Head} {ds : List ConstructorEntry} → ConstructsAll H F 0 cs ds → (i k : ℕ) → first_bad f
        (family_with F ds).family ≡ Some (i, k) → i < length cs
    within {H} {F} {ds} c i k e =
        let w = bad_within f 0 (map (λ (d : ConstructorEntry). d.constructor) ds) i k e in
        let m = counted_map ds in
        let a = all_counted c in omega (arith, w, m, a)

pub so_family : (G : Entries) (f : GlobalId) (M n : List ℕ) (ps : List Param) (t : Tree) (cs : List Con)
    (D : FamilyEntry) →
    DeclaresFamily G f M n ps t cs D → Gives (env G) (tree.family G f M n ps t cs) D
so_family G f M n _ t cs _ (DeclaresFamily.declares {P = P} {j = j} {l = l} {Ts = Ts} {ds = ds} p e h i c g) =
    joined _ _ (so_parameters G n no_scope _ P p) (joined _ _ (so_level G _ (end_of t) l j e h)
    (joined _ _ (so_indices G n P.scope (pieces t) Ts i)
    (joined _ _ (without G (family_with (heading f M n P Ts l) []) (constructors_unread _ (heading f M n P Ts l) 0 cs)
    (so_all _ (heading f M n P Ts l) 0 cs ds c)) (joined _ _
    (none_so cs _ ((none_bad f (family_with (heading f M n P Ts l) ds).family).1 g)) Ends.is_done))))

pub signature_so : (G : Entries) (d : GlobalId) (M n : List ℕ) (q : Mult) (t : Tree) (D : DefinitionEntry) → Gives
    (env G) (tree.signature G d M n q t) D → DeclaresSignature G d M n q t D
signature_so G d M n q t D x = let r = parts _ _ _ x in subst (λ z. DeclaresSignature G d M n q t z) (ended _ _ r.after)
    (DeclaresSignature.signed (type_so G no_scope n 8 t r.mid r.first))

pub so_signature : (G : Entries) (d : GlobalId) (M n : List ℕ) (q : Mult) (t : Tree) (D : DefinitionEntry) →
    DeclaresSignature G d M n q t D → Gives (env G) (tree.signature G d M n q t) D
so_signature G d M n q t _ (DeclaresSignature.signed {T = T} h) = joined _ _ (so_type G no_scope n 8 t T h) Ends.is_done
