-- An accepted module without a hole keeps the environment complete.
use Rattle.std.proofs.Common.{◌≡◌, ℕ, ◌⊎◌, inl, inr, Bool, true, false, List, [], ◌∷◌, ◌++◌, map, length, bytes_eq, Option, Some, None, cond, refl, sym, ap, subst, ◌∙◌, arith}
use Rattle.qtt_base.specs.declared.place.GlobalId.{GlobalId}
use Rattle.qtt_usage.specs.declared.mult.Mult.{Mult}
use Rattle.qtt_term.specs.Term.{Term, same_id}
use Rattle.qtt_term.specs.Signature.{Definition, Env, There}
use Rattle.qtt_term.specs.Judgement.{Part, Usable}
use Rattle.qtt_term.specs.Items.{FamilyEntry, DefinitionEntry}
use Rattle.qtt_term.specs.Ask.{Ending, Ends}
use Rattle.qtt_term.specs.Environment.{Complete}
use Rattle.qtt_term.proofs.Options.{none≢some}
use Rattle.qtt_term.proofs.Same.{same_id-is, id-same}
use Rattle.qtt_term.specs.Entries.{Entries, env, with_definition, with_body}
use Rattle.qtt_core_check.proofs.Parts.{parts, ended}
use Rattle.qtt_split.specs.Node.{Clause}
use Rattle.qtt_split.specs.Plan.{Planned}
use Rattle.qtt_split.specs.Group.{Defined, Numbered, tree_of, all_sides, body_with, body_holds}
use Rattle.qtt_split.specs.Tree.{leaves}
use Rattle.qtt_holes.specs.Hole.{Hole}
use Rattle.qtt_module.specs.Families.{family, signature}
use Rattle.qtt_module.specs.Declarations.{Declaration, declarations}
use Rattle.qtt_module.specs.Sides.{Side, Given, cores, holes_from, side_or_hole, end_group, group_of}
use Rattle.qtt_module.specs.Module.{Home, item_of, Signed, Stage, start, after_family, after_signature, after_group, with_clauses, signed_as, defined, group_for, declare, all_have_clauses, or_bare, first_bare, InTurn}
use Rattle.qtt_module.proofs.Declared.{signature_so}
use Rattle.qtt_accepted.specs.Members.{Among}
use Rattle.qtt_accepted.specs.Stages.{signature_names, is_among, all_differ, group_names, Marked}
use Rattle.qtt_accepted.specs.Laws.{ModulesKeepForm}
use Rattle.qtt_accepted.proofs.Added.{Comes, seen-id}
use Rattle.qtt_accepted.proofs.Signed.{definition-added}
use Rattle.qtt_accepted.proofs.Bodies.{apart-body, its-body}
use Rattle.qtt_accepted.proofs.Stages.{at-end, Image, in-image, hit, true≢false, same-names, names-same, of-either, differ-so, others-same, Formed, SignedFormed, no-body}
use Rattle.qtt_accepted.proofs.Groups.{groups_make_no_tape_holds}
use Rattle.qtt_accepted.proofs.Turns.{named_so, signature-id, nothing-more, behind-marks, behind-names, step, starts, module_formed}

-- ---- lists
in-front : {A : Type 0} (x : A) (xs ys : List A) → Among x xs → Among x (xs ++ ys)
in-front x [] ys a = elim a [ ]
in-front x (y ∷ xs) ys Among.here = Among.here
in-front x (y ∷ xs) ys (Among.later a) = Among.later (in-front x xs ys a)

first-or : {A : Type 0} (x y : A) (xs : List A) → Among x (y ∷ xs) → (x ≡ y) ⊎ Among x xs
first-or x y xs Among.here = inl refl
first-or x y xs (Among.later a) = inr a

last-one : {A : Type 0} (x : A) (xs : List A) → Among x (xs ++ (x ∷ []))
last-one x [] = Among.here
last-one x (y ∷ xs) = Among.later (last-one x xs)

mapped-in : {A B : Type 0} (f : A → B) (x : A) (xs : List A) → Among x xs → Among (f x) (map f xs)
mapped-in f x [] a = elim a [ ]
mapped-in f x (y ∷ xs) Among.here = Among.here
mapped-in f x (y ∷ xs) (Among.later a) = Among.later (mapped-in f x xs a)

pub front-empty : {A : Type 0} (xs ys : List A) → xs ++ ys ≡ [] → xs ≡ []
front-empty [] ys e = refl
front-empty (x ∷ xs) ys e = absurd (cc e)

behind-empty : {A : Type 0} (xs : List A) (y : A) (ys : List A) → xs ++ (y ∷ ys) ≡ [] → ⊥
behind-empty [] y ys e = absurd (cc e)
behind-empty (x ∷ xs) y ys e = absurd (cc e)

-- ---- what holds between two items: a definition without a body waits for its clauses, or there is a hole
record Waits (S : Stage) (d : GlobalId) : Type 0 where
  signed : Signed
  among : Among signed S.signed
  id : signed.id ≡ d
  unset : signed.has_clauses ≡ true → S.holes ≡ [] → ⊥

record Covered (S : Stage) (ds : List Declaration) : Type 0 where
  all : (d : GlobalId) (D : Definition) → (env S.globals).definition d ≡ Some D → Usable Part.run D.mult →
      There D.body ⊎ Waits S d
  -- one signature of each name
  named : (x y : Signed) → Among x S.signed → Among y S.signed → x.name ≡ y.name → x.id ≡ y.id
  ahead : (x : Signed) → Among x S.signed → is_among x.name (signature_names ds) ≡ false

ahead-so : (S : Stage) (d : Declaration) (ds : List Declaration) → Covered S (d ∷ ds) → (x : Signed) →
    Among x S.signed → is_among x.name (signature_names ds) ≡ false
ahead-so S (Declaration.family n ps t cs) ds c x a = c.ahead x a
ahead-so S (Declaration.signature b q n s t) ds c x a =
    (of-either (bytes_eq x.name n) (is_among x.name (signature_names ds)) (c.ahead x a)).1
ahead-so S (Declaration.group n e cs) ds c x a = c.ahead x a

-- ---- a family
after-family-covered : (S : Stage) (F : FamilyEntry) (count : ℕ) (n : List ℕ) (ps : _) (t : _) (cs : _)
    (ds : List Declaration) → Covered S (Declaration.family n ps t cs ∷ ds) → Covered (after_family F count S) ds
after-family-covered S F count n ps t cs ds c = record {
  all = λ d D e u. elim (c.all d D e u) [
    | inl h ↦ inl h
    | inr w ↦ inr (record { signed = w.signed; among = w.among; id = w.id; unset = w.unset })
  ];
  named = c.named;
  ahead = c.ahead;
}

-- ---- a signature
module _ (S : Stage) (D : DefinitionEntry) (x : Signed) (b : Bool) (q : Mult) (s : _) (t : _)
    (ds : List Declaration) (c : Covered S (Declaration.signature b q x.name s t ∷ ds)) (j : x.id ≡ D.id)
    (unset : x.has_clauses ≡ false) (new : (env S.globals).definition D.id ≡ None)
    (differ : all_differ (x.name ∷ signature_names ds) ≡ true) where
  all-waits : (d : GlobalId) (A : Definition) → (env (with_definition D S.globals)).definition d ≡ Some A →
      Usable Part.run A.mult → There A.body ⊎ Waits (after_signature D x S) d
  all-waits d A e u = by_coming (seen-id (definition-added S.globals D new) d A e)
    where
      old : There A.body ⊎ Waits S d → There A.body ⊎ Waits (after_signature D x S) d
      old (inl h) = inl h
      old (inr w) = inr (record {
        signed = w.signed;
        among = in-front w.signed S.signed (x ∷ []) w.among;
        id = w.id;
        unset = w.unset;
      })

      by_coming : Comes ((env S.globals).definition d ≡ Some A) ((D.id ≡ d) × (D.definition ≡ A)) →
          There A.body ⊎ Waits (after_signature D x S) d
      by_coming (Comes.old h) = old (c.all d A h u)
      by_coming (Comes.new h) = inr (record {
        signed = x;
        among = last-one x S.signed;
        id = j ∙ h.0;
        unset = λ y z. true≢false (sym y ∙ unset);
      })

  -- no earlier signature has its name
  apart-name : (y : Signed) → Among y S.signed → y.name ≡ x.name → ⊥
  apart-name y a e =
      true≢false
      (sym (ap (bytes_eq y.name) (sym e) ∙ names-same y.name)
      ∙ (of-either (bytes_eq y.name x.name) (is_among y.name (signature_names ds)) (c.ahead y a)).0)

  one-id : (y z : Signed) → Among y S.signed ⊎ (y ≡ x) → Among z S.signed ⊎ (z ≡ x) → y.name ≡ z.name → y.id ≡ z.id
  one-id y z (inl a) (inl b) e = c.named y z a b e
  one-id y z (inl a) (inr r) e = absurd (apart-name y a (e ∙ ap (λ (s : Signed). s.name) r))
  one-id y z (inr p) (inl b) e = absurd (apart-name z b (sym e ∙ ap (λ (s : Signed). s.name) p))
  one-id y z (inr p) (inr r) e = ap (λ (s : Signed). s.id) p ∙ sym (ap (λ (s : Signed). s.id) r)

  ahead-now : (y : Signed) → Among y S.signed ⊎ (y ≡ x) → is_among y.name (signature_names ds) ≡ false
  ahead-now y (inl a) = (of-either (bytes_eq y.name x.name) (is_among y.name (signature_names ds)) (c.ahead y a)).1
  ahead-now y (inr p) =
      subst (λ m. is_among m (signature_names ds) ≡ false) (sym (ap (λ (s : Signed). s.name) p))
      (differ-so x.name (signature_names ds) differ).0

  after-signature-covered : Covered (after_signature D x S) ds
  after-signature-covered = record {
    all = all-waits;
    named = λ y z a b e. one-id y z (at-end y x S.signed a) (at-end z x S.signed b) e;
    ahead = λ y a. ahead-now y (at-end y x S.signed a);
  }

-- ---- a group of clauses
-- its holes are some
some-holes : (D : Defined) (P : Planned) (sides : Numbered Side) (hs os : List Hole) →
    Ends (env D.group.globals) (end_group D P sides hs) (Ending.ok (Given.holes os)) →
    (o : Hole) × (rest : List Hole) × (os ≡ o ∷ rest)
unfolding end_group
some-holes D P sides [] os x =
    let r = parts (body_holds D (body_with P (cores sides))) _ _ x in
    let e : Given.body (body_with P (cores sides)) ≡ Given.holes os = ended _ _ r.after in absurd (cc e)
some-holes D P sides (h ∷ hs) os x =
    let e : Given.holes (h ∷ hs) ≡ Given.holes os = ended _ _ x in
    let f : h ∷ hs ≡ os = cc e in (h, hs, sym f)

group-holes : (D : Defined) (os : List Hole) → Ends (env D.group.globals) (group_of D) (Ending.ok (Given.holes os)) →
    (o : Hole) × (rest : List Hole) × (os ≡ o ∷ rest)
unfolding group_of
group-holes D os x =
    let p = parts (tree_of D) _ _ x in
    let s = parts (all_sides (side_or_hole D.group.globals D.group.part) 0 D.group.clauses (leaves p.mid.tree)) _ _
    p.after in
    some-holes D p.mid s.mid (holes_from [] s.mid) os s.after

module _ (M : Home) (S : Stage) (n : List ℕ) (k : Clause) (ks : List Clause) (ds : List Declaration) (x : Signed)
    (f : Formed M S (Declaration.group n k ks ∷ ds)) (c : Covered S (Declaration.group n k ks ∷ ds))
    (among : Among x S.signed) (named : bytes_eq x.name n ≡ true)
    (differ : all_differ (n ∷ group_names ds) ≡ true) where
  one-image : (y z : Signed) → Image (with_clauses n) S.signed y → Image (with_clauses n) S.signed z →
      y.name ≡ z.name → y.id ≡ z.id
  one-image y z a b e =
      ap (λ (s : Signed). s.id) (sym a.is)
      ∙ c.named a.source b.source a.among b.among
      (ap (λ (s : Signed). s.name) a.is ∙ e ∙ ap (λ (s : Signed). s.name) (sym b.is))
      ∙ ap (λ (s : Signed). s.id) b.is

  ahead-image : (y : Signed) → Image (with_clauses n) S.signed y → is_among y.name (signature_names ds) ≡ false
  ahead-image y a =
      subst (λ m. is_among m (signature_names ds) ≡ false) (ap (λ (s : Signed). s.name) a.is)
      (c.ahead a.source a.among)

  holes-covered : (o : Hole) (os : List Hole) → Covered (after_group n x.id (Given.holes (o ∷ os)) S) ds
  holes-covered o os = record {
    all = λ d D e u. waits d D (c.all d D e u);
    named = λ y z a b e.
        one-image y z (in-image (with_clauses n) S.signed y a) (in-image (with_clauses n) S.signed z b) e;
    ahead = λ y a. ahead-image y (in-image (with_clauses n) S.signed y a);
  }
    where
      waits : (d : GlobalId) (D : Definition) → There D.body ⊎ Waits S d →
          There D.body ⊎ Waits (after_group n x.id (Given.holes (o ∷ os)) S) d
      waits d D (inl h) = inl h
      waits d D (inr w) = inr (record {
        signed = with_clauses n w.signed;
        among = mapped-in (with_clauses n) w.signed S.signed w.among;
        id = w.id;
        unset = λ y z. behind-empty S.holes o os z;
      })

  body-covered : (b : Term) → Covered (after_group n x.id (Given.body b) S) ds
  body-covered b = record {
    all = λ d D e u. by_id d D (same_id d x.id) refl e u;
    named = λ y z a b e.
        one-image y z (in-image (with_clauses n) S.signed y a) (in-image (with_clauses n) S.signed z b) e;
    ahead = λ y a. ahead-image y (in-image (with_clauses n) S.signed y a);
  }
    where
      H : Entries
      H = with_body x.id b S.globals

      s : SignedFormed S.globals (Declaration.group n k ks ∷ ds) x
      s = f.signed x among

      bare : (f.signed x among).definition.body ≡ None
      bare = no-body M S n k ks ds x f among named differ

      waits : (d : GlobalId) (D : Definition) → same_id d x.id ≡ false → There D.body ⊎ Waits S d →
          There D.body ⊎ Waits (after_group n x.id (Given.body b) S) d
      waits d D t (inl h) = inl h
      waits d D t (inr w) = inr (record {
        signed = with_clauses n w.signed;
        among = mapped-in (with_clauses n) w.signed S.signed w.among;
        id = w.id;
        unset = by_test (bytes_eq n w.signed.name) refl;
      })
        where
          by_test : (e : Bool) → bytes_eq n w.signed.name ≡ e → (with_clauses n w.signed).has_clauses ≡ true →
              S.holes ++ [] ≡ [] → ⊥
          by_test true p y z =
              true≢false
              (sym (ap (λ i. same_id i x.id)
              (sym w.id
              ∙ c.named w.signed x w.among among
              (sym (same-names n w.signed.name p) ∙ sym (same-names x.name n named)))
              ∙ id-same x.id) ∙ t)
          by_test false p y z = w.unset (sym (others-same n w.signed p) ∙ y) (front-empty S.holes [] z)

      by_id : (d : GlobalId) (D : Definition) (e : Bool) → same_id d x.id ≡ e →
          (env (with_body x.id b S.globals)).definition d ≡ Some D → Usable Part.run D.mult →
          There D.body ⊎ Waits (after_group n x.id (Given.body b) S) d
      by_id d D true t e u =
          inl (its-body S.globals x.id b (f.signed x among).definition (f.signed x among).there bare D
          (ap (env (with_body x.id b S.globals)).definition (sym (same_id-is d x.id t)) ∙ e))
      by_id d D false t e u =
          waits d D t
          (c.all d D
          (sym (apart-body S.globals x.id b (f.signed x among).definition (f.signed x among).there bare d t) ∙ e) u)

  group-covered : (g : Given) → Ends (env S.globals) (group_of (defined S x k ks)) (Ending.ok g) →
      Covered (after_group n x.id g S) ds
  group-covered (Given.body b) r = body-covered b
  group-covered (Given.holes os) r =
      let h = group-holes (defined S x k ks) os r in
      subst (λ z. Covered (after_group n x.id (Given.holes z) S) ds) (sym h.2) (holes-covered h.0 h.1)

-- ---- one item
group-covers : (M : Home) (S : Stage) (n : List ℕ) (c : Clause) (cs : List Clause) (ds : List Declaration)
    (o : Option Signed) → signed_as n S.signed ≡ o → Formed M S (Declaration.group n c cs ∷ ds) →
    Covered S (Declaration.group n c cs ∷ ds) → all_differ (n ∷ group_names ds) ≡ true → (T : Stage) →
    Ends (env S.globals) (group_for o S n c cs) (Ending.ok T) → Covered T ds
group-covers M S n c cs ds None e f k differ T x = elim x [ ]
group-covers M S n c cs ds (Some y) e f k differ T x =
    let g = parts (group_of (defined S y c cs)) _ _ x in
    let h = hit (named_so n) S.signed y e in
    subst (λ z. Covered z ds) (ended _ _ g.after)
    (group-covered M S n c cs ds y f k h.among h.holds differ g.mid g.first)

signed-differ : (d : Declaration) (ds : List Declaration) → all_differ (signature_names (d ∷ ds)) ≡ true →
    all_differ (signature_names ds) ≡ true
signed-differ (Declaration.family n ps t cs) ds e = e
signed-differ (Declaration.signature b q n s t) ds e = (differ-so n (signature_names ds) e).1
signed-differ (Declaration.group n c cs) ds e = e

covers : (M : Home) (S T : Stage) (d : Declaration) (ds : List Declaration) → Formed M S (d ∷ ds) →
    Covered S (d ∷ ds) → all_differ (group_names (d ∷ ds)) ≡ true → all_differ (signature_names (d ∷ ds)) ≡ true →
    Ends (env S.globals) (declare M S d) (Ending.ok T) → Covered T ds
unfolding declare
covers M S T (Declaration.family n ps t cs) ds f c groups signatures x =
    let r = parts (family S.globals (item_of M S.next) M.name n ps t cs) _ _ x in
    subst (λ z. Covered z ds) (ended _ _ r.after) (after-family-covered S r.mid (length cs) n ps t cs ds c)
covers M S T (Declaration.signature b q n s t) ds f c groups signatures x =
    let r = parts (signature S.globals (item_of M S.next) M.name n q t) _ _ x in
    let i = signature-id (signature_so S.globals (item_of M S.next) M.name n q t r.mid r.first) in
    subst (λ z. Covered z ds) (ended _ _ r.after)
    (after-signature-covered S r.mid _ b q s t ds c (sym i.id) refl
    (ap (env S.globals).definition i.id ∙ (f.fresh S.next (omega arith)).1) signatures)
covers M S T (Declaration.group n c cs) ds f k groups signatures x =
    group-covers M S n c cs ds (signed_as n S.signed) refl f k groups T x

-- ---- behind the last item
-- all have clauses
none-bare : (xs : List Signed) → first_bare xs ≡ None → (x : Signed) → Among x xs → x.has_clauses ≡ true
none-bare [] e x a = elim a [ ]
none-bare (y ∷ xs) e x a = by_test y.has_clauses refl e (first-or x y xs a) (λ h b. none-bare xs h x b)
  where
    by_test : (b : Bool) → y.has_clauses ≡ b → cond (cond b false true) (Some y) (first_bare xs) ≡ None →
        (x ≡ y) ⊎ Among x xs → (first_bare xs ≡ None → Among x xs → x.has_clauses ≡ true) → x.has_clauses ≡ true
    by_test true t h (inl i) rest = ap (λ (s : Signed). s.has_clauses) i ∙ t
    by_test true t h (inr b) rest = rest h b
    by_test false t h a rest = absurd (none≢some (sym h))

no-bare : {E : Env} (S T : Stage) (o : Option Signed) → Ends E (or_bare S o) (Ending.ok T) → o ≡ None
no-bare S T None x = refl
no-bare S T (Some y) x = elim x [ ]

last-complete : (S T : Stage) → Covered S [] → Ends (env S.globals) (all_have_clauses S) (Ending.ok T) →
    T.holes ≡ [] → Complete (env T.globals)
last-complete S T c x h =
    subst (λ (z : Stage). Complete (env z.globals)) s (λ d D e u. by_cover D (c.all d D e u))
  where
    s : S ≡ T
    s = nothing-more S T (first_bare S.signed) x

    by_cover : {d : GlobalId} (D : Definition) → There D.body ⊎ Waits S d → There D.body
    by_cover D (inl t) = t
    by_cover D (inr w) =
        absurd (w.unset
        (none-bare S.signed (no-bare S T (first_bare S.signed) x) w.signed w.among)
        (ap (λ (z : Stage). z.holes) s ∙ h))

-- ---- items in turn
completed : (M : Home) {S T : Stage} {ds : List Declaration} → InTurn M S ds (Ending.ok T) → Formed M S ds →
    Covered S ds → Marked ds → all_differ (group_names ds) ≡ true → all_differ (signature_names ds) ≡ true →
    T.holes ≡ [] → Complete (env T.globals)
completed M {S = S} {T = T} (InTurn.last x) f c m groups signatures h = last-complete S T c x h
completed M {S = S} (InTurn.passes {T = U} {d = d} {ds = ds} x r) f c m groups signatures h =
    completed M r (step groups_make_no_tape_holds M S U d ds f m groups x) (covers M S U d ds f c groups signatures x)
    (behind-marks d ds m) (behind-names d ds groups) (signed-differ d ds signatures) h

all-there : (G : Entries) (ds : List Declaration) → Complete (env G) → Covered (start G) ds
all-there G ds c = record {
  all = λ d D e u. inl (c d D e u);
  named = λ x y a b e. elim a [ ];
  ahead = λ x a. elim a [ ];
}

pub modules_keep_form_holds : ModulesKeepForm
modules_keep_form_holds = record {
  formed = λ M G is S w f n x. module_formed M G (declarations is) S w f n x;
  complete = λ M G is S w f n x c h.
      completed M x (starts M G (declarations is) w f) (all-there G (declarations is) c) n.marked n.groups n.signatures
      h;
}
