-- Each body of an accepted module is by its clauses: the items in turn.
use Rattle.std.proofs.Common.{◌≡◌, ℕ, suc, ◌+◌, ◌<◌, ◌≤◌, ◌⊎◌, inl, inr, Bool, true, false, cond, List, [], ◌∷◌, length, Option, Some, None, refl, sym, ap, subst, ◌∙◌, arith}
use Rattle.std.proofs.lemmas.Bool.{eq-eqb}
use Rattle.qtt_base.specs.declared.place.GlobalId.{GlobalId}
use Rattle.qtt_syntax.specs.Tree.{Param, Con, Tree}
use Rattle.qtt_term.specs.declared.term.ConId.{ConId}
use Rattle.qtt_term.specs.Term.{Term, same_id}
use Rattle.qtt_term.specs.Signature.{Definition, There, definition_of, definition_at}
use Rattle.qtt_term.specs.Keyed.{is_of, with_id}
use Rattle.qtt_term.specs.Items.{FamilyEntry, DefinitionEntry, family_id, definition_id, constructor_in}
use Rattle.qtt_term.specs.Ask.{Ending, Ends}
use Rattle.qtt_term.specs.Entries.{Entries, env, with_family, with_definition, with_body}
use Rattle.qtt_term.proofs.Options.{none≢some, some-injective}
use Rattle.qtt_term.proofs.Same.{same_id-is}
use Rattle.qtt_core_check.proofs.Parts.{parts, ended}
use Rattle.qtt_core_check.proofs.Sound.{results-counted}
use Rattle.qtt_preserve.specs.Grows.{DefinitionGrows, Grows, FamiliesStay}
use Rattle.qtt_split.specs.Node.{Clause}
use Rattle.qtt_split.specs.Group.{Defined}
use Rattle.qtt_clause_laws.specs.Larger.{Larger}
use Rattle.qtt_clause_laws.specs.Named.{ConstructorsStay}
use Rattle.qtt_clause_laws.specs.Accepted.{Defines}
use Rattle.qtt_clause_laws.proofs.Accepted.{accepted_bodies_go_on_holds}
use Rattle.qtt_clause_laws.proofs.Growing.{environments_are_larger}
use Rattle.qtt_clause_laws.proofs.Named.{reached_are_named_holds, named_stay_holds, clauses-named-still}
use Rattle.qtt_bidi.specs.Elaboration.{judge}
use Rattle.qtt_module.specs.Families.{family, signature}
use Rattle.qtt_module.specs.FamilyRules.{DeclaresFamily}
use Rattle.qtt_module.specs.Declarations.{Declaration}
use Rattle.qtt_module.specs.Sides.{Given, group_of}
use Rattle.qtt_module.specs.Module.{Home, item_of, Signed, Stage, after_family, after_signature, after_group, signed_as, defined, group_for, declare, first_bare, InTurn}
use Rattle.qtt_module.proofs.Declared.{family_so, signature_so}
use Rattle.qtt_accepted.specs.Members.{Among}
use Rattle.qtt_accepted.specs.Stages.{Marked, group_names, all_differ}
use Rattle.qtt_accepted.specs.Clauses.{ConstructorsApart, IsGroupOf, IsByClauses}
use Rattle.qtt_accepted.proofs.Added.{no-entry}
use Rattle.qtt_accepted.proofs.Apart.{among-inserted, old-inserted, stay-apart, Numbered, all-numbered}
use Rattle.qtt_accepted.proofs.Bodies.{grown, its-body, apart-body, Changed, seen}
use Rattle.qtt_accepted.proofs.Cored.{group-body, group-tree}
use Rattle.qtt_accepted.proofs.Groups.{groups_make_no_tape_holds}
use Rattle.qtt_accepted.proofs.Signed.{definition-added}
use Rattle.qtt_accepted.proofs.Stages.{Hit, hit, Formed, same-names, no-body, definition-is}
use Rattle.qtt_accepted.proofs.Turns.{family-id, signature-id, nothing-more, behind-marks, behind-names, named_so, step}

-- ---- environments in which all stays
pub record Extends (K L : Entries) : Type 0 where
  pub grows : Grows (env K) (env L)
  pub stays : FamiliesStay (env K) (env L)
  pub constructors : ConstructorsStay K L

as-larger : {K L : Entries} → Larger K L [] → ConstructorsStay K L → Extends K L
as-larger l s = record { grows = l.grows; stays = l.stays; constructors = s }

-- a definition with a body is there
pub has-body : (o : Option Definition) (b : Term) → (definition_of o).body ≡ Some b → (A : Definition) × (o ≡ Some A)
has-body None b e = absurd (none≢some e)
has-body (Some A) b e = (A, refl)

still-defines : (K L : Entries) → Grows (env K) (env L) → (d : GlobalId) (A b : Term) → Defines (env K) d A b →
    Defines (env L) d A b
still-defines K L g d A b x =
    let h = has-body ((env K).definition d) b x.body in
    let k = g.definitions d h.0 h.1 in
    let was : definition_at (env K) d ≡ h.0 = ap definition_of h.1 in
    let is : definition_at (env L) d ≡ k.0 = ap definition_of k.1 in
    record {
      type = ap (λ (C : Definition). C.type) is ∙ sym k.2.type ∙ sym (ap (λ (C : Definition). C.type) was) ∙ x.type;
      body = ap (λ (C : Definition). C.body) is ∙ k.2.body b (sym (ap (λ (C : Definition). C.body) was) ∙ x.body);
    }

pub by-clauses-still : {ds : List Declaration} {K L : Entries} {d : GlobalId} {b : Term} → Extends K L →
    IsByClauses ds K d b → IsByClauses ds L d b
by-clauses-still {K = K} {L = L} {d = d} {b = b} e x =
    let G = x.defined.group.globals in
    let cs = x.defined.group.clauses in
    record {
      defined = x.defined;
      group = x.group;
      named = x.named;
      accepted = x.accepted;
      larger = environments_are_larger.thence G K L cs x.larger
          (named_stay_holds K L cs (clauses-named-still G K cs x.larger.names x.named) e.grows e.stays e.constructors);
      defines = still-defines K L e.grows d x.defined.type b x.defines;
    }

-- ---- what holds between two items, of a module with these declarations over G
pub record Followed (M : Home) (G : Entries) (all : List Declaration) (S : Stage) : Type 0 where
  pub others : (F : FamilyEntry) → Among F S.globals.families →
      Among F G.families ⊎ (is_of (Some M.id) F.id ≡ true)
  pub apart : ConstructorsApart S.globals
  -- those of the module have numbers before the next one
  pub below : (F : FamilyEntry) → Among F S.globals.families → (g : GlobalId) → There (constructor_in F g) →
      is_of (Some M.id) g ≡ true → g.item < S.next
  pub bodies : (d : GlobalId) (b : Term) → (definition_at (env S.globals) d).body ≡ Some b →
      ((definition_at (env G) d).body ≡ Some b) ⊎ IsByClauses all S.globals d b

there-some : {A : Type 0} (o : Option A) (a : A) → o ≡ Some a → There o
there-some None a e = absurd (none≢some e)
there-some (Some b) a e = tt

-- bodies that were there
old-bodies : {M : Home} {G : Entries} {all : List Declaration} {S : Stage} (L : Entries) → Followed M G all S →
    Extends S.globals L → (d : GlobalId) (b : Term) → (definition_at (env S.globals) d).body ≡ Some b →
    ((definition_at (env G) d).body ≡ Some b) ⊎ IsByClauses all L d b
old-bodies {M = M} {G = G} {all = all} {S = S} L f e d b h = by (f.bodies d b h)
  where
    by : ((definition_at (env G) d).body ≡ Some b) ⊎ IsByClauses all S.globals d b →
        ((definition_at (env G) d).body ≡ Some b) ⊎ IsByClauses all L d b
    by (inl k) = inl k
    by (inr k) = inr (by-clauses-still e k)

-- constructors keep apart where families are the same
same-apart : (K L : Entries) → K.families ≡ L.families → ConstructorsApart K → ConstructorsApart L
same-apart K L e a = record {
  own = λ F h. a.own F (subst (Among F) (sym e) h);
  apart = λ F H h k. a.apart F H (subst (Among F) (sym e) h) (subst (Among H) (sym e) k);
}

module _ (M : Home) (G : Entries) (all : List Declaration) (S : Stage) (f : Followed M G all S) where
  -- ---- a family
  module _ (F : FamilyEntry) (count : ℕ) (i : F.id ≡ item_of M S.next)
      (numbers : (g : GlobalId) → There (constructor_in F g) → Numbered F.id count g)
      (new : with_id family_id F.id S.globals.families ≡ None) where
    abbrev L : Entries
    L = with_family F S.globals

    abbrev IsIn : FamilyEntry → Type 0
    IsIn H = (H ≡ F) ⊎ Among H S.globals.families

    -- a constructor of the family has a number of the module, past those that are there
    of-module : (g : GlobalId) → Numbered F.id count g → is_of (Some M.id) g ≡ true
    of-module g n = eq-eqb g.module.0 M.id.0
        (ap (λ (m : _). m.0) n.same ∙ ap (λ (j : GlobalId). j.module.0) i)

    past : (g : GlobalId) → Numbered F.id count g → S.next < g.item
    past g n = let a = n.above in let e : F.id.item ≡ S.next = ap (λ (j : GlobalId). j.item) i in omega (arith, a, e)

    not-both : (H : FamilyEntry) → Among H S.globals.families → (g : GlobalId) → There (constructor_in F g) →
        There (constructor_in H g) → ⊥
    not-both H a g h k =
        let n = numbers g h in
        let p = past g n in
        let b : g.item < S.next = f.below H a g k (of-module g n) in
        absurd (omega (arith, p, b))

    own-so : (H : FamilyEntry) → IsIn H → (g : GlobalId) → There (constructor_in H g) →
        is_of (Some H.id.module) g ≡ true
    own-so H (inl e) g h =
        let n = numbers g (subst (λ (X : FamilyEntry). There (constructor_in X g)) e h) in
        subst (λ (X : FamilyEntry). is_of (Some X.id.module) g ≡ true) (sym e)
        (eq-eqb g.module.0 F.id.module.0 (ap (λ (m : _). m.0) n.same))
    own-so H (inr a) g h = f.apart.own H a g h

    apart-so : (H K : FamilyEntry) → IsIn H → IsIn K → (g : GlobalId) (c d : ConId) → constructor_in H g ≡ Some c →
        constructor_in K g ≡ Some d → c ≡ d
    apart-so H K (inl e) (inl k) g c d p q =
        some-injective (sym p ∙ ap (λ (X : FamilyEntry). constructor_in X g) (e ∙ sym k) ∙ q)
    apart-so H K (inl e) (inr a) g c d p q =
        absurd (not-both K a g
        (subst (λ (X : FamilyEntry). There (constructor_in X g)) e (there-some (constructor_in H g) c p))
        (there-some (constructor_in K g) d q))
    apart-so H K (inr a) (inl e) g c d p q =
        absurd (not-both H a g
        (subst (λ (X : FamilyEntry). There (constructor_in X g)) e (there-some (constructor_in K g) d q))
        (there-some (constructor_in H g) c p))
    apart-so H K (inr a) (inr b) g c d p q = f.apart.apart H K a b g c d p q

    now-apart : ConstructorsApart L
    now-apart = record {
      own = λ H a. own-so H (among-inserted family_id H F S.globals.families a);
      apart = λ H K a b.
          apart-so H K (among-inserted family_id H F S.globals.families a)
          (among-inserted family_id K F S.globals.families b);
    }

    below-so : (H : FamilyEntry) → IsIn H → (g : GlobalId) → There (constructor_in H g) →
        is_of (Some M.id) g ≡ true → g.item < suc (count + S.next)
    below-so H (inl e) g h m =
        let n = numbers g (subst (λ (X : FamilyEntry). There (constructor_in X g)) e h) in
        let w = n.within in
        let s : F.id.item ≡ S.next = ap (λ (j : GlobalId). j.item) i in omega (arith, w, s)
    below-so H (inr a) g h m = let b : g.item < S.next = f.below H a g h m in omega (arith, b)

    others-so : (H : FamilyEntry) → IsIn H → Among H G.families ⊎ (is_of (Some M.id) H.id ≡ true)
    others-so H (inl e) =
        inr (ap (λ (X : FamilyEntry). is_of (Some M.id) X.id) e ∙ ap (is_of (Some M.id)) i
        ∙ eq-eqb M.id.0 M.id.0 refl)
    others-so H (inr a) = f.others H a

    pub family-followed : Followed M G all (after_family F count S)
    family-followed = record {
      others = λ H a. others-so H (among-inserted family_id H F S.globals.families a);
      apart = now-apart;
      below = λ H a. below-so H (among-inserted family_id H F S.globals.families a);
      bodies = λ d b h.
          old-bodies L f
          (as-larger (environments_are_larger.family_added S.globals F [] new tt)
          (stay-apart S.globals L (λ H a. old-inserted family_id H F S.globals.families a) now-apart)) d b h;
    }

  -- ---- a signature
  module _ (D : DefinitionEntry) (x : Signed) (bare : D.definition.body ≡ None)
      (new : (env S.globals).definition D.id ≡ None) where
    signature-bodies : (d : GlobalId) (b : Term) →
        (definition_at (env (with_definition D S.globals)) d).body ≡ Some b →
        ((definition_at (env G) d).body ≡ Some b) ⊎ IsByClauses all (with_definition D S.globals) d b
    signature-bodies d b e =
        by (same_id D.id d) (ap (λ o. (definition_of o).body) (sym ((definition-added S.globals D new).all d)) ∙ e)
      where
        by : (t : Bool) → (definition_of (cond t (Some D.definition) ((env S.globals).definition d))).body ≡ Some b →
            ((definition_at (env G) d).body ≡ Some b) ⊎ IsByClauses all (with_definition D S.globals) d b
        by true h = absurd (none≢some (sym bare ∙ h))
        by false h =
            old-bodies (with_definition D S.globals) f
            (as-larger (environments_are_larger.definition_added S.globals D []
            (no-entry (λ (y : DefinitionEntry). y.definition) (with_id definition_id D.id S.globals.definitions) new))
            (λ g c e. e)) d b h

    pub signature-followed : Followed M G all (after_signature D x S)
    signature-followed = record {
      others = f.others;
      apart = same-apart S.globals (with_definition D S.globals) refl f.apart;
      below = λ H a g h m. let b : g.item < S.next = f.below H a g h m in omega (arith, b);
      bodies = signature-bodies;
    }

  -- ---- a group of clauses
  module _ (n : List ℕ) (c : Clause) (cs : List Clause) (ds : List Declaration) (x : Signed)
      (m : Formed M S (Declaration.group n c cs ∷ ds)) (differ : all_differ (n ∷ group_names ds) ≡ true)
      (h : Hit (named_so n) S.signed x) (its : (D : Defined) → IsGroupOf D (Declaration.group n c cs ∷ ds) →
      IsGroupOf D all) where
    abbrev D : Defined
    D = defined S x c cs

    abbrev A : Definition
    A = (m.signed x h.among).definition

    bare : A.body ≡ None
    bare = no-body M S n c cs ds x m h.among h.holds differ

    is : definition_at (env S.globals) x.id ≡ A
    is = definition-is M S n c cs ds x m h.among h.holds differ

    module _ (b : Term) (r : Ends (env S.globals) (group_of (defined S x c cs)) (Ending.ok (Given.body b))) where
      larger : (ks : List Clause) → Larger S.globals (with_body x.id b S.globals) ks
      larger ks = environments_are_larger.body_added S.globals x.id b ks (ap (λ (C : Definition). C.body) is ∙ bare)

      extends : Extends S.globals (with_body x.id b S.globals)
      extends = as-larger (larger []) (λ g k e. e)

      own : (C : Definition) × ((env (with_body x.id b S.globals)).definition x.id ≡ Some C) × DefinitionGrows A C
      own = grown S.globals x.id b A (m.signed x h.among).there bare x.id A (m.signed x h.among).there

      own-body : own.0.body ≡ Some b
      own-body =
          by (seen S.globals x.id b A (m.signed x h.among).there bare x.id own.0 own.1)
          (its-body S.globals x.id b A (m.signed x h.among).there bare own.0 own.1)
        where
          by : Changed S.globals x.id b A (m.signed x h.among).there bare x.id own.0 → There own.0.body →
              own.0.body ≡ Some b
          by (Changed.as_before e) t =
              let s : own.0 ≡ A = some-injective (sym e ∙ (m.signed x h.among).there) in
              absurd (subst There (ap (λ (C : Definition). C.body) s ∙ bare) t)
          by (Changed.with_it e) t = ap (λ (C : Definition). C.body) (sym e)

      defines : Defines (env (with_body x.id b S.globals)) x.id (defined S x c cs).type b
      defines =
          let now : definition_at (env (with_body x.id b S.globals)) x.id ≡ own.0 = ap definition_of own.1 in
          record {
            type = ap (λ (C : Definition). C.type) now ∙ sym own.2.type ∙ sym (ap (λ (C : Definition). C.type) is);
            body = ap (λ (C : Definition). C.body) now ∙ own-body;
          }

      new-body : IsByClauses all (with_body x.id b S.globals) x.id b
      new-body =
          let tree = group-tree (defined S x c cs) b r in
          record {
            defined = defined S x c cs;
            group = its (defined S x c cs)
                (subst (λ k. IsGroupOf (defined S x c cs) (Declaration.group k c cs ∷ ds))
                (same-names x.name n h.holds) (IsGroupOf.here refl));
            named = reached_are_named_holds (defined S x c cs) tree.0 tree.1;
            accepted = accepted_bodies_go_on_holds.without (judge S.globals) (defined S x c cs) b
                (results-counted (env S.globals) m.well) (group-body (defined S x c cs) b r);
            larger = larger (c ∷ cs);
            defines = defines;
          }

      body-bodies : (d : GlobalId) (e : Term) → (definition_at (env (with_body x.id b S.globals)) d).body ≡ Some e →
          ((definition_at (env G) d).body ≡ Some e) ⊎ IsByClauses all (with_body x.id b S.globals) d e
      body-bodies d e k = by (same_id d x.id) refl
        where
          by : (t : Bool) → same_id d x.id ≡ t →
              ((definition_at (env G) d).body ≡ Some e) ⊎ IsByClauses all (with_body x.id b S.globals) d e
          by true t =
              let i : d ≡ x.id = same_id-is d x.id t in
              let s : b ≡ e = some-injective
              (sym defines.body
              ∙ ap (λ j. (definition_at (env (with_body x.id b S.globals)) j).body) (sym i) ∙ k) in
              inr (subst (λ j. IsByClauses all (with_body x.id b S.globals) j e) (sym i)
              (subst (IsByClauses all (with_body x.id b S.globals) x.id) s new-body))
          by false t =
              old-bodies (with_body x.id b S.globals) f extends d e
              (sym (ap (λ o. (definition_of o).body)
              (apart-body S.globals x.id b A (m.signed x h.among).there bare d t)) ∙ k)

      body-followed : Followed M G all (after_group n x.id (Given.body b) S)
      body-followed = record {
        others = f.others;
        apart = same-apart S.globals (with_body x.id b S.globals) refl f.apart;
        below = f.below;
        bodies = body-bodies;
      }

    pub group-followed : (g : Given) → Ends (env S.globals) (group_of (defined S x c cs)) (Ending.ok g) →
        Followed M G all (after_group n x.id g S)
    group-followed (Given.holes hs) r =
        record { others = f.others; apart = f.apart; below = f.below; bodies = f.bodies }
    group-followed (Given.body b) r = body-followed b r

-- ---- one item
least : {n : ℕ} → n ≤ n
least = omega arith

family-numbers : {G : Entries} {i : GlobalId} {M n : List ℕ} {ps : List Param} {t : Tree} {cs : List Con}
    {F : FamilyEntry} → DeclaresFamily G i M n ps t cs F → (g : GlobalId) → There (constructor_in F g) →
    Numbered F.id (length cs) g
family-numbers (DeclaresFamily.declares p x h i c k) g t = all-numbered c _ g t

module _ (M : Home) (G : Entries) (all : List Declaration) where
  group-for-followed : (S : Stage) (n : List ℕ) (c : Clause) (cs : List Clause) (ds : List Declaration)
      (o : Option Signed) → signed_as n S.signed ≡ o → Followed M G all S →
      Formed M S (Declaration.group n c cs ∷ ds) → all_differ (n ∷ group_names ds) ≡ true →
      ((D : Defined) → IsGroupOf D (Declaration.group n c cs ∷ ds) → IsGroupOf D all) → (T : Stage) →
      Ends (env S.globals) (group_for o S n c cs) (Ending.ok T) → Followed M G all T
  group-for-followed S n c cs ds None e f m differ its T x = elim x [ ]
  group-for-followed S n c cs ds (Some y) e f m differ its T x =
      let g = parts (group_of (defined S y c cs)) _ _ x in
      subst (Followed M G all) (ended _ _ g.after)
      (group-followed M G all S f n c cs ds y m differ (hit (named_so n) S.signed y e) its g.mid g.first)

  one-followed : (S T : Stage) (d : Declaration) (ds : List Declaration) → Followed M G all S → Formed M S (d ∷ ds) →
      all_differ (group_names (d ∷ ds)) ≡ true → ((D : Defined) → IsGroupOf D (d ∷ ds) → IsGroupOf D all) →
      Ends (env S.globals) (declare M S d) (Ending.ok T) → Followed M G all T
  unfolding declare
  one-followed S T (Declaration.family n ps t cs) ds f m differ its x =
      let r = parts (family S.globals (item_of M S.next) M.name n ps t cs) _ _ x in
      let s = family_so S.globals (item_of M S.next) M.name n ps t cs r.mid r.first in
      let i = family-id s in
      subst (Followed M G all) (ended _ _ r.after)
      (family-followed M G all S f r.mid (length cs) i (family-numbers s)
      (no-entry (λ (X : FamilyEntry). X.family) (with_id family_id r.mid.id S.globals.families)
      (ap (env S.globals).family i ∙ (m.fresh S.next least).0)))
  one-followed S T (Declaration.signature b q n s t) ds f m differ its x =
      let r = parts (signature S.globals (item_of M S.next) M.name n q t) _ _ x in
      let i = signature-id (signature_so S.globals (item_of M S.next) M.name n q t r.mid r.first) in
      subst (Followed M G all) (ended _ _ r.after)
      (signature-followed M G all S f r.mid _ i.bare
      (ap (env S.globals).definition i.id ∙ (m.fresh S.next least).1))
  one-followed S T (Declaration.group n c cs) ds f m differ its x =
      group-for-followed S n c cs ds (signed_as n S.signed) refl f m differ its T x

  -- ---- items in turn
  pub turns-followed : {S T : Stage} {ds : List Declaration} → InTurn M S ds (Ending.ok T) → Followed M G all S →
      Formed M S ds → Marked ds → all_differ (group_names ds) ≡ true →
      ((D : Defined) → IsGroupOf D ds → IsGroupOf D all) → Followed M G all T
  turns-followed {S = S} {T = T} (InTurn.last x) f m marks differ its =
      subst (Followed M G all) (nothing-more S T (first_bare S.signed) x) f
  turns-followed {S = S} (InTurn.passes {T = U} {d = d} {ds = ds} x r) f m marks differ its =
      turns-followed r (one-followed S U d ds f m differ its x)
      (step groups_make_no_tape_holds M S U d ds m marks differ x) (behind-marks d ds marks)
      (behind-names d ds differ) (λ D h. its D (IsGroupOf.behind h))
