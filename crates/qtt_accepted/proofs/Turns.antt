-- An accepted module keeps the environment well formed: its items in turn.
use Rattle.std.proofs.Common.{◌≡◌, ℕ, ◌≤◌, Bool, true, false, List, [], ◌∷◌, length, bytes_eq, Option, Some, None, refl, ap, subst, arith}
use Rattle.qtt_base.specs.declared.place.GlobalId.{GlobalId}
use Rattle.qtt_usage.specs.declared.mult.Mult.{Mult}
use Rattle.qtt_syntax.specs.Tree.{Tree, Param, Con}
use Rattle.qtt_term.specs.Term.{Term}
use Rattle.qtt_term.specs.Signature.{Definition, Env}
use Rattle.qtt_term.specs.Items.{FamilyEntry, DefinitionEntry}
use Rattle.qtt_term.specs.Ask.{Ending, Ends}
use Rattle.qtt_term.specs.Environment.{part_of, WellFormed}
use Rattle.qtt_term.specs.Entries.{Entries, env}
use Rattle.qtt_core_check.proofs.Parts.{parts, ended}
use Rattle.qtt_split.specs.Node.{Clause}
use Rattle.qtt_split.specs.Plan.{Planned}
use Rattle.qtt_split.specs.Group.{Defined, Numbered, tree_of, all_sides, body_with, body_holds}
use Rattle.qtt_split.specs.Tree.{leaves}
use Rattle.qtt_holes.specs.Hole.{Hole}
use Rattle.qtt_module.specs.Families.{family, signature}
use Rattle.qtt_module.specs.FamilyRules.{DeclaresFamily, DeclaresSignature}
use Rattle.qtt_module.specs.Declarations.{Declaration}
use Rattle.qtt_module.specs.Sides.{Side, Given, cores, holes_from, side_or_hole, end_group, group_of}
use Rattle.qtt_module.specs.Module.{Home, item_of, Signed, Stage, start, after_group, signed_as, defined, group_for, declare, all_have_clauses, or_bare, first_bare, InTurn}
use Rattle.qtt_module.proofs.Declared.{family_so, signature_so}
use Rattle.qtt_accepted.specs.Stages.{Marked, group_names, is_among, all_differ, FreshFrom, WellNamed}
use Rattle.qtt_accepted.specs.Laws.{GroupsMakeNoTape}
use Rattle.qtt_accepted.proofs.Formed.{well-formed-tapeless}
use Rattle.qtt_accepted.proofs.Families.{families_keep_form_holds}
use Rattle.qtt_accepted.proofs.Signed.{signatures_keep_form_holds}
use Rattle.qtt_accepted.proofs.Bodies.{bodies_keep_form_holds}
use Rattle.qtt_accepted.proofs.Groups.{groups_make_no_tape_holds}
use Rattle.qtt_accepted.proofs.Stages.{Hit, hit, Formed, after-family, after-signed, differ-so, no-body, definition-is, behind-holes, behind-body}

pub family-id : {G : Entries} {f : GlobalId} {M n : List ℕ} {ps : List Param} {t : Tree} {cs : List Con}
    {F : FamilyEntry} → DeclaresFamily G f M n ps t cs F → F.id ≡ f
family-id (DeclaresFamily.declares p x h i c g) = refl

pub record IsSigned (D : DefinitionEntry) (d : GlobalId) : Type 0 where
  pub id : D.id ≡ d
  pub bare : D.definition.body ≡ None

pub signature-id : {G : Entries} {d : GlobalId} {M n : List ℕ} {q : Mult} {t : Tree} {D : DefinitionEntry} →
    DeclaresSignature G d M n q t D → IsSigned D d
signature-id (DeclaresSignature.signed x) = record { id = refl; bare = refl }

-- ---- a group's body is judged once more
end-holds : (D : Defined) (P : Planned) (sides : Numbered Side) (hs : List Hole) (b : Term) →
    Ends (env D.group.globals) (end_group D P sides hs) (Ending.ok (Given.body b)) →
    Ends (env D.group.globals) (body_holds D b) (Ending.ok tt)
unfolding end_group
end-holds D P sides [] b x =
    let r = parts (body_holds D (body_with P (cores sides))) _ _ x in
    let e : Given.body (body_with P (cores sides)) ≡ Given.body b = ended _ _ r.after in
    let f : body_with P (cores sides) ≡ b = cc e in
    subst (λ z. Ends (env D.group.globals) (body_holds D z) (Ending.ok tt)) f r.first
end-holds D P sides (h ∷ hs) b x =
    let e : Given.holes (h ∷ hs) ≡ Given.body b = ended _ _ x in absurd (cc e)

body-holds : (D : Defined) (b : Term) → Ends (env D.group.globals) (group_of D) (Ending.ok (Given.body b)) →
    Ends (env D.group.globals) (body_holds D b) (Ending.ok tt)
unfolding group_of
body-holds D b x =
    let p = parts (tree_of D) _ _ x in
    let s = parts (all_sides (side_or_hole D.group.globals D.group.part) 0 D.group.clauses (leaves p.mid.tree)) _ _
    p.after in
    end-holds D p.mid s.mid (holes_from [] s.mid) b s.after

-- ---- behind an item
pub behind-marks : (d : Declaration) (ds : List Declaration) → Marked (d ∷ ds) → Marked ds
behind-marks (Declaration.family n ps t cs) ds m = m
behind-marks (Declaration.signature b q n s t) ds m = m.1
behind-marks (Declaration.group n c cs) ds m = m

pub behind-names : (d : Declaration) (ds : List Declaration) → all_differ (group_names (d ∷ ds)) ≡ true →
    all_differ (group_names ds) ≡ true
behind-names (Declaration.family n ps t cs) ds e = e
behind-names (Declaration.signature b q n s t) ds e = e
behind-names (Declaration.group n c cs) ds e = (differ-so n (group_names ds) e).1

-- behind the last item the stage is as it was
pub nothing-more : {E : Env} (S T : Stage) (o : Option Signed) → Ends E (or_bare S o) (Ending.ok T) → S ≡ T
nothing-more S T None x = ended _ _ x
nothing-more S T (Some y) x = elim x [ ]

last-is : {M : Home} (S T : Stage) → Formed M S [] → Ends (env S.globals) (all_have_clauses S) (Ending.ok T) →
    WellFormed (env T.globals)
last-is S T f x =
    subst (λ (z : Stage). WellFormed (env z.globals)) (nothing-more S T (first_bare S.signed) x) f.well

-- ---- one item
abbrev pub named_so : List ℕ → Signed → Bool
named_so n x = bytes_eq x.name n

-- what is asked of items without clauses is asked behind them
again : {M : Home} {S : Stage} {d : Declaration} {ds : List Declaration} → group_names (d ∷ ds) ≡ group_names ds →
    Formed M S (d ∷ ds) → Formed M S ds
again {M} {S} {d} {ds} e f = record {
  well = f.well;
  fresh = f.fresh;
  signed = λ x a.
      let s = f.signed x a in
      record {
        definition = s.definition;
        there = s.there;
        bare = s.bare;
        done = λ h. subst (λ ns. is_among x.name ns ≡ false) e (s.done h);
      };
  once = f.once;
}

least : {n : ℕ} → n ≤ n
least = omega arith

module _ (groups : GroupsMakeNoTape) (M : Home) where
  group-given : (S : Stage) (n : List ℕ) (c : Clause) (cs : List Clause) (ds : List Declaration) (x : Signed) →
      Formed M S (Declaration.group n c cs ∷ ds) → all_differ (n ∷ group_names ds) ≡ true →
      Hit (named_so n) S.signed x → (g : Given) → Ends (env S.globals) (group_of (defined S x c cs)) (Ending.ok g) →
      Formed M (after_group n x.id g S) ds
  group-given S n c cs ds x f differ h (Given.holes hs) r =
      behind-holes M S n c cs ds x f h.among h.holds differ hs
  group-given S n c cs ds x f differ h (Given.body b) r =
      let s = f.signed x h.among in
      let is = definition-is M S n c cs ds x f h.among h.holds differ in
      let clean = well-formed-tapeless (env S.globals) f.well in
      let tape = groups (defined S x c cs) b clean (clean.types x.id) r in
      behind-body M S n c cs ds x f h.among h.holds differ b
      (bodies_keep_form_holds (defined S x c cs) x.id s.definition b f.well s.there
      (no-body M S n c cs ds x f h.among h.holds differ) (ap (λ (A : Definition). A.type) is)
      (ap (λ (A : Definition). part_of A.mult) is) tape (body-holds (defined S x c cs) b r))

  group-step : (S : Stage) (n : List ℕ) (c : Clause) (cs : List Clause) (ds : List Declaration) (o : Option Signed) →
      signed_as n S.signed ≡ o → Formed M S (Declaration.group n c cs ∷ ds) → all_differ (n ∷ group_names ds) ≡ true →
      (T : Stage) → Ends (env S.globals) (group_for o S n c cs) (Ending.ok T) → Formed M T ds
  group-step S n c cs ds None e f differ T x = elim x [ ]
  group-step S n c cs ds (Some y) e f differ T x =
      let g = parts (group_of (defined S y c cs)) _ _ x in
      subst (λ z. Formed M z ds) (ended _ _ g.after)
      (group-given S n c cs ds y f differ (hit (named_so n) S.signed y e) g.mid g.first)

  pub step : (S T : Stage) (d : Declaration) (ds : List Declaration) → Formed M S (d ∷ ds) → Marked (d ∷ ds) →
      all_differ (group_names (d ∷ ds)) ≡ true → Ends (env S.globals) (declare M S d) (Ending.ok T) → Formed M T ds
  unfolding declare
  step S T (Declaration.family n ps t cs) ds f m differ x =
      let r = parts (family S.globals (item_of M S.next) M.name n ps t cs) _ _ x in
      let i = family-id (family_so S.globals (item_of M S.next) M.name n ps t cs r.mid r.first) in
      subst (λ z. Formed M z ds) (ended _ _ r.after)
      (after-family M S r.mid (length cs) i ds (again refl f)
      (families_keep_form_holds S.globals (item_of M S.next) M.name n ps t cs r.mid f.well (f.fresh S.next least).0
      r.first))
  step S T (Declaration.signature b q n s t) ds f m differ x =
      let r = parts (signature S.globals (item_of M S.next) M.name n q t) _ _ x in
      let i = signature-id (signature_so S.globals (item_of M S.next) M.name n q t r.mid r.first) in
      subst (λ z. Formed M z ds) (ended _ _ r.after)
      (after-signed M S r.mid _ i.id refl i.bare refl ds (again refl f)
      (signatures_keep_form_holds S.globals (item_of M S.next) M.name n q t r.mid f.well (f.fresh S.next least).1 m.0
      r.first))
  step S T (Declaration.group n c cs) ds f m differ x =
      group-step S n c cs ds (signed_as n S.signed) refl f differ T x

  -- ---- items in turn
  pub turns : {S T : Stage} {ds : List Declaration} → InTurn M S ds (Ending.ok T) → Formed M S ds → Marked ds →
      all_differ (group_names ds) ≡ true → WellFormed (env T.globals)
  turns {S = S} {T = T} (InTurn.last x) f m differ = last-is S T f x
  turns {S = S} (InTurn.passes {T = U} {d = d} {ds = ds} x r) f m differ =
      turns r (step S U d ds f m differ x) (behind-marks d ds m) (behind-names d ds differ)

pub starts : (M : Home) (G : Entries) (ds : List Declaration) → WellFormed (env G) → FreshFrom M 0 G →
    Formed M (start G) ds
starts M G ds w f = record {
  well = w;
  fresh = f;
  signed = λ x a. elim a [ ];
  once = λ x y a b e. elim a [ ];
}

pub module_formed : (M : Home) (G : Entries) (ds : List Declaration) (S : Stage) → WellFormed (env G) →
    FreshFrom M 0 G → WellNamed ds → InTurn M (start G) ds (Ending.ok S) → WellFormed (env S.globals)
module_formed M G ds S w f n x = turns groups_make_no_tape_holds M x (starts M G ds w f) n.marked n.groups
