-- Each body of an accepted text is by its clauses, once its part is adopted beside others.
use Rattle.std.proofs.Common.{◌≡◌, ℕ, ◌⊎◌, inl, inr, Bool, true, false, cond, List, Some, refl, sym, ap, subst, ◌∙◌}
use Rattle.std.proofs.lemmas.Bool.{eqb-true, eq-eqb}
use Rattle.qtt_base.specs.declared.place.GlobalId.{GlobalId}
use Rattle.qtt_base.specs.declared.place.ModuleId.{ModuleId}
use Rattle.qtt_syntax.specs.Tree.{Module}
use Rattle.qtt_names.specs.Exports.{Exports}
use Rattle.qtt_term.specs.declared.term.ConId.{ConId}
use Rattle.qtt_term.specs.Term.{Term}
use Rattle.qtt_term.specs.Signature.{Env, There, definition_of, definition_at}
use Rattle.qtt_term.specs.Keyed.{is_of, with_id}
use Rattle.qtt_term.specs.Items.{FamilyEntry, family_id, constructor_in}
use Rattle.qtt_term.specs.Environment.{WellFormed}
use Rattle.qtt_term.specs.Entries.{Entries, env}
use Rattle.qtt_term.proofs.Options.{none≢some}
use Rattle.qtt_clause_laws.specs.Named.{ConstructorsStay}
use Rattle.qtt_preserve.proofs.Facts.{bodies_closed_holds}
use Rattle.qtt_module.specs.Declarations.{Declaration, declarations}
use Rattle.qtt_module.specs.Module.{Home, Stage, part_at, Checked}
use Rattle.qtt_module.specs.Text.{Accepted, home_of, items_in}
use Rattle.qtt_module.specs.TextCalls.{DeclaresText}
use Rattle.qtt_accepted.specs.Members.{Among}
use Rattle.qtt_accepted.specs.Stages.{FreshFrom, Marked, WellNamed}
use Rattle.qtt_accepted.specs.Texts.{adopted, StandsIn}
use Rattle.qtt_accepted.specs.Clauses.{ConstructorsApart, IsByClauses, ClausesAreFollowed, ByClausesStay, IsPutAmong, JoinsByClauses, TextsGoByClauses}
use Rattle.qtt_accepted.proofs.Added.{no-entry}
use Rattle.qtt_accepted.proofs.Adding.{fresh-lacks}
use Rattle.qtt_accepted.proofs.Apart.{among-all, new-all, old-all, is-found, of-filtered, in-filtered, stay-apart}
use Rattle.qtt_accepted.proofs.Beside.{beside, stands-beside, stands-grows, stands-stay}
use Rattle.qtt_accepted.proofs.Followed.{Extends, by-clauses-still, Followed, turns-followed}
use Rattle.qtt_accepted.proofs.Texts.{accepts, fresh-first, adds, adopted-is, texts_are_well_named_holds}
use Rattle.qtt_accepted.proofs.Turns.{starts}

-- ---- what is by clauses goes on so
pub clauses_are_followed_holds : ClausesAreFollowed
clauses_are_followed_holds ds E d body w x = λ Θ vs z deep s C u t.
    x.accepted.applied E x.larger w.prims (bodies_closed_holds (env E) w) d x.defines Θ vs z deep s C u t

pub by_clauses_stay_holds : ByClausesStay
by_clauses_stay_holds ds H L d body s inside apart x =
    by-clauses-still (record {
      grows = stands-grows (env H) (env L) s;
      stays = stands-stay (env H) (env L) s;
      constructors = stay-apart H L inside apart;
    }) x

-- ---- no family of the module stands there
none-there : (M : Home) (G : Entries) → FreshFrom M 0 G → (F : FamilyEntry) → Among F G.families →
    is_of (Some M.id) F.id ≡ true → ⊥
none-there M G fresh F a e =
    subst There
    (no-entry (λ (X : FamilyEntry). X.family) (with_id family_id F.id G.families)
    ((fresh-lacks M G fresh).families F.id e)) (is-found family_id F G.families a)

-- an id of one module is of no other
same-module : (m : ModuleId) (f g : GlobalId) → is_of (Some f.module) g ≡ true → is_of (Some m) g ≡ true →
    is_of (Some m) f ≡ true
same-module m f g a b =
    eq-eqb f.module.0 m.0 (sym (eqb-true g.module.0 f.module.0 a) ∙ eqb-true g.module.0 m.0 b)

its-module : (m : ModuleId) (f g : GlobalId) → is_of (Some f.module) g ≡ true → is_of (Some m) f ≡ true →
    is_of (Some m) g ≡ true
its-module m f g a b =
    eq-eqb g.module.0 m.0 (eqb-true g.module.0 f.module.0 a ∙ eqb-true f.module.0 m.0 b)

module _ (id : ModuleId) (asked : List ℕ) (imports : List Exports) (G H : Entries) (m : Module) (A : Accepted)
    (x : DeclaresText id asked imports G m A) (w : WellFormed (env G)) (marked : Marked (declarations (items_in m)))
    (i : IsPutAmong id m G H) where
  abbrev M : Home
  M = home_of id m

  abbrev all : List Declaration
  all = declarations (items_in x.filled.text)

  abbrev S : Stage
  S = (accepts id asked imports G H m A x i.stands i.fresh).stage

  abbrev P : Entries
  P = part_at id S.globals

  abbrev Put : Entries
  Put = adopted H P

  put-is : Put ≡ adopted H A.checked.part
  put-is = ap (λ (C : Checked). adopted H C.part) (accepts id asked imports G H m A x i.stands i.fresh).is_checked

  env-is : env (adopted H A.checked.part) ≡ beside id (env S.globals) (env H)
  env-is = adopted-is id asked imports G H m A x i.stands i.fresh

  first : FreshFrom M 0 G
  first = fresh-first id asked imports G H m A x i.stands i.fresh

  named : WellNamed all
  named = texts_are_well_named_holds id asked imports m x.filled x.reads marked

  f : Followed M G all S
  f =
      turns-followed M G all (accepts id asked imports G H m A x i.stands i.fresh).ends (record {
        others = λ F a. inl a;
        apart = i.before;
        below = λ F a g h e. absurd (none-there M G first F a (same-module id F.id g (i.before.own F a g h) e));
        bodies = λ d b e. inl e;
      }) (starts M G all w first) named.marked named.groups (λ D h. h)

  -- ---- constructors
  abbrev IsIn : FamilyEntry → Type 0
  IsIn F = Among F P.families ⊎ Among F H.families

  own-of : (F : FamilyEntry) → Among F P.families → Among F S.globals.families × (is_of (Some id) F.id ≡ true)
  own-of F a = of-filtered family_id (λ (X : FamilyEntry). is_of (Some id) X.id) F S.globals.families a

  not-both : (F K : FamilyEntry) → Among F P.families → Among K H.families → (g : GlobalId) →
      There (constructor_in F g) → There (constructor_in K g) → ⊥
  not-both F K a b g h k =
      let r = own-of F a in
      none-there M H i.fresh K b
      (same-module id K.id g (i.among.own K b g k) (its-module id F.id g (f.apart.own F r.0 g h) r.1))

  there : (F : FamilyEntry) (g : GlobalId) (c : ConId) → constructor_in F g ≡ Some c → There (constructor_in F g)
  there F g c e = subst There (sym e) tt

  own-so : (F : FamilyEntry) → IsIn F → (g : GlobalId) → There (constructor_in F g) →
      is_of (Some F.id.module) g ≡ true
  own-so F (inl a) g h = f.apart.own F (own-of F a).0 g h
  own-so F (inr a) g h = i.among.own F a g h

  apart-so : (F K : FamilyEntry) → IsIn F → IsIn K → (g : GlobalId) (c d : ConId) → constructor_in F g ≡ Some c →
      constructor_in K g ≡ Some d → c ≡ d
  apart-so F K (inl a) (inl b) g c d p q = f.apart.apart F K (own-of F a).0 (own-of K b).0 g c d p q
  apart-so F K (inl a) (inr b) g c d p q = absurd (not-both F K a b g (there F g c p) (there K g d q))
  apart-so F K (inr a) (inl b) g c d p q = absurd (not-both K F b a g (there K g d q) (there F g c p))
  apart-so F K (inr a) (inr b) g c d p q = i.among.apart F K a b g c d p q

  put-apart : ConstructorsApart Put
  put-apart = record {
    own = λ F a. own-so F (among-all family_id F P.families H.families a);
    apart = λ F K a b.
        apart-so F K (among-all family_id F P.families H.families a) (among-all family_id K P.families H.families b);
  }

  -- what is over G or of the module stands there
  kept-so : (F : FamilyEntry) → Among F S.globals.families → Among F G.families ⊎ (is_of (Some id) F.id ≡ true) →
      Among F Put.families
  kept-so F a (inl b) = old-all family_id F P.families H.families (i.inside F b)
  kept-so F a (inr e) =
      new-all family_id F P.families H.families
      (in-filtered family_id (λ (X : FamilyEntry). is_of (Some id) X.id) F S.globals.families a e)

  stands : StandsIn (env S.globals) (env (adopted H A.checked.part))
  stands =
      subst (StandsIn (env S.globals)) (sym env-is)
      (stands-beside id (env S.globals) (env H) (env G) (adds id asked imports G H m A x i.stands i.fresh).adds
      i.stands)

  extends : Extends S.globals (adopted H A.checked.part)
  extends = record {
    grows = stands-grows (env S.globals) (env (adopted H A.checked.part)) stands;
    stays = stands-stay (env S.globals) (env (adopted H A.checked.part)) stands;
    constructors =
        subst (ConstructorsStay S.globals) put-is
        (stay-apart S.globals Put (λ F a. kept-so F a (f.others F a)) put-apart);
  }

  -- ---- a body is that of the module, or one that was there
  bodies : (d : GlobalId) (b : Term) → (definition_at (env (adopted H A.checked.part)) d).body ≡ Some b →
      ((definition_at (env H) d).body ≡ Some b) ⊎ IsByClauses all (adopted H A.checked.part) d b
  bodies d b e =
      by (is_of (Some id) d) refl (ap (λ (E : Env). (definition_of (E.definition d)).body) (sym env-is) ∙ e)
    where
      of-stage : is_of (Some id) d ≡ true →
          ((definition_at (env G) d).body ≡ Some b) ⊎ IsByClauses all S.globals d b →
          ((definition_at (env H) d).body ≡ Some b) ⊎ IsByClauses all (adopted H A.checked.part) d b
      of-stage t (inl k) =
          absurd (none≢some (sym (ap (λ o. (definition_of o).body) ((fresh-lacks M G first).definitions d t)) ∙ k))
      of-stage t (inr k) = inr (by-clauses-still extends k)

      by : (t : Bool) → is_of (Some id) d ≡ t →
          (definition_of (cond t ((env S.globals).definition d) ((env H).definition d))).body ≡ Some b →
          ((definition_at (env H) d).body ≡ Some b) ⊎ IsByClauses all (adopted H A.checked.part) d b
      by true t h = of-stage t (f.bodies d b h)
      by false t h = inl h

  pub joins : JoinsByClauses x H
  joins = record {
    apart = subst ConstructorsApart put-is put-apart;
    inside = λ F a. old-all family_id F A.checked.part.families H.families a;
    bodies = bodies;
  }

pub texts_go_by_clauses_holds : TextsGoByClauses
texts_go_by_clauses_holds id asked imports G H m A w marked i x = joins id asked imports G H m A x w marked i
