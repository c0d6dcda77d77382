-- Each body of a build is by the clauses of one of its modules: rank by rank, and in a rank module by module.
use Rattle.std.proofs.Common.{◌≡◌, ℕ, suc, inl, inr, List, [], ◌∷◌, map, length, All, Some, arith}
use Rattle.std.proofs.lemmas.List.Elements.{All-from_recursion, All-head, All-tail}
use Rattle.std.specs.List.{AllByRecursion}
use Rattle.qtt_base.specs.declared.place.GlobalId.{GlobalId}
use Rattle.qtt_syntax.specs.Tree.{Module}
use Rattle.qtt_term.specs.Term.{Term}
use Rattle.qtt_term.specs.Signature.{definition_at}
use Rattle.qtt_term.specs.Environment.{WellFormed}
use Rattle.qtt_term.specs.Entries.{Entries, env, prim_entries}
use Rattle.qtt_term.proofs.Options.{none≢some}
use Rattle.qtt_load.specs.Loading.{module_name}
use Rattle.qtt_module.specs.Declarations.{declarations}
use Rattle.qtt_module.specs.Text.{Accepted, items_in}
use Rattle.qtt_accepted.specs.Members.{Among}
use Rattle.qtt_accepted.specs.Texts.{adopted, StandsIn, TextsKeepFormBeside}
use Rattle.qtt_accepted.specs.Clauses.{ConstructorsApart, FamiliesInside, ClausesAreFollowed, ByClausesStay, PrimIsApart, TextsGoByClauses}
use Rattle.qtt_build.specs.Built.{Built, nothing_yet, numbered, imports_for, all_adopted}
use Rattle.qtt_build.specs.Build.{modules_at}
use Rattle.qtt_build.specs.Judged.{DeclaresAt, DeclaresRank, DeclaresRanks}
use Rattle.qtt_build.specs.Laws.{IsOfModule, BuildsFollowClauses}
use Rattle.qtt_build.specs.Parts.{OnlyBelow}
use Rattle.qtt_build.proofs.Numbers.{prim-below, below-later, adopted-below, below-fresh}
use Rattle.qtt_build.proofs.Declared.{declared-numbered}
use Rattle.qtt_build.proofs.Marked.{IsMarked, loaded-marked, at-all}
use Rattle.qtt_build.proofs.Formed.{stands-itself, stands-on, prim-formed, rank-formed, behind-rank, AreMarked, builds_keep_form_holds}

-- the laws of accepted texts that it rests on
pub record TextLaws : Type 0 where
  pub forms : TextsKeepFormBeside
  pub texts : TextsGoByClauses
  pub stay : ByClausesStay
  pub followed : ClausesAreFollowed
  pub prim : PrimIsApart

-- each of a list is among it
all-later : (m : Module) (ms ns : List Module) → AllByRecursion (λ n. Among n ms) ns →
    AllByRecursion (λ n. Among n (m ∷ ms)) ns
all-later m ms [] h = tt
all-later m ms (n ∷ ns) h = (Among.later h.0, all-later m ms ns h.1)

all-among : (ms : List Module) → AllByRecursion (λ m. Among m ms) ms
all-among [] = tt
all-among (m ∷ ms) = (Among.here, all-later m ms ms (all-among ms))

module _ (laws : TextLaws) (all : List Module) where
  abbrev IsAmong : Module → Type 0
  IsAmong m = Among m all

  abbrev AreAmong : List Module → Type 0
  AreAmong ms = All IsAmong ms

  -- what holds of an environment
  record Follows (H : Entries) : Type 0 where
    apart : ConstructorsApart H
    bodies : (d : GlobalId) (b : Term) → (definition_at (env H) d).body ≡ Some b → IsOfModule all H d b

  still : (H L : Entries) → StandsIn (env H) (env L) → FamiliesInside H L → ConstructorsApart L → (d : GlobalId)
      (b : Term) → IsOfModule all H d b → IsOfModule all L d b
  still H L s inside apart d b x = record {
    «module» = x.module;
    among = x.among;
    before = x.before;
    place = x.place;
    accepted = x.accepted;
    declares = x.declares;
    by_clauses =
        laws.stay (declarations (items_in x.declares.filled.text)) H L d b s inside apart x.by_clauses;
  }

  -- ---- a rank
  module _ (B : Built) (w : WellFormed (env B.globals)) (over : ConstructorsApart B.globals) where
    one-follows : (k : ℕ) (m : Module) (A : Accepted) (H : Entries) → IsMarked m → IsAmong m →
        StandsIn (env B.globals) (env H) → FamiliesInside B.globals H → OnlyBelow (suc k) H → DeclaresAt B k m A →
        Follows H → Follows (adopted H A.checked.part) × FamiliesInside H (adopted H A.checked.part)
    one-follows k m A H marked among s inside here d f =
        let fresh = below-fresh k H m here in
        let j = laws.texts (numbered k) (module_name m) (imports_for B.order m) B.globals H m A w marked
        (record { stands = s; inside = inside; before = over; among = f.apart; fresh = fresh }) d in
        let kept = laws.forms.stands (numbered k) (module_name m) (imports_for B.order m) B.globals H m A s fresh d in (
          record {
            apart = j.apart;
            bodies = λ i b e. elim (j.bodies i b e) [
              | inl h ↦ still H (adopted H A.checked.part) kept j.inside j.apart i b (f.bodies i b h)
              | inr h ↦ record {
                «module» = m;
                among = among;
                before = B;
                place = k;
                accepted = A;
                declares = d;
                by_clauses = h;
              }
            ];
          },
          j.inside,
        )

    rank-follows : (k : ℕ) (ms : List Module) (As : List Accepted) (H : Entries) →
        StandsIn (env B.globals) (env H) → FamiliesInside B.globals H → OnlyBelow (suc k) B.globals →
        OnlyBelow (suc k) H → All IsMarked ms → AreAmong ms → DeclaresRank B k ms As → Follows H →
        Follows (all_adopted H As)
    rank-follows k _ _ H s inside below here marked among DeclaresRank.none f = f
    rank-follows k _ _ H s inside below here marked among
        (DeclaresRank.more {m = m} {ms = ms} {A = A} {As = As} d r) f =
        let one = one-follows k m A H (All-head IsMarked m ms marked) (All-head IsAmong m ms among) s inside here d f in
        let fresh = below-fresh k H m here in
        rank-follows (suc k) ms As (adopted H A.checked.part)
        (stands-on s
        (laws.forms.stands (numbered k) (module_name m) (imports_for B.order m) B.globals H m A s fresh d))
        (λ F a. one.1 F (inside F a))
        (below-later (suc k) (suc (suc k)) B.globals (omega arith) below)
        (adopted-below (suc k) H A.checked.part here (declared-numbered k B m A below d))
        (All-tail IsMarked m ms marked) (All-tail IsAmong m ms among) r one.0

  -- ---- rank by rank
  ranks-follow : {B C : Built} {ranks : List (List Module)} → WellFormed (env B.globals) →
      OnlyBelow (suc (length B.order)) B.globals → All AreMarked ranks → All AreAmong ranks →
      DeclaresRanks B ranks C → Follows B.globals → Follows C.globals
  ranks-follow w below marked among DeclaresRanks.built f = f
  ranks-follow {B = B} w below marked among (DeclaresRanks.next {rank = rank} {others = more} {As = As} r rs) f =
      let s = stands-itself (env B.globals) in
      let here = All-head AreMarked rank more marked in
      ranks-follow
      (rank-formed laws.forms B w (length B.order) rank As B.globals w s below below here r)
      (behind-rank laws.forms B rank As below r) (All-tail AreMarked rank more marked)
      (All-tail AreAmong rank more among) rs
      (rank-follows B w f.apart (length B.order) rank As B.globals s (λ F a. a) below below here
      (All-head AreAmong rank more among) r f)

  prim-follows : Follows prim_entries
  prim-follows = record { apart = laws.prim; bodies = λ d b e. absurd (none≢some e) }

-- ---- the whole, over Prim
pub builds_follow_clauses_holds : TextLaws → BuildsFollowClauses
builds_follow_clauses_holds laws texts root B x d body e =
    let ranks = map (modules_at x.modules) x.levels in
    let f = ranks-follow laws x.modules {B = nothing_yet} {C = B} {ranks = ranks} prim-formed prim-below
    (at-all IsMarked x.modules x.levels (loaded-marked texts root x.modules x.loads))
    (at-all (λ m. Among m x.modules) x.modules x.levels
    (All-from_recursion (λ m. Among m x.modules) x.modules (all-among x.modules)))
    x.declares (prim-follows laws x.modules) in
    let o = f.bodies d body e in
    record {
      of_module = o;
      goes_on =
          laws.followed (declarations (items_in o.declares.filled.text)) B.globals d body
          ((builds_keep_form_holds laws.forms).formed texts root B x) o.by_clauses;
    }
