-- The environment of a build is well formed and, where no module has a hole, complete: rank by rank, and in a rank
-- module by module, each beside those that were judged over the same environment.
use Rattle.std.proofs.Common.{◌≡◌, ℕ, suc, ◌+◌, List, [], ◌∷◌, ◌++◌, map, length, All, sym, subst, arith}
use Rattle.std.proofs.lemmas.List.{length-append}
use Rattle.std.proofs.lemmas.List.Elements.{All-nil, All-cons, All-head, All-tail}
use Rattle.qtt_syntax.specs.Tree.{Module}
use Rattle.qtt_term.specs.Signature.{Env}
use Rattle.qtt_term.specs.Environment.{WellFormed, Complete}
use Rattle.qtt_term.specs.Entries.{Entries, env, prim_entries}
use Rattle.qtt_term.proofs.Options.{none≢some}
use Rattle.qtt_term.proofs.PrimFormed.{prim_formed}
use Rattle.qtt_term.proofs.PrimGlobals.{entries-are_the_environment}
use Rattle.qtt_load.specs.Loading.{module_name}
use Rattle.qtt_module.specs.Text.{Accepted}
use Rattle.qtt_accepted.specs.Texts.{adopted, StandsIn, TextsKeepFormBeside}
use Rattle.qtt_build.specs.Built.{Built, nothing_yet, numbered, imports_for, all_adopted}
use Rattle.qtt_build.specs.Build.{modules_at}
use Rattle.qtt_build.specs.Judged.{DeclaresRank, DeclaresRanks}
use Rattle.qtt_build.specs.Laws.{HasNoHoles, BuildsKeepForm}
use Rattle.qtt_build.specs.Parts.{OnlyBelow}
use Rattle.qtt_build.proofs.Numbers.{prim-below, below-later, adopted-below, all-adopted-below, below-fresh}
use Rattle.qtt_build.proofs.Declared.{declared-numbered, rank-numbered}
use Rattle.qtt_build.proofs.Marked.{IsMarked, loaded-marked, at-all}

-- ---- what stands
pub stands-itself : (E : Env) → StandsIn E E
stands-itself E = record { families = λ f F h. h; definitions = λ d A h. h }

pub stands-on : {C D E : Env} → StandsIn C D → StandsIn D E → StandsIn C E
stands-on s t = record {
  families = λ f F h. t.families f F (s.families f F h);
  definitions = λ d A h. t.definitions d A (s.definitions d A h);
}

-- ---- parts of lists
of-front : {X : Type 0} (P : X → Type 0) (xs ys : List X) → All P (xs ++ ys) → All P xs
of-front P [] ys h = All-nil P
of-front P (x ∷ xs) ys h =
    All-cons P x xs (All-head P x (xs ++ ys) h) (of-front P xs ys (All-tail P x (xs ++ ys) h))

of-back : {X : Type 0} (P : X → Type 0) (xs ys : List X) → All P (xs ++ ys) → All P ys
of-back P [] ys h = h
of-back P (x ∷ xs) ys h = of-back P xs ys (All-tail P x (xs ++ ys) h)

-- what is accepted stays so
order-front : {B C : Built} {ranks : List (List Module)} → DeclaresRanks B ranks C → All HasNoHoles C.order →
    All HasNoHoles B.order
order-front DeclaresRanks.built h = h
order-front {B} (DeclaresRanks.next {As = As} r rs) h = of-front HasNoHoles B.order As (order-front rs h)

abbrev pub AreMarked : List Module → Type 0
AreMarked ms = All IsMarked ms

module _ (keep : TextsKeepFormBeside) where
  -- ---- a rank
  module _ (B : Built) (w : WellFormed (env B.globals)) where
    -- what was judged over B, put in turn among what stands by then
    pub rank-formed : (k : ℕ) (ms : List Module) (As : List Accepted) (H : Entries) → WellFormed (env H) →
        StandsIn (env B.globals) (env H) → OnlyBelow (suc k) B.globals → OnlyBelow (suc k) H → All IsMarked ms →
        DeclaresRank B k ms As → WellFormed (env (all_adopted H As))
    rank-formed k _ _ H v s below here marked DeclaresRank.none = v
    rank-formed k _ _ H v s below here marked (DeclaresRank.more {m = m} {ms = ms} {A = A} {As = As} d r) =
        let fresh = below-fresh k H m here in
        rank-formed (suc k) ms As (adopted H A.checked.part)
        (keep.formed (numbered k) (module_name m) (imports_for B.order m) B.globals H m A w v s fresh
        (All-head IsMarked m ms marked) d)
        (stands-on s
        (keep.stands (numbered k) (module_name m) (imports_for B.order m) B.globals H m A s fresh d))
        (below-later (suc k) (suc (suc k)) B.globals (omega arith) below)
        (adopted-below (suc k) H A.checked.part here (declared-numbered k B m A below d))
        (All-tail IsMarked m ms marked) r

    module _ (c : Complete (env B.globals)) where
      rank-complete : (k : ℕ) (ms : List Module) (As : List Accepted) (H : Entries) → Complete (env H) →
          StandsIn (env B.globals) (env H) → OnlyBelow (suc k) B.globals → OnlyBelow (suc k) H → All IsMarked ms →
          DeclaresRank B k ms As → All HasNoHoles As → Complete (env (all_adopted H As))
      rank-complete k _ _ H v s below here marked DeclaresRank.none none = v
      rank-complete k _ _ H v s below here marked
          (DeclaresRank.more {m = m} {ms = ms} {A = A} {As = As} d r) none =
          let fresh = below-fresh k H m here in
          rank-complete (suc k) ms As (adopted H A.checked.part)
          (keep.complete (numbered k) (module_name m) (imports_for B.order m) B.globals H m A w s fresh
          (All-head IsMarked m ms marked) d c v (All-head HasNoHoles A As none))
          (stands-on s
          (keep.stands (numbered k) (module_name m) (imports_for B.order m) B.globals H m A s fresh d))
          (below-later (suc k) (suc (suc k)) B.globals (omega arith) below)
          (adopted-below (suc k) H A.checked.part here (declared-numbered k B m A below d))
          (All-tail IsMarked m ms marked) r (All-tail HasNoHoles A As none)

  -- ---- rank by rank
  pub behind-rank : (B : Built) (ms : List Module) (As : List Accepted) →
      OnlyBelow (suc (length B.order)) B.globals → DeclaresRank B (length B.order) ms As →
      OnlyBelow (suc (length (B.order ++ As))) (all_adopted B.globals As)
  behind-rank B ms As below r =
      let e : length (B.order ++ As) ≡ length B.order + length As = length-append B.order As in
      below-later (suc (length B.order) + length As) (suc (length (B.order ++ As))) (all_adopted B.globals As)
      (omega (arith, e))
      (all-adopted-below (suc (length B.order)) B.globals As below (rank-numbered B (length B.order) ms As below r))

  ranks-formed : {B C : Built} {ranks : List (List Module)} → WellFormed (env B.globals) →
      OnlyBelow (suc (length B.order)) B.globals → All AreMarked ranks → DeclaresRanks B ranks C →
      WellFormed (env C.globals)
  ranks-formed w below marked DeclaresRanks.built = w
  ranks-formed {B = B} w below marked (DeclaresRanks.next {rank = rank} {others = more} {As = As} r rs) =
      ranks-formed
      (rank-formed B w (length B.order) rank As B.globals w (stands-itself (env B.globals)) below below
      (All-head AreMarked rank more marked) r)
      (behind-rank B rank As below r) (All-tail AreMarked rank more marked) rs

  ranks-complete : {B C : Built} {ranks : List (List Module)} → WellFormed (env B.globals) →
      Complete (env B.globals) → OnlyBelow (suc (length B.order)) B.globals → All AreMarked ranks →
      DeclaresRanks B ranks C → All HasNoHoles C.order → Complete (env C.globals)
  ranks-complete w c below marked DeclaresRanks.built none = c
  ranks-complete {B = B} w c below marked (DeclaresRanks.next {rank = rank} {others = more} {As = As} r rs) none =
      let s = stands-itself (env B.globals) in
      let here = All-head AreMarked rank more marked in
      ranks-complete (rank-formed B w (length B.order) rank As B.globals w s below below here r)
      (rank-complete B w c (length B.order) rank As B.globals c s below below here r
      (of-back HasNoHoles B.order As (order-front rs none)))
      (behind-rank B rank As below r) (All-tail AreMarked rank more marked) rs none

-- ---- the whole, over Prim
pub prim-formed : WellFormed (env prim_entries)
prim-formed = subst WellFormed (sym entries-are_the_environment.prim) prim_formed

prim-complete : Complete (env prim_entries)
prim-complete = λ d D h u. absurd (none≢some h)

pub builds_keep_form_holds : TextsKeepFormBeside → BuildsKeepForm
builds_keep_form_holds keep = record {
  formed = λ texts root B d.
      ranks-formed keep {B = nothing_yet} {C = B} {ranks = map (modules_at d.modules) d.levels} prim-formed
      prim-below (at-all IsMarked d.modules d.levels (loaded-marked texts root d.modules d.loads)) d.declares;
  complete = λ texts root B d none.
      ranks-complete keep {B = nothing_yet} {C = B} {ranks = map (modules_at d.modules) d.levels} prim-formed
      prim-complete prim-below (at-all IsMarked d.modules d.levels (loaded-marked texts root d.modules d.loads))
      d.declares none;
}
