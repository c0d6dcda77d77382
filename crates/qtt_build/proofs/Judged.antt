-- The outcomes of a build mean what the relation says.
use Rattle.std.proofs.Common.{◌≡◌, ℕ, ◌⊎◌, inl, inr, List, map, Result, Ok, Err, refl, ap, subst}
use Rattle.qtt_syntax.specs.Tree.{Module}
use Rattle.qtt_graph.specs.Graph.{Name, Graph, header_of}
use Rattle.qtt_graph.specs.Ranks.{ranks}
use Rattle.qtt_load.specs.Reading.{Reading}
use Rattle.qtt_load.specs.Loading.{loaded}
use Rattle.qtt_load.specs.Loading as loading
use Rattle.qtt_module.specs.Refused.{Refused, Answer}
use Rattle.qtt_build.specs.Built.{Built, nothing_yet, built_by_rank}
use Rattle.qtt_build.specs.Build.{Stop, Outcome, ◌>>=◌, loading_stop, of_loading, ring_stop, of_ranks, of_answer, modules_at, build}
use Rattle.qtt_build.specs.Judged.{DeclaresBuild, RefusesBuild}
use Rattle.qtt_build.specs.Laws.{BuildsAreJudged}
use Rattle.qtt_build.proofs.Ranked.{ranks-declared, ranks-refused}

-- ---- a value, and then another
record Both {A B : Type 0} (m : Outcome A) (k : A → Outcome B) (b : B) : Type 0 where
  value : A
  first : m ≡ Ok value
  later : k value ≡ Ok b

record Later {A B : Type 0} (m : Outcome A) (k : A → Outcome B) (s : Stop) : Type 0 where
  value : A
  first : m ≡ Ok value
  later : k value ≡ Err s

both : {A B : Type 0} (m : Outcome A) (k : A → Outcome B) (b : B) → m >>= k ≡ Ok b → Both m k b
unfolding ◌>>=◌
both (Ok a) k b h = record { value = a; first = refl; later = h }
both (Err s) k b h = absurd (cc h)

either : {A B : Type 0} (m : Outcome A) (k : A → Outcome B) (s : Stop) → m >>= k ≡ Err s →
    (m ≡ Err s) ⊎ Later m k s
unfolding ◌>>=◌
either (Ok a) k s h = inr (record { value = a; first = refl; later = h })
either (Err t) k s h = let e : t ≡ s = cc h in inl (ap (λ (s : Stop). Err s) e)

-- ---- stages
loaded-ok : (r : Result (List Module) loading.Stop) (ms : List Module) → of_loading r ≡ Ok ms → r ≡ Ok ms
loaded-ok (Ok a) ms h = let e : a ≡ ms = cc h in ap Ok e
loaded-ok (Err s) ms h = absurd (cc h)

loaded-err : (r : Result (List Module) loading.Stop) (s : Stop) → of_loading r ≡ Err s →
    (t : loading.Stop) × (r ≡ Err t) × (loading_stop t ≡ s)
loaded-err (Ok a) s h = absurd (cc h)
loaded-err (Err t) s h = let e : loading_stop t ≡ s = cc h in (t, refl, e)

ranked-ok : (g : Graph) (r : Result (List (List ℕ)) (List Name)) (levels : List (List ℕ)) → of_ranks g r ≡ Ok levels →
    r ≡ Ok levels
ranked-ok g (Ok a) levels h = let e : a ≡ levels = cc h in ap Ok e
ranked-ok g (Err way) levels h = absurd (cc h)

ranked-err : (g : Graph) (r : Result (List (List ℕ)) (List Name)) (s : Stop) → of_ranks g r ≡ Err s →
    (way : List Name) × (r ≡ Err way) × (ring_stop g way ≡ s)
ranked-err g (Ok a) s h = absurd (cc h)
ranked-err g (Err way) s h = let e : ring_stop g way ≡ s = cc h in (way, refl, e)

answered-ok : {A : Type 0} (a : Answer A) (x : A) → of_answer a ≡ Ok x → a ≡ Ok x
answered-ok (Ok a) x h = let e : a ≡ x = cc h in ap Ok e
answered-ok (Err r) x h = absurd (cc h)

answered-err : {A : Type 0} (a : Answer A) (s : Stop) → of_answer a ≡ Err s →
    (r : Refused) × (a ≡ Err r) × (Stop.refused r ≡ s)
answered-err (Ok a) s h = absurd (cc h)
answered-err (Err r) s h = let e : Stop.refused r ≡ s = cc h in (r, refl, e)

-- ---- the whole
module _ (read : Name → Reading Module) (root : Name) (n : ℕ) where
  abbrev pub graph : List Module → Graph
  graph ms = map header_of ms

  abbrev pub behind_ranks : List Module → List (List ℕ) → Outcome Built
  behind_ranks ms levels = of_answer (built_by_rank n nothing_yet (map (modules_at ms) levels))

  abbrev pub behind_loading : List Module → Outcome Built
  behind_loading ms = of_ranks (graph ms) (ranks (graph ms)) >>= behind_ranks ms

  -- the stages of a build
  pub record Staged (B : Built) : Type 0 where
    pub modules : List Module
    pub loads : loaded read root ≡ Ok modules
    pub levels : List (List ℕ)
    pub ranked : ranks (graph modules) ≡ Ok levels
    pub judged : built_by_rank n nothing_yet (map (modules_at modules) levels) ≡ Ok B

  pub staged : (B : Built) → build read root n ≡ Ok B → Staged B
  unfolding build
  staged B h =
      let l = both (of_loading (loaded read root)) behind_loading B h in
      let ms = l.value in
      let r = both (of_ranks (graph ms) (ranks (graph ms))) (behind_ranks ms) B l.later in
      let levels = r.value in
      record {
        modules = ms;
        loads = loaded-ok (loaded read root) ms l.first;
        levels = levels;
        ranked = ranked-ok (graph ms) (ranks (graph ms)) levels r.first;
        judged = answered-ok (built_by_rank n nothing_yet (map (modules_at ms) levels)) B r.later;
      }

  built-so : (B : Built) → build read root n ≡ Ok B → DeclaresBuild read root B
  built-so B h =
      let s = staged B h in
      record {
        modules = s.modules;
        loads = s.loads;
        levels = s.levels;
        ranked = s.ranked;
        declares = ranks-declared n nothing_yet B (map (modules_at s.modules) s.levels) s.judged;
      }

  stopped-so : (s : Stop) → build read root n ≡ Err s → RefusesBuild read root n s
  unfolding build
  stopped-so s h = by_loading (either (of_loading (loaded read root)) behind_loading s h)
    where
      by_answer : (ms : List Module) (levels : List (List ℕ)) → loaded read root ≡ Ok ms →
          ranks (graph ms) ≡ Ok levels → behind_ranks ms levels ≡ Err s → RefusesBuild read root n s
      by_answer ms levels l r e =
          let a = answered-err (built_by_rank n nothing_yet (map (modules_at ms) levels)) s e in
          subst (RefusesBuild read root n) a.2
          (RefusesBuild.judged l r (ranks-refused n nothing_yet (map (modules_at ms) levels) a.0 a.1))

      by_ranks : (ms : List Module) → loaded read root ≡ Ok ms →
          (of_ranks (graph ms) (ranks (graph ms)) ≡ Err s) ⊎
          Later (of_ranks (graph ms) (ranks (graph ms))) (behind_ranks ms) s → RefusesBuild read root n s
      by_ranks ms l (inl e) =
          let r = ranked-err (graph ms) (ranks (graph ms)) s e in
          subst (RefusesBuild read root n) r.2 (RefusesBuild.ring l r.1)
      by_ranks ms l (inr x) =
          by_answer ms x.value l (ranked-ok (graph ms) (ranks (graph ms)) x.value x.first) x.later

      by_loading : (of_loading (loaded read root) ≡ Err s) ⊎
          Later (of_loading (loaded read root)) behind_loading s → RefusesBuild read root n s
      by_loading (inl e) =
          let l = loaded-err (loaded read root) s e in
          subst (RefusesBuild read root n) l.2 (RefusesBuild.not_loaded l.1)
      by_loading (inr x) =
          by_ranks x.value (loaded-ok (loaded read root) x.value x.first)
          (either (of_ranks (graph x.value) (ranks (graph x.value))) (behind_ranks x.value) s x.later)

pub builds_are_judged_holds : BuildsAreJudged
builds_are_judged_holds = record { built = built-so; stopped = stopped-so }
