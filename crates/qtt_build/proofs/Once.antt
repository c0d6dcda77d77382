-- The modules of a build declare one thing alone, and nothing where a build stops for another cause than a budget.
use Rattle.std.proofs.Common.{◌≡◌, ◌∙◌, ◌⊎◌, inl, inr, ℕ, suc, List, ◌∷◌, map, length, All, Result, Ok, Err, refl, sym, subst, arith}
use Rattle.std.proofs.lemmas.List.Elements.{All-head, All-tail}
use mathlib.Core.Path.{ap₂}
use Rattle.qtt_syntax.specs.Tree.{Module}
use Rattle.qtt_graph.specs.Graph.{Name, header_of}
use Rattle.qtt_graph.specs.Ranks.{ranks}
use Rattle.qtt_term.specs.Environment.{WellFormed}
use Rattle.qtt_term.specs.Entries.{env}
use Rattle.qtt_diag.specs.Kept.{Detail}
use Rattle.qtt_load.specs.Reading.{Texts, read_in}
use Rattle.qtt_load.specs.Loading.{module_name, loaded}
use Rattle.qtt_load.specs.Loading as loading
use Rattle.qtt_module.specs.Refused.{Refused}
use Rattle.qtt_module.specs.Text.{Accepted}
use Rattle.qtt_accepted.specs.Texts.{IsSpent, TextsDeclareOnce, TextsKeepFormBeside}
use Rattle.qtt_build.specs.Built.{Built, nothing_yet, numbered, imports_for, with_rank}
use Rattle.qtt_build.specs.Build.{Stop, modules_at}
use Rattle.qtt_build.specs.Judged.{DeclaresRank, RefusesRank, DeclaresRanks, RefusesRanks, DeclaresBuild, RefusesBuild}
use Rattle.qtt_build.specs.Laws.{StoppedByBudget, BuildsDeclareOnce}
use Rattle.qtt_build.specs.Parts.{OnlyBelow}
use Rattle.qtt_build.proofs.Numbers.{prim-below, below-later, below-fresh}
use Rattle.qtt_build.proofs.Marked.{IsMarked, loaded-marked, at-all}
use Rattle.qtt_build.proofs.Formed.{stands-itself, prim-formed, rank-formed, behind-rank}

module _ (once : TextsDeclareOnce) (keep : TextsKeepFormBeside) where
  -- ---- a rank
  module _ (B : Built) (w : WellFormed (env B.globals)) where
    rank-once : (k : ℕ) (ms : List Module) (As Bs : List Accepted) → OnlyBelow (suc k) B.globals → All IsMarked ms →
        DeclaresRank B k ms As → DeclaresRank B k ms Bs → As ≡ Bs
    rank-once k _ _ _ below marked DeclaresRank.none DeclaresRank.none = refl
    rank-once k _ _ _ below marked (DeclaresRank.more {m = m} {ms = ms} {A = A} {As = As} d r)
        (DeclaresRank.more {A = C} {As = Cs} e s) =
        ap₂ (λ (X : Accepted) (Xs : List Accepted). X ∷ Xs)
        (once.one (numbered k) (module_name m) (imports_for B.order m) B.globals m A C w
        (below-fresh k B.globals m below) (All-head IsMarked m ms marked) d e)
        (rank-once (suc k) ms As Cs (below-later (suc k) (suc (suc k)) B.globals (omega arith) below)
        (All-tail IsMarked m ms marked) r s)

    rank-none : (n k : ℕ) (ms : List Module) (r : Refused) (As : List Accepted) → OnlyBelow (suc k) B.globals →
        All IsMarked ms → RefusesRank n B k ms r → (IsSpent r.kept.detail → ⊥) → DeclaresRank B k ms As → ⊥
    rank-none n k _ r _ below marked (RefusesRank.here {m = m} {ms = ms} x) other (DeclaresRank.more {A = A} d s) =
        once.none (numbered k) n (module_name m) (imports_for B.order m) B.globals m r A w
        (below-fresh k B.globals m below) (All-head IsMarked m ms marked) x other d
    rank-none n k _ r _ below marked (RefusesRank.behind {m = m} {ms = ms} d x) other
        (DeclaresRank.more {As = As} e s) =
        rank-none n (suc k) ms r As (below-later (suc k) (suc (suc k)) B.globals (omega arith) below)
        (All-tail IsMarked m ms marked) x other s

  -- ---- rank by rank
  abbrev AllAreMarked : List Module → Type 0
  AllAreMarked ms = All IsMarked ms

  ranks-once : {B C D : Built} {ranks : List (List Module)} → WellFormed (env B.globals) →
      OnlyBelow (suc (length B.order)) B.globals → All AllAreMarked ranks → DeclaresRanks B ranks C →
      DeclaresRanks B ranks D → C ≡ D
  ranks-once w below marked DeclaresRanks.built DeclaresRanks.built = refl
  ranks-once {B = B} {D = D} w below marked (DeclaresRanks.next {rank = rank} {others = more} {As = As} r rs)
      (DeclaresRanks.next {As = Bs} s ss) =
      let here = All-head AllAreMarked rank more marked in
      let same : As ≡ Bs = rank-once B w (length B.order) rank As Bs below here r s in
      ranks-once
      (rank-formed keep B w (length B.order) rank As B.globals w (stands-itself (env B.globals)) below below here r)
      (behind-rank keep B rank As below r) (All-tail AllAreMarked rank more marked) rs
      (subst (λ (Xs : List Accepted). DeclaresRanks (with_rank B Xs) more D) (sym same) ss)

  ranks-none : (n : ℕ) {B C : Built} {ranks : List (List Module)} (r : Refused) → WellFormed (env B.globals) →
      OnlyBelow (suc (length B.order)) B.globals → All AllAreMarked ranks → RefusesRanks n B ranks r →
      (IsSpent r.kept.detail → ⊥) → DeclaresRanks B ranks C → ⊥
  ranks-none n {B = B} r w below marked (RefusesRanks.in_rank {rank = rank} {others = more} x) other
      (DeclaresRanks.next {As = As} s ss) =
      rank-none B w n (length B.order) rank r As below (All-head AllAreMarked rank more marked) x other s
  ranks-none n {B = B} {C = C} r w below marked (RefusesRanks.above {rank = rank} {others = more} {As = As} d x) other
      (DeclaresRanks.next {As = Bs} s ss) =
      let here = All-head AllAreMarked rank more marked in
      let same : As ≡ Bs = rank-once B w (length B.order) rank As Bs below here d s in
      ranks-none n r
      (rank-formed keep B w (length B.order) rank As B.globals w (stands-itself (env B.globals)) below below here d)
      (behind-rank keep B rank As below d) (All-tail AllAreMarked rank more marked) x other
      (subst (λ (Xs : List Accepted). DeclaresRanks (with_rank B Xs) more C) (sym same) ss)

  -- ---- the whole
  module _ (texts : Texts) (root : Name) where
    marked-ranks : (ms : List Module) (levels : List (List ℕ)) → loaded (read_in texts) root ≡ Ok ms →
        All AllAreMarked (map (modules_at ms) levels)
    marked-ranks ms levels e = at-all IsMarked ms levels (loaded-marked texts root ms e)

    same-modules : (ms ns : List Module) → loaded (read_in texts) root ≡ Ok ms → loaded (read_in texts) root ≡ Ok ns →
        ms ≡ ns
    same-modules ms ns e f =
        let s : ◌≡◌ {A = Result (List Module) loading.Stop} (Ok ms) (Ok ns) = sym e ∙ f in cc s

    same-levels : (ms : List Module) (xs ys : List (List ℕ)) → ranks (map header_of ms) ≡ Ok xs →
        ranks (map header_of ms) ≡ Ok ys → xs ≡ ys
    same-levels ms xs ys e f =
        let s : ◌≡◌ {A = Result (List (List ℕ)) (List Name)} (Ok xs) (Ok ys) = sym e ∙ f in cc s

    -- over these modules in this order
    record Over (ms : List Module) (levels : List (List ℕ)) (B : Built) : Type 0 where
      declares : DeclaresRanks nothing_yet (map (modules_at ms) levels) B

    over : (ms : List Module) (levels : List (List ℕ)) (B : Built) → loaded (read_in texts) root ≡ Ok ms →
        ranks (map header_of ms) ≡ Ok levels → DeclaresBuild (read_in texts) root B → Over ms levels B
    over ms levels B e f d =
        let modules : d.modules ≡ ms = same-modules d.modules ms d.loads e in
        let ranked : ranks (map header_of ms) ≡ Ok d.levels =
        subst (λ (ns : List Module). ranks (map header_of ns) ≡ Ok d.levels) modules d.ranked in
        let in_order : d.levels ≡ levels = same-levels ms d.levels levels ranked f in
        record {
          declares = subst (λ (xs : List (List ℕ)). DeclaresRanks nothing_yet (map (modules_at ms) xs) B) in_order
              (subst (λ (ns : List Module). DeclaresRanks nothing_yet (map (modules_at ns) d.levels) B) modules
              d.declares);
        }

    one-so : (B C : Built) → DeclaresBuild (read_in texts) root B → DeclaresBuild (read_in texts) root C → B ≡ C
    one-so B C b c =
        ranks-once {B = nothing_yet} {C = B} {D = C} prim-formed prim-below (marked-ranks b.modules b.levels b.loads)
        b.declares (Over.declares (over b.modules b.levels C b.loads b.ranked c))

    none-so : (n : ℕ) (s : Stop) (B : Built) → RefusesBuild (read_in texts) root n s → (StoppedByBudget s → ⊥) →
        DeclaresBuild (read_in texts) root B → ⊥
    none-so n _ B (RefusesBuild.not_loaded {s = s} e) other d =
        absurd (let f : ◌≡◌ {A = Result (List Module) loading.Stop} (Err s) (Ok d.modules) = sym e ∙ d.loads in cc f)
    none-so n _ B (RefusesBuild.ring {ms = ms} {way = way} e f) other d =
        let modules : d.modules ≡ ms = same-modules d.modules ms d.loads e in
        let ranked : ranks (map header_of ms) ≡ Ok d.levels =
        subst (λ (ns : List Module). ranks (map header_of ns) ≡ Ok d.levels) modules d.ranked in
        absurd (let g : ◌≡◌ {A = Result (List (List ℕ)) (List Name)} (Err way) (Ok d.levels) = sym f ∙ ranked in cc g)
    none-so n _ B (RefusesBuild.judged {ms = ms} {levels = levels} {r = r} e f x) other d =
        ranks-none n {B = nothing_yet} {C = B} r prim-formed prim-below (marked-ranks ms levels e) x other
        (Over.declares (over ms levels B e f d))

-- ---- why a build stops, where modules declare something
module _ (decided : (d : Detail) → IsSpent d ⊎ (IsSpent d → ⊥)) where
  stopped-or-not : (s : Stop) → StoppedByBudget s ⊎ (StoppedByBudget s → ⊥)
  stopped-or-not (Stop.absent a) = inr (λ h. h)
  stopped-or-not (Stop.refused r) = decided r.kept.detail

  spent-so : (s : Stop) → ((StoppedByBudget s → ⊥) → ⊥) → StoppedByBudget s
  spent-so s h = by (stopped-or-not s)
    where
      by : StoppedByBudget s ⊎ (StoppedByBudget s → ⊥) → StoppedByBudget s
      by (inl k) = k
      by (inr k) = absurd (h k)

pub builds_declare_once_holds : TextsDeclareOnce → TextsKeepFormBeside → BuildsDeclareOnce
builds_declare_once_holds once keep = record {
  one = λ texts root B C. one-so once keep texts root B C;
  none = λ texts root n s B. none-so once keep texts root n s B;
  spent = λ texts root n s B x d. spent-so once.decided s (λ other. none-so once keep texts root n s B x other d);
}
