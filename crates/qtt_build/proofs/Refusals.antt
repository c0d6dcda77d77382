-- A premise for which a build is refused is false in the relation: rank by rank, and in a rank module by module.
use Rattle.std.proofs.Common.{ℕ, suc, List, map, length, All, arith}
use Rattle.std.proofs.lemmas.List.Elements.{All-head, All-tail}
use Rattle.qtt_syntax.specs.Tree.{Module}
use Rattle.qtt_term.specs.Environment.{WellFormed}
use Rattle.qtt_term.specs.Entries.{env}
use Rattle.qtt_load.specs.Loading.{module_name}
use Rattle.qtt_module.specs.Refused.{Refused}
use Rattle.qtt_accepted.specs.Texts.{TextsKeepFormBeside}
use Rattle.qtt_accepted.specs.Refusals.{PremisesAreFalseSo}
use Rattle.qtt_build.specs.Built.{Built, nothing_yet, numbered, imports_for}
use Rattle.qtt_build.specs.Build.{modules_at}
use Rattle.qtt_build.specs.Judged.{RefusesRank, RefusesRanks, RefusesBuild}
use Rattle.qtt_build.specs.Laws.{RankFailsSo, RanksFailSo, BuildRefusalsAreSo}
use Rattle.qtt_build.specs.Parts.{OnlyBelow}
use Rattle.qtt_build.proofs.Numbers.{prim-below, below-later, below-fresh}
use Rattle.qtt_build.proofs.Marked.{IsMarked, loaded-marked, at-all}
use Rattle.qtt_build.proofs.Formed.{stands-itself, prim-formed, rank-formed, behind-rank, AreMarked}

module _ (keep : TextsKeepFormBeside) (false_so : PremisesAreFalseSo) where
  rank-fails : (n : ℕ) (B : Built) → WellFormed (env B.globals) → (k : ℕ) (ms : List Module) (x : Refused) →
      OnlyBelow (suc k) B.globals → All IsMarked ms → (r : RefusesRank n B k ms x) → RankFailsSo r
  rank-fails n B w k _ x below marked (RefusesRank.here {m = m} {ms = ms} r) =
      false_so (numbered k) n (module_name m) (imports_for B.order m) B.globals m x w (below-fresh k B.globals m below)
      (All-head IsMarked m ms marked) r
  rank-fails n B w k _ x below marked (RefusesRank.behind {m = m} {ms = ms} d r) =
      rank-fails n B w (suc k) ms x (below-later (suc k) (suc (suc k)) B.globals (omega arith) below)
      (All-tail IsMarked m ms marked) r

  ranks-fail : (n : ℕ) {B : Built} {ranks : List (List Module)} (x : Refused) → WellFormed (env B.globals) →
      OnlyBelow (suc (length B.order)) B.globals → All AreMarked ranks → (r : RefusesRanks n B ranks x) →
      RanksFailSo r
  ranks-fail n {B = B} x w below marked (RefusesRanks.in_rank {rank = rank} {others = more} r) =
      rank-fails n B w (length B.order) rank x below (All-head AreMarked rank more marked) r
  ranks-fail n {B = B} x w below marked (RefusesRanks.above {rank = rank} {others = more} {As = As} d r) =
      ranks-fail n x
      (rank-formed keep B w (length B.order) rank As B.globals w (stands-itself (env B.globals)) below below
      (All-head AreMarked rank more marked) d)
      (behind-rank keep B rank As below d) (All-tail AreMarked rank more marked) r

pub build_refusals_are_so_holds : TextsKeepFormBeside → PremisesAreFalseSo → BuildRefusalsAreSo
build_refusals_are_so_holds keep false_so texts root n _ (RefusesBuild.not_loaded e) = tt
build_refusals_are_so_holds keep false_so texts root n _ (RefusesBuild.ring e f) = tt
build_refusals_are_so_holds keep false_so texts root n _
    (RefusesBuild.judged {ms = ms} {levels = levels} {r = x} e f r) =
    ranks-fail keep false_so n {B = nothing_yet} {ranks = map (modules_at ms) levels} x prim-formed prim-below
    (at-all IsMarked ms levels (loaded-marked texts root ms e)) r
